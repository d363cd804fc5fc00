use Rattle.test_inserts.proofs.TestTracks.{three-are}
use Rattle.test_inserts.proofs.three_tracks.three.Goals as goal

pub returns : goal.returns
returns c =
    three-are c.new-named.result.items c.push.new.self.items c.push-2.new.self.items c.push-3.new.self.items c.args.a c.args.b c.args.c
    c.new-named.ensures.items c.in_ok-push.ensures.items c.in_ok-push-2.ensures.items c.in_ok-push-3.ensures.items
