use Rattle.test_tracks.proofs.Alone.{alone-numbers}
use Rattle.test_inserts.proofs.edits.edited.Goals as goal

pub edit_it-requires-clause-named : goal.edit_it-requires-clause-named
edit_it-requires-clause-named g c =
    alone-numbers c.new-named.result.items c.push.new.self.items c.args.track c.new-named.ensures.items c.in_ok-push.ensures.items c.requires.number
