use Rattle.std.proofs.Common.{[], ◌∷◌, refl, sym, ◌∙◌}
use Rattle.composables.specs.OwnTracks.{numbers_of}
use Rattle.test_tracks.proofs.Alone.{alone-named, alone-numbers}
use Rattle.test_splices.proofs.links.undo.Goals as goal

pub link-requires-clause-named : goal.link-requires-clause-named
link-requires-clause-named g c =
    alone-named (numbers_of c.push.new.self.items) c.args.call.now.tracks (alone-numbers c.new-named.result.items c.push.new.self.items c.args.track c.new-named.ensures.items c.in_ok-push.ensures.items c.requires.number) c.requires.call

pub unlink-answer-requires-clause-named : goal.unlink-answer-requires-clause-named
unlink-answer-requires-clause-named g c = c.link.ensures.named ∙ sym (alone-named (0 ∷ []) c.args.call.now.tracks refl c.requires.call)
