use Rattle.link_groups.specs.Linking.{unlink_on}
use Rattle.link_groups.proofs.Named.{answers_named}
use Rattle.link_groups.proofs.unlinking.unlink.Goals as goal

pub returns-clause-answers : goal.returns-clause-answers
returns-clause-answers g c =
    answers_named (unlink_on c.args.call.now) c.args.call.now.track c.args.named.now.items c.index_mut.result.now c.unlink_track.new.track c.unlink_track.result
    c.requires.named c.index_mut.ensures.value c.unlink_track.ensures.number c.unlink_track.ensures.answers
