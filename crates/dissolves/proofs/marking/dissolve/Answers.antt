use Rattle.dissolves.specs.Marking.{dissolve_on}
use Rattle.dissolves.proofs.Named.{answers_named}
use Rattle.dissolves.proofs.marking.dissolve.Goals as goal

pub returns-clause-answers : goal.returns-clause-answers
returns-clause-answers g c =
    answers_named (λ t. dissolve_on c.args.table.now t c.args.call.now) c.args.call.now.track c.args.named.now.items c.index_mut.result.now c.dissolve_track.new.track c.dissolve_track.result
    c.requires.named c.index_mut.ensures.value c.dissolve_track.ensures.number c.dissolve_track.ensures.answers
