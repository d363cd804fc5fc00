use Rattle.dissolves.specs.Marking.{undissolve_on}
use Rattle.dissolves.proofs.Named.{answers_named}
use Rattle.dissolves.proofs.marking.undissolve.Goals as goal

pub returns-clause-answers : goal.returns-clause-answers
returns-clause-answers g c =
    answers_named (λ t. undissolve_on t c.args.call.now) c.args.call.now.track c.args.named.now.items c.index_mut.result.now c.undissolve_track.new.track c.undissolve_track.result
    c.requires.named c.index_mut.ensures.value c.undissolve_track.ensures.number c.undissolve_track.ensures.answers
