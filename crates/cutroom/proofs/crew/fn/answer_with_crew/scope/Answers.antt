use denote.Exit.{unseen, yes}
use denote.Param.Send.{Quiet-if}
use mir.Syntax.{of_param}
use Rattle.cutroom.proofs.crew.fn.answer_with_crew.scope.Goals as goal

pub answer_words-status-requires-send-D : goal.answer_words-status-requires-send-D
answer_words-status-requires-send-D g c = λ κs within.
    let sent = c.requires.1.1.1.1.1.1.1.0 in
    record { owned = sent.owned; leaving = λ k. Quiet-if (k (of_param 2)) (g.row.D.exit yes) unseen (sent.leaving yes) (λ x w. tt) }
