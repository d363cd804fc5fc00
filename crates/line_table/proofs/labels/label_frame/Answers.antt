use Rattle.std.proofs.Common.{sym, refl}
use Rattle.line_table.proofs.LabelPlaces.{some_same, found_same, frame_named-found, frame_named-no_label, frame_named-no_frame, never_ok}
use Rattle.line_table.proofs.labels.label_frame.Goals as goal

pub returns-in_err-label : goal.returns-in_err-label
returns-in_err-label c = rw c.from_residual.ensures (sym (frame_named-no_label c.args.counting.now c.args.word.now (c.in_err-label.ensures.none.0 refl)))

pub returns-in-Ok : goal.returns-in-Ok
returns-in-Ok c =
    let label = c.in_ok-label.label in
    let frame = c.in-Ok.frame in
    sym (frame_named-found c.args.counting.now c.args.word.now label frame ((c.in_ok-label.ensures.some label).0 refl)
    (λ l spelled. some_same label l ((c.in_ok-label.ensures.some l).1 spelled))
    ((c.in-Ok.ensures.ok frame).0 refl) (λ f stands. found_same frame f ((c.in-Ok.ensures.ok f).1 stands)))

pub returns-in-Err : goal.returns-in-Err
returns-in-Err c =
    let label = c.in_ok-label.label in
    sym (frame_named-no_frame c.args.counting.now c.args.word.now label
    (λ l spelled. some_same label l ((c.in_ok-label.ensures.some l).1 spelled))
    (λ f stands. never_ok c.in-Err.field-0 f ((c.in-Err.ensures.ok f).1 stands)))
