use Rattle.std.proofs.Common.{rules, ◌≡◌, to_z, of_z, w64, Ok, Err, sym, ap, ◌∙◌}
use Rattle.json_tree.specs.View.{tree_of}
use Rattle.json_tree.specs.Parts.{place_of}
use Rattle.otio_tracks.specs.Times.{on_frame}
use Rattle.otio_tracks.proofs.TimeLaws.{frame_told}
use Rattle.otio_tracks.proofs.times.frame.Goals as goal

pub returns-in-Ok-clause-frame : goal.returns-in-Ok-clause-frame
returns-in-Ok-clause-frame c =
    let same : to_z w64 (of_z w64 c.in-Ok.frame) ≡ c.in-Ok.frame = search rules in
    ap Ok same ∙ sym (frame_told c.in_ok-moment.field-0 c.args.rate.now (tree_of c.args.json.now) c.in_ok-moment.ensures ∙ ap (λ r. on_frame r (place_of (tree_of c.args.json.now))) (sym c.in-Ok.ensures.value))

pub returns-in-Err-clause-frame : goal.returns-in-Err-clause-frame
returns-in-Err-clause-frame c = ap Err c.fault_at.ensures ∙ sym (frame_told c.in_ok-moment.field-0 c.args.rate.now (tree_of c.args.json.now) c.in_ok-moment.ensures ∙ ap (λ r. on_frame r (place_of (tree_of c.args.json.now))) (sym c.in-Err.ensures.value))
