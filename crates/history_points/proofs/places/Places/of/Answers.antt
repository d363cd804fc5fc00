use Rattle.std.proofs.Common.{◌++◌, ◌∷◌, [], sym, ap, ◌∙◌, append_assoc, subst}
use Rattle.std.specs.Vec.Iter.{into_iter_items}
use Rattle.history_points.specs.Slots.{present, IsWhole}
use Rattle.history_points.proofs.Slotted.{present-more, whole-more}
use Rattle.history_points.proofs.places.Places.of.Goals as goal

pub loop-part-preserved : goal.loop-part-preserved
loop-part-preserved g c =
    let slots = c.loop-part.slots.items in
    let part = c.in-Some.part in
    let left = into_iter_items c.next.new.self in
    record {
      whole = subst IsWhole (sym c.in_ok-push.ensures.items) (whole-more slots part c.loop-part.invariant.whole);
      so_far = ap (λ xs. present xs ++ left) c.in_ok-push.ensures.items ∙ (ap (λ ps. ps ++ left) (present-more slots part)
          ∙ (append_assoc (present slots) (part ∷ []) left ∙ (ap (λ ps. present slots ++ ps) (sym c.in-Some.ensures.steps.0) ∙ c.loop-part.invariant.so_far)));
    }
