use Rattle.std.proofs.Common.{◌≡◌, ℕ, ◌+◌, true, List, Some, slice_get, ◌-◌, ◌<◌, [], ◌∷◌, ◌++◌, length, sym, ap, ◌∙◌, arith}
use Rattle.std.proofs.Math.ListN.{set}
use Rattle.std.proofs.lemmas.List.{length-append, length-set}
use Rattle.frame_meaning.specs.Cells.{same_number}
use Rattle.composables.specs.declared.items.ItemView.{ItemView}
use Rattle.composables.specs.Joined.{frames_in, push_view}
use Rattle.composables.proofs.Frames.{first_pushed, frames_in-append, frames_in-push, frames_in-sum, last_apart, last_joined, len_below}
use Rattle.composables.proofs.Pieces.{got, got_within}
use Rattle.composables.proofs.laying.push_item.Goals as goal
use Rattle.composables.proofs.laying.push_item.Goals.{then-count-gt0+else-same_item, else-count-gt0}

pub overflow_add-len : goal.overflow_add-len
overflow_add-len c =
    let xs = c.args.items.now in
    let i = c.count-count.result - 1 in
    let w = c.view_at-last.result in
    let same = ap (λ (v : ItemView). v.len) (got xs i w c.view_at-last.ensures) in
    omega (arith, len_below xs i w (got_within xs i w c.view_at-last.ensures), same, c.requires.frames)

joined_is : (xs : List ItemView) (n : ℕ) (v w : ItemView) → n ≡ length xs → 0 < n → slice_get xs (n - 1) ≡ Some w → same_number w.item v.item ≡ true
    → set xs (length xs - 1) (record w { len = w.len + v.len }) ≡ push_view xs v
joined_is xs n v w is above read same =
    let at : n - 1 ≡ length xs - 1 = omega (arith, is) in
    last_joined xs v w (length xs - 1) (omega (arith, is, above)) (got xs (length xs - 1) w (ap (slice_get xs) (sym at) ∙ read)) same

pub set_last-requires-clause-fits : goal.set_last-requires-clause-fits
set_last-requires-clause-fits c =
    let xs = c.args.items.now in
    let v = c.args.view in
    let w = c.view_at-last.result in
    let is = joined_is xs c.count-count.result v w c.count-count.ensures (omega (arith, c.if-count-gt0.true)) c.view_at-last.ensures (sym c.same_item.ensures ∙ c.if-same_item.true) in
    let new = set xs (length xs - 1) (record w { len = w.len + v.len }) in (
      omega (arith, length-set xs (length xs - 1) (record w { len = w.len + v.len }), c.requires.count),
      omega (arith, frames_in-sum new, ap frames_in is, frames_in-push xs v, c.requires.frames),
    )

pub returns-then-same_item-clause-ok : goal.returns-then-same_item-clause-ok
returns-then-same_item-clause-ok c =
    let xs = c.args.items.now in
    rw (← joined_is xs c.count-count.result c.args.view c.view_at-last.result c.count-count.ensures (omega (arith, c.if-count-gt0.true)) c.view_at-last.ensures (sym c.same_item.ensures ∙ c.if-same_item.true))
    c.set_last.ensures.ok

pub push-requires : goal.push-requires
push-requires c =
    let xs = c.args.items.now in
    let v = c.args.view in (
      omega (arith, length-append xs (v ∷ []), c.requires.count),
      omega (arith, frames_in-sum (xs ++ v ∷ []), frames_in-append xs (v ∷ []), c.requires.frames),
    )

pub returns-clause-ok : goal.returns-clause-ok
returns-clause-ok c =
    let xs = c.args.items.now in
    let v = c.args.view in
    let i = c.count-count.result - 1 in
    let is : xs ++ v ∷ [] ≡ push_view xs v = elim c.if-count-gt0.branch [
      | then-count-gt0+else-same_item w ↦
          last_apart xs v w.view_at-last.result i (omega (arith, c.count-count.ensures, w.if-count-gt0.true)) (got xs i w.view_at-last.result w.view_at-last.ensures)
          (sym w.same_item.ensures ∙ w.if-same_item.false)
      | else-count-gt0 w ↦ first_pushed xs v (omega (arith, c.count-count.ensures, w.if-count-gt0.false))
    ] in
    rw (← is) c.push.ensures.ok
