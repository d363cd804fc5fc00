-- The rooms and the moves of items and gaps that are passed by, since they have not the key of a link.
use Rattle.std.proofs.Common.{◌≡◌, ℕ, zero, suc, ◌+◌, ◌≤◌, List, length, take, drop, sym, ap, ◌∙◌, arith, subst}
use Rattle.std.proofs.lemmas.List.{length-drop}
use Rattle.frame_meaning.specs.declared.cells.Link.{Link}
use Rattle.composables.specs.declared.items.ItemView.{ItemView}
use Rattle.composables.specs.declared.media.Table.{Table}
use Rattle.composables.specs.Items.{items_of}
use Rattle.composables.specs.TrackState.{TrackState}
use Rattle.edit_trim.specs.declared.linked_slips.SlipRoom.{SlipRoom}
use Rattle.edit_trim.proofs.LinkedMoves.{partly, same-part}
use Rattle.edit_trim.proofs.LinkedRooms.{RoomFront, front-passed}
use Rattle.link_groups.proofs.Others.{Others, other_at, some_at}

-- the room of the items and gaps so far is that of so many more
room_on : (table : Table) (l : Link) (i m n : ℕ) (vs : List ItemView) (r : SlipRoom) → Others l (take m (drop i vs)) → n ≤ m → i + m ≤ length vs → RoomFront table l i vs r → RoomFront table l (i + n) vs r
room_on table l i m zero vs r h le within p = let same : i ≡ i + 0 = omega arith in subst (λ (k : ℕ). RoomFront table l k vs r) same p
room_on table l i m (suc n) vs r h le within p =
    let v = some_at vs (i + n) (omega (arith, le, within)) in
    let more : (i + n) + 1 ≡ i + suc n = omega arith in
    subst (λ (k : ℕ). RoomFront table l k vs r) more
    (front-passed table l (i + n) vs v.0 r v.1 (other_at l i m n vs v.0 h (omega (arith, le)) v.1) (room_on table l i m n vs r h (omega (arith, le)) within p))

pub room-others : (table : Table) (l : Link) (i n : ℕ) (vs old : List ItemView) (r : SlipRoom) → i ≤ length vs → old ≡ drop i vs → n ≤ length old → Others l (take n old) → RoomFront table l i vs r → RoomFront table l (i + n) vs r
room-others table l i n vs old r within is few h p =
    room_on table l i n n vs r (subst (λ (ws : List ItemView). Others l (take n ws)) is h) (omega arith) (omega (arith, within, few, ap length is, length-drop i vs)) p

-- so is the track of which they are moved
part_on : (table : Table) (l : Link) (on back i m n : ℕ) (t u : TrackState) → Others l (take m (drop i (items_of t.cells))) → n ≤ m → i + m ≤ length (items_of t.cells) → u ≡ partly l on back i t → u ≡ partly l on back (i + n) t
part_on table l on back i m zero t u h le within p = let same : i ≡ i + 0 = omega arith in p ∙ ap (λ (k : ℕ). partly l on back k t) same
part_on table l on back i m (suc n) t u h le within p =
    let vs = items_of t.cells in
    let v = some_at vs (i + n) (omega (arith, le, within)) in
    let more : (i + n) + 1 ≡ i + suc n = omega arith in
    same-part table l on back (i + n) t u v.0 (part_on table l on back i m n t u h (omega (arith, le)) within p) v.1 (other_at l i m n vs v.0 h (omega (arith, le)) v.1) ∙ ap (λ (k : ℕ). partly l on back k t) more

pub part-others : (table : Table) (l : Link) (on back i n : ℕ) (t u : TrackState) (old : List ItemView) → i ≤ length (items_of t.cells) → old ≡ drop i (items_of t.cells) → n ≤ length old → Others l (take n old)
    → u ≡ partly l on back i t → u ≡ partly l on back (i + n) t
part-others table l on back i n t u old within is few h p =
    part_on table l on back i n n t u (subst (λ (ws : List ItemView). Others l (take n ws)) is h) (omega arith) (omega (arith, within, few, ap length is, length-drop i (items_of t.cells))) p
