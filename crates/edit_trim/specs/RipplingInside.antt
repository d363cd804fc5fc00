-- What the steps of a ripple find: how far an end may come, and the shift by which it does.
use Rattle.std.specs.Prelude.{◌≡◌, ◌<◌, ◌≤◌, Some, None, ℕ, ◌+◌, ◌-◌, ◌^◌, nat_abs, Bool, true, ◌&&◌, List, Option, nat_le, nat_lt, false}
use Rattle.frame_meaning.specs.Cells.{later_side}
use Rattle.frame_meaning.specs.Numbered.{SideIsNumbered}
use Rattle.composables.specs.declared.calls.End.{End}
use Rattle.composables.specs.declared.calls.End.TheVariants.{Head, Tail}
use Rattle.composables.specs.declared.calls.Ripple.{Ripple}
use Rattle.composables.specs.declared.media.Table.{Table}
use Rattle.composables.specs.declared.items.ItemView.{ItemView}
use Rattle.composables.specs.declared.items.Place.{Place}
use Rattle.composables.specs.Items.{cell_in}
use Rattle.composables.specs.TrackFacts.{HasSource}
use Rattle.composables.specs.TrackState.{TrackState}
use Rattle.edit_delta.specs.Nearest.{AreUpTo, lies_within, nearest}
use Rattle.edit_delta.specs.Reaching.{going_on, has_after, has_before, reaching_back}
use Rattle.edit_delta.specs.declared.deltas.Used.{Used}
use Rattle.edit_delta.specs.declared.deltas.Way.{Way}
use Rattle.edit_delta.specs.declared.deltas.Way.TheVariants.{Still, Later, Earlier}
use Rattle.edit_delta.specs.Using.{IsUsed}
use Rattle.edit_splice.specs.declared.shifting.Shift.{Shift}
use Rattle.edit_trim.specs.declared.rippling.Rippled.{Rippled}
use Rattle.edit_splice.specs.Padding.{new_len}
use Rattle.edit_trim.specs.Rippling.{have_room}

-- the frames by which an end of this item may come later, and earlier, where the named tracks have room for so many
abbrev pub may_come_later : Table → End → ItemView → ℕ → ℕ → Bool
may_come_later table Head v room n = nat_lt n v.len
may_come_later table Tail v room n = nat_le n room && has_after table (later_side v.first (v.len - 1)) n

abbrev pub may_come_earlier : Table → End → ItemView → ℕ → ℕ → Bool
may_come_earlier table Head v room n = nat_le n room && has_before table v.first n
may_come_earlier table Tail v room n = nat_lt n v.len

-- the shift of an end of the item v at a place of the track own, by a delta's way
abbrev pub shift_by : ℕ → End → Place → ItemView → Way → Option Shift
shift_by own end p v Still = None
shift_by own Head p v (Later n) = Some (record { own = own; x = p.from; y = p.from + n; new = None; keep = false })
shift_by own Head p v (Earlier n) = Some (record { own = own; x = p.from; y = p.from; new = Some (reaching_back (cell_in v 0) n); keep = false })
shift_by own Tail p v (Later n) = Some (record { own = own; x = p.to; y = p.to; new = Some (going_on (cell_in v (v.len - 1)) n); keep = false })
shift_by own Tail p v (Earlier n) = Some (record { own = own; x = p.to - n; y = p.to; new = None; keep = false })

-- the record frame after that shift from which on items are moved: with its head the item is, with its tail what follows
abbrev pub place_after : End → Shift → ℕ
place_after Head s = s.x
place_after Tail s = s.x + new_len s.new

-- the places and source frames of that shift are numbers of the program
abbrev pub CanShift : End → Place → ItemView → Way → Type 0
CanShift end p v Still = Unit {0}
CanShift Head p v (Later n) = p.from + n < 2 ^ 32
CanShift Head p v (Earlier n) = HasSource v.first 0 n 0
CanShift Tail p v (Later n) = (0 < v.len) × SideIsNumbered (later_side v.first v.len)
CanShift Tail p v (Earlier n) = n ≤ p.to

-- its frames are some; the item keeps one, or its thing has those by which it grows
abbrev pub EndFits : Table → End → ItemView → ℕ → Way → Type 0
EndFits table end v room Still = Unit {0}
EndFits table Head v room (Later n) = (0 < n) × (n < v.len)
EndFits table Head v room (Earlier n) = (0 < n) × (n ≤ room) × (has_before table v.first n ≡ true)
EndFits table Tail v room (Later n) = (0 < n) × (n ≤ room) × (has_after table (later_side v.first (v.len - 1)) n ≡ true) × HasSource v.first v.len 0 n
EndFits table Tail v room (Earlier n) = (0 < n) × (n < v.len)

-- what a ripple of an end of the item v at a place does, where the named tracks have room for so many frames
pub record IsRippled (table : Table) (end : End) (p : Place) (v : ItemView) (room : ℕ) (c : Ripple) (r : Rippled) : Type 0 where
  pub asked : nat_abs c.by < 2 ^ 32
  pub delta : Used
  pub later : ℕ
  pub earlier : ℕ
  pub ends_later : AreUpTo (may_come_later table end v room) later
  pub ends_earlier : AreUpTo (may_come_earlier table end v room) earlier
  pub used : IsUsed (nearest (lies_within earlier later) c.by) delta
  pub fits : EndFits table end v room delta.way
  pub shift : r.shift ≡ shift_by c.track end p v delta.way
  pub done : r.done ≡ delta.done

-- the place of an end of an item
abbrev pub end_place : End → Place → ℕ
end_place Head p = p.from
end_place Tail p = p.to

-- what a ripple of the item v at a place does among these tracks, which have room for so many frames
pub record RipplesAmong (table : Table) (named : List TrackState) (c : Ripple) (p : Place) (v : ItemView) (r : Rippled) : Type 0 where
  pub room : ℕ
  pub small : room < 2 ^ 32
  pub has : AreUpTo (have_room c.track (end_place c.end p) named) room
  pub is : IsRippled table c.end p v room c r
