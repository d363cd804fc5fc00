-- A ripple as it is meant, and as a shift of all named tracks.
use Rattle.std.proofs.Common.{◌≡◌, ℕ, zero, suc, ◌+◌, ◌-◌, ◌<◌, ◌≤◌, ◌^◌, Bool, true, false, leb, ltb, ◌&&◌, min, ℤ, pos, neg_ℤ, nat_abs, List, [], ◌∷◌, ◌++◌, All, drop, length, get_or, Option, Some, None, Ok, refl, sym, ap, ◌∙◌, arith, subst, w32, SFits, to_z, of_z, ⊎_elim}
use Rattle.std.proofs.lemmas.Bool.{leb-false, leb-true, le-leb, le-ltb, lt-leb, lt-ltb, cases_lt}
use Rattle.std.proofs.lemmas.List.{drop_all, drop_more}
use Rattle.std.proofs.lemmas.Int.{to_z-of_z}
use Rattle.std.specs.Int.Signed.{nat_abs-le}
use Rattle.frame_meaning.specs.declared.cells.Cell.{Cell}
use Rattle.frame_meaning.specs.declared.cells.What.{What}
use Rattle.frame_meaning.specs.declared.frames.Side.{Side}
use Rattle.frame_meaning.specs.declared.frames.Side.TheVariants.{Dark, Pic}
use Rattle.frame_meaning.specs.Cells.{later_side}
use Rattle.frame_meaning.specs.Render.{cell_at}
use Rattle.composables.specs.declared.calls.End.{End}
use Rattle.composables.specs.declared.calls.End.TheVariants.{Head, Tail}
use Rattle.composables.specs.declared.calls.Ripple.{Ripple}
use Rattle.composables.specs.declared.items.ItemView.{ItemView}
use Rattle.composables.specs.declared.items.Place.{Place}
use Rattle.composables.specs.declared.media.Table.{Table}
use Rattle.composables.specs.declared.refusals.Done.{Done}
use Rattle.composables.specs.declared.refusals.Done.TheVariants.{By}
use Rattle.composables.specs.Answers.{Applied}
use Rattle.composables.specs.Good.{IsGood}
use Rattle.composables.specs.Items.{cell_in}
use Rattle.composables.specs.OwnTracks.{track_numbered}
use Rattle.composables.specs.TrackFacts.{HasSource}
use Rattle.composables.specs.TrackState.{TrackState}
use Rattle.edit_delta.specs.declared.deltas.Used.{Used}
use Rattle.edit_delta.specs.declared.deltas.Way.{Way}
use Rattle.edit_delta.specs.declared.deltas.Way.TheVariants.{Earlier, Later, Still}
use Rattle.edit_delta.specs.Nearest.{AreUpTo, by_sign, lies_within, nearest}
use Rattle.edit_delta.specs.Reaching.{going_on, has_after, has_before, keeps_a_cell, reaching_back}
use Rattle.edit_delta.specs.Using.{IsUsed, IsWayOf, used_from}
use Rattle.edit_delta.proofs.Answered.{earlier-most, later-most, up-both}
use Rattle.edit_delta.proofs.Greatest.{nearest-ends}
use Rattle.edit_delta.proofs.Pieces.{before-of, numbered-after, up-true}
use Rattle.edit_delta.proofs.Spots.{Spot, side-head, spot-head, spot-last}
use Rattle.edit_splice.specs.declared.shifting.Shift.{Shift}
use Rattle.edit_splice.specs.Moves.{IsShiftOf}
use Rattle.edit_splice.specs.Padding.{new_views}
use Rattle.edit_splice.specs.Shifts.{shift_of}
use Rattle.edit_splice.proofs.Bridging.{extract-moved}
use Rattle.composables.specs.Views.{gap_views}
use Rattle.edit_splice.specs.Padding.{new_len}
use Rattle.link_groups.specs.LinkedShifts.{linked_shift}
use Rattle.link_groups.proofs.LinkedShifts.{EachUncut, within-kept}
use Rattle.link_groups.proofs.Meant.{shift-meant}
use Rattle.link_groups.proofs.Uncut.{EndsApart}
use Rattle.edit_trim.proofs.Reached.{ends-nothing, reach-meant, split-reach, tail-ends, uncut-ripple}
use Rattle.edit_trim.specs.declared.rippling.Rippled.{Rippled}
use Rattle.edit_delta.specs.Parts.{IsWhole}
use Rattle.edit_trim.specs.Rippling.{as_split, has_room, have_room, ripple_allows, ripple_end, rippled}
use Rattle.edit_trim.specs.RipplingInside.{CanShift, EndFits, IsRippled, shift_by}

-- the room of the named tracks is what the code has found
up_room : (own place : ℕ) (ts : List TrackState) (room m : ℕ) (f : ℕ → Bool) → AreUpTo (have_room own place ts) room → AreUpTo (λ n. leb n room && f n) m → AreUpTo (λ n. have_room own place ts n && f n) m
up_room own place ts room m f h k n small = ap (λ (b : Bool). b && f n) (h n small) ∙ k n small

keeps_same : (x y len n : ℕ) → y ≡ x + len → ltb (x + n) y ≡ ltb n len
keeps_same x y len n e =
    ⊎_elim
    (λ (less : n < len). lt-ltb (x + n) y (omega (arith, less, e)) ∙ sym (lt-ltb n len less))
    (λ (le : len ≤ n). le-ltb (x + n) y (omega (arith, le, e)) ∙ sym (le-ltb n len le))
    (cases_lt n len)

up_keeps : (x y len m : ℕ) → y ≡ x + len → AreUpTo (λ n. ltb n len) m → AreUpTo (keeps_a_cell x y) m
up_keeps x y len m e h n small = keeps_same x y len n e ∙ h n small

small_by : (by : ℤ) → SFits w32 by → nat_abs by < 2 ^ 32
small_by by fits = let h = nat_abs-le by fits.sfits in omega (arith, h)

pub head-used : (table : Table) (ts : List TrackState) (t : TrackState) (i : ℕ) (v : ItemView) (p : Place) (room : ℕ) (c : Ripple) (r : Rippled) → Spot table t i v p.from p.to
    → AreUpTo (have_room c.track p.from ts) room → (is : IsRippled table Head p v room c r) → IsUsed (nearest (ripple_allows table c.track ts t p.from p.to Head) c.by) is.delta
head-used table ts t i v p room c r s room_is is =
    let side : v.first ≡ (cell_at t.cells p.from).side = sym (ap (λ (d : Cell). d.side) (spot-head table t i v p.from p.to s) ∙ side-head v) in
    let earlier : AreUpTo (λ n. have_room c.track p.from ts n && has_before table (cell_at t.cells p.from).side n) is.earlier =
    up_room c.track p.from ts room is.earlier (has_before table (cell_at t.cells p.from).side) room_is (subst (λ (d : Side What). AreUpTo (λ n. leb n room && has_before table d n) is.earlier) side is.ends_earlier) in
    let later : AreUpTo (keeps_a_cell p.from p.to) is.later = up_keeps p.from p.to v.len is.later s.long is.ends_later in
    subst (λ (d : ℤ). IsUsed d is.delta)
    (sym (nearest-ends (keeps_a_cell p.from p.to) (λ n. have_room c.track p.from ts n && has_before table (cell_at t.cells p.from).side n) is.earlier is.later c.by is.asked later earlier)) is.used

pub tail-used : (table : Table) (ts : List TrackState) (t : TrackState) (i : ℕ) (v : ItemView) (p : Place) (room : ℕ) (c : Ripple) (r : Rippled) → Spot table t i v p.from p.to
    → AreUpTo (have_room c.track p.to ts) room → (is : IsRippled table Tail p v room c r) → IsUsed (nearest (ripple_allows table c.track ts t p.from p.to Tail) c.by) is.delta
tail-used table ts t i v p room c r s room_is is =
    let side : later_side v.first (v.len - 1) ≡ (cell_at t.cells (p.to - 1)).side = sym (ap (λ (d : Cell). d.side) (spot-last table t i v p.from p.to s)) in
    let later : AreUpTo (λ n. have_room c.track p.to ts n && has_after table (cell_at t.cells (p.to - 1)).side n) is.later =
    up_room c.track p.to ts room is.later (has_after table (cell_at t.cells (p.to - 1)).side) room_is (subst (λ (d : Side What). AreUpTo (λ n. leb n room && has_after table d n) is.later) side is.ends_later) in
    let earlier : AreUpTo (keeps_a_cell p.from p.to) is.earlier = up_keeps p.from p.to v.len is.earlier s.long is.ends_earlier in
    subst (λ (d : ℤ). IsUsed d is.delta)
    (sym (nearest-ends (λ n. have_room c.track p.to ts n && has_after table (cell_at t.cells (p.to - 1)).side n) (keeps_a_cell p.from p.to) is.earlier is.later c.by is.asked later earlier)) is.used

-- by the way of the delta used
used_none : (ts : List TrackState) (moved : Done → ℤ → Applied) (d : ℤ) → d ≡ pos 0 → used_from ts moved d ≡ Ok (ts, By d)
used_none ts moved d e = ap (used_from ts moved) e ∙ ap (λ (z : ℤ). Ok (ts, By z)) (sym e)

used_later : (ts : List TrackState) (f g : Done → ℕ → Applied) (d : ℤ) (n : ℕ) → 0 < n → d ≡ pos n → used_from ts (λ done. by_sign (f done) (g done)) d ≡ f (By d) n
used_later ts f g d zero h e = absurd (omega (arith, h))
used_later ts f g d (suc n) h e = ap (used_from ts (λ done. by_sign (f done) (g done))) e ∙ ap (λ (z : ℤ). f (By z) (suc n)) (sym e)

used_earlier : (ts : List TrackState) (f g : Done → ℕ → Applied) (d : ℤ) (n : ℕ) → 0 < n → d ≡ neg_ℤ (pos n) → used_from ts (λ done. by_sign (f done) (g done)) d ≡ g (By d) n
used_earlier ts f g d zero h e = absurd (omega (arith, h))
used_earlier ts f g d (suc n) h e = ap (used_from ts (λ done. by_sign (f done) (g done))) e ∙ ap (λ (z : ℤ). g (By z) (suc n)) (sym e)

-- a shift as it is made, where the own track has the places
pub made : (s : Shift) (done : Done) (ts : List TrackState) → All (λ (t : TrackState). t.number ≡ s.own → (s.x ≤ length t.cells) × (s.y ≤ length t.cells)) ts → s.x ≤ s.y → All (IsShiftOf s) ts → EachUncut s ts
    → shift_of s.keep s.own s.x s.y (new_views s.new) done ts ≡ linked_shift s (s.x + new_len s.new) done ts
made s done ts long order fits uncut = shift-meant s done ts ts (extract-moved s ts long) refl order (within-kept s ts order fits) uncut

-- the room of all named tracks, one after another
and_true : (b : Bool) → b && true ≡ b
and_true true = refl
and_true false = refl

pub room-all : (own place n : ℕ) (ts : List TrackState) → n < 2 ^ 32 → have_room own place ts n ≡ leb n 4294967295 && have_room own place ts n
room-all own place n ts small = sym (ap (λ (b : Bool). b && have_room own place ts n) (le-leb n 4294967295 (omega (arith, small))))

-- two bounds of which the nearer one holds
both_le : (n a b : ℕ) (x : Bool) → leb n a && (leb n b && x) ≡ leb n (min a b) && x
both_le n a b x = by (leb n a) (leb n b) refl refl where
  by : (p q : Bool) → leb n a ≡ p → leb n b ≡ q → p && (q && x) ≡ leb n (min a b) && x
  by true true e f = ap (λ (z : Bool). z && x) (sym (le-leb n (min a b) (omega (arith, leb-true n a e, leb-true n b f))))
  by true false e f = ap (λ (z : Bool). z && x) (sym (lt-leb n (min a b) (omega (arith, leb-false n b f))))
  by false true e f = ap (λ (z : Bool). z && x) (sym (lt-leb n (min a b) (omega (arith, leb-false n a e))))
  by false false e f = ap (λ (z : Bool). z && x) (sym (lt-leb n (min a b) (omega (arith, leb-false n a e))))

pub room-more : (own place room more m n : ℕ) (ts : List TrackState) (i : ℕ) (t : TrackState) → i < length ts → t ≡ get_or ts i t → m ≡ min room more → has_room own place n t ≡ leb n more
    → have_room own place ts n ≡ leb n room && have_room own place (drop i ts) n → have_room own place ts n ≡ leb n m && have_room own place (drop (i + 1) ts) n
room-more own place room more m n ts i t lt at is here so_far =
    so_far
    ∙ (ap (λ (us : List TrackState). leb n room && have_room own place us n) (drop_more ts i t lt ∙ ap (λ (u : TrackState). u ∷ drop (i + 1) ts) (sym at))
    ∙ (ap (λ (b : Bool). leb n room && (b && have_room own place (drop (i + 1) ts) n)) here
    ∙ (both_le n room more (have_room own place (drop (i + 1) ts) n) ∙ ap (λ (k : ℕ). leb n k && have_room own place (drop (i + 1) ts) n) (sym is))))

pub room-none : (own place room n : ℕ) (ts : List TrackState) (i : ℕ) → length ts ≤ i → have_room own place ts n ≡ leb n room && have_room own place (drop i ts) n → have_room own place ts n ≡ leb n room
room-none own place room n ts i past so_far =
    so_far ∙ (ap (λ (us : List TrackState). leb n room && have_room own place us n) (drop_all i ts (omega (arith, past))) ∙ and_true (leb n room))

-- an end's delta fits, whichever way it goes
up_less : (len : ℕ) → 0 < len → AreUpTo (λ n. ltb n len) (len - 1)
up_less len f n small =
    ⊎_elim
    (λ (less : len - 1 < n). le-ltb n len (omega (arith, less)) ∙ sym (lt-leb n (len - 1) less))
    (λ (le : n ≤ len - 1). lt-ltb n len (omega (arith, le, f)) ∙ sym (le-leb n (len - 1) le))
    (cases_lt (len - 1) n)

head_fits : (table : Table) (v : ItemView) (room reach earlier : ℕ) (by : ℤ) (u : Used) → 0 < v.len → AreUpTo (has_before table v.first) reach → reach < 2 ^ 32 → earlier ≡ min room reach
    → IsUsed (nearest (lies_within earlier (v.len - 1)) (to_z w32 (of_z w32 by))) u → EndFits table Head v room u.way
head_fits table v room reach earlier by u f a small e is = by_way u.way refl where
  by_way : (w : Way) → u.way ≡ w → EndFits table Head v room w
  by_way Still k = tt
  by_way (Later n) k = let m = later-most earlier (v.len - 1) n by u is k in (m.0, omega (arith, m.1, f))
  by_way (Earlier n) k = let m = earlier-most earlier (v.len - 1) n by u is k in (m.0, omega (arith, m.1, e), up-true (has_before table v.first) reach n a (omega (arith, m.1, e)) small)

tail_fits : (table : Table) (v : ItemView) (room reach later : ℕ) (by : ℤ) (u : Used) → 0 < v.len → AreUpTo (has_after table (later_side v.first (v.len - 1))) reach → HasSource v.first v.len 0 reach → reach < 2 ^ 32
    → later ≡ min room reach → IsUsed (nearest (lies_within (v.len - 1) later) (to_z w32 (of_z w32 by))) u → EndFits table Tail v room u.way
tail_fits table v room reach later by u f a source small e is = by_way u.way refl where
  less_source : (s : Side What) (len most n : ℕ) → n ≤ most → HasSource s len 0 most → HasSource s len 0 n
  less_source Dark len most n le h = tt
  less_source (Pic x s) len most n le h = (omega arith, omega (arith, le, h.1))

  by_way : (w : Way) → u.way ≡ w → EndFits table Tail v room w
  by_way Still k = tt
  by_way (Later n) k =
      let m = later-most (v.len - 1) later n by u is k in
      let le : n ≤ reach = omega (arith, m.1, e) in
      (m.0, omega (arith, m.1, e), up-true (has_after table (later_side v.first (v.len - 1))) reach n a le small, less_source v.first v.len reach n le source)
  by_way (Earlier n) k = let m = earlier-most (v.len - 1) later n by u is k in (m.0, omega (arith, m.1, f))

pub head-can : (table : Table) (p : Place) (v : ItemView) (room reach earlier : ℕ) (by : ℤ) (u : Used) → IsWhole table v → p.to ≡ p.from + v.len → p.to < 2 ^ 32 → AreUpTo (has_before table v.first) reach → reach < 2 ^ 32
    → earlier ≡ min room reach → IsUsed (nearest (lies_within earlier (v.len - 1)) (to_z w32 (of_z w32 by))) u → CanShift Head p v u.way
head-can table p v room reach earlier by u whole long places a small e is = by_way u.way (head_fits table v room reach earlier by u whole.filled a small e is) where
  by_way : (w : Way) → EndFits table Head v room w → CanShift Head p v w
  by_way Still f = tt
  by_way (Later n) f = omega (arith, f.1, long, places)
  by_way (Earlier n) f = (before-of table v.first v.len n f.2 whole.source whole.lies).source

pub tail-can : (table : Table) (p : Place) (v : ItemView) (room reach later : ℕ) (by : ℤ) (u : Used) → IsWhole table v → p.to ≡ p.from + v.len → AreUpTo (has_after table (later_side v.first (v.len - 1))) reach → HasSource v.first v.len 0 reach
    → reach < 2 ^ 32 → later ≡ min room reach → IsUsed (nearest (lies_within (v.len - 1) later) (to_z w32 (of_z w32 by))) u → CanShift Tail p v u.way
tail-can table p v room reach later by u whole long a source small e is = by_way u.way (tail_fits table v room reach later by u whole.filled a source small e is) where
  by_way : (w : Way) → EndFits table Tail v room w → CanShift Tail p v w
  by_way Still f = tt
  by_way (Later n) f = (whole.filled, numbered-after v.first v.len n n f.0 (omega arith) f.3)
  by_way (Earlier n) f = omega (arith, f.1, long)

pub head-rippled : (table : Table) (p : Place) (v : ItemView) (room reach earlier : ℕ) (c : Ripple) (u : Used) (r : Rippled) → IsWhole table v → SFits w32 c.by → AreUpTo (has_before table v.first) reach → reach < 2 ^ 32
    → earlier ≡ min room reach → IsUsed (nearest (lies_within earlier (v.len - 1)) (to_z w32 (of_z w32 c.by))) u → r.shift ≡ shift_by c.track Head p v u.way → r.done ≡ u.done → IsRippled table Head p v room c r
head-rippled table p v room reach earlier c u r whole fits a small e is shift done = record {
  asked = small_by c.by fits;
  delta = u;
  later = v.len - 1;
  earlier = earlier;
  ends_later = up_less v.len whole.filled;
  ends_earlier = up-both (λ n. leb n room) (has_before table v.first) room reach earlier e (λ n small. refl) a;
  used = subst (λ (z : ℤ). IsUsed (nearest (lies_within earlier (v.len - 1)) z) u) (to_z-of_z w32 c.by fits) is;
  fits = head_fits table v room reach earlier c.by u whole.filled a small e is;
  shift = shift;
  done = done;
}

pub tail-rippled : (table : Table) (p : Place) (v : ItemView) (room reach later : ℕ) (c : Ripple) (u : Used) (r : Rippled) → IsWhole table v → SFits w32 c.by → AreUpTo (has_after table (later_side v.first (v.len - 1))) reach
    → HasSource v.first v.len 0 reach → reach < 2 ^ 32 → later ≡ min room reach → IsUsed (nearest (lies_within (v.len - 1) later) (to_z w32 (of_z w32 c.by))) u → r.shift ≡ shift_by c.track Tail p v u.way → r.done ≡ u.done
    → IsRippled table Tail p v room c r
tail-rippled table p v room reach later c u r whole fits a source small e is shift done = record {
  asked = small_by c.by fits;
  delta = u;
  later = later;
  earlier = v.len - 1;
  ends_later = up-both (λ n. leb n room) (has_after table (later_side v.first (v.len - 1))) room reach later e (λ n small. refl) a;
  ends_earlier = up_less v.len whole.filled;
  used = subst (λ (z : ℤ). IsUsed (nearest (lies_within (v.len - 1) later) z) u) (to_z-of_z w32 c.by fits) is;
  fits = tail_fits table v room reach later c.by u whole.filled a source small e is;
  shift = shift;
  done = done;
}

-- a ripple is nothing, or its shift
way_of_used : (d : ℤ) (u : Used) (w : Way) → IsUsed d u → u.way ≡ w → IsWayOf d w
way_of_used d u w is e = subst (IsWayOf d) e is.way

no_shift : (own : ℕ) (end : End) (p : Place) (v : ItemView) (w : Way) → shift_by own end p v w ≡ None → w ≡ Still
no_shift own Head p v Still e = refl
no_shift own Head p v (Later n) e = absurd cc
no_shift own Head p v (Earlier n) e = absurd cc
no_shift own Tail p v Still e = refl
no_shift own Tail p v (Later n) e = absurd cc
no_shift own Tail p v (Earlier n) e = absurd cc

pub still_means : (table : Table) (ts : List TrackState) (t : TrackState) (end : End) (p : Place) (v : ItemView) (room : ℕ) (c : Ripple) (r : Rippled) → (is : IsRippled table end p v room c r)
    → IsUsed (nearest (ripple_allows table c.track ts t p.from p.to end) c.by) is.delta → r.shift ≡ None → ripple_end table c.track ts t end c.by p.from p.to ≡ Ok (ts, r.done)
still_means table ts t end p v room c r is used none =
    let d = nearest (ripple_allows table c.track ts t p.from p.to end) c.by in
    used_none ts (rippled c.track ts t p.from p.to end) d (way_of_used d is.delta Still used (no_shift c.track end p v is.delta.way (sym is.shift ∙ none)))
    ∙ ap (λ (a : Done). Ok (ts, a)) (sym used.done ∙ sym is.done)

abbrev pub HasPlaces : ℕ → ℕ → List TrackState → Type 0
HasPlaces own y ts = All (λ (t : TrackState). t.number ≡ own → y ≤ length t.cells) ts

places_of : (s : Shift) (own y : ℕ) (ts : List TrackState) → s.own ≡ own → s.x ≤ y → s.y ≤ y → HasPlaces own y ts → All (λ (t : TrackState). t.number ≡ s.own → (s.x ≤ length t.cells) × (s.y ≤ length t.cells)) ts
places_of s own y ts e a b h k d lt n = let l : y ≤ length (get_or ts k d).cells = h k d lt (n ∙ e) in (omega (arith, a, l), omega (arith, b, l))

-- the shift of a ripple splits links as they are split cell by cell
abbrev pub Ends : Shift → List TrackState → Type 0
Ends s ts = All (λ (t : TrackState). t.number ≡ s.own → EndsApart t (min s.y (length t.cells)) (gap_views (s.x - length t.cells) ++ new_views s.new)) ts

nothing_ends : (s : Shift) (own y : ℕ) (ts : List TrackState) → s.own ≡ own → s.x ≤ y → s.new ≡ None → HasPlaces own y ts → Ends s ts
nothing_ends s own y ts e le none h k d lt n =
    subst (λ (o : Option ItemView). EndsApart (get_or ts k d) (min s.y (length (get_or ts k d).cells)) (gap_views (s.x - length (get_or ts k d).cells) ++ new_views o)) (sym none)
    (ends-nothing (get_or ts k d) (min s.y (length (get_or ts k d).cells)) (s.x - length (get_or ts k d).cells) (omega (arith, h k d lt (n ∙ e), le)))

pub tail_means : (table : Table) (ts : List TrackState) (t : TrackState) (i : ℕ) (v : ItemView) (p : Place) (room : ℕ) (c : Ripple) (r : Rippled) (s : Shift) → Spot table t i v p.from p.to → (is : IsRippled table Tail p v room c r)
    → IsUsed (nearest (ripple_allows table c.track ts t p.from p.to Tail) c.by) is.delta → All (IsGood table) ts → IsGood table t → All (λ (u : TrackState). u.number ≡ c.track → u ≡ t) ts → All (IsShiftOf s) ts → HasPlaces c.track p.to ts → r.shift ≡ Some s
    → ripple_end table c.track ts t Tail c.by p.from p.to ≡ linked_shift s (s.x + new_len s.new) r.done ts
tail_means table ts t i v p room c r s spot is used good own only fits long some = by_way is.delta.way refl is.fits (sym is.shift ∙ some) where
  d : ℤ
  d = nearest (ripple_allows table c.track ts t p.from p.to Tail) c.by

  on : Done → ℕ → Applied
  on done n = shift_of false c.track p.to p.to (going_on (cell_at t.cells (p.to - 1)) n ∷ []) done ts

  back : Done → ℕ → Applied
  back done n = shift_of false c.track (p.to - n) p.to [] done ts

  said : By d ≡ r.done
  said = sym used.done ∙ sym is.done

  by_way : (w : Way) → is.delta.way ≡ w → EndFits table Tail v room w → shift_by c.track Tail p v w ≡ Some s → ripple_end table c.track ts t Tail c.by p.from p.to ≡ linked_shift s (s.x + new_len s.new) r.done ts
  by_way Still k f e = absurd cc
  by_way (Later n) k f e =
      let m : Shift = record { own = c.track; x = p.to; y = p.to; new = Some (going_on (cell_in v (v.len - 1)) n); keep = false } in
      let same : m ≡ s = cc in
      let way = way_of_used d is.delta (Later n) used k in
      let ends : Ends m ts = λ k d lt e. subst (λ (u : TrackState). EndsApart u (min p.to (length u.cells)) (gap_views (p.to - length u.cells) ++ going_on (cell_in v (v.len - 1)) n ∷ [])) (sym (only k d lt e)) (tail-ends table t i v p.from p.to n own spot f.0) in
      used_later ts on back d n way.0 way.1
      ∙ (ap (λ (g : ItemView). shift_of false c.track p.to p.to (g ∷ []) (By d) ts) (ap (λ (x : Cell). going_on x n) (spot-last table t i v p.from p.to spot))
      ∙ (made m (By d) ts (places_of m c.track p.to ts refl (omega arith) (omega arith) long) (omega arith) (subst (λ (z : Shift). All (IsShiftOf z) ts) (sym same) fits) (uncut-ripple table m ts (omega arith) good ends)
      ∙ (ap (λ (z : Shift). linked_shift z (z.x + new_len z.new) (By d) ts) same ∙ ap (λ (a : Done). linked_shift s (s.x + new_len s.new) a ts) said)))
  by_way (Earlier n) k f e =
      let m : Shift = record { own = c.track; x = p.to - n; y = p.to; new = None; keep = false } in
      let same : m ≡ s = cc in
      let way = way_of_used d is.delta (Earlier n) used k in
      used_earlier ts on back d n way.0 way.1
      ∙ (made m (By d) ts (places_of m c.track p.to ts refl (omega arith) (omega arith) long) (omega arith) (subst (λ (z : Shift). All (IsShiftOf z) ts) (sym same) fits)
      (uncut-ripple table m ts (omega arith) good (nothing_ends m c.track p.to ts refl (omega arith) refl long))
      ∙ (ap (λ (z : Shift). linked_shift z (z.x + new_len z.new) (By d) ts) same ∙ ap (λ (a : Done). linked_shift s (s.x + new_len s.new) a ts) said))

pub head_means : (table : Table) (ts : List TrackState) (t : TrackState) (i : ℕ) (v : ItemView) (p : Place) (room : ℕ) (c : Ripple) (r : Rippled) (s : Shift) → Spot table t i v p.from p.to → (is : IsRippled table Head p v room c r)
    → IsUsed (nearest (ripple_allows table c.track ts t p.from p.to Head) c.by) is.delta → track_numbered t.number ts ≡ Some t → All (IsGood table) ts → IsGood table t → All (λ (u : TrackState). u.number ≡ c.track → u ≡ t) ts → All (IsShiftOf s) ts → HasPlaces c.track p.to ts
    → r.shift ≡ Some s → ripple_end table c.track ts t Head c.by p.from p.to ≡ linked_shift s s.x r.done ts
head_means table ts t i v p room c r s spot is used found good own only fits long some = by_way is.delta.way refl is.fits (sym is.shift ∙ some) where
  d : ℤ
  d = nearest (ripple_allows table c.track ts t p.from p.to Head) c.by

  out : Done → ℕ → Applied
  out done n = shift_of false c.track p.from (p.from + n) [] done ts

  back : Done → ℕ → Applied
  back done n = shift_of false c.track p.from p.from (reaching_back (cell_at (as_split p.from ts t).cells p.from) n ∷ []) done ts

  said : By d ≡ r.done
  said = sym used.done ∙ sym is.done

  by_way : (w : Way) → is.delta.way ≡ w → EndFits table Head v room w → shift_by c.track Head p v w ≡ Some s → ripple_end table c.track ts t Head c.by p.from p.to ≡ linked_shift s s.x r.done ts
  by_way Still k f e = absurd cc
  by_way (Later n) k f e =
      let m : Shift = record { own = c.track; x = p.from; y = p.from + n; new = None; keep = false } in
      let same : m ≡ s = cc in
      let way = way_of_used d is.delta (Later n) used k in
      let none : p.from + 0 ≡ p.from = omega arith in
      used_later ts out back d n way.0 way.1
      ∙ (made m (By d) ts (places_of m c.track p.to ts refl (omega (arith, spot.long)) (omega (arith, spot.long, f.1)) long) (omega arith) (subst (λ (z : Shift). All (IsShiftOf z) ts) (sym same) fits)
      (uncut-ripple table m ts (omega arith) good (nothing_ends m c.track p.to ts refl (omega (arith, spot.long)) refl long))
      ∙ (ap (λ (q : ℕ). linked_shift m q (By d) ts) none
      ∙ (ap (λ (z : Shift). linked_shift z z.x (By d) ts) same ∙ ap (λ (a : Done). linked_shift s s.x a ts) said)))
  by_way (Earlier n) k f e =
      let m : Shift = record { own = c.track; x = p.from; y = p.from; new = Some (reaching_back (cell_in v 0) n); keep = false } in
      let same : m ≡ s = cc in
      let way = way_of_used d is.delta (Earlier n) used k in
      used_earlier ts out back d n way.0 way.1
      ∙ (ap (λ (g : ItemView). shift_of false c.track p.from p.from (g ∷ []) (By d) ts) (split-reach table ts t i v p.from p.to n spot found)
      ∙ (reach-meant table ts t i v c.track p.from p.to n (By d) good own spot f.0 only (subst (λ (z : Shift). All (IsShiftOf z) ts) (sym same) fits)
      ∙ (ap (λ (z : Shift). linked_shift z z.x (By d) ts) same ∙ ap (λ (a : Done). linked_shift s s.x a ts) said)))
