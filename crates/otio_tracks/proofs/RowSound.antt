-- What a row keeps as an item goes behind the others.
use Rattle.std.proofs.Common.{◌≡◌, ℕ, zero, suc, ◌+◌, ◌<◌, ◌≤◌, Bool, true, false, ◌&&◌, ◌||◌, nat_eq, nat_le, nat_lt, List, [], ◌∷◌, ◌++◌, Option, Some, None, IfSome, IfOk, IsTrue, Ok, Err, refl, sym, ap, ◌∙◌, arith, subst, if◌then◌else◌}
use Rattle.frame_meaning.specs.declared.cells.Mark.{Mark}
use Rattle.frame_meaning.specs.declared.cells.What.{What}
use Rattle.frame_meaning.specs.declared.cells.What.TheVariants.{Media, Nest}
use Rattle.frame_meaning.specs.declared.frames.Side.{Side}
use Rattle.frame_meaning.specs.declared.frames.Side.TheVariants.{Dark, Pic}
use Rattle.composables.specs.TrackFacts.{left_reach, right_reach, IsNoNest}
use Rattle.otio_tracks.specs.declared.faults.DocCode.TheVariants.{O8, O9, O15}
use Rattle.otio_tracks.specs.declared.parts.Part.{Part}
use Rattle.otio_tracks.specs.declared.transitions.Waiting.{Waiting}
use Rattle.json_tokens.specs.Reading.{◌>>=◌}
use Rattle.otio_tracks.specs.Reading.{Read, refuse}
use Rattle.otio_tracks.specs.Parts.{is_dark, shows_nest, is_gap, is_nest}
use Rattle.otio_tracks.specs.Transitions.{has_room, has_room_behind, joins, has_frames, mark_between, dissolve_between, side_reaches_back, side_reaches_on}
use Rattle.otio_tracks.specs.Rows.{RowState, longer, all_kept}
use Rattle.otio_tracks.specs.SoundParts.{SideLies, IsItemPart, IsSoundPart, first_mark, EachIsSound, AreSoundParts}
use Rattle.otio_tracks.specs.SoundRows.{IsLast, IsStart, IsSoundRow, HasRoom, FitsBefore}

-- ---- tests that hold

and_parts : (a b : Bool) → (a && b) ≡ true → (a ≡ true) × (b ≡ true)
and_parts true b e = (refl, e)
and_parts false b e = cc

or_parts : (a b : Bool) → (a || b) ≡ false → (a ≡ false) × (b ≡ false)
or_parts true b e = cc
or_parts false b e = (refl, e)

some_frames : (a b : ℕ) → (nat_eq a 0 && nat_eq b 0) ≡ false → 0 < a + b
some_frames zero zero e = cc
some_frames zero (suc b) e = omega arith
some_frames (suc a) b e = omega arith

-- ---- no nest

no_nest : (side : Side What) (mark : Option Mark) → shows_nest side ≡ false → IsNoNest side mark
no_nest side None e = tt
no_nest Dark (Some m) e = tt
no_nest (Pic (Media n) s) (Some m) e = tt
no_nest (Pic (Nest j) s) (Some m) e = absurd (clash e) where
  clash : true ≡ false → ⊥
  clash h = cc

dark_no_nest : (side : Side What) → is_dark side ≡ true → shows_nest side ≡ false
dark_no_nest Dark e = refl
dark_no_nest (Pic w s) e = cc

-- ---- the last item goes on

dark_lies : (side : Side What) (len from to before after n f t b a : ℕ) → is_dark side ≡ true → SideLies side n f t b a
dark_lies Dark len from to before after n f t b a e = tt
dark_lies (Pic w s) len from to before after n f t b a e = cc

grown_part : (p : Part) (n : ℕ) → is_gap p ≡ true → IsSoundPart p None → IsSoundPart (record p { len = p.len + n }) None
grown_part p n gap h = record {
  filled = omega (arith, h.filled);
  mark_filled = h.mark_filled;
  room = omega (arith, h.room);
  lies = dark_lies p.first 0 0 0 0 0 (p.len + n) p.from p.to (left_reach p.mark) 0 gap;
  head_no_nest = h.head_no_nest;
  tail_no_nest = tt;
}

grown_each : (done : List Part) (p : Part) (n : ℕ) → is_gap p ≡ true → EachIsSound (done ++ p ∷ []) → EachIsSound (done ++ record p { len = p.len + n } ∷ [])
grown_each [] p n gap h = (grown_part p n gap h.0, tt, tt)
grown_each (d ∷ []) p n gap h = (h.0, h.1, grown_each [] p n gap h.2)
grown_each (d ∷ e ∷ ds) p n gap h = (h.0, h.1, grown_each (e ∷ ds) p n gap h.2)

grown_first : (done : List Part) (p q : Part) → p.mark ≡ q.mark → first_mark (done ++ p ∷ []) ≡ None → first_mark (done ++ q ∷ []) ≡ None
grown_first [] p q e h = sym e ∙ h
grown_first (d ∷ ds) p q e h = h

-- ---- an item more

reaches_lies : (side : Side What) (len from to back on : ℕ) → side_reaches_back side from back ≡ true → (0 < len → SideLies side len from to 0 0) → 0 < len → SideLies side len from to back 0
reaches_lies Dark len from to back on e h f = tt
reaches_lies (Pic w s) len from to back on e h f = let k = h f in (omega (arith, nat_le_true (from + back) s e), omega (arith, k.1), k.2) where
  nat_le_true : (a b : ℕ) → nat_le a b ≡ true → a ≤ b
  nat_le_true a b t = grind arith

on_lies : (side : Side What) (len from to back on : ℕ) → side_reaches_on side len to on ≡ true → SideLies side len from to back 0 → SideLies side len from to back on
on_lies Dark len from to back on e h = tt
on_lies (Pic w s) len from to back on e h = (h.0, nat_le_true (s + len + on) to e, h.2) where
  nat_le_true : (a b : ℕ) → nat_le a b ≡ true → a ≤ b
  nat_le_true a b t = grind arith

nat_le_true : (a b : ℕ) → nat_le a b ≡ true → a ≤ b
nat_le_true a b t = grind arith

nat_lt_true : (a b : ℕ) → nat_lt a b ≡ true → a < b
nat_lt_true a b t = grind arith

record RoomParts (left right : Part) (m : Mark) : Type 0 where
  within_left : right_reach left.mark + m.a ≤ left.len
  within_right : m.b ≤ right.len
  on : side_reaches_on left.first left.len left.to m.b ≡ true
  back : side_reaches_back right.first right.from m.a ≡ true

room_parts : (left right : Part) (m : Mark) → IsTrue (has_room left right m) → RoomParts left right m
room_parts left right m h =
    let p = and_parts (nat_le (right_reach left.mark + m.a) left.len) (nat_le m.b right.len && (side_reaches_on left.first left.len left.to m.b && side_reaches_back right.first right.from m.a)) h in
    let q = and_parts (nat_le m.b right.len) (side_reaches_on left.first left.len left.to m.b && side_reaches_back right.first right.from m.a) p.1 in
    let r = and_parts (side_reaches_on left.first left.len left.to m.b) (side_reaches_back right.first right.from m.a) q.1 in
    record { within_left = nat_le_true (right_reach left.mark + m.a) left.len p.0; within_right = nat_le_true m.b right.len q.0; on = r.0; back = r.1 }

-- the item before a dissolve, and the item behind it
before_part : (left right : Part) (m : Mark) → IsSoundPart left None → RoomParts left right m → is_nest left ≡ false → IsSoundPart left (Some m)
before_part left right m h r nest = record {
  filled = h.filled;
  mark_filled = h.mark_filled;
  room = r.within_left;
  lies = on_lies left.first left.len left.from left.to (left_reach left.mark) m.b r.on h.lies;
  head_no_nest = h.head_no_nest;
  tail_no_nest = no_nest left.first (Some m) nest;
}

behind_part : (left right : Part) (m : Mark) → IsItemPart right → 0 < right.len → 0 < m.a + m.b → RoomParts left right m → is_nest right ≡ false → IsSoundPart (record right { mark = Some m }) None
behind_part left right m h filled some r nest = record {
  filled = filled;
  mark_filled = some;
  room = omega (arith, r.within_right);
  lies = reaches_lies right.first right.len right.from right.to m.a 0 r.back h filled;
  head_no_nest = no_nest right.first (Some m) nest;
  tail_no_nest = tt;
}

plain_part : (p : Part) → IsItemPart p → 0 < p.len → IsSoundPart (record p { mark = None }) None
plain_part p h filled = record { filled = filled; mark_filled = tt; room = omega (arith, filled); lies = h filled; head_no_nest = tt; tail_no_nest = tt }

-- an item behind the last one, which is sound before it
each_more : (done : List Part) (p q : Part) → (IsSoundPart p None → IsSoundPart p q.mark) → IsSoundPart q None → is_gap p && is_gap q ≡ false
    → EachIsSound (done ++ p ∷ []) → EachIsSound ((done ++ p ∷ []) ++ q ∷ [])
each_more [] p q go new apart h = (go h.0, apart, (new, tt, tt))
each_more (d ∷ []) p q go new apart h = (h.0, h.1, each_more [] p q go new apart h.2)
each_more (d ∷ e ∷ ds) p q go new apart h = (h.0, h.1, each_more (e ∷ ds) p q go new apart h.2)

first_more : (done : List Part) (p q : Part) → first_mark (done ++ p ∷ []) ≡ None → first_mark ((done ++ p ∷ []) ++ q ∷ []) ≡ None
first_more [] p q h = h
first_more (d ∷ ds) p q h = h

-- ---- the row with an item more

pub keep_empty : (row : RowState) (next : Part) (w : Option Waiting) → IsSoundRow row → next.len ≡ 0 → IsSoundRow (record row { before = Some next; waiting = w })
keep_empty row next w h e = record { start = h.start; parts = h.parts; last = λ more. absurd (omega (arith, e, more)) }

joined_parts : (done : List Part) (last : Option Part) (next : Part) → joins last next ≡ true → IsStart done last → AreSoundParts (all_kept done last)
    → AreSoundParts (all_kept done (longer last next.len)) × IsStart done (longer last next.len) × IsLast (longer last next.len) next
joined_parts done None next j start h = cc
joined_parts done (Some p) next j start h =
    let b = and_parts (is_gap p) (is_gap next) j in
    let same : is_gap p ≡ is_gap next = b.0 ∙ sym b.1 in
    let nests : is_nest p ≡ is_nest next = dark_no_nest p.first b.0 ∙ sym (dark_no_nest next.first b.1) in
    (record { not_before = grown_first done p (record p { len = p.len + next.len }) refl h.not_before; each = grown_each done p next.len b.0 h.each }, tt, (same, nests))

pub keep_joined : (row : RowState) (next : Part) (w : Option Waiting) → IsSoundRow row → joins row.last next ≡ true
    → IsSoundRow (record row { last = longer row.last next.len; before = Some next; waiting = w })
keep_joined row next w h j =
    let p = joined_parts row.done row.last next j h.start h.parts in
    record { start = p.1; parts = p.0; last = λ more. p.2 }

more_parts : (done : List Part) (last : Option Part) (next : Part) (mark : Option Mark) → 0 < next.len → IsItemPart next → joins last next ≡ false
    → IsStart done last → AreSoundParts (all_kept done last) → FitsBefore (record { done = done; last = last; before = None; waiting = None }) next mark
    → AreSoundParts (all_kept done last ++ record next { mark = mark } ∷ [])
more_parts done None next None filled item apart start h fits =
    subst (λ (ds : List Part). AreSoundParts (ds ++ record next { mark = None } ∷ [])) (sym start) (record { not_before = refl; each = (plain_part next item filled, tt, tt) })
more_parts done None next (Some m) filled item apart start h fits = absurd fits.room
more_parts done (Some p) next None filled item apart start h fits = record {
  not_before = first_more done p (record next { mark = None }) h.not_before;
  each = each_more done p (record next { mark = None }) (λ s. s) (plain_part next item filled) apart h.each;
}
more_parts done (Some p) next (Some m) filled item apart start h fits =
    let r = room_parts p next m fits.room.0 in
    record {
      not_before = first_more done p (record next { mark = Some m }) h.not_before;
      each = each_more done p (record next { mark = Some m }) (λ s. before_part p next m s r fits.room.1) (behind_part p next m item filled fits.mark_filled r fits.room.2) apart h.each;
    }

elsewhere : (row : RowState) (next : Part) (mark : Option Mark) → FitsBefore row next mark → FitsBefore (record { done = row.done; last = row.last; before = None; waiting = None }) next mark
elsewhere row next None h = tt
elsewhere row next (Some m) h = record { mark_filled = h.mark_filled; filled = h.filled; apart = h.apart; room = h.room }

pub keep_more : (row : RowState) (next : Part) (mark : Option Mark) (w : Option Waiting) → IsSoundRow row → 0 < next.len → IsItemPart next → joins row.last next ≡ false → FitsBefore row next mark
    → IsSoundRow (record { done = all_kept row.done row.last; last = Some (record next { mark = mark }); before = Some next; waiting = w })
keep_more row next mark w h filled item apart fits = record {
  start = tt;
  parts = more_parts row.done row.last next mark filled item apart h.start h.parts (elsewhere row next mark fits);
  last = λ more. (refl, refl);
}

-- ---- a dissolve that was found has room

room_behind : (last : Option Part) (before next : Part) (m : Mark) → IsLast last before → has_room_behind last next m ≡ true → is_nest before ≡ false → is_nest next ≡ false → HasRoom last next m
room_behind None before next m is e n k = absurd is
room_behind (Some p) before next m is e n k = (e, is.1 ∙ n, k)

not_joined : (last : Option Part) (before next : Part) → IsLast last before → (is_gap before && is_gap next) ≡ false → joins last next ≡ false
not_joined None before next is e = absurd is
not_joined (Some p) before next is e = ap (λ (b : Bool). b && is_gap next) is.0 ∙ e

joins_last : (last : Option Part) (before : Part) → joins last before ≡ true → IsLast last before
joins_last None before e = cc
joins_last (Some p) before e =
    let b = and_parts (is_gap p) (is_gap before) e in
    (b.0 ∙ sym b.1, dark_no_nest p.first b.0 ∙ sym (dark_no_nest before.first b.1))

last_by : (last : Option Part) (before : Part) (t : Bool) → nat_lt 0 before.len ≡ t → (t || joins last before) ≡ true → (0 < before.len → IsLast last before) → IsLast last before
last_by last before true e j is = is (nat_lt_true 0 before.len e)
last_by last before false e j is = joins_last last before j

between_fits : (row : RowState) (before next : Part) (m : Mark) (at : ℕ) (o : Option Mark) (none some : Bool)
    → (nat_eq m.a 0 && nat_eq m.b 0) ≡ none → ((has_frames row.last before && nat_lt 0 next.len) && has_room_behind row.last next m) ≡ some
    → ◌≡◌ {A = Read (Option Mark)} (if none then Ok None else if some then Ok (Some m) else refuse O9 at) (Ok o)
    → (0 < before.len → IsLast row.last before) → (is_gap before && is_gap next) ≡ false → is_nest before ≡ false → is_nest next ≡ false → FitsBefore row next o
between_fits row before next m at o true some n s e is g b k = let same : None ≡ o = cc in subst (FitsBefore row next) same tt
between_fits row before next m at o false true n s e is g b k =
    let same : Some m ≡ o = cc in
    let p = and_parts (has_frames row.last before && nat_lt 0 next.len) (has_room_behind row.last next m) s in
    let q = and_parts (has_frames row.last before) (nat_lt 0 next.len) p.0 in
    let last = last_by row.last before (nat_lt 0 before.len) refl q.0 is in
    subst (FitsBefore row next) same (record {
      mark_filled = some_frames m.a m.b n;
      filled = nat_lt_true 0 next.len q.1;
      apart = not_joined row.last before next last g;
      room = room_behind row.last before next m last p.1 b k;
    })
between_fits row before next m at o false false n s e is g b k = cc

offsets_fit : (row : RowState) (before next : Part) (r : Read Mark) (at : ℕ) (o : Option Mark)
    → (r >>= λ m. mark_between row.last before next m at) ≡ Ok o
    → (0 < before.len → IsLast row.last before) → (is_gap before && is_gap next) ≡ false → is_nest before ≡ false → is_nest next ≡ false → FitsBefore row next o
offsets_fit row before next (Ok m) at o e is g b k = between_fits row before next m at o (nat_eq m.a 0 && nat_eq m.b 0) ((has_frames row.last before && nat_lt 0 next.len) && has_room_behind row.last next m) refl refl e is g b k
offsets_fit row before next (Err f) at o e is g b k = cc

behind_fits : (row : RowState) (w : Waiting) (before next : Part) (o : Option Mark) (crowded nests : Bool)
    → (w.crowded || (is_gap before && is_gap next)) ≡ crowded → (is_nest before || is_nest next) ≡ nests
    → ◌≡◌ {A = Read (Option Mark)} (if crowded then refuse O8 w.at else if nests then refuse O15 w.at else (w.offsets >>= λ m. mark_between row.last before next m w.at)) (Ok o)
    → (0 < before.len → IsLast row.last before) → FitsBefore row next o
behind_fits row w before next o true nests c n e is = cc
behind_fits row w before next o false true c n e is = cc
behind_fits row w before next o false false c n e is =
    let p = or_parts w.crowded (is_gap before && is_gap next) c in
    let q = or_parts (is_nest before) (is_nest next) n in
    offsets_fit row before next w.offsets w.at o e is p.1 q.0 q.1

pub dissolve_fits : (row : RowState) (w : Waiting) (next : Part) (o : Option Mark) (before : Option Part) → before ≡ row.before → dissolve_between row.last before w next ≡ Ok o → IsSoundRow row → FitsBefore row next o
unfolding dissolve_between
dissolve_fits row w next o None b e h = cc
dissolve_fits row w next o (Some before) b e h =
    let is : 0 < before.len → IsLast row.last before = subst (λ (p : Option Part). IfSome p (λ q. 0 < q.len → IsLast row.last q)) (sym b) h.last in
    behind_fits row w before next o (w.crowded || (is_gap before && is_gap next)) (is_nest before || is_nest next) refl refl e is

pub dissolve_fits_ok : (row : RowState) (w : Waiting) (next : Part) (r : Read (Option Mark)) → r ≡ dissolve_between row.last row.before w next → IsSoundRow row → IfOk r (λ mark. FitsBefore row next mark)
dissolve_fits_ok row w next (Ok o) e h = dissolve_fits row w next o row.before refl (sym e) h
dissolve_fits_ok row w next (Err f) e h = tt
