-- The numbers of the frames that a track shows are below 2 ^ 32.
use Rattle.std.proofs.Common.{◌≡◌, ℕ, zero, suc, ◌+◌, ◌-◌, ◌<◌, ◌≤◌, ◌^◌, List, [], ◌∷◌, ◌++◌, map, length, Option, Some, None, ap, ◌∙◌, arith, subst}
use Rattle.std.specs.List.{range_with_len}
use Rattle.frame_meaning.specs.declared.cells.What.{What}
use Rattle.frame_meaning.specs.declared.cells.Mark.{Mark}
use Rattle.frame_meaning.specs.declared.frames.Side.{Side}
use Rattle.frame_meaning.specs.declared.frames.Side.TheVariants.{Dark, Pic}
use Rattle.frame_meaning.specs.declared.frames.Frame.{Frame}
use Rattle.frame_meaning.specs.declared.frames.Frame.TheVariants as frame
use Rattle.frame_meaning.specs.Cells.{later_side}
use Rattle.frame_meaning.specs.Numbered.{SideIsNumbered, IsNumbered}
use Rattle.frame_meaning.specs.Render.{frame_of, shown_at, render}
use Rattle.composables.specs.declared.items.ItemView.{ItemView}
use Rattle.composables.specs.Items.{items_of}
use Rattle.composables.specs.TrackFacts.{Holds, EachHolds, HasSource, IsKept, first_mark, left_reach, right_reach}
use Rattle.composables.specs.TrackState.{TrackState}
use Rattle.dissolves.specs.Pieces.{later_frame, frames_from, SideReaches, Reaches}
use Rattle.dissolves.specs.Parts.{first_of, mark_of, mix_after, head_frames, mix_before, tail_frames, own_frames, item_frames, frames_shown, HoldsBefore, MarkIsNumbered}
use Rattle.composables.specs.Views.{earlier_side}
use Rattle.dissolves.proofs.Dissolved.{render_shown}
use Rattle.dissolves.proofs.Whole.{EachMarkIsNumbered, each_numbered, frames_of_items, unmarked_reach}

abbrev pub EachIsNumbered : List (Frame What) → Type 0
EachIsNumbered [] = Unit {0}
EachIsNumbered (f ∷ fs) = IsNumbered f × EachIsNumbered fs

abbrev DenIsNumbered : Frame What → Type 0
DenIsNumbered frame.Dark = Unit {0}
DenIsNumbered (frame.Pic w s) = Unit {0}
DenIsNumbered (frame.Mix l r n d) = d < 2 ^ 32

side_first : (s : Side What) (n : ℕ) → SideReaches s (suc n) → SideIsNumbered s
side_first Dark n h = tt
side_first (Pic w s) n h = omega arith

side_rest : (s : Side What) (n : ℕ) → SideReaches s (suc n) → SideReaches (later_side s 1) n
side_rest Dark n h = tt
side_rest (Pic w s) n h = omega arith

frame_first : (f : Frame What) (n : ℕ) → Reaches f (suc n) → DenIsNumbered f → IsNumbered f
frame_first frame.Dark n h d = tt
frame_first (frame.Pic w s) n h d = omega arith
frame_first (frame.Mix l r k e) n h d = let num : k < 2 ^ 32 = omega (arith, h.2) in (side_first l n h.0, side_first r n h.1, num, d)

frame_rest : (f : Frame What) (n : ℕ) → Reaches f (suc n) → Reaches (later_frame f 1) n
frame_rest frame.Dark n h = tt
frame_rest (frame.Pic w s) n h = omega arith
frame_rest (frame.Mix l r k e) n h = let num : k + 1 + n ≤ 2 ^ 32 = omega (arith, h.2) in (side_rest l n h.0, side_rest r n h.1, num)

den_rest : (f : Frame What) → DenIsNumbered f → DenIsNumbered (later_frame f 1)
den_rest frame.Dark d = tt
den_rest (frame.Pic w s) d = tt
den_rest (frame.Mix l r k e) d = d

from_numbered : (f : Frame What) (n : ℕ) → Reaches f n → DenIsNumbered f → EachIsNumbered (frames_from f n)
from_numbered f zero h d = tt
from_numbered f (suc n) h d = (frame_first f n h d, from_numbered (later_frame f 1) n (frame_rest f n h) (den_rest f d))

each_append : (fs gs : List (Frame What)) → EachIsNumbered fs → EachIsNumbered gs → EachIsNumbered (fs ++ gs)
each_append [] gs p q = q
each_append (f ∷ fs) gs p q = (p.0, each_append fs gs p.1 q)

-- the sides of a dissolve

past_end : (s : Side What) (len before n : ℕ) → HasSource s len before n → SideReaches (later_side s len) n
past_end Dark len before n h = tt
past_end (Pic w s) len before n h = h.1

from_first : (s : Side What) (len before after n : ℕ) → n ≤ len → HasSource s len before after → SideReaches s n
from_first Dark len before after n r h = tt
from_first (Pic w s) len before after n r h = omega (arith, h.1)

to_end : (s : Side What) (len before after n : ℕ) → n ≤ len → HasSource s len before after → SideReaches (later_side s (len - n)) n
to_end Dark len before after n r h = tt
to_end (Pic w s) len before after n r h = omega (arith, h.1)

to_first : (s : Side What) (len before after : ℕ) → HasSource s len before after → SideReaches (earlier_side s before) before
to_first Dark len before after h = tt
to_first (Pic w s) len before after h = omega (arith, h.0, h.1)

own_reaches : (s : Side What) (len before after head n : ℕ) → head + n ≤ len → HasSource s len before after → Reaches (frame_of (later_side s head)) n
own_reaches Dark len before after head n r h = tt
own_reaches (Pic w s) len before after head n r h = omega (arith, h.1)

den_of : (s : Side What) → DenIsNumbered (frame_of s)
den_of Dark = tt
den_of (Pic w s) = tt

head_numbered : (before : Option ItemView) (v : ItemView) (tail : Option Mark) → HoldsBefore before v.mark → Holds v tail → MarkIsNumbered v.mark → EachIsNumbered (head_frames before v)
head_numbered None v tail b h n = tt
head_numbered (Some l) v tail b h n = by_mark v.mark b.source n (omega (arith, h.room)) where
  by_mark : (o : Option Mark) → HasSource l.first l.len (left_reach l.mark) (right_reach o) → MarkIsNumbered o → right_reach o ≤ v.len → EachIsNumbered (mix_after (later_side l.first l.len) v.first o)
  by_mark None s k r = tt
  by_mark (Some m) s k r =
      let num : m.a + 1 + m.b ≤ 2 ^ 32 = omega arith in
      from_numbered (frame.Mix (later_side l.first l.len) v.first (m.a + 1) (m.a + m.b + 1)) m.b
      (past_end l.first l.len (left_reach l.mark) m.b s, from_first v.first v.len (left_reach v.mark) (right_reach tail) m.b r h.source, num) k

tail_numbered : (v : ItemView) (vs : List ItemView) → Holds v (first_mark vs) → EachHolds vs → EachMarkIsNumbered vs → EachIsNumbered (tail_frames v (first_of vs))
tail_numbered v [] h e n = tt
tail_numbered v (r ∷ rs) h e n = by_mark r.mark e.0.source n.0 (omega (arith, h.room)) where
  by_mark : (o : Option Mark) → HasSource r.first r.len (left_reach o) (right_reach (first_mark rs)) → MarkIsNumbered o → left_reach o ≤ v.len → EachIsNumbered (mix_before v r.first o)
  by_mark None s k room = tt
  by_mark (Some m) s k room =
      let num : 1 + m.a ≤ 2 ^ 32 = omega arith in
      from_numbered (frame.Mix (later_side v.first (v.len - m.a)) (earlier_side r.first m.a) 1 (m.a + m.b + 1)) m.a
      (to_end v.first v.len (left_reach v.mark) (right_reach r.mark) m.a room h.source, to_first r.first r.len m.a (right_reach (first_mark rs)) s, num) k

view_numbered : (before : Option ItemView) (v : ItemView) (vs : List ItemView) → HoldsBefore before v.mark → EachHolds (v ∷ vs) → EachMarkIsNumbered (v ∷ vs) → EachIsNumbered (item_frames before v (first_of vs))
view_numbered before v vs b h n =
    let head = right_reach v.mark in
    let tail = left_reach (mark_of (first_of vs)) in
    let own = v.len - head - tail in
    let within : head + own ≤ v.len = omega (arith, h.0.room) in
    each_append (head_frames before v ++ own_frames v head tail) (tail_frames v (first_of vs))
    (each_append (head_frames before v) (own_frames v head tail)
    (head_numbered before v (first_mark vs) b h.0 n.0)
    (from_numbered (frame_of (later_side v.first head)) own (own_reaches v.first v.len (left_reach v.mark) (right_reach (first_mark vs)) head own within h.0.source) (den_of (later_side v.first head))))
    (tail_numbered v vs h.0 h.1 n.1)

shown_numbered : (before : Option ItemView) (vs : List ItemView) → HoldsBefore before (first_mark vs) → EachHolds vs → EachMarkIsNumbered vs → EachIsNumbered (frames_shown before vs)
shown_numbered before [] b h n = tt
shown_numbered before (v ∷ vs) b h n =
    each_append (item_frames before v (first_of vs)) (frames_shown (Some v) vs) (view_numbered before v vs b h n) (shown_numbered (Some v) vs h.0 h.1 n.1)

by_place : (shown : ℕ → Frame What) (p n : ℕ) → EachIsNumbered (map shown (range_with_len p n)) → (k : ℕ) → k < n → IsNumbered (shown (p + k))
by_place shown p zero h k l = absurd (omega arith)
by_place shown p (suc n) h zero l = let e : p ≡ p + 0 = omega arith in subst (λ (x : ℕ). IsNumbered (shown x)) e h.0
by_place shown p (suc n) h (suc k) l = let e : p + 1 + k ≡ p + suc k = omega arith in subst (λ (x : ℕ). IsNumbered (shown x)) e (by_place shown (p + 1) n h.1 k (omega arith))

-- what a track shows at each place
pub kept_numbered : (t : TrackState) → IsKept t → length t.cells < 4294967295 → (q : ℕ) → q < length t.cells → IsNumbered (shown_at t.cells q)
kept_numbered t kept short q h =
    let vs = items_of t.cells in
    let frames = frames_of_items t.cells kept.whole in
    let marks = each_numbered 0 vs kept.each (omega (arith, unmarked_reach (first_mark vs) kept.not_before)) (omega (arith, frames)) in
    let each = shown_numbered None vs kept.not_before kept.each marks in
    let same : frames_shown None vs ≡ render t.cells = render_shown vs kept.each kept.not_before ∙ ap render kept.whole in
    let e : 0 + q ≡ q = omega arith in
    subst (λ (x : ℕ). IsNumbered (shown_at t.cells x)) e (by_place (shown_at t.cells) 0 (length t.cells) (subst EachIsNumbered same each) q h)
