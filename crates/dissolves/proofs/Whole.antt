-- Where a walk over the items and gaps of a track stands.
use Rattle.std.proofs.Common.{◌≡◌, ℕ, zero, suc, ◌+◌, ◌<◌, ◌≤◌, List, [], ◌∷◌, length, drop, Option, Some, None, IfSome, IsNone, refl, sym, ap, ◌∙◌, arith, subst}
use Rattle.std.specs.List.{slice_get}
use Rattle.frame_meaning.specs.declared.cells.What.{What}
use Rattle.frame_meaning.specs.declared.cells.Mark.{Mark}
use Rattle.frame_meaning.specs.declared.cells.Cell.{Cell}
use Rattle.frame_meaning.specs.declared.frames.Side.{Side}
use Rattle.frame_meaning.specs.declared.frames.Side.TheVariants.{Dark, Pic}
use Rattle.composables.specs.declared.items.ItemView.{ItemView}
use Rattle.composables.specs.Items.{cells_of, items_of}
use Rattle.composables.specs.Joined.{frames_in}
use Rattle.composables.specs.TrackFacts.{Holds, EachHolds, HasSource, first_mark, left_reach, right_reach}
use Rattle.composables.proofs.Joining.{length-cells_of}
use Rattle.dissolves.specs.Parts.{first_of, mark_of, SideHasFront, HoldsBefore, HasFront, MarkIsNumbered, Between, EachBetween}

-- the items and gaps from an index on

pub first_at : (vs : List ItemView) (i : ℕ) → slice_get vs i ≡ first_of (drop i vs)
first_at [] zero = refl
first_at [] (suc i) = refl
first_at (v ∷ vs) zero = refl
first_at (v ∷ vs) (suc i) = first_at vs i

pub none_left : (ws : List ItemView) (o : Option ItemView) → o ≡ first_of ws → o ≡ None → ws ≡ []
none_left ws o first is = empty ws (sym first ∙ is) where
  empty : (ws : List ItemView) → first_of ws ≡ None → ws ≡ []
  empty [] h = refl
  empty (w ∷ ws) h = cc

pub mark-first : (vs : List ItemView) → mark_of (first_of vs) ≡ first_mark vs
mark-first [] = refl
mark-first (v ∷ vs) = refl

-- how many frames and items there are

pub frames_of_items : (cs : List Cell) → cells_of (items_of cs) ≡ cs → frames_in (items_of cs) ≡ length cs
frames_of_items cs whole = sym (length-cells_of (items_of cs)) ∙ ap length whole

-- the numbers that dissolves have

front : (s : Side What) (len before after : ℕ) → HasSource s len before after → SideHasFront s before
front Dark len before after h = tt
front (Pic w s) len before after h = h.0

has_front : (vs : List ItemView) → EachHolds vs → HasFront (first_of vs)
has_front [] h = tt
has_front (v ∷ vs) h = front v.first v.len _ _ h.0.source

numbered : (m : Option Mark) (before len : ℕ) → left_reach m ≤ before → right_reach m ≤ len → before + len < 4294967295 → MarkIsNumbered m
numbered None before len l r h = tt
numbered (Some m) before len l r h = omega arith

abbrev pub EachMarkIsNumbered : List ItemView → Type 0
EachMarkIsNumbered [] = Unit {0}
EachMarkIsNumbered (v ∷ vs) = MarkIsNumbered v.mark × EachMarkIsNumbered vs

pub each_numbered : (before : ℕ) (vs : List ItemView) → EachHolds vs → left_reach (first_mark vs) ≤ before → before + frames_in vs < 4294967295 → EachMarkIsNumbered vs
each_numbered before [] h l s = tt
each_numbered before (v ∷ vs) h l s = (
  numbered v.mark before v.len l (omega (arith, h.0.room)) (omega arith),
  each_numbered v.len vs h.1 (omega (arith, h.0.room)) (omega arith),
)

first_numbered : (vs : List ItemView) → EachMarkIsNumbered vs → MarkIsNumbered (mark_of (first_of vs))
first_numbered [] h = tt
first_numbered (v ∷ vs) h = h.0

pub unmarked_reach : (m : Option Mark) → m ≡ None → left_reach m ≡ 0
unmarked_reach m e = ap left_reach e

-- each between those before and after it

pub between_all : (before : Option ItemView) (vs : List ItemView) → HoldsBefore before (first_mark vs) → EachHolds vs → EachMarkIsNumbered vs → EachBetween before vs
between_all before [] b h n = tt
between_all before (v ∷ vs) b h n = (
  record {
    held = b;
    holds = subst (Holds v) (sym (mark-first vs)) h.0;
    front = has_front vs h.1;
    head = n.0;
    tail = first_numbered vs n.1;
  },
  between_all (Some v) vs h.0 h.1 n.1,
)

-- those that are left, where this one, if it is there, was read from the front of the others
abbrev pub with_next : Option ItemView → List ItemView → List ItemView
with_next None vs = vs
with_next (Some v) vs = v ∷ vs

-- what a reader gives next, with what is left then, is what was left before
pub still_left : (o : Option ItemView) (old new : List ItemView) → IfSome o (λ v. old ≡ v ∷ new) → (IsNone o → (old ≡ []) × (new ≡ [])) → with_next o new ≡ old
still_left None old new some none = let e = none refl in e.1 ∙ sym e.0
still_left (Some v) old new some none = sym some

pub is_first : (o : Option ItemView) (old new : List ItemView) → IfSome o (λ v. old ≡ v ∷ new) → (IsNone o → (old ≡ []) × (new ≡ [])) → o ≡ first_of old
is_first None old new some none = ap first_of (sym (none refl).0)
is_first (Some v) old new some none = ap first_of (sym some)

-- what is known of the item or gap that was read, once the next one is
pub record AtNext (left : List ItemView) (before : Option ItemView) (v : ItemView) (after : Option ItemView) (behind : List ItemView) : Type 0 where
  pub rest : left ≡ v ∷ behind
  pub next : after ≡ first_of behind
  pub between : Between before v after
  pub each : EachBetween (Some v) behind

pub at_next : (before o after : Option ItemView) (v : ItemView) (old new : List ItemView) → o ≡ Some v
    → IfSome after (λ w. old ≡ w ∷ new) → (IsNone after → (old ≡ []) × (new ≡ []))
    → EachBetween before (with_next o old) → AtNext (with_next o old) before v after (with_next after new)
at_next before o after v old new is some none each =
    let left = still_left after old new some none in
    let next = is_first after old new some none ∙ ap first_of (sym left) in
    let rest = ap (λ (p : Option ItemView). with_next p old) is ∙ ap (λ (ws : List ItemView). v ∷ ws) (sym left) in
    let here = subst (EachBetween before) rest each in
    record { rest = rest; next = next; between = subst (Between before v) (sym next) here.0; each = here.1 }
