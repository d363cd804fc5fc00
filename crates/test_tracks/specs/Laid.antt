-- Items and gaps that can be laid one after another on an empty track.
use Rattle.std.specs.Prelude.{◌≡◌, ℕ, ◌+◌, ◌<◌, ◌≤◌, Bool, true, false, List, [], ◌∷◌, Option, Some, None, IfSome}
use Rattle.frame_meaning.specs.declared.cells.Mark.{Mark}
use Rattle.composables.specs.declared.items.ItemView.{ItemView}
use Rattle.composables.specs.declared.media.Table.{Table}
use Rattle.composables.specs.Good.{AllUnlinked, IsGood}
use Rattle.composables.specs.Items.{items_of}
use Rattle.composables.specs.Joined.{frames_in}
use Rattle.composables.specs.Roomy.{IsRoomy}
use Rattle.composables.specs.TrackFacts.{Holds, first_mark}
use Rattle.composables.specs.TrackState.{TrackState}

abbrev pub is_gap : Option ℕ → Bool
is_gap None = true
is_gap (Some i) = false

-- the item numbers rise from this one on
abbrev pub number_after : Option ℕ → ℕ → ℕ
number_after None next = next
number_after (Some i) next = i + 1

-- a gap comes behind none, and an item's number is not below this one
abbrev pub Follows : Option ℕ → ℕ → Bool → Type 0
Follows None next gap = gap ≡ false
Follows (Some i) next gap = (next ≤ i) × (i < 4294967295)

abbrev pub Laid : ℕ → Bool → List ItemView → Type 0
Laid next gap [] = Unit {0}
Laid next gap (v ∷ vs) = Holds v (first_mark vs) × Follows v.item next gap × Laid (number_after v.item next) (is_gap v.item) vs

pub record CanBeLaid (vs : List ItemView) : Type 0 where
  pub each : Laid 0 false vs
  pub first : first_mark vs ≡ None
  pub short : frames_in vs < 4294967295

-- the dissolve before an item or gap, if it is there
abbrev pub mark_of : Option ItemView → Option Mark
mark_of None = None
mark_of (Some v) = v.mark

-- a track with this number that has these items and gaps, none of them linked, and is good in the table
pub record IsLaid (table : Table) (n : ℕ) (vs : List ItemView) (t : TrackState) : Type 0 where
  pub numbered : t.number ≡ n
  pub items : items_of t.cells ≡ vs
  pub good : IsGood table t
  pub roomy : IsRoomy t
  pub unlinked : AllUnlinked (items_of t.cells)

-- the same of items of which some may be linked
pub record IsLinked (table : Table) (n : ℕ) (vs : List ItemView) (t : TrackState) : Type 0 where
  pub numbered : t.number ≡ n
  pub items : items_of t.cells ≡ vs
  pub good : IsGood table t
  pub roomy : IsRoomy t

-- each item's number is this one at least, and past those of the items before it
abbrev pub NumbersRise : ℕ → List ItemView → Type 0
NumbersRise next [] = Unit {0}
NumbersRise next (v ∷ vs) = IfSome v.item (λ i. next ≤ i) × NumbersRise (number_after v.item next) vs

-- the numbers of these do not rise, or no track is laid of them; and the same of items of which some may be linked
abbrev pub NoneIsLaid : Table → ℕ → List ItemView → Type 0
NoneIsLaid table n vs = NumbersRise 0 vs → (t : TrackState) → IsLaid table n vs t → ⊥

abbrev pub NoneIsLinked : Table → ℕ → List ItemView → Type 0
NoneIsLinked table n vs = NumbersRise 0 vs → (t : TrackState) → IsLinked table n vs t → ⊥
