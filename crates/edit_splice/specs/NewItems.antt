-- Items and gaps that may be put into any track.
use Rattle.std.specs.Prelude.{◌≡◌, ℕ, ◌≤◌, List, [], ◌∷◌, None, IfSome}
use Rattle.composables.specs.declared.items.ItemView.{ItemView}
use Rattle.composables.specs.declared.media.Table.{Table}
use Rattle.composables.specs.Good.{EachLiesIn, EachLinkOf}
use Rattle.composables.specs.TrackFacts.{EachHolds, Apart, first_mark}
use Rattle.composables.specs.TrackState.{TrackState}

-- each item's number is this one or above
abbrev pub NumbersFrom : ℕ → List ItemView → Type 0
NumbersFrom next [] = Unit {0}
NumbersFrom next (v ∷ vs) = IfSome v.item (λ i. next ≤ i) × NumbersFrom next vs

-- where two gaps meet there is no dissolve between them
abbrev pub MeetsFirst : ItemView → List ItemView → Type 0
MeetsFirst r [] = Unit {0}
MeetsFirst r (v ∷ vs) = r.item ≡ None → v.item ≡ None → v.mark ≡ None

abbrev pub Meet : List ItemView → Type 0
Meet [] = Unit {0}
Meet (v ∷ vs) = MeetsFirst v vs × Meet vs

-- they hold their dissolves, of which none stands at their front, and their numbers are their own and not yet taken
pub record AreNew (next : ℕ) (views : List ItemView) : Type 0 where
  pub each : EachHolds views
  pub first : first_mark views ≡ None
  pub meet : Meet views
  pub apart : Apart views
  pub above : NumbersFrom next views

-- new items and gaps for a track that is good in a table: what they show lies in the ranges of the table, and they
-- have no links, or links of the track's own
pub record AreNewFor (table : Table) (t : TrackState) (views : List ItemView) : Type 0 where
  pub new : AreNew t.next_item views
  pub ranges : EachLiesIn table views
  pub links : EachLinkOf t.number views
