-- What is known of tracks where links are split.
use Rattle.std.specs.Prelude.{◌≡◌, ◌+◌, ◌<◌, ◌≤◌, ◌^◌, ℕ, All, List, Some, None, length, slice_get, take}
use Rattle.composables.specs.declared.items.ItemView.{ItemView}
use Rattle.composables.specs.declared.TheConstants.{MAX_ITEMS}
use Rattle.composables.specs.Items.{items_of}
use Rattle.composables.specs.Joined.{frames_in}
use Rattle.composables.specs.TrackFacts.{IsKept}
use Rattle.composables.specs.TrackState.{TrackState}

-- no item with a link begins before a place and ends past it
abbrev pub IsUncut : ℕ → TrackState → Type 0
IsUncut place t = (i : ℕ) (v : ItemView) → slice_get (items_of t.cells) i ≡ Some v
    → frames_in (take i (items_of t.cells)) < place → place < frames_in (take i (items_of t.cells)) + v.len → v.link ≡ None

-- the tracks keep what every track keeps, and have room for the numbers of all links that a split can give
pub record MayBeSplit (tracks : List TrackState) : Type 0 where
  pub kept : All (λ (t : TrackState). IsKept t) tracks
  pub few : length tracks ≤ 32
  pub next : All (λ (t : TrackState). t.next_link ≤ 2 ^ 31) tracks
  pub items : All (λ (t : TrackState). length (items_of t.cells) ≤ MAX_ITEMS) tracks
