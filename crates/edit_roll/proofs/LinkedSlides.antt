-- Why the link of an item does not allow its slide, case by case.
use Rattle.std.proofs.Common.{◌≡◌, ℕ, ◌+◌, Bool, true, false, cond, ℤ, pos, ◌-ℤ◌, List, [], Option, Some, None, Result, Err, slice_get, sym, ap, ◌∙◌, subst, w32, to_z, of_z, SFits}
use Rattle.std.proofs.lemmas.Int.{to_z-of_z}
use Rattle.frame_meaning.specs.declared.cells.Link.{Link}
use Rattle.frame_meaning.specs.declared.cells.What.{What}
use Rattle.frame_meaning.specs.declared.frames.Side.{Side}
use Rattle.frame_meaning.specs.declared.frames.Side.TheVariants.{Dark, Pic}
use Rattle.composables.specs.declared.calls.Slide.{Slide}
use Rattle.composables.specs.declared.items.ItemView.{ItemView}
use Rattle.composables.specs.declared.items.Place.{Place}
use Rattle.composables.specs.declared.media.Table.{Table}
use Rattle.composables.specs.declared.refusals.Done.{Done}
use Rattle.out_of_memory.specs.declared.fault.Fault.{Fault}
use Rattle.composables.specs.declared.refusals.Refusal.{Refusal}
use Rattle.composables.specs.Answers.{Applied, unless}
use Rattle.out_of_memory.specs.Answers.{Answers}
use Rattle.composables.specs.Good.{IsGood}
use Rattle.composables.specs.Items.{items_of}
use Rattle.composables.specs.Links.{outside_refusal}
use Rattle.composables.specs.OwnTracks.{among_named, on_own, track_numbered}
use Rattle.composables.specs.Places.{StandsAt}
use Rattle.composables.specs.Ranges.{offset_of}
use Rattle.composables.specs.TrackFacts.{ShowsAsItem}
use Rattle.composables.specs.TrackState.{TrackState}
use Rattle.edit_delta.specs.declared.deltas.Way.{Way}
use Rattle.edit_delta.specs.Nearest.{nearest}
use Rattle.edit_delta.specs.Using.{IsWayOf}
use Rattle.edit_delta.proofs.Spots.{Spot, spot-at}
use Rattle.edit_splice.proofs.Bridging.{for-found}
use Rattle.edit_roll.specs.Sliding.{IsBrokenBy, broken_by, link_broken, links_refuse, slide_allows, slide_named, slide_own, slide_track}
use Rattle.edit_roll.proofs.Slides.{shows-there}
use Rattle.link_groups.specs.ItemLinks.{carried_outside}
use Rattle.link_groups.specs.LinkedItems.{item_of}
use Rattle.link_groups.specs.Linking.{or_else, shown_offset}

-- the item is not there
pub refuse-absent : (table : Table) (ts : List TrackState) (c : Slide) (t : TrackState) → item_of t c.item ≡ None → links_refuse table ts c t (item_of t c.item) ≡ None
refuse-absent table ts c t none = ap (links_refuse table ts c t) none

-- the item v that was found at a place
pub record IsThere (table : Table) (t : TrackState) (item : ℕ) (p : Place) (v : ItemView) : Type 0 where
  pub found : item_of t item ≡ Some (p.from, v)
  pub spot : Spot table t p.index v p.from p.to
  pub number : v.item ≡ Some item
  pub shows : ShowsAsItem v.item v.first v.link

pub is-there : (table : Table) (t : TrackState) (item : ℕ) (p : Place) (v : ItemView) → IsGood table t → item_of t item ≡ Some (p.from, v) → StandsAt (items_of t.cells) p → v.item ≡ Some item → slice_get (items_of t.cells) p.index ≡ Some v
    → IsThere table t item p v
is-there table t item p v good found stands number read = record {
  found = found;
  spot = spot-at table t p v good stands read;
  number = number;
  shows = shows-there (items_of t.cells) p.index v read good.kept.each;
}

-- an item is no gap
pub no-gap : (table : Table) (t : TrackState) (item : ℕ) (p : Place) (v : ItemView) → IsThere table t item p v → v.first ≡ Dark → ⊥
no-gap table t item p v h dark = subst (λ (d : Side What). ShowsAsItem (Some item) d v.link) dark (subst (λ (o : Option ℕ). ShowsAsItem o v.first v.link) h.number h.shows)

-- it has no link
pub refuse-unlinked : (table : Table) (ts : List TrackState) (c : Slide) (t : TrackState) (p : Place) (v : ItemView) → IsThere table t c.item p v → v.link ≡ None → links_refuse table ts c t (item_of t c.item) ≡ None
refuse-unlinked table ts c t p v h none =
    ap (links_refuse table ts c t) h.found ∙ ap (λ (l : Option Link). or_else (outside_refusal ts l) (link_broken table ts c t p.from v l)) none

-- a track of its link is not named
pub refuse-outside : (table : Table) (ts : List TrackState) (c : Slide) (t : TrackState) (p : Place) (v : ItemView) (l : Link) (why : Refusal) → IsThere table t c.item p v → v.link ≡ Some l → outside_refusal ts (Some l) ≡ Some why
    → links_refuse table ts c t (item_of t c.item) ≡ Some why
refuse-outside table ts c t p v l why h some out =
    ap (links_refuse table ts c t) h.found
    ∙ (ap (λ (l : Option Link). or_else (outside_refusal ts l) (link_broken table ts c t p.from v l)) some
    ∙ ap (λ (r : Option Refusal). or_else r (link_broken table ts c t p.from v (Some l))) out)

-- all are named
inside : (table : Table) (ts : List TrackState) (c : Slide) (t : TrackState) (p : Place) (v : ItemView) (l : Link) → IsThere table t c.item p v → v.link ≡ Some l → outside_refusal ts (Some l) ≡ None
    → links_refuse table ts c t (item_of t c.item) ≡ link_broken table ts c t p.from v (Some l)
inside table ts c t p v l h some out =
    ap (links_refuse table ts c t) h.found
    ∙ (ap (λ (l : Option Link). or_else (outside_refusal ts l) (link_broken table ts c t p.from v l)) some
    ∙ ap (λ (r : Option Refusal). or_else r (link_broken table ts c t p.from v (Some l))) out)

pub refuse-alone : (table : Table) (ts : List TrackState) (c : Slide) (t : TrackState) (p : Place) (v : ItemView) (l : Link) → IsThere table t c.item p v → v.link ≡ Some l → outside_refusal ts (Some l) ≡ None
    → carried_outside l c.track c.item ts ≡ false → links_refuse table ts c t (item_of t c.item) ≡ None
refuse-alone table ts c t p v l h some out alone =
    inside table ts c t p v l h some out
    ∙ ap (λ (b : Bool). cond b (broken_by l (shown_offset (offset_of v.first p.from)) (nearest (slide_allows table t p.from (p.from + v.len)) c.by)) None) alone

pub refuse-broken : (table : Table) (ts : List TrackState) (c : Slide) (t : TrackState) (p : Place) (v : ItemView) (l : Link) (w : What) (source : ℕ) (way : Way) (result : Option Refusal) → SFits w32 c.by
    → IsThere table t c.item p v → v.link ≡ Some l → outside_refusal ts (Some l) ≡ None → carried_outside l c.track c.item ts ≡ true → v.first ≡ Pic w source
    → IsWayOf (nearest (slide_allows table t p.from p.to) (to_z w32 (of_z w32 c.by))) way → IsBrokenBy l (pos p.from -ℤ pos source) way result
    → links_refuse table ts c t (item_of t c.item) ≡ result
refuse-broken table ts c t p v l w source way result fits h some out carried first is broken =
    let d : ℤ = nearest (slide_allows table t p.from p.to) c.by in
    let by : nearest (slide_allows table t p.from p.to) (to_z w32 (of_z w32 c.by)) ≡ d = ap (nearest (slide_allows table t p.from p.to)) (to_z-of_z w32 c.by fits) in
    let to : p.from + v.len ≡ p.to = sym h.spot.long in
    inside table ts c t p v l h some out
    ∙ (ap (λ (b : Bool). cond b (broken_by l (shown_offset (offset_of v.first p.from)) (nearest (slide_allows table t p.from (p.from + v.len)) c.by)) None) carried
    ∙ (ap (λ (s : Side What). broken_by l (shown_offset (offset_of s p.from)) (nearest (slide_allows table t p.from (p.from + v.len)) c.by)) first
    ∙ (ap (λ (y : ℕ). broken_by l (pos p.from -ℤ pos source) (nearest (slide_allows table t p.from y) c.by)) to
    ∙ sym (broken d (subst (λ (e : ℤ). IsWayOf e way) by is)))))

-- what a slide means
pub refused-means : (table : Table) (c : Slide) (ts : List TrackState) (t : TrackState) (why : Refusal) → track_numbered c.track ts ≡ Some t → links_refuse table ts c t (item_of t c.item) ≡ Some why → slide_named table ts c ≡ Err why
refused-means table c ts t why found refuse =
    for-found c.track (slide_own table ts c) ts t found ∙ ap (λ (r : Option Refusal). unless r (among_named ts (slide_track table c t))) refuse

pub allowed-means : (table : Table) (c : Slide) (ts : List TrackState) (t : TrackState) → track_numbered c.track ts ≡ Some t → links_refuse table ts c t (item_of t c.item) ≡ None
    → slide_named table ts c ≡ on_own c.track (slide_track table c) ts
allowed-means table c ts t found refuse =
    for-found c.track (slide_own table ts c) ts t found
    ∙ (ap (λ (r : Option Refusal). unless r (among_named ts (slide_track table c t))) refuse
    ∙ sym (for-found c.track (λ (u : TrackState). among_named ts (slide_track table c u)) ts t found))

pub allowed-answers : (table : Table) (c : Slide) (ts us : List TrackState) (t : TrackState) (r : Result Done (Fault Refusal)) → track_numbered c.track ts ≡ Some t → links_refuse table ts c t (item_of t c.item) ≡ None
    → Answers (on_own c.track (slide_track table c) ts) ts us r → Answers (slide_named table ts c) ts us r
allowed-answers table c ts us t r found none a = subst (λ (m : Applied). Answers m ts us r) (sym (allowed-means table c ts t found none)) a

abbrev pub no_track : TrackState
no_track = record { number = 0; cells = []; next_item = 0; next_link = 0 }
