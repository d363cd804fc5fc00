-- A slip and a slide keep the links of a room given away, whatever else its tracks are.
use Rattle.std.proofs.Common.{◌≡◌, ℕ, zero, suc, ◌+◌, ◌<◌, ◌≤◌, ◌⊎◌, inl, inr, ℤ, pos, negsuc, Bool, true, false, cond, List, [], ◌∷◌, take, map, Option, Some, None, Result, Ok, Err, refl, sym, ap, ◌∙◌, arith}
use Rattle.frame_meaning.specs.declared.cells.Cell.{Cell}
use Rattle.frame_meaning.specs.declared.cells.Link.{Link}
use Rattle.frame_meaning.specs.Render.{cell_at}
use Rattle.composables.specs.declared.calls.Slide.{Slide}
use Rattle.composables.specs.declared.calls.Slip.{Slip}
use Rattle.composables.specs.declared.media.Table.{Table}
use Rattle.composables.specs.declared.refusals.Done.{Done}
use Rattle.composables.specs.declared.refusals.Done.TheVariants.{By}
use Rattle.composables.specs.declared.refusals.Refusal.{Refusal}
use Rattle.composables.specs.Answers.{unless}
use Rattle.composables.specs.Limits.{too_long, too_many, track_within_limits}
use Rattle.composables.specs.Links.{next_link_at, outside_refusal}
use Rattle.composables.specs.OwnTracks.{among_named, track_numbered, with_track}
use Rattle.composables.specs.Ranges.{on_range, range_of}
use Rattle.composables.specs.TrackState.{TrackState}
use Rattle.edit_delta.specs.Nearest.{nearest}
use Rattle.edit_delta.specs.Using.{used_on}
use Rattle.edit_delta.proofs.Greatest.{is-nearest}
use Rattle.edit_roll.specs.Sliding.{links_refuse, slid, slide_allows, slide_own, slide_range, slide_track}
use Rattle.edit_trim.specs.Slipping.{cell_moved, changed_on, link_allows, linked_moved, slip_allows, slip_link, slip_link_by, slip_own, slip_range, slip_track, slip_with, slipped, slipped_by, track_moved}
use Rattle.link_groups.specs.ItemLinks.{carries, link_of}
use Rattle.link_groups.specs.LinkedItems.{item_of}
use Rattle.link_laws.specs.Given.{AreGiven, LeavesGiven, StaysGiven}
use Rattle.link_laws.specs.Rooms.{AreAmong, AreNamed, IsNumbered, with_tracks}
use Rattle.link_laws.specs.SlipLaws.{SlidingKeepsGiven, SlippingKeepsGiven}
use Rattle.link_laws.specs.Weights.{begins, is_link, runs_in}
use Rattle.link_laws.proofs.FreeRanges.{item-range}
use Rattle.link_laws.proofs.GivenLaw.{IsGiven, are-given, given-of, numbers-each, own-given}
use Rattle.link_laws.proofs.LinkLists.{Carries, carries-shows, shows-carries}
use Rattle.link_laws.proofs.ShiftCases.{leaves-unless}
use Rattle.link_laws.proofs.SlideLaw.{Moved, Slides, carries-drop, carries-take, mid-carries, slid-slides}
use Rattle.link_laws.proofs.SlipLaw.{moved-runs}
use Rattle.link_laws.proofs.Tied.{Each, Sees, each-left, each-with, next-more}
use Rattle.link_laws.proofs.Weighing.{Light, light-little, light-more, light-self}
use Rattle.edit_splice.proofs.Bridging.{is-numbered}

-- a track with no other links, and little more weight of them

pub record Tame (t u : TrackState) : Type 0 where
  pub links : (l : Link) → Carries u.cells l → Carries t.cells l
  pub light : Light t u

pub tame-self : (t : TrackState) → Tame t t
tame-self t = record { links = λ l c. c; light = light-self t }

sees_tame : (ts us : List TrackState) (l : Link) (a : Option ℤ) → Each Tame ts us → Sees us l a → (b : Option ℤ) × Sees ts l b
sees_tame [] [] l a e s = absurd s
sees_tame [] (u ∷ us) l a e s = absurd e
sees_tame (t ∷ ts) [] l a e s = absurd s
sees_tame (t ∷ ts) (u ∷ us) l a e (inl s) =
    let r = carries-shows 0 t.cells l (e.1.links l (shows-carries 0 u.cells l a s)) in (r.0, inl r.1)
sees_tame (t ∷ ts) (u ∷ us) l a e (inr s) = let r = sees_tame ts us l a e.2 s in (r.0, inr r.1)

tame_light : (ts us : List TrackState) → Each Tame ts us → Each Light ts us
tame_light [] [] e = tt
tame_light [] (u ∷ us) e = absurd e
tame_light (t ∷ ts) [] e = absurd e
tame_light (t ∷ ts) (u ∷ us) e = (e.0, e.1.light, tame_light ts us e.2)

pub tame-given : (all named us : List TrackState) → IsNumbered all → AreAmong all named → AreGiven all → Each Tame named us → StaysGiven all named us
tame-given all named us room among are e = record {
  numbers = numbers-each Tame named us e;
  given = are-given (with_tracks all us) (record { below = λ l a s. below l (was l a s); bit = λ l a s. g.bit l (was l a s).0 (was l a s).1 });
  little = light-little all (with_tracks all us) room (tame_light all (with_tracks all us) each);
} where
  g : IsGiven all
  g = given-of all are

  each : Each Tame all (with_tracks all us)
  each = each-left Tame tame-self all named us all among e room.apart

  was : (l : Link) (a : Option ℤ) → Sees (with_tracks all us) l a → (b : Option ℤ) × Sees all l b
  was l a s = sees_tame all (with_tracks all us) l a each s

  below : (l : Link) → (b : Option ℤ) × Sees all l b → l.number < next_link_at l.home (with_tracks all us)
  below l r =
      omega (arith, g.below l r.0 r.1, next-more l.home all (with_tracks all us) (light-more all (with_tracks all us) (tame_light all (with_tracks all us) each)))

-- one track of them

abbrev TameOne : TrackState → Result (TrackState × Done) Refusal → Type 0
TameOne t (Ok (u, d)) = (u.number ≡ t.number) × Tame t u
TameOne t (Err r) = Unit {0}

tame_within : (t u : TrackState) (done : Done) → u.number ≡ t.number → Tame t u → TameOne t (track_within_limits u done)
tame_within t u done n k = by (too_long (u ∷ [])) (too_many (u ∷ [])) where
  by : (a b : Option Refusal) → TameOne t (unless a (unless b (Ok (u, done))))
  by None None = (n, k)
  by None (Some r) = tt
  by (Some r) b = tt

tame_used : (t : TrackState) (moved : ℤ → TrackState) (allowed : ℤ → Bool) (by : ℤ)
    → ((d : ℤ) → allowed d ≡ true → ((moved d).number ≡ t.number) × Tame t (moved d)) → TameOne t (used_on t moved (nearest allowed by))
tame_used t moved allowed by each = at (nearest allowed by) (is-nearest allowed by).member where
  at : (d : ℤ) → (d ≡ pos 0) ⊎ (allowed d ≡ true) → TameOne t (used_on t moved d)
  at (pos zero) m = (refl, tame-self t)
  at (pos (suc k)) (inl e) = absurd cc
  at (pos (suc k)) (inr e) = let r = each (pos (suc k)) e in tame_within t (moved (pos (suc k))) (By (pos (suc k))) r.0 r.1
  at (negsuc k) (inl e) = absurd cc
  at (negsuc k) (inr e) = let r = each (negsuc k) e in tame_within t (moved (negsuc k)) (By (negsuc k)) r.0 r.1

tame_among : (all named : List TrackState) (own : ℕ) (t : TrackState) (r : Result (TrackState × Done) Refusal) → IsNumbered all → AreAmong all named → AreGiven all
    → track_numbered own named ≡ Some t → TameOne t r → LeavesGiven all named (among_named named r)
tame_among all named own t (Ok (u, d)) room among are e k =
    tame-given all named (with_track named u) room among are
    (each-with Tame tame-self named t u (ap (λ (m : ℕ). track_numbered m named) (k.0 ∙ is-numbered own named t e) ∙ e) k.0 k.1)
tame_among all named own t (Err r) room among are e k = tt

-- cells that show other source frames

abbrev SameLinks : List Cell → List Cell → Type 0
SameLinks [] [] = Unit {0}
SameLinks [] (d ∷ ds) = ⊥
SameLinks (c ∷ cs) [] = ⊥
SameLinks (c ∷ cs) (d ∷ ds) = (c.link ≡ d.link) × SameLinks cs ds

links_self : (cs : List Cell) → SameLinks cs cs
links_self [] = tt
links_self (c ∷ cs) = (refl, links_self cs)

links_carry : (cs ds : List Cell) (l : Link) → SameLinks cs ds → Carries cs l → Carries ds l
links_carry [] [] l s h = h
links_carry [] (d ∷ ds) l s h = absurd s
links_carry (c ∷ cs) [] l s h = absurd s
links_carry (c ∷ cs) (d ∷ ds) l s (inl h) = inl (sym s.0 ∙ h)
links_carry (c ∷ cs) (d ∷ ds) l s (inr h) = inr (links_carry cs ds l s.1 h)

links_runs : (h n : ℕ) (b : Bool) (cs ds : List Cell) → SameLinks cs ds → runs_in h n b cs ≡ runs_in h n b ds
links_runs h n b [] [] s = refl
links_runs h n b [] (d ∷ ds) s = absurd s
links_runs h n b (c ∷ cs) [] s = absurd s
links_runs h n b (c ∷ cs) (d ∷ ds) s =
    ap (λ (o : Option Link). begins b (is_link h n o) + runs_in h n (is_link h n o) cs) s.0
    ∙ ap (λ (m : ℕ). begins b (is_link h n d.link) + m) (links_runs h n (is_link h n d.link) cs ds s.1)

changed_links : (x y on back : ℕ) (cs : List Cell) → x ≤ y → SameLinks (changed_on x y (cell_moved on back) cs) cs
changed_links zero zero on back cs le = links_self cs
changed_links zero (suc y) on back [] le = tt
changed_links zero (suc y) on back (c ∷ cs) le = (refl, changed_links zero y on back cs (omega arith))
changed_links (suc x) zero on back cs le = absurd (omega (arith, le))
changed_links (suc x) (suc y) on back [] le = tt
changed_links (suc x) (suc y) on back (c ∷ cs) le = (refl, changed_links x y on back cs (omega (arith, le)))

slipped_tame : (t : TrackState) (x y on back : ℕ) → x ≤ y → Tame t (slipped_by t x y on back)
slipped_tame t x y on back le = record {
  links = λ l c. links_carry (changed_on x y (cell_moved on back) t.cells) t.cells l (changed_links x y on back t.cells le) c;
  light = (refl, ([], omega arith, λ h n. omega (arith, links_runs h n false (changed_on x y (cell_moved on back) t.cells) t.cells (changed_links x y on back t.cells le))));
}

slip_tame : (table : Table) (c : Slip) (t : TrackState) → TameOne t (slip_track table c t)
slip_tame table c t = by (range_of t.cells c.item) refl where
  by : (o : Option (ℕ × ℕ)) → range_of t.cells c.item ≡ o → TameOne t (on_range (slip_range table t c.by) o)
  by None f = tt
  by (Some (x, y)) f = tame_used t (slipped t x y) (slip_allows table t x y) c.by (λ d a. each d) where
    order : x ≤ y
    order = let r = item-range t c.item x y f in omega (arith, r.0)

    each : (d : ℤ) → ((slipped t x y d).number ≡ t.number) × Tame t (slipped t x y d)
    each (pos n) = (refl, slipped_tame t x y n 0 order)
    each (negsuc n) = (refl, slipped_tame t x y 0 (suc n) order)

-- all that has a link

linked_carries : (l : Link) (on back : ℕ) (cs : List Cell) (m : Link) → Carries (map (linked_moved l on back) cs) m → Carries cs m
linked_carries l on back [] m h = h
linked_carries l on back (c ∷ cs) m (inl h) = inl (by (carries l c.link) h) where
  by : (b : Bool) → (cond b (cell_moved on back c) c).link ≡ Some m → c.link ≡ Some m
  by true k = k
  by false k = k
linked_carries l on back (c ∷ cs) m (inr h) = inr (linked_carries l on back cs m h)

linked_tame : (l : Link) (on back : ℕ) (ts : List TrackState) → Each Tame ts (map (track_moved l on back) ts)
linked_tame l on back [] = tt
linked_tame l on back (t ∷ ts) = (refl, one, linked_tame l on back ts) where
  one : Tame t (track_moved l on back t)
  one = record {
    links = λ m c. linked_carries l on back t.cells m c;
    light = (refl, ([], omega arith, λ h n. omega (arith, moved-runs l on back h n false t.cells)));
  }

link_given : (all named : List TrackState) (l : Link) (d : ℤ) → IsNumbered all → AreAmong all named → AreGiven all → LeavesGiven all named (slip_link_by l named d)
link_given all named l (pos n) room among are = tame-given all named (map (track_moved l n 0) named) room among are (linked_tame l n 0 named)
link_given all named l (negsuc n) room among are = tame-given all named (map (track_moved l 0 (suc n)) named) room among are (linked_tame l 0 (suc n) named)

slip_given : (table : Table) (c : Slip) (all named : List TrackState) (t : TrackState) → IsNumbered all → AreNamed all named → AreGiven all → track_numbered c.track named ≡ Some t
    → LeavesGiven all named (slip_own table named c t)
slip_given table c all named t room names are e = by (link_of t c.item) where
  by : (o : Option Link) → LeavesGiven all named (slip_with table named c t o)
  by None = tame_among all named c.track t (slip_track table c t) room names.among are e (slip_tame table c t)
  by (Some l) =
      leaves-unless (λ (news : List TrackState). StaysGiven all named news) (outside_refusal named (Some l)) (slip_link table named l c.by)
      (λ told. link_given all named l (nearest (link_allows table named l) c.by) room names.among are)

pub slipping-given : SlippingKeepsGiven
slipping-given table c = own-given c.track (λ named t. slip_own table named c t) (slip_given table c)

-- a slide

slid_tame : (t u : TrackState) (x y : ℕ) → x < y → Slides x y t u → Tame t u
slid_tame t u x y less s = record { links = links; light = s.light } where
  links : (l : Link) → Carries u.cells l → Carries t.cells l
  links l c = let r = carries-shows 0 u.cells l c in by r.0 (s.shows l r.0 r.1) where
    by : (o : Option ℤ) → Moved t.cells (cell_at t.cells x).link s.off x y l o → Carries t.cells l
    by o (inl m) = carries-take t.cells y l (carries-drop (take y t.cells) x l (mid-carries t.cells x y l less m.0))
    by o (inr m) = shows-carries 0 t.cells l o m.1

slide_tame : (table : Table) (c : Slide) (t : TrackState) → TameOne t (slide_track table c t)
slide_tame table c t = by (range_of t.cells c.item) refl where
  by : (o : Option (ℕ × ℕ)) → range_of t.cells c.item ≡ o → TameOne t (on_range (slide_range table t c.by) o)
  by None f = tt
  by (Some (x, y)) f =
      let r = item-range t c.item x y f in
      tame_used t (slid t x y) (slide_allows table t x y) c.by
      (λ d a. let s = slid-slides table t x y d r.0 r.1 a in (s.number, slid_tame t (slid t x y d) x y r.0 s))

slide_given : (table : Table) (c : Slide) (all named : List TrackState) (t : TrackState) → IsNumbered all → AreNamed all named → AreGiven all → track_numbered c.track named ≡ Some t
    → LeavesGiven all named (slide_own table named c t)
slide_given table c all named t room names are e =
    leaves-unless (λ (news : List TrackState). StaysGiven all named news) (links_refuse table named c t (item_of t c.item)) (among_named named (slide_track table c t))
    (λ told. tame_among all named c.track t (slide_track table c t) room names.among are e (slide_tame table c t))

pub sliding-given : SlidingKeepsGiven
sliding-given table c = own-given c.track (λ named t. slide_own table named c t) (slide_given table c)
