-- The weight of all links, where runs are added.
use Rattle.std.proofs.Common.{◌≡◌, ℕ, zero, suc, ◌+◌, ◌*◌, ◌<◌, ◌≤◌, ◌⊎◌, inl, inr, ℤ, Bool, true, false, cond, eqb, List, [], ◌∷◌, ◌++◌, length, Option, Some, None, refl, sym, ap, ◌∙◌, arith}
use Rattle.std.proofs.lemmas.Bool.{cases_lt}
use Rattle.frame_meaning.specs.declared.cells.Link.{Link}
use Rattle.composables.specs.declared.media.Table.{Table}
use Rattle.composables.specs.Links.{next_link_at}
use Rattle.composables.specs.OwnTracks.{track_numbered}
use Rattle.composables.specs.TrackState.{TrackState}
use Rattle.std.proofs.lemmas.List.{length-append}
use Rattle.link_laws.specs.Rooms.{AreLow, AreTracks, Ascend, IsNumbered, IsRoom}
use Rattle.link_laws.specs.Weights.{begins, given, is_link, most_added, NextsAreWithinWeight, NextsWithin, runs_on, weight, weight_of}
use Rattle.link_laws.proofs.LinkedRuns.{link-not, runs-none}
use Rattle.link_laws.proofs.LinkLists.{Carries, carries-shows}
use Rattle.link_laws.proofs.Runs.{Grown, count, count-append, grown-self, one}
use Rattle.link_laws.proofs.Tied.{Each, Keeps, Sees}

-- each next link number is within it

given_least : (runs : ℕ → ℕ) (n : ℕ) → n ≤ given runs n
given_least runs zero = omega arith
given_least runs (suc n) = omega (arith, given_least runs n)

pub nexts-more : (a b : ℕ) (ts : List TrackState) → a ≤ b → NextsWithin a ts → NextsWithin b ts
nexts-more a b [] le h = tt
nexts-more a b (t ∷ ts) le h = (omega (arith, le, h.0), nexts-more a b ts le h.1)

nexts_within : (runs : ℕ → ℕ → ℕ) (ts : List TrackState) → NextsWithin (weight_of runs ts) ts
nexts_within runs [] = tt
nexts_within runs (t ∷ ts) = (
  omega (arith, given_least (runs t.number) t.next_link),
  nexts-more (weight_of runs ts) (given (runs t.number) t.next_link + weight_of runs ts) ts (omega arith) (nexts_within runs ts),
)

pub nexts-within : NextsAreWithinWeight
nexts-within all = nexts_within (λ (h n : ℕ). runs_on h n all) all

-- of the numbers below one, and of all tracks
abbrev below : ℕ → ℕ → List (Option Link) → ℕ
below h zero os = 0
below h (suc n) os = count h n os + below h n os

abbrev among : List TrackState → List (Option Link) → ℕ
among [] os = 0
among (t ∷ ts) os = below t.number t.next_link os + among ts os

below_none : (h n : ℕ) → below h n [] ≡ 0
below_none h zero = refl
below_none h (suc n) = omega (arith, below_none h n)

below_add : (h n : ℕ) (o : Option Link) (os : List (Option Link)) → below h n (o ∷ os) ≡ below h n (o ∷ []) + below h n os
below_add h zero o os = refl
below_add h (suc n) o os = omega (arith, below_add h n o os)

among_none : (ts : List TrackState) → among ts [] ≡ 0
among_none [] = refl
among_none (t ∷ ts) = omega (arith, below_none t.number t.next_link, among_none ts)

among_add : (ts : List TrackState) (o : Option Link) (os : List (Option Link)) → among ts (o ∷ os) ≡ among ts (o ∷ []) + among ts os
among_add [] o os = refl
among_add (t ∷ ts) o os = omega (arith, below_add t.number t.next_link o os, among_add ts o os)

below_nothing : (h n : ℕ) → below h n (None ∷ []) ≡ 0
below_nothing h zero = refl
below_nothing h (suc n) = omega (arith, below_nothing h n)

begins_false : (b : Bool) → b ≡ false → begins false b ≡ 0
begins_false b e = ap (begins false) e

begins_few : (b : Bool) → begins false b ≤ 1
begins_few true = omega arith
begins_few false = omega arith

other_home : (h n : ℕ) (l : Link) → (l.home ≡ h → ⊥) → below h n (Some l ∷ []) ≡ 0
other_home h zero l apart = refl
other_home h (suc n) l apart = omega (arith, begins_false (is_link h n (Some l)) (link-not h n l (λ e f. apart e)), other_home h n l apart)

below_few : (h n : ℕ) (l : Link) → (below h n (Some l ∷ []) ≤ 1) × (n ≤ l.number → below h n (Some l ∷ []) ≡ 0)
below_few h zero l = (omega arith, λ le. refl)
below_few h (suc n) l = by (cases_lt l.number n) (below_few h n l) where
  by : (l.number < n) ⊎ (n ≤ l.number) → (below h n (Some l ∷ []) ≤ 1) × (n ≤ l.number → below h n (Some l ∷ []) ≡ 0)
      → (begins false (is_link h n (Some l)) + 0 + below h n (Some l ∷ []) ≤ 1) × (suc n ≤ l.number → begins false (is_link h n (Some l)) + 0 + below h n (Some l ∷ []) ≡ 0)
  by (inr le) r = (
    omega (arith, begins_few (is_link h n (Some l)), r.1 le),
    λ more. omega (arith, begins_false (is_link h n (Some l)) (link-not h n l (λ e f. omega (arith, f, more))), r.1 le),
  )
  by (inl less) r = (
    omega (arith, begins_false (is_link h n (Some l)) (link-not h n l (λ e f. omega (arith, f, less))), r.0),
    λ more. absurd (omega (arith, more, less)),
  )

among_few : (least : ℕ) (ts : List TrackState) (l : Link) → Ascend least ts → (among ts (Some l ∷ []) ≤ 1) × (l.home < least → among ts (Some l ∷ []) ≡ 0)
among_few least [] l a = (omega arith, λ lt. refl)
among_few least (t ∷ ts) l a = by (among_few (t.number + 1) ts l a.1) where
  by : (among ts (Some l ∷ []) ≤ 1) × (l.home < t.number + 1 → among ts (Some l ∷ []) ≡ 0)
      → (below t.number t.next_link (Some l ∷ []) + among ts (Some l ∷ []) ≤ 1) × (l.home < least → below t.number t.next_link (Some l ∷ []) + among ts (Some l ∷ []) ≡ 0)
  by r = (few (cases_lt l.home (t.number + 1)), none) where
    none : l.home < least → below t.number t.next_link (Some l ∷ []) + among ts (Some l ∷ []) ≡ 0
    none lt = omega (arith, other_home t.number t.next_link l (λ e. omega (arith, e, lt, a.0)), r.1 (omega (arith, lt, a.0)))

    few : (l.home < t.number + 1) ⊎ (t.number + 1 ≤ l.home) → below t.number t.next_link (Some l ∷ []) + among ts (Some l ∷ []) ≤ 1
    few (inl less) = omega (arith, (below_few t.number t.next_link l).0, r.1 less)
    few (inr more) = omega (arith, other_home t.number t.next_link l (λ e. omega (arith, e, more)), r.0)

among_nothing : (ts : List TrackState) → among ts (None ∷ []) ≡ 0
among_nothing [] = refl
among_nothing (t ∷ ts) = omega (arith, below_nothing t.number t.next_link, among_nothing ts)

one_few : (ts : List TrackState) (o : Option Link) → Ascend 0 ts → among ts (o ∷ []) ≤ 1
one_few ts (Some l) a = (among_few 0 ts l a).0
one_few ts None a = omega (arith, among_nothing ts)

all_few : (ts : List TrackState) (os : List (Option Link)) → Ascend 0 ts → among ts os ≤ length os
all_few ts [] a = omega (arith, among_none ts)
all_few ts (o ∷ os) a = omega (arith, among_add ts o os, one_few ts o a, all_few ts os a)

-- where so many runs more are there the weight is at most so much more

given_more : (f g : ℕ → ℕ) (h n : ℕ) (os : List (Option Link)) → ((m : ℕ) → g m ≤ f m + count h m os) → given g n ≤ given f n + below h n os
given_more f g h zero os le = omega arith
given_more f g h (suc n) os le = omega (arith, le n, given_more f g h n os le)

of_more : (f g : ℕ → ℕ → ℕ) (ts : List TrackState) (os : List (Option Link)) → ((h m : ℕ) → g h m ≤ f h m + count h m os) → weight_of g ts ≤ weight_of f ts + among ts os
of_more f g [] os le = omega arith
of_more f g (t ∷ ts) os le =
    omega (arith, given_more (f t.number) (g t.number) t.number t.next_link os (le t.number), of_more f g ts os le)

pub weight-more : (f g : ℕ → ℕ → ℕ) (ts : List TrackState) (os : List (Option Link)) → Ascend 0 ts → ((h m : ℕ) → g h m ≤ f h m + count h m os) → weight_of g ts ≤ weight_of f ts + length os
weight-more f g ts os a le = omega (arith, of_more f g ts os le, all_few ts os a)

-- tracks with the same numbers and next link numbers

abbrev pub SameNext : TrackState → TrackState → Type 0
SameNext t u = u.next_link ≡ t.next_link

pub weight-same : (f : ℕ → ℕ → ℕ) (ts us : List TrackState) → Each SameNext ts us → weight_of f us ≡ weight_of f ts
weight-same f [] [] e = refl
weight-same f [] (u ∷ us) e = absurd e
weight-same f (t ∷ ts) [] e = absurd e
weight-same f (t ∷ ts) (u ∷ us) e =
    ap (λ (m : ℕ). given (f m) u.next_link + weight_of f us) e.0
    ∙ (ap (λ (m : ℕ). given (f t.number) m + weight_of f us) e.1 ∙ ap (λ (m : ℕ). given (f t.number) t.next_link + m) (weight-same f ts us e.2))

-- a room has 32 tracks at most

tracks_few : (least : ℕ) (ts : List TrackState) → Ascend least ts → AreLow ts → least ≤ 32 → least + length ts ≤ 32
tracks_few least [] a h le = omega (arith, le)
tracks_few least (t ∷ ts) a h le = omega (arith, tracks_few (t.number + 1) ts a.1 h.1 (omega (arith, h.0)), a.0)

pub tracks-few : (ts : List TrackState) → IsNumbered ts → length ts ≤ 32
tracks-few ts h = omega (arith, tracks_few 0 ts h.ascend h.low (omega arith))

low_of : (table : Table) (ts : List TrackState) → AreTracks table ts → AreLow ts
low_of table [] h = tt
low_of table (t ∷ ts) h = (h.0, low_of table ts h.2)

pub numbered-of : (table : Table) (all : List TrackState) → IsRoom table all → IsNumbered all
numbered-of table all room = record { apart = room.apart; ascend = room.ascend; low = low_of table all room.tracks }

-- tracks that are kept have little more weight

-- no next link number more, and few runs more
abbrev pub Light : TrackState → TrackState → Type 0
Light t u = (u.next_link ≡ t.next_link) × Grown t u

pub light-self : (t : TrackState) → Light t t
light-self t = (refl, grown-self t)

pub light-grown : (ts us : List TrackState) → Each Light ts us → (os : List (Option Link)) × (length os ≤ 4 * length ts) × ((h n : ℕ) → runs_on h n us ≤ runs_on h n ts + count h n os)
light-grown [] [] e = ([], omega arith, λ h n. omega arith)
light-grown [] (u ∷ us) e = absurd e
light-grown (t ∷ ts) [] e = absurd e
light-grown (t ∷ ts) (u ∷ us) e =
    let a = e.1.1 in
    let r = light-grown ts us e.2 in
    (a.0 ++ r.0, omega (arith, length-append a.0 r.0, a.1, r.1), λ h n. omega (arith, count-append h n a.0 r.0, a.2 h n, r.2 h n))

light_next : (ts us : List TrackState) → Each Light ts us → Each SameNext ts us
light_next [] [] e = tt
light_next [] (u ∷ us) e = absurd e
light_next (t ∷ ts) [] e = absurd e
light_next (t ∷ ts) (u ∷ us) e = (e.0, e.1.0, light_next ts us e.2)

pub light-more : (ts us : List TrackState) → Each Light ts us → Each (λ (t u : TrackState). t.next_link ≤ u.next_link) ts us
light-more [] [] e = tt
light-more [] (u ∷ us) e = absurd e
light-more (t ∷ ts) [] e = absurd e
light-more (t ∷ ts) (u ∷ us) e = (e.0, omega (arith, e.1.0), light-more ts us e.2)

pub light-none : (n : ℕ) (ts us : List TrackState) → Each Light ts us → track_numbered n us ≡ None → track_numbered n ts ≡ None
light-none n [] [] e h = refl
light-none n [] (u ∷ us) e h = absurd e
light-none n (t ∷ ts) [] e h = absurd e
light-none n (t ∷ ts) (u ∷ us) e h =
    ap (λ (m : ℕ). cond (eqb m n) (Some t) (track_numbered n ts)) (sym e.0) ∙ by (eqb u.number n) h (λ k. light-none n ts us e.2 k) where
      by : (b : Bool) → cond b (Some u) (track_numbered n us) ≡ None → (track_numbered n us ≡ None → track_numbered n ts ≡ None) → cond b (Some t) (track_numbered n ts) ≡ None
      by true k later = absurd cc
      by false k later = later k

kept_light : (ts us : List TrackState) → Each Keeps ts us → Each Light ts us
kept_light [] [] e = tt
kept_light [] (u ∷ us) e = absurd e
kept_light (t ∷ ts) [] e = absurd e
kept_light (t ∷ ts) (u ∷ us) e = (e.0, (e.1.next, e.1.grown), kept_light ts us e.2)

pub light-little : (ts us : List TrackState) → IsNumbered ts → Each Light ts us → weight us ≤ weight ts + most_added
light-little ts us room each =
    let g = light-grown ts us each in
    omega (
      arith,
      weight-same (λ (h n : ℕ). runs_on h n us) ts us (light_next ts us each),
      weight-more (λ (h n : ℕ). runs_on h n ts) (λ (h n : ℕ). runs_on h n us) ts g.0 room.ascend g.2,
      g.1,
      tracks-few ts room,
    )

pub kept-little : (ts us : List TrackState) → IsNumbered ts → Each Keeps ts us → weight us ≤ weight ts + most_added
kept-little ts us room each = light-little ts us room (kept_light ts us each)

-- a number that was not given away has no run

one_most : (h n : ℕ) (o : Option Link) → one h n o ≤ 1
one_most h n o = begins_few (is_link h n o)

pub count-few : (h n : ℕ) (os : List (Option Link)) → count h n os ≤ length os
count-few h n [] = omega arith
count-few h n (o ∷ os) = omega (arith, one_most h n o, count-few h n os)

-- each link of the tracks was given away
abbrev pub Below : List TrackState → Type 0
Below all = (k : Link) (a : Option ℤ) → Sees all k a → k.number < next_link_at k.home all

pub past-none : (all : List TrackState) (h n : ℕ) (k : Link) (a : Option ℤ) → Below all → next_link_at h all ≤ n → Sees all k a → k.home ≡ h → k.number ≡ n → ⊥
past-none all h n k a g le s e f = omega (arith, g k a s, ap (λ (m : ℕ). next_link_at m all) e, f, le)

fresh_on : (all ts : List TrackState) (h n : ℕ) → Below all → next_link_at h all ≤ n → ((k : Link) (a : Option ℤ) → Sees ts k a → Sees all k a) → runs_on h n ts ≡ 0
fresh_on all [] h n g le sub = refl
fresh_on all (t ∷ ts) h n g le sub = omega (arith, runs-none h n false t.cells never, fresh_on all ts h n g le (λ k a s. sub k a (inr s))) where
  never : (k : Link) → Carries t.cells k → k.home ≡ h → k.number ≡ n → ⊥
  never k c e f = let r = carries-shows 0 t.cells k c in past-none all h n k r.0 g le (sub k r.0 (inl r.1)) e f

pub fresh-runs : (all : List TrackState) (h n : ℕ) → Below all → next_link_at h all ≤ n → runs_on h n all ≡ 0
fresh-runs all h n g le = fresh_on all all h n g le (λ k a s. s)
