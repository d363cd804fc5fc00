-- A shift adds little to the weight of links: a link that is split has as many runs as before, those that stay and those
-- that are moved.
use Rattle.std.proofs.Common.{◌≡◌, ℕ, ◌+◌, ◌*◌, ◌<◌, ◌≤◌, ◌⊎◌, inl, inr, ℤ, Bool, true, false, cond, eqb, ◌&&◌, max, List, [], ◌∷◌, ◌++◌, filter, length, take, drop, map, unwrap_or, Option, Some, None, refl, sym, ap, ◌∙◌, arith, subst}
use Rattle.std.proofs.lemmas.Bool.{eqb-true}
use Rattle.std.proofs.lemmas.List.{length-append}
use Rattle.std.proofs.lemmas.Option.{same_Some}
use Rattle.std.specs.List.{list_any}
use Rattle.frame_meaning.specs.declared.cells.Cell.{Cell}
use Rattle.frame_meaning.specs.declared.cells.Link.{Link}
use Rattle.composables.specs.Links.{cells_before, cells_from, count_at_home, is_named, links_in, links_split, moved_cell, moved_link, next_link_at, same_link, split_links, split_number, split_track}
use Rattle.composables.specs.OwnTracks.{track_numbered}
use Rattle.composables.specs.TrackState.{TrackState}
use Rattle.composables.proofs.Joining.{eqb-refl}
use Rattle.link_laws.specs.Rooms.{AreAmong, AreNamed, Ascend, IsNumbered, as_left, with_tracks}
use Rattle.link_laws.specs.Weights.{begins, given, is_link, most_added, runs_in, runs_on, weight, weight_of}
use Rattle.link_laws.proofs.LinkedRuns.{link-is, link-not, runs-none, runs-some}
use Rattle.link_laws.proofs.Linking.{left-number, next-numbered}
use Rattle.link_laws.proofs.LinkLists.{AllLinks, AnySame, Carries, Same, all-links, carries-append, carries-shows, shows-carries}
use Rattle.link_laws.proofs.Ranks.{InOrder, any-is, at_home, filter-order, given-split, given-up, links-order, rank, rank-one}
use Rattle.link_laws.proofs.Runs.{count, count-append, runs-append}
use Rattle.link_laws.proofs.Shifting.{Shifts, may-split, found-named, named-each, named-found, next-among, next-shifts}
use Rattle.link_laws.proofs.Sights.{Shows, shows-take}
use Rattle.link_laws.proofs.Splitting.{MaySplit, SeesFrom, count-is, number-is, number-past}
use Rattle.link_laws.proofs.Tied.{Each, Sees, among-numbered, found-of}
use Rattle.link_laws.proofs.Weighing.{Below, past-none, tracks-few, weight-more}
use Rattle.edit_splice.proofs.Bridging.{is-numbered}

differ : false ≡ true → ⊥
differ e = cc

-- sums over tracks

abbrev total : (TrackState → ℕ) → List TrackState → ℕ
total f [] = 0
total f (t ∷ ts) = f t + total f ts

total_add : (f g : TrackState → ℕ) (ts : List TrackState) → total (λ t. f t + g t) ts ≡ total f ts + total g ts
total_add f g [] = refl
total_add f g (t ∷ ts) = omega (arith, total_add f g ts)

total_le : (f g : TrackState → ℕ) (ts : List TrackState) → ((t : TrackState) → f t ≤ g t) → total f ts ≤ total g ts
total_le f g [] le = omega arith
total_le f g (t ∷ ts) le = omega (arith, le t, total_le f g ts le)

total_some : (f : TrackState → ℕ) (ts : List TrackState) (n : ℕ) (t : TrackState) → track_numbered n ts ≡ Some t → f t ≤ total f ts
total_some f [] n t e = absurd cc
total_some f (u ∷ us) n t e = by (eqb u.number n) e (λ k. total_some f us n t k) where
  by : (b : Bool) → cond b (Some u) (track_numbered n us) ≡ Some t → (track_numbered n us ≡ Some t → f t ≤ total f us) → f t ≤ f u + total f us
  by true k later = omega (arith, ap f (same_Some u t k))
  by false k later = omega (arith, later k)

total_runs : (h n : ℕ) (ts : List TrackState) → runs_on h n ts ≡ total (λ t. runs_in h n false t.cells) ts
total_runs h n [] = refl
total_runs h n (t ∷ ts) = omega (arith, total_runs h n ts)

total_left : (h n : ℕ) (vs ts : List TrackState) → runs_on h n (with_tracks ts vs) ≡ total (λ t. runs_in h n false (as_left vs t).cells) ts
total_left h n vs [] = refl
total_left h n vs (t ∷ ts) = omega (arith, total_left h n vs ts)

-- one function of a track is little more than another: by a list of links

abbrev Point : (ℕ → ℕ → TrackState → ℕ) → (ℕ → ℕ → TrackState → ℕ) → TrackState → Type 0
Point f g t = (os : List (Option Link)) × (length os ≤ 4) × ((h n : ℕ) → f h n t ≤ g h n t + count h n os)

gather : (all : List TrackState) (f g : ℕ → ℕ → TrackState → ℕ) → ((t : TrackState) → track_numbered t.number all ≡ Some t → Point f g t)
    → (ts : List TrackState) → AreAmong all ts → (os : List (Option Link)) × (length os ≤ 4 * length ts) × ((h n : ℕ) → total (f h n) ts ≤ total (g h n) ts + count h n os)
gather all f g point [] a = ([], omega arith, λ h n. omega arith)
gather all f g point (t ∷ ts) a =
    let p = point t a.0 in
    let r = gather all f g point ts a.1 in
    (p.0 ++ r.0, omega (arith, length-append p.0 r.0, p.1, r.1), λ h n. omega (arith, count-append h n p.0 r.0, p.2 h n, r.2 h n))

-- numbers that rise

among_more : (t : TrackState) (ts ws : List TrackState) (least : ℕ) → t.number < least → Ascend least ws → AreAmong ts ws → AreAmong (t ∷ ts) ws
among_more t ts [] least lt a h = tt
among_more t ts (w ∷ ws) least lt a h =
    (ap (λ (b : Bool). cond b (Some t) (track_numbered w.number ts)) (apart (eqb t.number w.number) refl) ∙ h.0, among_more t ts ws (w.number + 1) (omega (arith, lt, a.0)) a.1 h.1) where
      apart : (b : Bool) → eqb t.number w.number ≡ b → b ≡ false
      apart true e = absurd (omega (arith, eqb-true t.number w.number e, lt, a.0))
      apart false e = refl

among_self : (least : ℕ) (ts : List TrackState) → Ascend least ts → AreAmong ts ts
among_self least [] a = tt
among_self least (t ∷ ts) a =
    (ap (λ (b : Bool). cond b (Some t) (track_numbered t.number ts)) (eqb-refl t.number), among_more t ts ts (t.number + 1) (omega arith) a.1 (among_self (t.number + 1) ts a.1))

ascend_each : (R : TrackState → TrackState → Type 0) (least : ℕ) (ts us : List TrackState) → Each R ts us → Ascend least ts → Ascend least us
ascend_each R least [] [] e a = tt
ascend_each R least [] (u ∷ us) e a = absurd e
ascend_each R least (t ∷ ts) [] e a = absurd e
ascend_each R least (t ∷ ts) (u ∷ us) e a =
    (omega (arith, a.0, e.0), ascend_each R (u.number + 1) ts us e.2 (subst (λ (n : ℕ). Ascend (n + 1) ts) (sym e.0) a.1))

ascend_left : (vs : List TrackState) (least : ℕ) (ts : List TrackState) → Ascend least ts → Ascend least (with_tracks ts vs)
ascend_left vs least [] a = tt
ascend_left vs least (t ∷ ts) a =
    (omega (arith, a.0, left-number vs t), ascend_left vs ((as_left vs t).number + 1) ts (subst (λ (n : ℕ). Ascend (n + 1) ts) (sym (left-number vs t)) a.1))

-- cells of tracks, each on a track with its number

from_found : (z : ℕ) (us ts : List TrackState) (l : Link) → AreAmong us ts → Carries (cells_from z ts) l
    → (u : TrackState) × (track_numbered u.number us ≡ Some u) × Carries (drop z u.cells) l
from_found z us [] l a h = absurd h
from_found z us (t ∷ ts) l a h = by (carries-append (drop z t.cells) (cells_from z ts) l h) (λ k. from_found z us ts l a.1 k) where
  by : Carries (drop z t.cells) l ⊎ Carries (cells_from z ts) l
      → (Carries (cells_from z ts) l → (u : TrackState) × (track_numbered u.number us ≡ Some u) × Carries (drop z u.cells) l)
      → (u : TrackState) × (track_numbered u.number us ≡ Some u) × Carries (drop z u.cells) l
  by (inl k) later = (t, a.0, k)
  by (inr k) later = later k

before_found : (x : ℕ) (us ts : List TrackState) (l : Link) → AreAmong us ts → Carries (cells_before x ts) l
    → (u : TrackState) × (track_numbered u.number us ≡ Some u) × Carries (take x u.cells) l
before_found x us [] l a h = absurd h
before_found x us (t ∷ ts) l a h = by (carries-append (take x t.cells) (cells_before x ts) l h) (λ k. before_found x us ts l a.1 k) where
  by : Carries (take x t.cells) l ⊎ Carries (cells_before x ts) l
      → (Carries (cells_before x ts) l → (u : TrackState) × (track_numbered u.number us ≡ Some u) × Carries (take x u.cells) l)
      → (u : TrackState) × (track_numbered u.number us ≡ Some u) × Carries (take x u.cells) l
  by (inl k) later = (t, a.0, k)
  by (inr k) later = later k

numbered_from : (z n : ℕ) (ts : List TrackState) (t : TrackState) (l : Link) (o : Option ℤ) → track_numbered n ts ≡ Some t → Shows z (drop z t.cells) l o → SeesFrom z ts l o
numbered_from z n [] t l o e h = absurd cc
numbered_from z n (u ∷ us) t l o e h = by (eqb u.number n) e (λ k. numbered_from z n us t l o k h) where
  by : (b : Bool) → cond b (Some u) (track_numbered n us) ≡ Some t → (track_numbered n us ≡ Some t → SeesFrom z us l o) → SeesFrom z (u ∷ us) l o
  by true k later = inl (subst (λ (v : TrackState). Shows z (drop z v.cells) l o) (sym (same_Some u t k)) h)
  by false k later = inr (later k)

-- a link in a list of which something is true
any_found : (P : Link → Type 0) (l : Link) (ls : List Link) → AllLinks P ls → AnySame l ls → (k : Link) × Same l k × P k
any_found P l [] a h = absurd h
any_found P l (k ∷ ks) a (inl s) = (k, s, a.0)
any_found P l (k ∷ ks) a (inr s) = any_found P l ks a.1 s

-- links that are split have a cell before the place and one from it on
abbrev OnBoth : ℕ → ℕ → List TrackState → Link → Type 0
OnBoth x z us l = Carries (cells_from z us) l × (list_any (same_link l) (links_in (cells_before x us)) ≡ true)

both_filter : (x z : ℕ) (us : List TrackState) (ls : List Link) → AllLinks (Carries (cells_from z us)) ls
    → AllLinks (OnBoth x z us) (filter (λ (l : Link). list_any (same_link l) (links_in (cells_before x us))) ls)
both_filter x z us [] a = tt
both_filter x z us (l ∷ ls) a = by (list_any (same_link l) (links_in (cells_before x us))) refl (both_filter x z us ls a.1) where
  test : Link → Bool
  test k = list_any (same_link k) (links_in (cells_before x us))

  by : (b : Bool) → list_any (same_link l) (links_in (cells_before x us)) ≡ b → AllLinks (OnBoth x z us) (filter test ls) → AllLinks (OnBoth x z us) (cond b (l ∷ filter test ls) (filter test ls))
  by true e later = ((a.0, e), later)
  by false e later = later

both_split : (x z : ℕ) (us : List TrackState) → AllLinks (OnBoth x z us) (split_links x z us)
both_split x z us =
    both_filter x z us (links_in (cells_from z us)) (all-links (Carries (cells_from z us)) (cells_from z us) (λ l c. c))

pub split-order : (x z : ℕ) (us : List TrackState) → InOrder (split_links x z us)
split-order x z us =
    filter-order (λ (l : Link). list_any (same_link l) (links_in (cells_before x us))) (links_in (cells_from z us)) (links-order (cells_from z us))

-- one link, before and after it was moved

link_true : (h n : ℕ) (l : Link) → is_link h n (Some l) ≡ true → (l.home ≡ h) × (l.number ≡ n)
link_true h n l e = by (eqb l.home h) (eqb l.number n) refl refl e where
  by : (a b : Bool) → eqb l.home h ≡ a → eqb l.number n ≡ b → (a && b) ≡ true → (l.home ≡ h) × (l.number ≡ n)
  by true true f g e = (eqb-true l.home h f, eqb-true l.number n g)
  by true false f g e = absurd cc
  by false b f g e = absurd cc

module _ (us : List TrackState) (ls : List Link) (order : InOrder ls) (each : AllLinks (MaySplit us) ls) (h top : ℕ) (tops : is_named us h ≡ true → next_link_at h us ≡ top) where
  abbrev new_of : Link → Link
  new_of k = record k { number = split_number us ls k }

  -- the next number of the home of a link
  top_of : (k : Link) → MaySplit us k → k.home ≡ h → next_link_at k.home us ≡ top
  top_of k may e = ap (λ (m : ℕ). next_link_at m us) e ∙ tops (ap (is_named us) (sym e) ∙ may.0)

  home_is : (k : Link) (m : ℕ) → k.home ≡ h → k.number ≡ m → list_any (same_link k) ls ≡ at_home ls h m
  home_is k m e f = ap (λ (n : ℕ). at_home ls n k.number) e ∙ ap (at_home ls h) f

  new_past : (k : Link) (m : ℕ) → MaySplit us k → m < top → is_link h m (Some (new_of k)) ≡ false
  new_past k m may lt = link-not h m (new_of k) (λ e f. omega (arith, number-past us ls order each k, f, top_of k may e, lt))

  old_link : (k : Link) (m : ℕ) → MaySplit us k → m < top → at_home ls h m ≡ false → is_link h m (moved_link us ls (Some k)) ≡ is_link h m (Some k)
  old_link k m may lt s = by (list_any (same_link k) ls) refl where
    by : (b : Bool) → list_any (same_link k) ls ≡ b → is_link h m (cond b (Some (new_of k)) (Some k)) ≡ is_link h m (Some k)
    by true q = new_past k m may lt ∙ sym (link-not h m k (λ e f. differ (sym s ∙ (sym (home_is k m e f) ∙ q))))
    by false q = refl

  gone_link : (k : Link) (m : ℕ) → MaySplit us k → m < top → at_home ls h m ≡ true → is_link h m (moved_link us ls (Some k)) ≡ false
  gone_link k m may lt s = by (list_any (same_link k) ls) refl where
    by : (b : Bool) → list_any (same_link k) ls ≡ b → is_link h m (cond b (Some (new_of k)) (Some k)) ≡ false
    by true q = new_past k m may lt
    by false q = link-not h m k (λ e f. differ (sym q ∙ (home_is k m e f ∙ s)))

  new_link : (k : Link) (m : ℕ) → MaySplit us k → m < top → at_home ls h m ≡ true
      → is_link h (top + rank (at_home ls h) m) (moved_link us ls (Some k)) ≡ is_link h m (Some k)
  new_link k m may lt s = by (list_any (same_link k) ls) refl where
    r : ℕ
    r = rank (at_home ls h) m

    number : k.home ≡ h → split_number us ls k ≡ top + rank (at_home ls h) k.number
    number e = omega (arith, number-is us ls order each k, top_of k may e, ap (λ (n : ℕ). rank (at_home ls n) k.number) e)

    split : list_any (same_link k) ls ≡ true → (c : Bool) → is_link h m (Some k) ≡ c → is_link h (top + r) (Some (new_of k)) ≡ c
    split q true f =
        let at = link_true h m k f in
        link-is h (top + r) (new_of k) at.0 (omega (arith, number at.0, ap (rank (at_home ls h)) at.1))
    split q false f = link-not h (top + r) (new_of k) never where
      never : k.home ≡ h → split_number us ls k ≡ top + r → ⊥
      never e n =
          let there : at_home ls h k.number ≡ true = sym (home_is k k.number e refl) ∙ q in
          let same : k.number ≡ m = rank-one (at_home ls h) k.number m there s (omega (arith, n, number e)) in
          differ (sym f ∙ link-is h m k e same)

    by : (b : Bool) → list_any (same_link k) ls ≡ b → is_link h (top + r) (cond b (Some (new_of k)) (Some k)) ≡ is_link h m (Some k)
    by true q = split q (is_link h m (Some k)) refl
    by false q =
        link-not h (top + r) k (λ e f. omega (arith, f, may.1, top_of k may e))
        ∙ sym (link-not h m k (λ e f. differ (sym q ∙ (home_is k m e f ∙ s))))

-- runs of moved cells

runs_same : (us : List TrackState) (ls : List Link) (h n j m : ℕ) (b : Bool) (cs : List Cell) → ((k : Link) → Carries cs k → is_link j m (moved_link us ls (Some k)) ≡ is_link h n (Some k))
    → runs_in j m b (map (moved_cell us ls) cs) ≡ runs_in h n b cs
runs_same us ls h n j m b [] f = refl
runs_same us ls h n j m b (c ∷ cs) f =
    ap (λ (q : Bool). begins b q + runs_in j m q (map (moved_cell us ls) cs)) (by c.link refl)
    ∙ ap (λ (r : ℕ). begins b (is_link h n c.link) + r) (runs_same us ls h n j m (is_link h n c.link) cs (λ k a. f k (inr a))) where
      by : (o : Option Link) → c.link ≡ o → is_link j m (moved_link us ls o) ≡ is_link h n o
      by None e = refl
      by (Some k) e = f k (inl e)

runs_gone : (us : List TrackState) (ls : List Link) (h n : ℕ) (b : Bool) (cs : List Cell) → ((k : Link) → Carries cs k → is_link h n (moved_link us ls (Some k)) ≡ false)
    → runs_in h n b (map (moved_cell us ls) cs) ≡ 0
runs_gone us ls h n b [] f = refl
runs_gone us ls h n b (c ∷ cs) f =
    omega (arith, ap (λ (q : Bool). begins b q + runs_in h n q (map (moved_cell us ls) cs)) (by c.link refl), runs_gone us ls h n false cs (λ k a. f k (inr a))) where
      by : (o : Option Link) → c.link ≡ o → is_link h n (moved_link us ls o) ≡ false
      by None e = refl
      by (Some k) e = f k (inl e)

split_none : (z : ℕ) (us : List TrackState) (ls : List Link) (n : ℕ) (ts : List TrackState) → track_numbered n ts ≡ None → track_numbered n (map (split_track z us ls) ts) ≡ None
split_none z us ls n [] e = refl
split_none z us ls n (t ∷ ts) e = by (eqb t.number n) e (λ k. split_none z us ls n ts k) where
  by : (b : Bool) → cond b (Some t) (track_numbered n ts) ≡ None → (track_numbered n ts ≡ None → track_numbered n (map (split_track z us ls) ts) ≡ None)
      → cond b (Some (split_track z us ls t)) (track_numbered n (map (split_track z us ls) ts)) ≡ None
  by true k later = absurd cc
  by false k later = later k

split_some : (z : ℕ) (us : List TrackState) (ls : List Link) (n : ℕ) (ts : List TrackState) (u : TrackState) → track_numbered n ts ≡ Some u
    → track_numbered n (map (split_track z us ls) ts) ≡ Some (split_track z us ls u)
split_some z us ls n [] u e = absurd cc
split_some z us ls n (t ∷ ts) u e = by (eqb t.number n) e (λ k. split_some z us ls n ts u k) where
  by : (b : Bool) → cond b (Some t) (track_numbered n ts) ≡ Some u → (track_numbered n ts ≡ Some u → track_numbered n (map (split_track z us ls) ts) ≡ Some (split_track z us ls u))
      → cond b (Some (split_track z us ls t)) (track_numbered n (map (split_track z us ls) ts)) ≡ Some (split_track z us ls u)
  by true k later = ap (λ (v : TrackState). Some (split_track z us ls v)) (same_Some t u k)
  by false k later = later k

-- the shift

module _ (all named us : List TrackState) (x y z : ℕ) (Put : Link → Option ℤ → Type 0) (room : IsNumbered all) (names : AreNamed all named) (g : Below all) (each : Each (Shifts x y z Put) named us) (high : (l : Link) (a : Option ℤ) → SeesFrom z us l a → MaySplit us l) where
  abbrev ls : List Link
  ls = split_links x z us

  abbrev vs : List TrackState
  vs = map (split_track z us ls) us

  abbrev high_of : ℕ → ℕ → Option TrackState → ℕ
  high_of h n None = 0
  high_of h n (Some u) = runs_in h n false (drop z u.cells)

  abbrev moved_of : ℕ → ℕ → Option TrackState → ℕ
  moved_of h n None = 0
  moved_of h n (Some u) = runs_in h n false (map (moved_cell us ls) (drop z u.cells))

  -- the runs of a track that stay, those that are moved, and those once they were moved
  abbrev low : ℕ → ℕ → TrackState → ℕ
  low h n t = cond (is_named named t.number) (runs_in h n false (take x t.cells)) (runs_in h n false t.cells)

  abbrev raised : ℕ → ℕ → TrackState → ℕ
  raised h n t = high_of h n (track_numbered t.number us)

  abbrev moved : ℕ → ℕ → TrackState → ℕ
  moved h n t = moved_of h n (track_numbered t.number us)

  -- a track of the room is one of those that are shifted, or none of them

  abbrev Paired : TrackState → Type 0
  Paired t =
      ((track_numbered t.number us ≡ None) × (is_named named t.number ≡ false))
      ⊎ ((u : TrackState) × (track_numbered t.number us ≡ Some u) × (is_named named t.number ≡ true) × (u.number ≡ t.number) × Shifts x y z Put t u)

  same_named : (n : ℕ) → is_named us n ≡ is_named named n
  same_named n = named-each (Shifts x y z Put) named us n each

  not_named : (n : ℕ) → track_numbered n us ≡ None → is_named named n ≡ false
  not_named n e = by (is_named named n) refl where
    some : (o : Option TrackState) (u : TrackState) → o ≡ None → o ≡ Some u → ⊥
    some o u e f = Prim.grind (arith, e, f)

    by : (b : Bool) → is_named named n ≡ b → b ≡ false
    by true f = let r = named-found n us (same_named n ∙ f) in absurd (some (track_numbered n us) r.0 e r.1)
    by false f = refl

  pair : (t : TrackState) → track_numbered t.number all ≡ Some t → Paired t
  pair t e = by (track_numbered t.number us) refl where
    by : (o : Option TrackState) → track_numbered t.number us ≡ o → Paired t
    by None f = inl (f, not_named t.number f)
    by (Some u) f =
        let r = found-of (Shifts x y z Put) t.number named us u each f in
        let same : r.0 ≡ t = same_Some r.0 t (sym (among-numbered all named t.number r.0 names.among r.1) ∙ e) in
        inr (u, f, found-named t.number named r.0 r.1, is-numbered t.number us u f, subst (λ (s : TrackState). Shifts x y z Put s u) same r.2)

  -- a track after the shift, and before it

  whole_point : (t : TrackState) → track_numbered t.number all ≡ Some t → Point (λ h n t. runs_in h n false (as_left vs t).cells) (λ h n t. low h n t + moved h n t) t
  whole_point t e = by (pair t e) where
    by : Paired t → Point (λ h n t. runs_in h n false (as_left vs t).cells) (λ h n t. low h n t + moved h n t) t
    by (inl p) = ([], omega arith, most) where
      left : as_left vs t ≡ t
      left = ap (λ (o : Option TrackState). unwrap_or o t) (split_none z us ls t.number us p.0)

      most : (h n : ℕ) → runs_in h n false (as_left vs t).cells ≤ low h n t + moved h n t + count h n []
      most h n =
          omega (
            arith,
            ap (λ (v : TrackState). runs_in h n false v.cells) left,
            ap (λ (b : Bool). cond b (runs_in h n false (take x t.cells)) (runs_in h n false t.cells)) p.1,
          )
    by (inr p) = (p.4.put.0, p.4.put.1, most) where
      left : as_left vs t ≡ split_track z us ls p.0
      left = ap (λ (o : Option TrackState). unwrap_or o t) (split_some z us ls t.number us p.0 p.1)

      most : (h n : ℕ) → runs_in h n false (as_left vs t).cells ≤ low h n t + moved h n t + count h n p.4.put.0
      most h n =
          omega (
            arith,
            ap (λ (v : TrackState). runs_in h n false v.cells) left,
            runs-append h n false (take z p.0.cells) (map (moved_cell us ls) (drop z p.0.cells)),
            p.4.put.2 h n,
            ap (λ (b : Bool). cond b (runs_in h n false (take x t.cells)) (runs_in h n false t.cells)) p.2,
            ap (moved_of h n) p.1,
          )

  part_point : (t : TrackState) → track_numbered t.number all ≡ Some t → Point (λ h n t. low h n t + raised h n t) (λ h n t. runs_in h n false t.cells) t
  part_point t e = by (pair t e) where
    by : Paired t → Point (λ h n t. low h n t + raised h n t) (λ h n t. runs_in h n false t.cells) t
    by (inl p) = ([], omega arith, most) where
      most : (h n : ℕ) → low h n t + raised h n t ≤ runs_in h n false t.cells + count h n []
      most h n =
          omega (
            arith,
            ap (λ (b : Bool). cond b (runs_in h n false (take x t.cells)) (runs_in h n false t.cells)) p.1,
            ap (high_of h n) p.0,
          )
    by (inr p) = (p.4.parts.0, p.4.parts.1, most) where
      most : (h n : ℕ) → low h n t + raised h n t ≤ runs_in h n false t.cells + count h n p.4.parts.0
      most h n =
          omega (
            arith,
            ap (λ (b : Bool). cond b (runs_in h n false (take x t.cells)) (runs_in h n false t.cells)) p.2,
            ap (high_of h n) p.1,
            p.4.parts.2 h n,
          )

  mays : AllLinks (MaySplit us) (split_links x z us)
  mays = may-split x z us high

  -- a split link has runs on both sides

  apart : AreAmong us us
  apart = among_self 0 us (ascend_each (Shifts x y z Put) 0 named us each names.ascend)

  -- the track before the shift
  source : (u : TrackState) → track_numbered u.number us ≡ Some u → (s : TrackState) × (track_numbered u.number all ≡ Some s) × (track_numbered u.number named ≡ Some s) × Shifts x y z Put s u
  source u e =
      let r = found-of (Shifts x y z Put) u.number named us u each e in
      (r.0, among-numbered all named u.number r.0 names.among r.1, r.1, r.2)

  high_some : (h n : ℕ) (l : Link) → l.home ≡ h → l.number ≡ n → Carries (cells_from z us) l → 1 ≤ total (raised h n) all
  high_some h n l e f c =
      let r = from_found z us us l apart c in
      let s = source r.0 r.1 in
      let there : track_numbered s.0.number us ≡ Some r.0 = ap (λ (m : ℕ). track_numbered m us) (is-numbered r.0.number all s.0 s.1) ∙ r.1 in
      omega (arith, total_some (raised h n) all r.0.number s.0 s.1, ap (high_of h n) there, runs-some h n (drop z r.0.cells) l e f r.2)

  low_some : (h n : ℕ) (l : Link) → l.home ≡ h → l.number ≡ n → Carries (cells_before x us) l → 1 ≤ total (low h n) all
  low_some h n l e f c =
      let r = before_found x us us l apart c in
      let s = source r.0 r.1 in
      let number : s.0.number ≡ r.0.number = is-numbered r.0.number all s.0 s.1 in
      let there : is_named named s.0.number ≡ true = ap (is_named named) number ∙ found-named r.0.number named s.0 s.2 in
      let shown = carries-shows 0 (take x r.0.cells) l r.2 in
      let stays : Carries (take x s.0.cells) l = shows-carries 0 (take x s.0.cells) l shown.0 (s.3.forth l shown.0 shown.1) in
      omega (
        arith,
        total_some (low h n) all r.0.number s.0 s.1,
        ap (λ (b : Bool). cond b (runs_in h n false (take x s.0.cells)) (runs_in h n false s.0.cells)) there,
        runs-some h n (take x s.0.cells) l e f stays,
      )

  both_some : (h n : ℕ) → at_home ls h n ≡ true → (1 ≤ total (low h n) all) × (1 ≤ total (raised h n) all) × (is_named us h ≡ true)
  both_some h n e =
      let k : Link = record { home = h; number = n; tracks = 0 } in
      let r = any_found (OnBoth x z us) k ls (both_split x z us) (any-is k ls e) in
      let q = any_found (Carries (cells_before x us)) r.0 (links_in (cells_before x us)) (all-links (Carries (cells_before x us)) (cells_before x us) (λ l c. c)) (any-is r.0 (links_in (cells_before x us)) r.2.1) in
      let given = any_found (MaySplit us) k ls mays (any-is k ls e) in (
        low_some h n q.0 (sym (r.1.0 ∙ q.1.0)) (sym (r.1.1 ∙ q.1.1)) q.2,
        high_some h n r.0 (sym r.1.0) (sym r.1.1) r.2.0,
        ap (is_named us) given.1.0 ∙ given.2.0,
      )

  -- no run stays of a number that was not given away

  low_none : (h n : ℕ) (ts : List TrackState) → next_link_at h all ≤ n → ((k : Link) (a : Option ℤ) → Sees ts k a → Sees all k a) → total (low h n) ts ≡ 0
  low_none h n [] le sub = refl
  low_none h n (t ∷ ts) le sub = omega (arith, by (is_named named t.number), low_none h n ts le (λ k a s. sub k a (inr s))) where
    by : (b : Bool) → cond b (runs_in h n false (take x t.cells)) (runs_in h n false t.cells) ≡ 0
    by true = runs-none h n false (take x t.cells) (λ k c e f. never k (carries-shows 0 (take x t.cells) k c) e f) where
      never : (k : Link) → (o : Option ℤ) × Shows 0 (take x t.cells) k o → k.home ≡ h → k.number ≡ n → ⊥
      never k r e f = past-none all h n k r.0 g le (sub k r.0 (inl (shows-take x 0 t.cells k r.0 r.1))) e f
    by false = runs-none h n false t.cells (λ k c e f. never k (carries-shows 0 t.cells k c) e f) where
      never : (k : Link) → (o : Option ℤ) × Shows 0 t.cells k o → k.home ≡ h → k.number ≡ n → ⊥
      never k r e f = past-none all h n k r.0 g le (sub k r.0 (inl r.1)) e f

  -- each moved cell's link was given away
  fine : (n : ℕ) (u : TrackState) (k : Link) → track_numbered n us ≡ Some u → Carries (drop z u.cells) k → MaySplit us k
  fine n u k e c =
      let r = carries-shows z (drop z u.cells) k c in
      high k r.0 (numbered_from z n us u k r.0 e r.1)

  moved_le : (h n j m : ℕ) → ((k : Link) → MaySplit us k → is_link j m (moved_link us ls (Some k)) ≡ is_link h n (Some k)) → total (moved j m) all ≤ total (raised h n) all
  moved_le h n j m f = total_le (moved j m) (raised h n) all (λ t. by t (track_numbered t.number us) refl) where
    by : (t : TrackState) (o : Option TrackState) → track_numbered t.number us ≡ o → moved_of j m o ≤ high_of h n o
    by t None e = omega arith
    by t (Some u) e = omega (arith, runs_same us ls h n j m false (drop z u.cells) (λ k c. f k (fine t.number u k e c)))

  moved_none : (h n : ℕ) → ((k : Link) → MaySplit us k → is_link h n (moved_link us ls (Some k)) ≡ false) → total (moved h n) all ≤ 0
  moved_none h n f = omega (arith, total_le (moved h n) (λ t. 0) all (λ t. by t (track_numbered t.number us) refl), zeros all) where
    zeros : (ts : List TrackState) → total (λ t. 0) ts ≡ 0
    zeros [] = refl
    zeros (t ∷ ts) = omega (arith, zeros ts)

    by : (t : TrackState) (o : Option TrackState) → track_numbered t.number us ≡ o → moved_of h n o ≤ 0
    by t None e = omega arith
    by t (Some u) e = omega (arith, runs_gone us ls h n false (drop z u.cells) (λ k c. f k (fine t.number u k e c)))

  -- the numbers of one home

  abbrev before : ℕ → ℕ → ℕ
  before h n = total (low h n) all + total (raised h n) all

  abbrev after : ℕ → ℕ → ℕ
  after h n = total (low h n) all + total (moved h n) all

  order : InOrder ls
  order = split-order x z us

  home_step : (h top : ℕ) → next_link_at h all ≡ top → given (after h) (top + rank (at_home ls h) top) ≤ given (before h) top
  home_step h top next = given-split (before h) (after h) (at_home ls h) top old new where
    tops : is_named us h ≡ true → next_link_at h us ≡ top
    tops e = next-shifts x y z Put named us h each ∙ (next-among all named h names.among (sym (same_named h) ∙ e) ∙ next)

    old : (m : ℕ) → m < top → at_home ls h m ≡ false → after h m ≤ before h m
    old m lt s = omega (arith, moved_le h m h m (λ k may. old_link us ls order mays h top tops k m may lt s))

    new : (m : ℕ) → m < top → at_home ls h m ≡ true → max 1 (after h m) + max 1 (after h (top + rank (at_home ls h) m)) ≤ before h m
    new m lt s =
        let both = both_some h m s in
        let r : ℕ = rank (at_home ls h) m in
        omega (
          arith,
          both.0,
          both.1,
          moved_none h m (λ k may. gone_link us ls order mays h top tops k m may lt s),
          moved_le h m h (top + r) (λ k may. new_link us ls order mays h top tops k m may lt s),
          low_none h (top + r) all (omega (arith, next)) (λ k a t. t),
        )

  track_step : (t : TrackState) → track_numbered t.number all ≡ Some t → given (after t.number) (as_left vs t).next_link ≤ given (before t.number) t.next_link
  track_step t e = by (pair t e) where
    next : next_link_at t.number all ≡ t.next_link
    next = next-numbered t.number all t e

    step : given (after t.number) (t.next_link + rank (at_home ls t.number) t.next_link) ≤ given (before t.number) t.next_link
    step = home_step t.number t.next_link next

    by : Paired t → given (after t.number) (as_left vs t).next_link ≤ given (before t.number) t.next_link
    by (inl p) =
        let left : as_left vs t ≡ t = ap (λ (o : Option TrackState). unwrap_or o t) (split_none z us ls t.number us p.0) in
        omega (
          arith,
          step,
          ap (λ (v : TrackState). given (after t.number) v.next_link) left,
          given-up (after t.number) t.next_link (rank (at_home ls t.number) t.next_link),
        )
    by (inr p) =
        let left : as_left vs t ≡ split_track z us ls p.0 = ap (λ (o : Option TrackState). unwrap_or o t) (split_some z us ls t.number us p.0 p.1) in
        let there : next_link_at t.number us ≡ t.next_link =
        next-shifts x y z Put named us t.number each ∙ (next-among all named t.number names.among p.2 ∙ next) in
        let up : p.0.next_link + count_at_home ls p.0.number ≡ t.next_link + rank (at_home ls t.number) t.next_link =
        omega (
          arith,
          p.4.next,
          ap (count_at_home ls) p.3,
          count-is us ls order mays t.number,
          ap (rank (at_home ls t.number)) there,
        ) in
        omega (arith, step, ap (λ (v : TrackState). given (after t.number) v.next_link) left, ap (given (after t.number)) up)

  weigh_step : (ts : List TrackState) → AreAmong all ts → weight_of after (with_tracks ts vs) ≤ weight_of before ts
  weigh_step [] a = omega arith
  weigh_step (t ∷ ts) a =
      omega (
        arith,
        track_step t a.0,
        ap (λ (h : ℕ). given (after h) (as_left vs t).next_link) (left-number vs t),
        weigh_step ts a.1,
      )

  pub shift-little : weight (with_tracks all (links_split x z us)) ≤ weight all + most_added
  shift-little =
      let left : List TrackState = with_tracks all vs in
      let a = gather all (λ h n t. runs_in h n false (as_left vs t).cells) (λ h n t. low h n t + moved h n t) whole_point all room.apart in
      let b = gather all (λ h n t. low h n t + raised h n t) (λ h n t. runs_in h n false t.cells) part_point all room.apart in
      let more : (h n : ℕ) → runs_on h n left ≤ after h n + count h n a.0 =
      λ h n. omega (arith, total_left h n vs all, a.2 h n, total_add (low h n) (moved h n) all) in
      let less : (h n : ℕ) → before h n ≤ runs_on h n all + count h n b.0 =
      λ h n. omega (arith, total_runs h n all, b.2 h n, total_add (low h n) (raised h n) all) in
      omega (
        arith,
        weight-more after (λ (h n : ℕ). runs_on h n left) left a.0 (ascend_left vs 0 all room.ascend) more,
        weigh_step all room.apart,
        weight-more (λ (h n : ℕ). runs_on h n all) before all b.0 room.ascend less,
        a.1,
        b.1,
        tracks-few all room,
      )
