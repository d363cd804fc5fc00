-- What a shift does to each track, by its links and offsets.
use Rattle.std.proofs.Common.{◌≡◌, ℕ, zero, suc, ◌+◌, ◌-◌, ◌≤◌, ◌⊎◌, inl, inr, ℤ, Bool, true, false, cond, eqb, ltb, min, List, [], ◌∷◌, ◌++◌, take, drop, length, Option, Some, refl, sym, ap, ◌∙◌, arith, subst}
use Rattle.std.proofs.lemmas.Bool.{eqb-true, ltb-false, ltb-true}
use Rattle.std.proofs.lemmas.List.{drop_all, take_all}
use Rattle.std.proofs.lemmas.Option.{same_Some}
use Rattle.frame_meaning.specs.declared.cells.Cell.{Cell}
use Rattle.frame_meaning.specs.declared.cells.Link.{Link}
use Rattle.frame_meaning.specs.Render.{cell_at}
use Rattle.composables.specs.declared.items.ItemView.{ItemView}
use Rattle.composables.specs.Good.{AllUnlinked}
use Rattle.composables.specs.Items.{cells_of}
use Rattle.composables.specs.Joined.{frames_in}
use Rattle.composables.specs.OwnTracks.{track_numbered}
use Rattle.composables.specs.TrackState.{TrackState}
use Rattle.composables.specs.Views.{gap_views}
use Rattle.edit_splice.specs.Padding.{padded_track}
use Rattle.edit_splice.specs.Shifts.{shifted, shifted_along, shifted_track}
use Rattle.edit_splice.specs.Splicing.{spliced_track}
use Rattle.edit_splice.proofs.Padding.{frames-gap}
use Rattle.link_groups.proofs.ShiftLinks.{gap-bare}
use Rattle.link_laws.specs.Rooms.{AreAmong}
use Rattle.link_laws.specs.Weights.{runs_in}
use Rattle.link_laws.proofs.Runs.{count, runs-alike, runs-append, runs-bare, runs-cut, runs-one, runs-take-left, runs-take-more}
use Rattle.link_laws.proofs.LinkLists.{Carries, carries-shows, shows-carries}
use Rattle.link_laws.proofs.Parting.{IsParted, behind-alike, behind_of, drop-least, front-alike, front_of, is-parted, stays-past}
use Rattle.link_laws.proofs.Shifting.{Shifts}
use Rattle.link_laws.proofs.Sights.{Alike, Shows, alike-length, alike-sym, rebased, shows-alike, shows-append, shows-at, shows-left, shows-moved, shows-none, shows-take}
use Rattle.link_laws.proofs.Splices.{dark-runs, padded-runs}
use Rattle.link_laws.proofs.Tied.{Each}

-- a splice within a track

-- what is put in has few runs
abbrev pub HasFew : List ItemView → Type 0
HasFew views = (ws : List (Option Link)) × (length ws ≤ 4) × ((h n : ℕ) → runs_in h n false (cells_of views) ≤ count h n ws)

pub few-none : (views : List ItemView) → AllUnlinked views → HasFew views
few-none views bare = ([], omega arith, λ h n. omega (arith, runs-bare h n views bare))

pub few-one : (v : ItemView) → HasFew (v ∷ [])
few-one v = (v.link ∷ [], omega arith, λ h n. omega (arith, runs-one h n v))

pub shifts-in : (keep : Bool) (t : TrackState) (x y past z : ℕ) (views : List ItemView) (Put : Link → Option ℤ → Type 0) → x ≤ length t.cells → drop past t.cells ≡ drop y t.cells
    → x + frames_in views ≡ z → ((l : Link) (o : Option ℤ) → Shows x (cells_of views) l o → Put l o) → x ≤ past → HasFew views → Shifts x y z Put t (spliced_track keep t x past views)
shifts-in keep t x y past z views Put le same sum put order few = record {
  low = low;
  high = high;
  back = back;
  forth = forth;
  next = refl;
  put = (few.0, few.1, runs_low);
  parts = ((cell_at t.cells past).link ∷ [], omega arith, runs_parts);
} where
  parts : IsParted keep t x past z views
  parts = is-parted keep t x past z views le sum

  low : (l : Link) (o : Option ℤ) → Shows 0 (take z (spliced_track keep t x past views).cells) l o → Shows 0 (take x t.cells) l o ⊎ Put l o
  low l o h = by (shows-append 0 (front_of keep t x past) (cells_of views) l o (subst (λ (cs : List Cell). Shows 0 cs l o) parts.through h)) where
    by : Shows 0 (front_of keep t x past) l o ⊎ Shows (0 + length (front_of keep t x past)) (cells_of views) l o → Shows 0 (take x t.cells) l o ⊎ Put l o
    by (inl a) = inl (shows-alike 0 (front_of keep t x past) (take x t.cells) l o (front-alike keep t x past) a)
    by (inr b) = inr (put l o (shows-at (0 + length (front_of keep t x past)) x (cells_of views) l o (omega (arith, parts.start)) b))

  high : (l : Link) (o : Option ℤ) → Shows z (drop z (spliced_track keep t x past views).cells) l o → (b : Option ℤ) × Shows y (drop y t.cells) l b × (o ≡ rebased y z b)
  high l o h =
      shows-moved y z (drop y t.cells) l o
      (subst (λ (cs : List Cell). Shows z cs l o) same
      (shows-alike z (behind_of keep t x past views) (drop past t.cells) l o (behind-alike keep t x past views) (subst (λ (cs : List Cell). Shows z cs l o) parts.behind h)))

  back : (l : Link) (o : Option ℤ) → Shows 0 (take x t.cells) l o → Shows 0 (take x (spliced_track keep t x past views).cells) l o
  back l o h =
      subst (λ (cs : List Cell). Shows 0 cs l o) (sym parts.before)
      (shows-alike 0 (take x t.cells) (front_of keep t x past) l o (alike-sym (front_of keep t x past) (take x t.cells) (front-alike keep t x past)) h)

  forth : (l : Link) (o : Option ℤ) → Shows 0 (take x (spliced_track keep t x past views).cells) l o → Shows 0 (take x t.cells) l o
  forth l o h =
      shows-alike 0 (front_of keep t x past) (take x t.cells) l o (front-alike keep t x past) (subst (λ (cs : List Cell). Shows 0 cs l o) parts.before h)

  runs_low : (h n : ℕ) → runs_in h n false (take z (spliced_track keep t x past views).cells) ≤ runs_in h n false (take x t.cells) + count h n few.0
  runs_low h n =
      omega (
        arith,
        ap (runs_in h n false) parts.through,
        runs-append h n false (front_of keep t x past) (cells_of views),
        runs-alike h n false (front_of keep t x past) (take x t.cells) (front-alike keep t x past),
        few.2 h n,
      )

  runs_parts : (h n : ℕ) → runs_in h n false (take x t.cells) + runs_in h n false (drop z (spliced_track keep t x past views).cells)
      ≤ runs_in h n false t.cells + count h n ((cell_at t.cells past).link ∷ [])
  runs_parts h n =
      omega (
        arith,
        ap (runs_in h n false) parts.behind,
        runs-alike h n false (behind_of keep t x past views) (drop past t.cells) (behind-alike keep t x past views),
        runs-cut h n x past false t.cells order,
      )

-- a track that does not have the place

shifts_past : (keep : Bool) (t : TrackState) (x y z k past : ℕ) (Put : Link → Option ℤ → Type 0) → length t.cells ≤ x → x ≤ z → k ≡ length t.cells → length t.cells ≤ past
    → Shifts x y z Put t (spliced_track keep t k past [])
shifts_past keep t x y z k past Put short le is beyond = record {
  low = low;
  high = high;
  back = back;
  forth = forth;
  next = refl;
  put = ([], omega arith, runs_low);
  parts = ([], omega arith, runs_parts);
} where
  same : Alike (spliced_track keep t k past []).cells t.cells
  same = stays-past keep t k past is beyond

  long : length (spliced_track keep t k past []).cells ≡ length t.cells
  long = alike-length (spliced_track keep t k past []).cells t.cells same

  low : (l : Link) (o : Option ℤ) → Shows 0 (take z (spliced_track keep t k past []).cells) l o → Shows 0 (take x t.cells) l o ⊎ Put l o
  low l o h =
      let shown = shows-take z 0 (spliced_track keep t k past []).cells l o h in
      inl (subst (λ (cs : List Cell). Shows 0 cs l o) (sym (take_all x t.cells short)) (shows-alike 0 (spliced_track keep t k past []).cells t.cells l o same shown))

  high : (l : Link) (o : Option ℤ) → Shows z (drop z (spliced_track keep t k past []).cells) l o → (b : Option ℤ) × Shows y (drop y t.cells) l b × (o ≡ rebased y z b)
  high l o h =
      absurd (subst (λ (cs : List Cell). Shows z cs l o) (drop_all z (spliced_track keep t k past []).cells (omega (arith, long, short, le))) h)

  back : (l : Link) (o : Option ℤ) → Shows 0 (take x t.cells) l o → Shows 0 (take x (spliced_track keep t k past []).cells) l o
  back l o h =
      let shown = shows-alike 0 t.cells (spliced_track keep t k past []).cells l o (alike-sym (spliced_track keep t k past []).cells t.cells same) (shows-take x 0 t.cells l o h) in
      subst (λ (cs : List Cell). Shows 0 cs l o) (sym (take_all x (spliced_track keep t k past []).cells (omega (arith, long, short)))) shown

  forth : (l : Link) (o : Option ℤ) → Shows 0 (take x (spliced_track keep t k past []).cells) l o → Shows 0 (take x t.cells) l o
  forth l o h =
      let shown = subst (λ (cs : List Cell). Shows 0 cs l o) (take_all x (spliced_track keep t k past []).cells (omega (arith, long, short))) h in
      subst (λ (cs : List Cell). Shows 0 cs l o) (sym (take_all x t.cells short)) (shows-alike 0 (spliced_track keep t k past []).cells t.cells l o same shown)

  runs_low : (h n : ℕ) → runs_in h n false (take z (spliced_track keep t k past []).cells) ≤ runs_in h n false (take x t.cells) + count h n []
  runs_low h n =
      omega (
        arith,
        ap (runs_in h n false) (take_all z (spliced_track keep t k past []).cells (omega (arith, long, short, le))),
        ap (runs_in h n false) (take_all x t.cells short),
        runs-alike h n false (spliced_track keep t k past []).cells t.cells same,
      )

  runs_parts : (h n : ℕ) → runs_in h n false (take x t.cells) + runs_in h n false (drop z (spliced_track keep t k past []).cells) ≤ runs_in h n false t.cells + count h n []
  runs_parts h n =
      let none : runs_in h n false (drop z (spliced_track keep t k past []).cells) ≡ 0 = ap (runs_in h n false) (drop_all z (spliced_track keep t k past []).cells (omega (arith, long, short, le))) in
      omega (arith, none, ap (runs_in h n false) (take_all x t.cells short))

shifts_along : (keep : Bool) (t : TrackState) (x y n : ℕ) (Put : Link → Option ℤ → Type 0) → x ≤ y → Shifts x y (x + n) Put t (shifted_along keep t x y n)
shifts_along keep t x y n Put le = by (ltb x (length t.cells)) refl where
  by : (b : Bool) → ltb x (length t.cells) ≡ b → Shifts x y (x + n) Put t (spliced_track keep t (min x (length t.cells)) (min y (length t.cells)) (cond b (gap_views n) []))
  by true e =
      let inside = ltb-true x (length t.cells) e in
      let at : x ≡ min x (length t.cells) = omega (arith, inside) in
      subst (λ (k : ℕ). Shifts x y (x + n) Put t (spliced_track keep t k (min y (length t.cells)) (gap_views n))) at
      (shifts-in keep t x y (min y (length t.cells)) (x + n) (gap_views n) Put (omega (arith, inside)) (drop-least y t.cells) (omega (arith, frames-gap n))
      (λ l o h. absurd (shows-none x (gap_views n) l o (gap-bare n) h)) (omega (arith, inside, le)) (few-none (gap_views n) (gap-bare n)))
  by false e =
      let past = ltb-false x (length t.cells) e in
      shifts_past keep t x y (x + n) (min x (length t.cells)) (min y (length t.cells)) Put (omega (arith, past)) (omega arith) (omega (arith, past)) (omega (arith, past, le))

-- all named tracks

-- the own track has the place
abbrev pub HasPlace : ℕ → ℕ → List TrackState → Type 0
HasPlace own x [] = Unit {0}
HasPlace own x (t ∷ ts) = (t.number ≡ own → x ≤ length t.cells) × HasPlace own x ts

pub shifts-one : (keep : Bool) (own x y : ℕ) (views : List ItemView) (Put : Link → Option ℤ → Type 0) (t : TrackState) → x ≤ y → (t.number ≡ own → x ≤ length t.cells)
    → ((l : Link) (o : Option ℤ) → Shows x (cells_of views) l o → Put l o) → HasFew views → Shifts x y (x + frames_in views) Put t (shifted_track keep own x y views t)
shifts-one keep own x y views Put t le has put few = by (eqb t.number own) refl where
  by : (b : Bool) → eqb t.number own ≡ b → Shifts x y (x + frames_in views) Put t (cond b (spliced_track keep t x y views) (shifted_along keep t x y (frames_in views)))
  by true e = shifts-in keep t x y y (x + frames_in views) views Put (has (eqb-true t.number own e)) refl refl put le few
  by false e = shifts_along keep t x y (frames_in views) Put le

pub shifted-number : (keep : Bool) (own x y : ℕ) (views : List ItemView) (t : TrackState) → (shifted_track keep own x y views t).number ≡ t.number
shifted-number keep own x y views t = by (eqb t.number own) where
  by : (b : Bool) → (cond b (spliced_track keep t x y views) (shifted_along keep t x y (frames_in views))).number ≡ t.number
  by true = refl
  by false = refl

pub shifts-each : (keep : Bool) (own x y : ℕ) (views : List ItemView) (Put : Link → Option ℤ → Type 0) (ts : List TrackState) → x ≤ y → HasPlace own x ts
    → ((l : Link) (o : Option ℤ) → Shows x (cells_of views) l o → Put l o) → HasFew views → Each (Shifts x y (x + frames_in views) Put) ts (shifted keep own x y views ts)
shifts-each keep own x y views Put [] le has put few = tt
shifts-each keep own x y views Put (t ∷ ts) le has put few =
    (shifted-number keep own x y views t, shifts-one keep own x y views Put t le has.0 put few, shifts-each keep own x y views Put ts le has.1 put few)

pub has-place : (all : List TrackState) (own x : ℕ) (ts : List TrackState) (t : TrackState) → AreAmong all ts → track_numbered own all ≡ Some t → x ≤ length t.cells → HasPlace own x ts
has-place all own x [] t a e le = tt
has-place all own x (u ∷ us) t a e le = (one, has-place all own x us t a.1 e le) where
  one : u.number ≡ own → x ≤ length u.cells
  one n =
      let same : u ≡ t = same_Some u t (sym a.0 ∙ (ap (λ (m : ℕ). track_numbered m all) n ∙ e)) in
      subst (λ (v : TrackState). x ≤ length v.cells) (sym same) le

-- a track that was made longer by dark frames

take_more : (n p : ℕ) (cs ds : List Cell) (l : Link) (o : Option ℤ) → Shows p (take n (cs ++ ds)) l o → Shows p (take n cs) l o ⊎ Carries ds l
take_more zero p cs ds l o h = absurd h
take_more (suc n) p [] ds l o h = inr (shows-carries p ds l o (shows-take (suc n) p ds l o h))
take_more (suc n) p (c ∷ cs) ds l o (inl h) = inl (inl h)
take_more (suc n) p (c ∷ cs) ds l o (inr h) = by (take_more n (p + 1) cs ds l o h) where
  by : Shows (p + 1) (take n cs) l o ⊎ Carries ds l → Shows p (c ∷ take n cs) l o ⊎ Carries ds l
  by (inl a) = inl (inr a)
  by (inr b) = inr b

carries_drop : (n : ℕ) (ds : List Cell) (l : Link) → Carries (drop n ds) l → Carries ds l
carries_drop zero ds l h = h
carries_drop (suc n) [] l h = h
carries_drop (suc n) (d ∷ ds) l h = inr (carries_drop n ds l h)

drop_more : (n p : ℕ) (cs ds : List Cell) (l : Link) (o : Option ℤ) → Shows p (drop n (cs ++ ds)) l o → Shows p (drop n cs) l o ⊎ Carries ds l
drop_more zero p cs ds l o h = by (shows-append p cs ds l o h) where
  by : Shows p cs l o ⊎ Shows (p + length cs) ds l o → Shows p cs l o ⊎ Carries ds l
  by (inl a) = inl a
  by (inr b) = inr (shows-carries (p + length cs) ds l o b)
drop_more (suc n) p [] ds l o h = inr (carries_drop (suc n) ds l (shows-carries p (drop (suc n) ds) l o h))
drop_more (suc n) p (c ∷ cs) ds l o h = drop_more n p cs ds l o h

take_left : (n p : ℕ) (cs ds : List Cell) (l : Link) (o : Option ℤ) → Shows p (take n cs) l o → Shows p (take n (cs ++ ds)) l o
take_left zero p cs ds l o h = absurd h
take_left (suc n) p [] ds l o h = absurd h
take_left (suc n) p (c ∷ cs) ds l o (inl h) = inl h
take_left (suc n) p (c ∷ cs) ds l o (inr h) = inr (take_left n (p + 1) cs ds l o h)

drop_left : (n p : ℕ) (cs ds : List Cell) (l : Link) (o : Option ℤ) → Shows p (drop n cs) l o → Shows p (drop n (cs ++ ds)) l o
drop_left zero p cs ds l o h = shows-left p cs ds l o h
drop_left (suc n) p [] ds l o h = absurd h
drop_left (suc n) p (c ∷ cs) ds l o h = drop_left n p cs ds l o h

no_dark : (n : ℕ) (l : Link) → Carries (cells_of (gap_views n)) l → ⊥
no_dark n l h = let r = carries-shows 0 (cells_of (gap_views n)) l h in shows-none 0 (gap_views n) l r.0 (gap-bare n) r.1

pub shifts-padded : (t u : TrackState) (at x y z : ℕ) (Put : Link → Option ℤ → Type 0) → Shifts x y z Put (padded_track t at) u → Shifts x y z Put t u
shifts-padded t u at x y z Put s = record {
  low = low;
  high = high;
  back = back;
  forth = forth;
  next = s.next;
  put = (s.put.0, s.put.1, runs_low);
  parts = (s.parts.0, s.parts.1, runs_parts);
} where
  dark : List Cell
  dark = cells_of (gap_views (at - length t.cells))

  low : (l : Link) (o : Option ℤ) → Shows 0 (take z u.cells) l o → Shows 0 (take x t.cells) l o ⊎ Put l o
  low l o h = by (s.low l o h) where
    inner : Shows 0 (take x t.cells) l o ⊎ Carries dark l → Shows 0 (take x t.cells) l o ⊎ Put l o
    inner (inl a) = inl a
    inner (inr b) = absurd (no_dark (at - length t.cells) l b)

    by : Shows 0 (take x (t.cells ++ dark)) l o ⊎ Put l o → Shows 0 (take x t.cells) l o ⊎ Put l o
    by (inl a) = inner (take_more x 0 t.cells dark l o a)
    by (inr p) = inr p

  high : (l : Link) (o : Option ℤ) → Shows z (drop z u.cells) l o → (b : Option ℤ) × Shows y (drop y t.cells) l b × (o ≡ rebased y z b)
  high l o h =
      let r = s.high l o h in
      by r.0 r.2 (drop_more y y t.cells dark l r.0 r.1) where
        by : (b : Option ℤ) → o ≡ rebased y z b → Shows y (drop y t.cells) l b ⊎ Carries dark l → (b : Option ℤ) × Shows y (drop y t.cells) l b × (o ≡ rebased y z b)
        by b e (inl a) = (b, a, e)
        by b e (inr d) = absurd (no_dark (at - length t.cells) l d)

  back : (l : Link) (o : Option ℤ) → Shows 0 (take x t.cells) l o → Shows 0 (take x u.cells) l o
  back l o h = s.back l o (take_left x 0 t.cells dark l o h)

  forth : (l : Link) (o : Option ℤ) → Shows 0 (take x u.cells) l o → Shows 0 (take x t.cells) l o
  forth l o h = by (take_more x 0 t.cells dark l o (s.forth l o h)) where
    by : Shows 0 (take x t.cells) l o ⊎ Carries dark l → Shows 0 (take x t.cells) l o
    by (inl a) = a
    by (inr b) = absurd (no_dark (at - length t.cells) l b)

  runs_low : (h n : ℕ) → runs_in h n false (take z u.cells) ≤ runs_in h n false (take x t.cells) + count h n s.put.0
  runs_low h n = omega (arith, s.put.2 h n, runs-take-more h n x false t.cells dark (λ c. dark-runs h n (at - length t.cells) c))

  runs_parts : (h n : ℕ) → runs_in h n false (take x t.cells) + runs_in h n false (drop z u.cells) ≤ runs_in h n false t.cells + count h n s.parts.0
  runs_parts h n = omega (arith, s.parts.2 h n, runs-take-left h n x false t.cells dark, padded-runs t at h n)

pub padded-carries : (t : TrackState) (at y : ℕ) (l : Link) (o : Option ℤ) → Shows y (drop y t.cells) l o → Shows y (drop y (padded_track t at).cells) l o
padded-carries t at y l o h = drop_left y y t.cells (cells_of (gap_views (at - length t.cells))) l o h
