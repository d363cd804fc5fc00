-- Links are split: what stood together before a place and from a place on stays so, and in the end no link is on both sides.
use Rattle.std.proofs.Common.{◌≡◌, ℕ, zero, suc, ◌+◌, ◌<◌, ◌≤◌, ◌⊎◌, inl, inr, ℤ, Bool, true, false, cond, eqb, ◌||◌, List, [], ◌∷◌, ◌++◌, length, take, drop, map, Option, Some, None, refl, sym, ap, ◌∙◌, arith, subst}
use Rattle.std.proofs.lemmas.Bool.{eqb-true}
use Rattle.std.specs.List.{list_any}
use Rattle.frame_meaning.specs.declared.cells.Cell.{Cell}
use Rattle.frame_meaning.specs.declared.cells.Link.{Link}
use Rattle.composables.specs.Links.{count_at_home, is_named, moved_cell, moved_link, next_link_at, same_link, split_number, split_track}
use Rattle.composables.specs.TrackState.{TrackState}
use Rattle.link_laws.proofs.LinkLists.{AllLinks, AnySame, Same, any-true, same-sym}
use Rattle.link_laws.proofs.Ranks.{InOrder, all-low, at_home, count-low, rank, rank-less, rank-one}
use Rattle.link_laws.proofs.Sights.{Shows}
use Rattle.link_laws.proofs.Tied.{Each}

-- cells of these tracks from a place on
abbrev pub SeesFrom : ℕ → List TrackState → Link → Option ℤ → Type 0
SeesFrom z [] l o = ⊥
SeesFrom z (t ∷ ts) l o = Shows z (drop z t.cells) l o ⊎ SeesFrom z ts l o

-- a link before and after it was moved, where these are split
abbrev pub Moves : List TrackState → List Link → Link → Link → Type 0
Moves ts ls k m =
    ((list_any (same_link k) ls ≡ true) × (m ≡ record k { number = split_number ts ls k })) ⊎ ((list_any (same_link k) ls ≡ false) × (m ≡ k))

pub moved-is : (ts : List TrackState) (ls : List Link) (o : Option Link) (m : Link) → moved_link ts ls o ≡ Some m → (k : Link) × (o ≡ Some k) × Moves ts ls k m
moved-is ts ls None m e = absurd cc
moved-is ts ls (Some k) m e = by (list_any (same_link k) ls) refl e where
  by : (b : Bool) → list_any (same_link k) ls ≡ b → cond b (Some (record k { number = split_number ts ls k })) (Some k) ≡ Some m → (j : Link) × (Some k ≡ Some j) × Moves ts ls j m
  by true f e = let same : m ≡ record k { number = split_number ts ls k } = cc in (k, refl, inl (f, same))
  by false f e = let same : m ≡ k = cc in (k, refl, inr (f, same))

map_moves : (ts : List TrackState) (ls : List Link) (p : ℕ) (cs : List Cell) (m : Link) (o : Option ℤ) → Shows p (map (moved_cell ts ls) cs) m o
    → (k : Link) × Shows p cs k o × Moves ts ls k m
map_moves ts ls p [] m o h = absurd h
map_moves ts ls p (c ∷ cs) m o (inl h) = let r = moved-is ts ls c.link m h.0 in (r.0, inl (r.1, h.1), r.2)
map_moves ts ls p (c ∷ cs) m o (inr h) = let r = map_moves ts ls (p + 1) cs m o h in (r.0, inr r.1, r.2)

pub split-drop : (z : ℕ) (f : Cell → Cell) (cs : List Cell) → drop z (take z cs ++ map f (drop z cs)) ≡ map f (drop z cs)
split-drop zero f cs = refl
split-drop (suc z) f [] = refl
split-drop (suc z) f (c ∷ cs) = split-drop z f cs

split_take : (z : ℕ) (f : Cell → Cell) (cs : List Cell) → take z (take z cs ++ map f (drop z cs)) ≡ take z cs
split_take zero f cs = refl
split_take (suc z) f [] = refl
split_take (suc z) f (c ∷ cs) = ap (λ (ds : List Cell). c ∷ ds) (split_take z f cs)

pub from-moves : (us : List TrackState) (ls : List Link) (z : ℕ) (ts : List TrackState) (m : Link) (o : Option ℤ) → SeesFrom z (map (split_track z us ls) ts) m o
    → (k : Link) × SeesFrom z ts k o × Moves us ls k m
from-moves us ls z [] m o h = absurd h
from-moves us ls z (t ∷ ts) m o (inl h) =
    let r = map_moves us ls z (drop z t.cells) m o (subst (λ (cs : List Cell). Shows z cs m o) (split-drop z (moved_cell us ls) t.cells) h) in
    (r.0, inl r.1, r.2)
from-moves us ls z (t ∷ ts) m o (inr h) = let r = from-moves us ls z ts m o h in (r.0, inr r.1, r.2)

-- numbers

named_split : (us : List TrackState) (ls : List Link) (z : ℕ) (ts : List TrackState) (h : ℕ) → is_named (map (split_track z us ls) ts) h ≡ is_named ts h
named_split us ls z [] h = refl
named_split us ls z (t ∷ ts) h = ap (λ (b : Bool). eqb t.number h || b) (named_split us ls z ts h)

pub next-split : (us : List TrackState) (ls : List Link) (z : ℕ) (ts : List TrackState) (h : ℕ) → is_named ts h ≡ true
    → next_link_at h (map (split_track z us ls) ts) ≡ next_link_at h ts + count_at_home ls h
next-split us ls z [] h e = absurd cc
next-split us ls z (t ∷ ts) h e = by (eqb t.number h) refl e (λ k. next-split us ls z ts h k) where
  by : (b : Bool) → eqb t.number h ≡ b → (b || is_named ts h) ≡ true
      → (is_named ts h ≡ true → next_link_at h (map (split_track z us ls) ts) ≡ next_link_at h ts + count_at_home ls h)
      → cond b (t.next_link + count_at_home ls t.number) (next_link_at h (map (split_track z us ls) ts)) ≡ cond b t.next_link (next_link_at h ts) + count_at_home ls h
  by true f e later = ap (λ (n : ℕ). t.next_link + count_at_home ls n) (eqb-true t.number h f)
  by false f e later = later e

-- what is true before links are split, and after it

-- a link that may be split: its home is among these tracks, and its number was given away
abbrev pub MaySplit : List TrackState → Link → Type 0
MaySplit ts l = (is_named ts l.home ≡ true) × (l.number < next_link_at l.home ts)

pub record Splits (Before : Link → Option ℤ → Type 0) (z : ℕ) (ts : List TrackState) (ls : List Link) : Type 0 where
  pub after : (k l : Link) (a b : Option ℤ) → SeesFrom z ts k a → SeesFrom z ts l b → Same k l → (k.tracks ≡ l.tracks) × (a ≡ b)
  pub cross : (k l : Link) (a b : Option ℤ) → Before k a → SeesFrom z ts l b → Same k l → (k.tracks ≡ l.tracks) × AnySame l ls
  pub low : (l : Link) (a : Option ℤ) → Before l a → is_named ts l.home ≡ true → l.number < next_link_at l.home ts
  pub high : (l : Link) (a : Option ℤ) → SeesFrom z ts l a → (is_named ts l.home ≡ true) × (l.number < next_link_at l.home ts)
  pub each : AllLinks (MaySplit ts) ls

-- numbers of split links

differ : false ≡ true → ⊥
differ e = cc

module _ (us : List TrackState) (ls : List Link) (order : InOrder ls) (each : AllLinks (MaySplit us) ls) where
  pub number-is : (k : Link) → split_number us ls k ≡ next_link_at k.home us + rank (at_home ls k.home) k.number
  number-is k = ap (λ (n : ℕ). next_link_at k.home us + n) (count-low ls k.home k.number order)

  low_each : (h : ℕ) (ks : List Link) → AllLinks (MaySplit us) ks → AllLinks (λ (k : Link). k.home ≡ h → k.number < next_link_at h us) ks
  low_each h [] a = tt
  low_each h (k ∷ ks) a = ((λ e. subst (λ (n : ℕ). k.number < next_link_at n us) e a.0.1), low_each h ks a.1)

  pub count-is : (h : ℕ) → count_at_home ls h ≡ rank (at_home ls h) (next_link_at h us)
  count-is h = ap length (all-low ls h (next_link_at h us) (low_each h ls each)) ∙ count-low ls h (next_link_at h us) order

  -- the number of a split link is past those that were there, and below the next one
  pub number-past : (k : Link) → next_link_at k.home us ≤ split_number us ls k
  number-past k = omega (arith, number-is k)

  number_below : (k : Link) → list_any (same_link k) ls ≡ true → k.number < next_link_at k.home us → split_number us ls k < next_link_at k.home us + count_at_home ls k.home
  number_below k e lt = omega (arith, number-is k, count-is k.home, rank-less (at_home ls k.home) k.number (next_link_at k.home us) e lt)

  -- and no two links get one number
  number_one : (j k : Link) → list_any (same_link j) ls ≡ true → list_any (same_link k) ls ≡ true → j.home ≡ k.home → split_number us ls j ≡ split_number us ls k → Same j k
  number_one j k e f h n =
      let there : at_home ls j.home k.number ≡ true = ap (λ (m : ℕ). at_home ls m k.number) h ∙ f in
      let next : next_link_at j.home us ≡ next_link_at k.home us = ap (λ (m : ℕ). next_link_at m us) h in
      let same : rank (at_home ls j.home) k.number ≡ rank (at_home ls k.home) k.number = ap (λ (m : ℕ). rank (at_home ls m) k.number) h in
      (h, rank-one (at_home ls j.home) j.number k.number e there (omega (arith, n, number-is j, number-is k, next, same)))

  -- no link that was there has a new number
  fresh : (k j m : Link) → k.number < next_link_at k.home us → m ≡ record j { number = split_number us ls j } → Same k m → ⊥
  fresh k j m lt e same =
      let home : k.home ≡ j.home = same.0 ∙ ap (λ (l : Link). l.home) e in
      omega (arith, lt, same.1, ap (λ (l : Link). l.number) e, number-past j, ap (λ (h : ℕ). next_link_at h us) home)

  -- what is moved has links that were given away
  pub split-high : (z : ℕ) → ((l : Link) (a : Option ℤ) → SeesFrom z us l a → MaySplit us l) → (k : Link) (a : Option ℤ)
      → SeesFrom z (map (split_track z us ls) us) k a → MaySplit (map (split_track z us ls) us) k
  split-high z high k a s =
      let r = from-moves us ls z us k a s in
      by r.0 r.1 r.2 where
        vs : List TrackState
        vs = map (split_track z us ls) us

        by : (i : Link) → SeesFrom z us i a → Moves us ls i k → MaySplit (map (split_track z us ls) us) k
        by i s (inl x) =
            let old = high i a s in
            subst (MaySplit vs) (sym x.1) (named_split us ls z us i.home ∙ old.0, omega (arith, number_below i x.0 old.1, next-split us ls z us i.home old.0))
        by i s (inr x) =
            let old = high i a s in
            subst (MaySplit vs) (sym x.1) (named_split us ls z us i.home ∙ old.0, omega (arith, old.1, next-split us ls z us i.home old.0))

  pub split-law : (Before : Link → Option ℤ → Type 0) (z : ℕ) → Splits Before z us ls → Splits Before z (map (split_track z us ls) us) []
  split-law Before z inv = record { after = after; cross = cross; low = low; high = high; each = tt } where
    vs : List TrackState
    vs = map (split_track z us ls) us

    up : (h : ℕ) → is_named us h ≡ true → next_link_at h us ≤ next_link_at h vs
    up h e = omega (arith, next-split us ls z us h e)

    after : (k m : Link) (a b : Option ℤ) → SeesFrom z vs k a → SeesFrom z vs m b → Same k m → (k.tracks ≡ m.tracks) × (a ≡ b)
    after k m a b s t same =
        let r = from-moves us ls z us k a s in
        let q = from-moves us ls z us m b t in
        by r.0 q.0 r.1 q.1 r.2 q.2 where
          by : (i j : Link) → SeesFrom z us i a → SeesFrom z us j b → Moves us ls i k → Moves us ls j m → (k.tracks ≡ m.tracks) × (a ≡ b)
          by i j s t (inl x) (inl y) =
              let home : i.home ≡ j.home = sym (ap (λ (l : Link). l.home) x.1) ∙ (same.0 ∙ ap (λ (l : Link). l.home) y.1) in
              let number : split_number us ls i ≡ split_number us ls j = sym (ap (λ (l : Link). l.number) x.1) ∙ (same.1 ∙ ap (λ (l : Link). l.number) y.1) in
              let g = inv.after i j a b s t (number_one i j x.0 y.0 home number) in
              (ap (λ (l : Link). l.tracks) x.1 ∙ (g.0 ∙ sym (ap (λ (l : Link). l.tracks) y.1)), g.1)
          by i j s t (inl x) (inr y) =
              absurd (fresh j i k (inv.high j b t).1 x.1 (same-sym k j (subst (Same k) y.1 same)))
          by i j s t (inr x) (inl y) =
              absurd (fresh i j m (inv.high i a s).1 y.1 (subst (λ (l : Link). Same l m) x.1 same))
          by i j s t (inr x) (inr y) =
              let g = inv.after i j a b s t (subst (Same i) y.1 (subst (λ (l : Link). Same l m) x.1 same)) in
              (ap (λ (l : Link). l.tracks) x.1 ∙ (g.0 ∙ sym (ap (λ (l : Link). l.tracks) y.1)), g.1)

    cross : (k m : Link) (a b : Option ℤ) → Before k a → SeesFrom z vs m b → Same k m → (k.tracks ≡ m.tracks) × AnySame m []
    cross k m a b s t same =
        let q = from-moves us ls z us m b t in
        by q.0 q.1 q.2 where
          by : (j : Link) → SeesFrom z us j b → Moves us ls j m → (k.tracks ≡ m.tracks) × AnySame m []
          by j t (inl y) =
              let home : k.home ≡ j.home = same.0 ∙ ap (λ (l : Link). l.home) y.1 in
              absurd (fresh k j m (inv.low k a s (ap (is_named us) home ∙ (inv.high j b t).0)) y.1 same)
          by j t (inr y) =
              absurd (differ (sym y.0 ∙ any-true j ls (inv.cross k j a b s t (subst (Same k) y.1 same)).1))

    low : (k : Link) (a : Option ℤ) → Before k a → is_named vs k.home ≡ true → k.number < next_link_at k.home vs
    low k a s e =
        let named : is_named us k.home ≡ true = sym (named_split us ls z us k.home) ∙ e in
        omega (arith, inv.low k a s named, up k.home named)

    high : (k : Link) (a : Option ℤ) → SeesFrom z vs k a → MaySplit vs k
    high k a s = split-high z inv.high k a s

-- what stands before the place stays

abbrev pub SameBefore : ℕ → TrackState → TrackState → Type 0
SameBefore z t u = take z u.cells ≡ take z t.cells

pub splits-before : (us : List TrackState) (ls : List Link) (z : ℕ) (ts : List TrackState) → Each (SameBefore z) ts (map (split_track z us ls) ts)
splits-before us ls z [] = tt
splits-before us ls z (t ∷ ts) = (refl, split_take z (moved_cell us ls) t.cells, splits-before us ls z ts)
