-- Split links are numbered in their order: how many of them have the home of one and a smaller number.
use Rattle.std.proofs.Common.{◌≡◌, ℕ, zero, suc, ◌+◌, ◌<◌, ◌≤◌, ◌⊎◌, inl, inr, Bool, true, false, cond, eqb, ltb, ◌&&◌, ◌||◌, max, List, [], ◌∷◌, filter, length, Option, Some, None, refl, sym, ap, ◌∙◌, arith}
use Rattle.std.proofs.lemmas.Bool.{cases_lt, eq-eqb, eqb-true, le-ltb, lt-ltb, ltb-true}
use Rattle.std.specs.List.{list_any}
use Rattle.frame_meaning.specs.declared.cells.Cell.{Cell}
use Rattle.frame_meaning.specs.declared.cells.Link.{Link}
use Rattle.composables.specs.Links.{link_before, links_in, links_with, links_with_any, same_link}
use Rattle.link_groups.proofs.LinkOrder.{Before, is-before, before-is, before-then}
use Rattle.link_laws.specs.Weights.{given}
use Rattle.link_laws.proofs.LinkLists.{AllLinks, AnySame, all-filter, all-with, any-same, is-same, same-is-link}

differ : false ≡ true → ⊥
differ e = cc

-- how many numbers below one pass

abbrev pub rank : (ℕ → Bool) → ℕ → ℕ
rank s zero = 0
rank s (suc n) = cond (s n) (suc (rank s n)) (rank s n)

pub rank-less : (s : ℕ → Bool) (m n : ℕ) → s m ≡ true → m < n → rank s m < rank s n
rank-less s m zero e lt = absurd (omega (arith, lt))
rank-less s m (suc n) e lt = by (s n) refl (cases_lt m n) (λ less. rank-less s m n e less) where
  by : (b : Bool) → s n ≡ b → (m < n) ⊎ (n ≤ m) → (m < n → rank s m < rank s n) → rank s m < cond b (suc (rank s n)) (rank s n)
  by true f (inl less) later = omega (arith, later less)
  by false f (inl less) later = later less
  by true f (inr more) later =
      let same : m ≡ n = omega (arith, lt, more) in
      let r : rank s m ≡ rank s n = ap (rank s) same in omega (arith, r)
  by false f (inr more) later =
      let same : n ≡ m = omega (arith, lt, more) in absurd (differ (sym f ∙ (ap s same ∙ e)))

pub rank-one : (s : ℕ → Bool) (m n : ℕ) → s m ≡ true → s n ≡ true → rank s m ≡ rank s n → m ≡ n
rank-one s m n e f r = by (cases_lt m n) (cases_lt n m) where
  by : (m < n) ⊎ (n ≤ m) → (n < m) ⊎ (m ≤ n) → m ≡ n
  by (inl a) c = absurd (omega (arith, rank-less s m n e a, r))
  by (inr a) (inl b) = absurd (omega (arith, rank-less s n m f b, r))
  by (inr a) (inr b) = omega (arith, a, b)

-- what is given away of numbers, where those that pass are given away anew behind all

abbrev above : (ℕ → ℕ) → ℕ → ℕ → ℕ
above f top zero = 0
above f top (suc j) = max 1 (f (top + j)) + above f top j

given_add : (f : ℕ → ℕ) (top k : ℕ) → given f (top + k) ≡ above f top k + given f top
given_add f top zero = let e : top + 0 ≡ top = omega arith in omega (arith, ap (given f) e)
given_add f top (suc k) =
    let e : top + suc k ≡ suc (top + k) = omega arith in
    let more : given f (top + suc k) ≡ max 1 (f (top + k)) + given f (top + k) = ap (given f) e in
    omega (arith, more, given_add f top k)

pub given-up : (f : ℕ → ℕ) (top k : ℕ) → given f top ≤ given f (top + k)
given-up f top k = omega (arith, given_add f top k)

split_below : (f g : ℕ → ℕ) (s : ℕ → Bool) (top n : ℕ) → ((m : ℕ) → m < n → s m ≡ false → g m ≤ f m)
    → ((m : ℕ) → m < n → s m ≡ true → max 1 (g m) + max 1 (g (top + rank s m)) ≤ f m) → above g top (rank s n) + given g n ≤ given f n
split_below f g s top zero old new = omega arith
split_below f g s top (suc n) old new =
    by (s n) refl (split_below f g s top n (λ m lt e. old m (omega (arith, lt)) e) (λ m lt e. new m (omega (arith, lt)) e)) where
      by : (b : Bool) → s n ≡ b → above g top (rank s n) + given g n ≤ given f n
          → above g top (cond b (suc (rank s n)) (rank s n)) + (max 1 (g n) + given g n) ≤ max 1 (f n) + given f n
      by true e later = omega (arith, later, new n (omega arith) e)
      by false e later = omega (arith, later, old n (omega arith) e)

-- where f counts what the numbers had, and g what they have and the new ones get
pub given-split : (f g : ℕ → ℕ) (s : ℕ → Bool) (top : ℕ) → ((m : ℕ) → m < top → s m ≡ false → g m ≤ f m)
    → ((m : ℕ) → m < top → s m ≡ true → max 1 (g m) + max 1 (g (top + rank s m)) ≤ f m) → given g (top + rank s top) ≤ given f top
given-split f g s top old new = omega (arith, given_add g top (rank s top), split_below f g s top top old new)

-- links in order, each once

not_before : (b : Bool) → b ≡ false → b ≡ true → ⊥
not_before b e f = differ (sym e ∙ f)

or_after : (l k : Link) → same_link l k ≡ false → link_before l k ≡ false → Before k l
or_after l k s b = by (cases_lt k.home l.home) (cases_lt l.home k.home) where
  apart : Before l k → ⊥
  apart h = not_before (link_before l k) b (before-is l k h)

  equal : l.home ≡ k.home → (k.number < l.number) ⊎ (l.number ≤ k.number) → (l.number < k.number) ⊎ (k.number ≤ l.number) → Before k l
  equal e (inl x) y = inr (sym e, x)
  equal e (inr x) (inl y) = absurd (apart (inr (e, y)))
  equal e (inr x) (inr y) = absurd (not_before (same_link l k) s (same-is-link l k (e, omega (arith, x, y))))

  by : (k.home < l.home) ⊎ (l.home ≤ k.home) → (l.home < k.home) ⊎ (k.home ≤ l.home) → Before k l
  by (inl x) y = inl x
  by (inr x) (inl y) = absurd (apart (inl y))
  by (inr x) (inr y) = equal (omega (arith, x, y)) (cases_lt k.number l.number) (cases_lt l.number k.number)

abbrev pub InOrder : List Link → Type 0
InOrder [] = Unit {0}
InOrder (l ∷ ls) = AllLinks (Before l) ls × InOrder ls

after_all : (l k : Link) (ls : List Link) → Before l k → AllLinks (Before k) ls → AllLinks (Before l) ls
after_all l k [] b h = tt
after_all l k (m ∷ ms) b h = (before-then l k m b h.0, after_all l k ms b h.1)

order_with : (l : Link) (ls : List Link) → InOrder ls → InOrder (links_with l ls)
order_with l [] h = (tt, tt)
order_with l (k ∷ ks) h = by (same_link l k) (link_before l k) refl refl (order_with l ks h.1) where
  by : (a b : Bool) → same_link l k ≡ a → link_before l k ≡ b → InOrder (links_with l ks) → InOrder (cond a (k ∷ ks) (cond b (l ∷ k ∷ ks) (k ∷ links_with l ks)))
  by true b e f later = h
  by false true e f later = let c = is-before l k f in ((c, after_all l k ks c h.0), h)
  by false false e f later = (all-with (Before k) l ks (or_after l k e f) h.0, later)

pub links-order : (cs : List Cell) → InOrder (links_in cs)
links-order [] = tt
links-order (c ∷ cs) = by c.link (links-order cs) where
  by : (o : Option Link) → InOrder (links_in cs) → InOrder (links_with_any o (links_in cs))
  by None h = h
  by (Some l) h = order_with l (links_in cs) h

pub filter-order : (p : Link → Bool) (ls : List Link) → InOrder ls → InOrder (filter p ls)
filter-order p [] h = tt
filter-order p (l ∷ ls) h = by (p l) (all-filter (Before l) p ls h.0) (filter-order p ls h.1) where
  by : (b : Bool) → AllLinks (Before l) (filter p ls) → InOrder (filter p ls) → InOrder (cond b (l ∷ filter p ls) (filter p ls))
  by true a later = (a, later)
  by false a later = later

pub before-none : (l : Link) (ls : List Link) → AllLinks (Before l) ls → AnySame l ls → ⊥
before-none l [] h s = s
before-none l (k ∷ ks) h (inl s) = by h.0 where
  by : Before l k → ⊥
  by (inl lt) = omega (arith, lt, s.0)
  by (inr g) = omega (arith, g.1, s.1)
before-none l (k ∷ ks) h (inr s) = before-none l ks h.1 s

-- a list of links has one with this home and number

abbrev pub at_home : List Link → ℕ → ℕ → Bool
at_home ls h n = list_any (same_link (record { home = h; number = n; tracks = 0 })) ls

pub any-is : (l : Link) (ls : List Link) → list_any (same_link l) ls ≡ true → AnySame l ls
any-is l [] e = absurd cc
any-is l (k ∷ ks) e = by (same_link l k) refl e (λ f. any-is l ks f) where
  by : (b : Bool) → same_link l k ≡ b → (b || list_any (same_link l) ks) ≡ true → (list_any (same_link l) ks ≡ true → AnySame l ks) → AnySame l (k ∷ ks)
  by true f e later = inl (is-same l k f)
  by false f e later = inr (later e)

-- so many with this home, and a number below one

abbrev pub low_at : ℕ → ℕ → Link → Bool
low_at h n k = eqb k.home h && ltb k.number n

abbrev bit : Bool → ℕ
bit true = 1
bit false = 0

abbrev one_low : ℕ → ℕ → Link → ℕ
one_low h n l = bit (low_at h n l)

one_yes : (h n : ℕ) (l : Link) → l.home ≡ h → l.number < n → one_low h n l ≡ 1
one_yes h n l e lt =
    ap (λ (b : Bool). bit (b && ltb l.number n)) (eq-eqb l.home h e) ∙ ap bit (lt-ltb l.number n lt)

one_no : (h n : ℕ) (l : Link) → (l.home ≡ h → l.number < n → ⊥) → one_low h n l ≡ 0
one_no h n l never = by (eqb l.home h) (ltb l.number n) refl refl where
  by : (a b : Bool) → eqb l.home h ≡ a → ltb l.number n ≡ b → bit (a && b) ≡ 0
  by true true e f = absurd (never (eqb-true l.home h e) (ltb-true l.number n f))
  by true false e f = refl
  by false b e f = refl

one_same : (h n : ℕ) (l : Link) → (h ≡ l.home → n ≡ l.number → ⊥) → one_low h (suc n) l ≡ one_low h n l
one_same h n l never = by (eqb l.home h) refl where
  less : (e : l.home ≡ h) → ltb l.number (suc n) ≡ ltb l.number n
  less e = at (cases_lt l.number n) where
    at : (l.number < n) ⊎ (n ≤ l.number) → ltb l.number (suc n) ≡ ltb l.number n
    at (inl lt) = lt-ltb l.number (suc n) (omega (arith, lt)) ∙ sym (lt-ltb l.number n lt)
    at (inr le) = past (cases_lt n l.number) where
      past : (n < l.number) ⊎ (l.number ≤ n) → ltb l.number (suc n) ≡ ltb l.number n
      past (inl lt) = le-ltb l.number (suc n) (omega (arith, lt)) ∙ sym (le-ltb l.number n le)
      past (inr ge) = absurd (never (sym e) (omega (arith, le, ge)))

  by : (a : Bool) → eqb l.home h ≡ a → bit (a && ltb l.number (suc n)) ≡ bit (a && ltb l.number n)
  by true e = ap bit (less (eqb-true l.home h e))
  by false e = refl

rank_none : (h n : ℕ) → rank (at_home [] h) n ≡ 0
rank_none h zero = refl
rank_none h (suc n) = rank_none h n

rank_one_more : (l : Link) (ls : List Link) (h n : ℕ) → (AnySame l ls → ⊥) → rank (at_home (l ∷ ls) h) n ≡ one_low h n l + rank (at_home ls h) n
rank_one_more l ls h zero once = omega (arith, one_no h 0 l (λ e lt. omega (arith, lt)))
rank_one_more l ls h (suc n) once = by (same_link k l) (at_home ls h n) refl refl (rank_one_more l ls h n once) where
  k : Link
  k = record { home = h; number = n; tracks = 0 }

  by : (a b : Bool) → same_link k l ≡ a → at_home ls h n ≡ b → rank (at_home (l ∷ ls) h) n ≡ one_low h n l + rank (at_home ls h) n
      → cond (a || b) (suc (rank (at_home (l ∷ ls) h) n)) (rank (at_home (l ∷ ls) h) n) ≡ one_low h (suc n) l + cond b (suc (rank (at_home ls h) n)) (rank (at_home ls h) n)
  by true true e f later = absurd (once (any-same k l ls (is-same k l e) (any-is k ls f)))
  by true false e f later =
      let s = is-same k l e in
      omega (arith, later, one_yes h (suc n) l (sym s.0) (omega (arith, s.1)), one_no h n l (λ g lt. omega (arith, lt, s.1)))
  by false true e f later = omega (arith, later, one_same h n l (λ x y. not_before (same_link k l) e (same-is-link k l (x, y))))
  by false false e f later = omega (arith, later, one_same h n l (λ x y. not_before (same_link k l) e (same-is-link k l (x, y))))

pub count-low : (ls : List Link) (h n : ℕ) → InOrder ls → length (filter (low_at h n) ls) ≡ rank (at_home ls h) n
count-low [] h n o = sym (rank_none h n)
count-low (l ∷ ls) h n o = omega (arith, by (low_at h n l), count-low ls h n o.1, rank_one_more l ls h n (before-none l ls o.0)) where
  by : (b : Bool) → length (cond b (l ∷ filter (low_at h n) ls) (filter (low_at h n) ls)) ≡ bit b + length (filter (low_at h n) ls)
  by true = omega arith
  by false = omega arith

-- all with this home, where their numbers are below one

pub all-low : (ls : List Link) (h n : ℕ) → AllLinks (λ (k : Link). k.home ≡ h → k.number < n) ls → filter (λ (k : Link). eqb k.home h) ls ≡ filter (low_at h n) ls
all-low [] h n a = refl
all-low (l ∷ ls) h n a = by (eqb l.home h) refl (all-low ls h n a.1) where
  by : (b : Bool) → eqb l.home h ≡ b → filter (λ (k : Link). eqb k.home h) ls ≡ filter (low_at h n) ls
      → cond b (l ∷ filter (λ (k : Link). eqb k.home h) ls) (filter (λ (k : Link). eqb k.home h) ls) ≡ cond (b && ltb l.number n) (l ∷ filter (low_at h n) ls) (filter (low_at h n) ls)
  by true e later =
      ap (λ (ks : List Link). l ∷ ks) later
      ∙ ap (λ (b : Bool). cond b (l ∷ filter (low_at h n) ls) (filter (low_at h n) ls)) (sym (lt-ltb l.number n (a.0 (eqb-true l.home h e))))
  by false e later = later
