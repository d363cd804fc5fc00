-- Items and gaps that are passed by, since the key of no link of theirs is marked.
use Rattle.std.proofs.Common.{◌≡◌, ℕ, ◌+◌, ◌-◌, Bool, true, false, not, ◌&&◌, ◌||◌, List, [], ◌∷◌, length, take, drop, Option, Some, None, is_some, cond, eqb, refl, sym, ap, ◌∙◌, arith, subst}
use Rattle.std.specs.BTreeMap.{get, is_at}
use Rattle.std.specs.BTreeSet.{BTreeSet, btree_set_len, contains}
use Rattle.std.specs.List.{list_any}
use Rattle.std.proofs.lemmas.List.Folds.{list_any-append}
use Rattle.frame_meaning.specs.declared.cells.Cell.{Cell}
use Rattle.frame_meaning.specs.declared.cells.Link.{Link}
use Rattle.composables.specs.declared.items.ItemView.{ItemView}
use Rattle.composables.specs.Items.{cells_of}
use Rattle.composables.specs.Links.{next_link_at}
use Rattle.composables.specs.TrackState.{TrackState}
use Rattle.composables.proofs.Joining.{eqb-refl}
use Rattle.link_groups.specs.declared.key_marks.KeyMarks.{KeyMarks}
use Rattle.link_groups.specs.declared.splits.Splits.{Splits}
use Rattle.link_groups.specs.Keys.{HasMarks, has_pair, may_have, pair_key}
use Rattle.link_groups.specs.Splits.{given, given_link, has_key, is_key_of, key_cmp, key_of, smaller, with_number}
use Rattle.link_groups.proofs.Bare.{or_none}
use Rattle.link_groups.proofs.BothSides.{any-drop, any-take, any-views}
use Rattle.link_groups.proofs.LeastLinks.{drop_over}
use Rattle.link_groups.proofs.LinkedCells.{take-over}
use Rattle.link_groups.proofs.PassedOver.{cells_parts, take_parts}
use Rattle.link_groups.proofs.SplitKeys.{SoFar, at-is, at-link}

true_false : true ≡ false → ⊥
true_false e = cc

false_true : false ≡ true → ⊥
false_true e = cc

-- the keys of the links of these are not marked
abbrev pub Unmarked : KeyMarks → List ItemView → Type 0
Unmarked m vs = (q : ℕ × ℕ) → has_pair q vs ≡ true → may_have m (pair_key q) ≡ false

-- nor are those of so many more
pub unmarked-on : (m : KeyMarks) (i n : ℕ) (vs old : List ItemView) → old ≡ drop i vs → Unmarked m (take i vs) → Unmarked m (take n old) → Unmarked m (take (i + n) vs)
unmarked-on m i n vs old is h k q e = by (has_pair q (take i vs)) refl where
  parts : has_pair q (take (i + n) vs) ≡ (has_pair q (take i vs) || has_pair q (take n old))
  parts =
      ap (has_pair q) (take_parts i n vs)
      ∙ (list_any-append (λ (v : ItemView). is_key_of q v.link) (take i vs) (take n (drop i vs)) ∙ ap (λ (ws : List ItemView). has_pair q (take i vs) || has_pair q (take n ws)) (sym is))

  by : (b : Bool) → has_pair q (take i vs) ≡ b → may_have m (pair_key q) ≡ false
  by true f = h q f
  by false f = k q (sym (ap (λ (b : Bool). b || has_pair q (take n old)) f) ∙ (sym parts ∙ e))

-- so a link whose key is marked has no cell of theirs
cells_unmarked : (m : KeyMarks) (q : ℕ × ℕ) (vs : List ItemView) → Unmarked m vs → may_have m (pair_key q) ≡ true → list_any (has_key q) (cells_of vs) ≡ false
cells_unmarked m q vs h w = by (list_any (has_key q) (cells_of vs)) refl where
  by : (b : Bool) → list_any (has_key q) (cells_of vs) ≡ b → b ≡ false
  by true e = absurd (true_false (sym w ∙ h q (any-views q vs e)))
  by false e = refl

-- and so many more of them have nothing of it, before a place and from one on

pub front-same : (m : KeyMarks) (q : ℕ × ℕ) (x i n : ℕ) (vs old : List ItemView) → old ≡ drop i vs → Unmarked m (take n old) → may_have m (pair_key q) ≡ true
    → list_any (has_key q) (take x (cells_of (take i vs))) ≡ list_any (has_key q) (take x (cells_of (take (i + n) vs)))
front-same m q x i n vs old is h w =
    let cs = cells_of (take i vs) in
    let ds = cells_of (take n old) in
    or_none (list_any (has_key q) (take x cs)) (list_any (has_key q) (take (x - length cs) ds)) (none (x - length cs))
    ∙ sym
    (ap (λ (ks : List Cell). list_any (has_key q) (take x ks)) (cells_parts i n vs old is)
    ∙ (ap (list_any (has_key q)) (take-over x cs ds) ∙ list_any-append (has_key q) (take x cs) (take (x - length cs) ds))) where
      none : (k : ℕ) → list_any (has_key q) (take k (cells_of (take n old))) ≡ false
      none k = by (list_any (has_key q) (take k (cells_of (take n old)))) refl where
        by : (b : Bool) → list_any (has_key q) (take k (cells_of (take n old))) ≡ b → b ≡ false
        by true e = absurd (true_false (sym (any-take q k (cells_of (take n old)) e) ∙ cells_unmarked m q (take n old) h w))
        by false e = refl

pub rest-same : (m : KeyMarks) (q : ℕ × ℕ) (y i n : ℕ) (vs old : List ItemView) → old ≡ drop i vs → Unmarked m (take n old) → may_have m (pair_key q) ≡ true
    → list_any (has_key q) (drop y (cells_of (take i vs))) ≡ list_any (has_key q) (drop y (cells_of (take (i + n) vs)))
rest-same m q y i n vs old is h w =
    let cs = cells_of (take i vs) in
    let ds = cells_of (take n old) in
    or_none (list_any (has_key q) (drop y cs)) (list_any (has_key q) (drop (y - length cs) ds)) (none (y - length cs))
    ∙ sym
    (ap (λ (ks : List Cell). list_any (has_key q) (drop y ks)) (cells_parts i n vs old is)
    ∙ (ap (list_any (has_key q)) (drop_over y cs ds) ∙ list_any-append (has_key q) (drop y cs) (drop (y - length cs) ds))) where
      none : (k : ℕ) → list_any (has_key q) (drop k (cells_of (take n old))) ≡ false
      none k = by (list_any (has_key q) (drop k (cells_of (take n old)))) refl where
        by : (b : Bool) → list_any (has_key q) (drop k (cells_of (take n old))) ≡ b → b ≡ false
        by true e = absurd (true_false (sym (any-drop q k (cells_of (take n old)) e) ∙ cells_unmarked m q (take n old) h w))
        by false e = refl

-- what is the same where a test holds is the same beside it
pub and-same : (c a b : Bool) → (c ≡ true → a ≡ b) → (c && a) ≡ (c && b)
and-same true a b h = h refl
and-same false a b h = refl

-- what is the same for a key that is marked is so beside that it is
pub rest-passed : (m : KeyMarks) (q : ℕ × ℕ) (y i n : ℕ) (vs old : List ItemView) → old ≡ drop i vs → Unmarked m (take n old)
    → (may_have m (pair_key q) && list_any (has_key q) (drop y (cells_of (take i vs)))) ≡ (may_have m (pair_key q) && list_any (has_key q) (drop y (cells_of (take (i + n) vs))))
rest-passed m q y i n vs old is h =
    and-same (may_have m (pair_key q)) (list_any (has_key q) (drop y (cells_of (take i vs)))) (list_any (has_key q) (drop y (cells_of (take (i + n) vs)))) (rest-same m q y i n vs old is h)

-- a link is found where it is missing, and then is not

pub found-more : (c m f k : Bool) → ((c || (m && f)) || ((m && not f) && k)) ≡ (c || (m && (f || k)))
found-more true m f k = refl
found-more false false f k = refl
found-more false true true k = refl
found-more false true false k = refl

pub missing-more : (m f k : Bool) → ((m && not f) && not k) ≡ (m && not (f || k))
missing-more false f k = refl
missing-more true true k = refl
missing-more true false k = refl

pub found-none : (m : Bool) → false ≡ (m && false)
found-none true = refl
found-none false = refl

pub missing-first : (m : Bool) → m ≡ (m && not false)
missing-first true = refl
missing-first false = refl

-- one link that is there or is not

pub contains-at : (s : BTreeSet (ℕ × ℕ)) (l : Link) (q : ℕ × ℕ) (b : Bool) → b ≡ contains key_cmp s (key_of l) → is_key_of q (Some l) ≡ true → contains key_cmp s q ≡ b
contains-at s l q b e h = sym (e ∙ ap (contains key_cmp s) (at-is (key_of l) q (at-link l q ∙ h)))

pub marked-at : (m : KeyMarks) (l : Link) (q : ℕ × ℕ) (b : Bool) → b ≡ may_have m (pair_key (key_of l)) → is_key_of q (Some l) ≡ true → may_have m (pair_key q) ≡ b
marked-at m l q b e h = sym (e ∙ ap (λ (p : ℕ × ℕ). may_have m (pair_key p)) (at-is (key_of l) q (at-link l q ∙ h)))

pub not-put : (c m k : Bool) → (k ≡ true → m ≡ false) → c ≡ (c || (m && k))
not-put true m k h = refl
not-put false m true h = sym (ap (λ (b : Bool). b && true) (h refl))
not-put false true false h = refl
not-put false false false h = refl

pub put : (c m k t : Bool) → t ≡ k → (k ≡ true → m ≡ true) → cond t true c ≡ (c || (m && k))
put c m k t e h = ap (λ (b : Bool). cond b true c) e ∙ by c m k h where
  by : (c m k : Bool) → (k ≡ true → m ≡ true) → cond k true c ≡ (c || (m && k))
  by true m true h = refl
  by false m true h = sym (ap (λ (b : Bool). b && true) (h refl))
  by true m false h = refl
  by false true false h = refl
  by false false false h = refl

pub taken : (m k t : Bool) → t ≡ k → cond t false m ≡ (m && not k)
taken m k t e = ap (λ (b : Bool). cond b false m) e ∙ by m k where
  by : (m k : Bool) → cond k false m ≡ (m && not k)
  by true true = refl
  by false true = refl
  by true false = refl
  by false false = refl

-- where nothing stands there, all stays as it was

pub found-nothing : (c m f : Bool) → f ≡ false → c ≡ (c || (m && f))
found-nothing c m f e = at c m ∙ ap (λ (b : Bool). c || (m && b)) (sym e) where
  at : (c m : Bool) → c ≡ (c || (m && false))
  at true m = refl
  at false true = refl
  at false false = refl

pub missing-nothing : (m f : Bool) → f ≡ false → m ≡ (m && not f)
missing-nothing m f e = missing-first m ∙ ap (λ (b : Bool). m && not b) (sym e)

-- what is missing is one of all
pub still-marked : (m f : Bool) → (m && not f) ≡ true → m ≡ true
still-marked true f e = refl
still-marked false f e = e

-- and where none is missing, more of what stands there has no more of them
pub none-missing : (m f g : Bool) → (m && not f) ≡ false → (f ≡ true → g ≡ true) → (m && f) ≡ (m && g)
none-missing false f g e h = refl
none-missing true true g e h = sym (h refl)
none-missing true false g e h = absurd (true_false e)

pub none-in : (s : BTreeSet (ℕ × ℕ)) (q : ℕ × ℕ) → btree_set_len s ≡ 0 → contains key_cmp s q ≡ false
none-in s q e = by s.keys e where
  by : (ks : List (ℕ × ℕ)) → length ks ≡ 0 → list_any (is_at (key_cmp q)) ks ≡ false
  by [] f = refl
  by (k ∷ ks) f = absurd (omega (arith, f))

-- links that get a number are among those that are split

given_some : (tracks : List TrackState) (keys : List (ℕ × ℕ)) (q : ℕ × ℕ) → is_some (given tracks keys q) ≡ true → list_any (is_at (key_cmp q)) keys ≡ true
given_some tracks keys q e = by (list_any (is_at (key_cmp q)) keys) refl where
  by : (b : Bool) → list_any (is_at (key_cmp q)) keys ≡ b → b ≡ true
  by true f = refl
  by false f = absurd (false_true (sym (ap (λ (b : Bool). is_some (cond b (Some (next_link_at q.0 tracks + smaller q keys)) None)) f) ∙ e))

pub marks-given : (m : KeyMarks) (tracks : List TrackState) (keys rest : List (ℕ × ℕ)) (number : ℕ × ℕ → Option ℕ) (count : ℕ → ℕ) → SoFar tracks keys rest number count
    → ((q : ℕ × ℕ) → list_any (is_at (key_cmp q)) keys ≡ true → may_have m (pair_key q) ≡ true) → (q : ℕ × ℕ) → is_some (number q) ≡ true → may_have m (pair_key q) ≡ true
marks-given m tracks keys rest number count (done, whole, numbers, counts) h q e =
    h q
    (ap (list_any (is_at (key_cmp q))) whole
    ∙ (list_any-append (is_at (key_cmp q)) done rest
    ∙ ap (λ (b : Bool). b || list_any (is_at (key_cmp q)) rest) (given_some tracks done q (sym (ap is_some (numbers q)) ∙ e))))

-- what is passed by keeps its link

pub kept-link : (s : Splits) (v : ItemView) (vs : List ItemView) → HasMarks s → Unmarked s.marks (v ∷ vs) → given_link s v.link ≡ v.link
kept-link s v vs marked h = by v.link refl where
  self : (l : Link) → is_key_of (key_of l) (Some l) ≡ true
  self l = both (eqb l.home l.home) (eqb l.number l.number) (eqb-refl l.home) (eqb-refl l.number) where
    both : (a b : Bool) → a ≡ true → b ≡ true → (a && b) ≡ true
    both a b e f = ap (λ (c : Bool). c && b) e ∙ f

  here : (l : Link) → v.link ≡ Some l → has_pair (key_of l) (v ∷ vs) ≡ true
  here l e = ap (λ (b : Bool). b || has_pair (key_of l) vs) (ap (is_key_of (key_of l)) e ∙ self l)

  none : (l : Link) (o : Option ℕ) → v.link ≡ Some l → get key_cmp s.numbers (key_of l) ≡ o → with_number l o ≡ l
  none l None e f = refl
  none l (Some n) e f = absurd (true_false (sym (marked (key_of l) (ap is_some f)) ∙ h (key_of l) (here l e)))

  by : (o : Option Link) → v.link ≡ o → given_link s o ≡ o
  by None e = refl
  by (Some l) e = ap (λ (k : Link). Some k) (none l (get key_cmp s.numbers (key_of l)) e refl)

-- so does what is behind it
pub unmarked-rest : (m : KeyMarks) (v : ItemView) (vs : List ItemView) → Unmarked m (v ∷ vs) → Unmarked m vs
unmarked-rest m v vs h q e = h q (by (is_key_of q v.link)) where
  by : (b : Bool) → (b || has_pair q vs) ≡ true
  by true = refl
  by false = e

-- keys marked one after another
pub marks-more : (old new : KeyMarks) (q k : ℕ × ℕ) (rest : List (ℕ × ℕ)) → ((n : ℕ) → may_have old n ≡ true → may_have new n ≡ true) → may_have new (pair_key k) ≡ true
    → (is_at (key_cmp q) k ≡ true → q ≡ k) → (may_have old (pair_key q) || list_any (is_at (key_cmp q)) (k ∷ rest)) ≡ true → (may_have new (pair_key q) || list_any (is_at (key_cmp q)) rest) ≡ true
marks-more old new q k rest grows here same e = by (may_have old (pair_key q)) (is_at (key_cmp q) k) refl refl e where
  left : may_have new (pair_key q) ≡ true → (may_have new (pair_key q) || list_any (is_at (key_cmp q)) rest) ≡ true
  left h = ap (λ (b : Bool). b || list_any (is_at (key_cmp q)) rest) h

  right : (b : Bool) → list_any (is_at (key_cmp q)) rest ≡ true → (b || list_any (is_at (key_cmp q)) rest) ≡ true
  right true h = refl
  right false h = h

  by : (a b : Bool) → may_have old (pair_key q) ≡ a → is_at (key_cmp q) k ≡ b → (a || (b || list_any (is_at (key_cmp q)) rest)) ≡ true → (may_have new (pair_key q) || list_any (is_at (key_cmp q)) rest) ≡ true
  by true b f g i = left (grows (pair_key q) f)
  by false true f g i = left (subst (λ (p : ℕ × ℕ). may_have new (pair_key p) ≡ true) (sym (same g)) here)
  by false false f g i = right (may_have new (pair_key q)) i

pub marks-all : (a : Bool) (q : ℕ × ℕ) (rest : List (ℕ × ℕ)) → rest ≡ [] → (a || list_any (is_at (key_cmp q)) rest) ≡ true → a ≡ true
marks-all true q rest none e = refl
marks-all false q rest none e = absurd (false_true (sym (ap (list_any (is_at (key_cmp q))) none) ∙ e))

-- what is from a place on with a key that may be marked, and is before another
pub both-sides : (m f b : Bool) → (b ≡ true → m ≡ true) → ((m && f) && b) ≡ (b && f)
both-sides true true true h = refl
both-sides true true false h = refl
both-sides true false true h = refl
both-sides true false false h = refl
both-sides false f true h = absurd (false_true (h refl))
both-sides false f false h = refl

pub and-left : (a b : Bool) → (a && b) ≡ true → a ≡ true
and-left true b e = refl
and-left false b e = e
