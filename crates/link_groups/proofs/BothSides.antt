-- Links of cells whose keys may be marked, or are not.
use Rattle.std.proofs.Common.{◌≡◌, ℕ, zero, suc, ◌+◌, ◌-◌, ◌<◌, ◌≤◌, Bool, true, false, ◌||◌, List, [], ◌∷◌, ◌++◌, length, take, drop, get_or, append_assoc, Option, refl, sym, ap, ◌∙◌, subst}
use Rattle.std.specs.List.{list_any}
use Rattle.std.proofs.lemmas.List.{append-nil, take_all, take_more}
use Rattle.std.proofs.lemmas.List.Folds.{list_any-append}
use Rattle.frame_meaning.specs.declared.cells.Cell.{Cell}
use Rattle.frame_meaning.specs.declared.cells.Link.{Link}
use Rattle.frame_meaning.specs.declared.cells.Mark.{Mark}
use Rattle.frame_meaning.specs.declared.cells.What.{What}
use Rattle.frame_meaning.specs.declared.frames.Side.{Side}
use Rattle.frame_meaning.specs.Cells.{next_side, span}
use Rattle.composables.specs.declared.items.ItemView.{ItemView}
use Rattle.composables.specs.Items.{cells_of, items_of, marked, view_cells}
use Rattle.composables.specs.Joined.{frames_in}
use Rattle.composables.specs.Links.{cells_before}
use Rattle.composables.specs.TrackFacts.{IsKept}
use Rattle.composables.specs.TrackState.{TrackState}
use Rattle.link_groups.specs.declared.key_marks.KeyMarks.{KeyMarks}
use Rattle.link_groups.specs.Keys.{Said, has_pair, may_have, pair_key}
use Rattle.link_groups.specs.Splits.{has_key, is_key_of}
use Rattle.link_groups.proofs.Bare.{AreBare, bare-keys}
use Rattle.link_groups.proofs.LinkedCells.{front-whole, take-over}
use Rattle.link_groups.proofs.PassedOver.{cells_parts, front-all}

true_false : true ≡ false → ⊥
true_false e = cc

false_true : false ≡ true → ⊥
false_true e = cc

-- cells that have a link are of an item that has it

or_or : (a b c d : Bool) → (c ≡ true → a ≡ true) → (d ≡ true → b ≡ true) → (c || d) ≡ true → (a || b) ≡ true
or_or a b true d f g e = ap (λ (x : Bool). x || b) (f refl)
or_or true b false d f g e = refl
or_or false b false d f g e = g e

any_span : (q : ℕ × ℕ) (i : Option ℕ) (s : Side What) (l : Option Link) (n : ℕ) → list_any (has_key q) (span i s l n) ≡ true → is_key_of q l ≡ true
any_span q i s l zero e = absurd (false_true e)
any_span q i s l (suc n) e = by (is_key_of q l) refl (λ h. any_span q i (next_side s) l n h) where
  by : (b : Bool) → is_key_of q l ≡ b → (list_any (has_key q) (span i (next_side s) l n) ≡ true → is_key_of q l ≡ true) → is_key_of q l ≡ true
  by true h rest = h
  by false h rest = rest (sym (ap (λ (b : Bool). b || list_any (has_key q) (span i (next_side s) l n)) h) ∙ e)

any_marked : (q : ℕ × ℕ) (m : Option Mark) (cs : List Cell) → list_any (has_key q) (marked m cs) ≡ list_any (has_key q) cs
any_marked q m [] = refl
any_marked q m (c ∷ cs) = refl

pub any-views : (q : ℕ × ℕ) (vs : List ItemView) → list_any (has_key q) (cells_of vs) ≡ true → has_pair q vs ≡ true
any-views q [] e = absurd (false_true e)
any-views q (v ∷ vs) e =
    or_or (is_key_of q v.link) (has_pair q vs) (list_any (has_key q) (view_cells v)) (list_any (has_key q) (cells_of vs))
    (λ h. any_span q v.item v.first v.link v.len (sym (any_marked q v.mark (span v.item v.first v.link v.len)) ∙ h)) (any-views q vs)
    (sym (list_any-append (has_key q) (view_cells v) (cells_of vs)) ∙ e)

pub any-take : (q : ℕ × ℕ) (n : ℕ) (cs : List Cell) → list_any (has_key q) (take n cs) ≡ true → list_any (has_key q) cs ≡ true
any-take q zero cs e = absurd (false_true e)
any-take q (suc n) [] e = absurd (false_true e)
any-take q (suc n) (c ∷ cs) e = or_or (has_key q c) (list_any (has_key q) cs) (has_key q c) (list_any (has_key q) (take n cs)) (λ h. h) (any-take q n cs) e

pub any-drop : (q : ℕ × ℕ) (n : ℕ) (cs : List Cell) → list_any (has_key q) (drop n cs) ≡ true → list_any (has_key q) cs ≡ true
any-drop q zero cs e = e
any-drop q (suc n) [] e = absurd (false_true e)
any-drop q (suc n) (c ∷ cs) e = behind (has_key q c) (any-drop q n cs e) where
  behind : (b : Bool) → list_any (has_key q) cs ≡ true → (b || list_any (has_key q) cs) ≡ true
  behind true h = refl
  behind false h = h

-- what is said of two lists is said of both together

pub said-both : (m : KeyMarks) (b : Bool) (cs ds : List Cell) → Said m b cs → Said m b ds → Said m b (cs ++ ds)
said-both m b cs ds h k q e = by (list_any (has_key q) cs) refl where
  by : (c : Bool) → list_any (has_key q) cs ≡ c → may_have m (pair_key q) ≡ b
  by true g = h q g
  by false g = k q (sym (ap (λ (c : Bool). c || list_any (has_key q) ds) g) ∙ (sym (list_any-append (has_key q) cs ds) ∙ e))

pub said-grows : (m n : KeyMarks) (cs : List Cell) → ((k : ℕ) → may_have m k ≡ true → may_have n k ≡ true) → Said m true cs → Said n true cs
said-grows m n cs g h q e = g (pair_key q) (h q e)

-- it is said of the cells of so many items and gaps more
pub front-said : (m : KeyMarks) (b : Bool) (x i n : ℕ) (vs old : List ItemView) → old ≡ drop i vs → ((q : ℕ × ℕ) → has_pair q (take n old) ≡ true → may_have m (pair_key q) ≡ b)
    → Said m b (take x (cells_of (take i vs))) → Said m b (take x (cells_of (take (i + n) vs)))
front-said m b x i n vs old is h k =
    let cs = cells_of (take i vs) in
    let ds = cells_of (take n old) in
    let parts : take x (cells_of (take (i + n) vs)) ≡ take x cs ++ take (x - length cs) ds = ap (take x) (cells_parts i n vs old is) ∙ take-over x cs ds in
    subst (Said m b) (sym parts)
    (said-both m b (take x cs) (take (x - length cs) ds) k (λ q e. h q (any-views q (take n old) (any-take q (x - length cs) ds e))))

-- it is said of the cells of a track once it is said of all that stands there

pub front-whole-said : (m : KeyMarks) (b : Bool) (x i : ℕ) (t : TrackState) → IsKept t → x ≤ frames_in (take i (items_of t.cells)) → Said m b (take x (cells_of (take i (items_of t.cells)))) → Said m b (take x t.cells)
front-whole-said m b x i t kept le h q e = h q (front-whole q x i t kept le ∙ e)

pub front-all-said : (m : KeyMarks) (b : Bool) (x i : ℕ) (t : TrackState) → IsKept t → length (items_of t.cells) ≤ i → Said m b (take x (cells_of (take i (items_of t.cells)))) → Said m b (take x t.cells)
front-all-said m b x i t kept le h q e = h q (front-all q x i t kept le ∙ e)

-- and of cells without links, whatever is said

pub said-bare : (m : KeyMarks) (b : Bool) (cs : List Cell) → AreBare cs → Said m b cs
said-bare m b cs bare q e = absurd (false_true (sym (bare-keys q cs bare) ∙ e))

-- track by track

before_append : (x : ℕ) (ts : List TrackState) (t : TrackState) → cells_before x (ts ++ t ∷ []) ≡ cells_before x ts ++ take x t.cells
before_append x [] t = append-nil (take x t.cells)
before_append x (u ∷ us) t = ap (λ (cs : List Cell). take x u.cells ++ cs) (before_append x us t) ∙ sym (append_assoc (take x u.cells) (cells_before x us) (take x t.cells))

one_more : (i : ℕ) (ts : List TrackState) (t : TrackState) → i < length ts → t ≡ get_or ts i t → take (i + 1) ts ≡ take i ts ++ t ∷ []
one_more i ts t lt is = take_more ts i t lt ∙ ap (λ (u : TrackState). take i ts ++ u ∷ []) (sym is)

pub before-more : (m : KeyMarks) (b : Bool) (x i : ℕ) (ts : List TrackState) (t : TrackState) → i < length ts → t ≡ get_or ts i t
    → Said m b (cells_before x (take i ts)) → Said m b (take x t.cells) → Said m b (cells_before x (take (i + 1) ts))
before-more m b x i ts t lt is h k =
    subst (Said m b) (sym (ap (cells_before x) (one_more i ts t lt is) ∙ before_append x (take i ts) t)) (said-both m b (cells_before x (take i ts)) (take x t.cells) h k)

pub before-all : (m : KeyMarks) (b : Bool) (x i : ℕ) (ts : List TrackState) → length ts ≤ i → Said m b (cells_before x (take i ts)) → Said m b (cells_before x ts)
before-all m b x i ts le = subst (λ (us : List TrackState). Said m b (cells_before x us)) (take_all i ts le)

-- what stands before a place on one track more, and on all
pub before-one : (q : ℕ × ℕ) (x i : ℕ) (ts : List TrackState) (t : TrackState) → i < length ts → t ≡ get_or ts i t
    → list_any (has_key q) (cells_before x (take (i + 1) ts)) ≡ (list_any (has_key q) (cells_before x (take i ts)) || list_any (has_key q) (take x t.cells))
before-one q x i ts t lt is =
    ap (list_any (has_key q)) (ap (cells_before x) (one_more i ts t lt is) ∙ before_append x (take i ts) t)
    ∙ list_any-append (has_key q) (cells_before x (take i ts)) (take x t.cells)

pub before-some : (q : ℕ × ℕ) (x i : ℕ) (ts : List TrackState) → list_any (has_key q) (cells_before x (take i ts)) ≡ true → list_any (has_key q) (cells_before x ts) ≡ true
before-some q x zero ts e = absurd (false_true e)
before-some q x (suc i) [] e = absurd (false_true e)
before-some q x (suc i) (t ∷ ts) e =
    list_any-append (has_key q) (take x t.cells) (cells_before x ts)
    ∙ or_or (list_any (has_key q) (take x t.cells)) (list_any (has_key q) (cells_before x ts)) (list_any (has_key q) (take x t.cells)) (list_any (has_key q) (cells_before x (take i ts)))
    (λ h. h) (before-some q x i ts)
    (sym (list_any-append (has_key q) (take x t.cells) (cells_before x (take i ts))) ∙ e)
