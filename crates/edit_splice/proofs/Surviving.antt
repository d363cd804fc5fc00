-- The dissolves that survive a splice, by how far from it their cuts stand.
use Rattle.std.proofs.Common.{◌≡◌, ℕ, zero, suc, ◌+◌, ◌-◌, ◌<◌, ◌≤◌, Bool, true, false, cond, leb, ltb, ◌&&◌, ◌||◌, List, [], ◌∷◌, ◌++◌, length, map, min, Option, Some, None, refl, ap, ◌∙◌, arith, take, drop}
use Rattle.std.proofs.Math.Bool.{or-false}
use Rattle.std.proofs.lemmas.Bool.{le-leb, lt-leb, leb-true, leb-false, lt-ltb, ltb-true, ltb-false, le-ltb}
use Rattle.std.proofs.lemmas.List.{length-take}
use Rattle.frame_meaning.specs.declared.cells.Mark.{Mark}
use Rattle.frame_meaning.specs.declared.cells.Cell.{Cell}
use Rattle.frame_meaning.specs.Splice.{Rule, rule_of, mark_under, with_marks, renumbered, split_item, spliced}
use Rattle.edit_splice.specs.Parts.{kept_before, kept_behind}

-- the cells before a splice, of which the first stands n frames before it
abbrev pub before_splice : Bool → ℕ → List Cell → List Cell
before_splice keep n [] = []
before_splice keep n (c ∷ cs) = record c { mark = kept_before keep n c.mark } ∷ before_splice keep (n - 1) cs

-- the cells behind a splice, of which the first stands n frames behind it
abbrev pub behind_splice : Bool → ℕ → List Cell → List Cell
behind_splice keep n [] = []
behind_splice keep n (c ∷ cs) = record c { mark = kept_behind keep n c.mark } ∷ behind_splice keep (n + 1) cs

-- each cell is told by its place
pub take-marks : (rule : Rule) (n x y p : ℕ) (cs : List Cell) → take n (with_marks rule x y p cs) ≡ with_marks rule x y p (take n cs)
take-marks rule zero x y p cs = refl
take-marks rule (suc n) x y p [] = refl
take-marks rule (suc n) x y p (c ∷ cs) = ap (λ ds. record c { mark = mark_under rule x y p c.mark } ∷ ds) (take-marks rule n x y (p + 1) cs)

pub drop-marks : (rule : Rule) (n x y p : ℕ) (cs : List Cell) → drop n (with_marks rule x y p cs) ≡ with_marks rule x y (p + n) (drop n cs)
drop-marks rule zero x y p cs = let e : p ≡ p + 0 = omega arith in ap (λ (k : ℕ). with_marks rule x y k cs) e
drop-marks rule (suc n) x y p [] = refl
drop-marks rule (suc n) x y p (c ∷ cs) =
    let e : p + 1 + n ≡ p + suc n = omega arith in
    drop-marks rule n x y (p + 1) cs ∙ ap (λ (k : ℕ). with_marks rule x y k (drop n cs)) e

pub length-marks : (rule : Rule) (x y p : ℕ) (cs : List Cell) → length (with_marks rule x y p cs) ≡ length cs
length-marks rule x y p [] = refl
length-marks rule x y p (c ∷ cs) = ap suc (length-marks rule x y (p + 1) cs)

-- before the range
ends_by : (x p b : ℕ) → p < x → leb (p + b) x ≡ leb b (x - p)
ends_by x p b lt = by_test (leb b (x - p)) refl where
  by_test : (t : Bool) → leb b (x - p) ≡ t → leb (p + b) x ≡ t
  by_test true e = le-leb (p + b) x (omega (arith, lt, leb-true b (x - p) e))
  by_test false e = lt-leb (p + b) x (omega (arith, lt, leb-false b (x - p) e))

mark_before : (keep : Bool) (x y p : ℕ) (o : Option Mark) → x ≤ y → p < x → mark_under (rule_of keep) x y p o ≡ kept_before keep (x - p) o
mark_before keep x y p None le lt = refl
mark_before true x y p (Some m) le lt =
    ap (λ (t : Bool). cond t (Some (record m { b = min m.b (x - p) })) (cond (ltb y p) (Some (record m { a = min m.a (p - y) })) None)) (lt-ltb p x lt)
mark_before false x y p (Some m) le lt =
    ap (λ (t : Bool). cond ((t && leb (p + m.b) x) || (ltb y p && leb (y + m.a) p)) (Some m) None) (lt-ltb p x lt)
    ∙ (ap (λ (t : Bool). cond (leb (p + m.b) x || (t && leb (y + m.a) p)) (Some m) None) (le-ltb y p (omega (arith, le, lt)))
    ∙ ap (λ (t : Bool). cond t (Some m) None) (or-false (leb (p + m.b) x) ∙ ends_by x p m.b lt))

marks_before : (keep : Bool) (x y p : ℕ) (cs : List Cell) → x ≤ y → p + length cs ≤ x → with_marks (rule_of keep) x y p cs ≡ before_splice keep (x - p) cs
marks_before keep x y p [] le h = refl
marks_before keep x y p (c ∷ cs) le h =
    let e : x - (p + 1) ≡ x - p - 1 = omega arith in
    ap (λ (o : Option Mark). record c { mark = o } ∷ with_marks (rule_of keep) x y (p + 1) cs) (mark_before keep x y p c.mark le (omega (arith, h)))
    ∙ ap (λ ds. record c { mark = kept_before keep (x - p) c.mark } ∷ ds) (marks_before keep x y (p + 1) cs le (omega (arith, h)) ∙ ap (λ (k : ℕ). before_splice keep k cs) e)

-- behind it
past : (y n : ℕ) → ltb y (y + n) ≡ ltb 0 n
past y n = by_test (ltb 0 n) refl where
  by_test : (t : Bool) → ltb 0 n ≡ t → ltb y (y + n) ≡ t
  by_test true e = lt-ltb y (y + n) (omega (arith, ltb-true 0 n e))
  by_test false e = le-ltb y (y + n) (omega (arith, ltb-false 0 n e))

begins_from : (y n a : ℕ) → leb (y + a) (y + n) ≡ leb a n
begins_from y n a = by_test (leb a n) refl where
  by_test : (t : Bool) → leb a n ≡ t → leb (y + a) (y + n) ≡ t
  by_test true e = le-leb (y + a) (y + n) (omega (arith, leb-true a n e))
  by_test false e = lt-leb (y + a) (y + n) (omega (arith, leb-false a n e))

mark_behind : (keep : Bool) (x y n : ℕ) (o : Option Mark) → x ≤ y → mark_under (rule_of keep) x y (y + n) o ≡ kept_behind keep n o
mark_behind keep x y n None le = refl
mark_behind true x y n (Some m) le =
    let e : y + n - y ≡ n = omega arith in
    ap (λ (t : Bool). cond t (Some (record m { b = min m.b (x - (y + n)) })) (cond (ltb y (y + n)) (Some (record m { a = min m.a (y + n - y) })) None)) (le-ltb (y + n) x (omega (arith, le)))
    ∙ (ap (λ (t : Bool). cond t (Some (record m { a = min m.a (y + n - y) })) None) (past y n)
    ∙ ap (λ (k : ℕ). cond (ltb 0 n) (Some (record m { a = min m.a k })) None) e)
mark_behind false x y n (Some m) le =
    ap (λ (t : Bool). cond ((t && leb (y + n + m.b) x) || (ltb y (y + n) && leb (y + m.a) (y + n))) (Some m) None) (le-ltb (y + n) x (omega (arith, le)))
    ∙ (ap (λ (t : Bool). cond (t && leb (y + m.a) (y + n)) (Some m) None) (past y n)
    ∙ ap (λ (t : Bool). cond (ltb 0 n && t) (Some m) None) (begins_from y n m.a))

marks_behind : (keep : Bool) (x y n : ℕ) (cs : List Cell) → x ≤ y → with_marks (rule_of keep) x y (y + n) cs ≡ behind_splice keep n cs
marks_behind keep x y n [] le = refl
marks_behind keep x y n (c ∷ cs) le =
    let e : y + n + 1 ≡ y + (n + 1) = omega arith in
    ap (λ (o : Option Mark). record c { mark = o } ∷ with_marks (rule_of keep) x y (y + n + 1) cs) (mark_behind keep x y n c.mark le)
    ∙ ap (λ ds. record c { mark = kept_behind keep n c.mark } ∷ ds) (ap (λ (k : ℕ). with_marks (rule_of keep) x y k cs) e ∙ marks_behind keep x y (n + 1) cs le)

-- a splice, by distances
pub spliced-steps : (keep : Bool) (cs : List Cell) (x y : ℕ) (ms : List Cell) (fresh : ℕ) → x ≤ y
    → spliced (rule_of keep) cs x y ms fresh ≡ before_splice keep x (take x cs) ++ ms ++ map (renumbered (split_item cs x y) fresh) (behind_splice keep 0 (drop y cs))
spliced-steps keep cs x y ms fresh le =
    let all : x - 0 ≡ x = omega arith in
    let seam : 0 + y ≡ y + 0 = omega arith in
    let before : take x (with_marks (rule_of keep) x y 0 cs) ≡ before_splice keep x (take x cs) =
    take-marks (rule_of keep) x x y 0 cs
    ∙ (marks_before keep x y 0 (take x cs) le (omega (arith, length-take x cs)) ∙ ap (λ (k : ℕ). before_splice keep k (take x cs)) all) in
    let behind : drop y (with_marks (rule_of keep) x y 0 cs) ≡ behind_splice keep 0 (drop y cs) =
    drop-marks (rule_of keep) y x y 0 cs
    ∙ (ap (λ (k : ℕ). with_marks (rule_of keep) x y k (drop y cs)) seam ∙ marks_behind keep x y 0 (drop y cs) le) in
    ap (λ ds. ds ++ ms ++ map (renumbered (split_item cs x y) fresh) (drop y (with_marks (rule_of keep) x y 0 cs))) before
    ∙ ap (λ ds. before_splice keep x (take x cs) ++ ms ++ map (renumbered (split_item cs x y) fresh) ds) behind
