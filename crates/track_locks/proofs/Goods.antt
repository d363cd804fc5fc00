-- Good parts, one more or one less.
use Rattle.std.proofs.Common.{◌≡◌, ℕ, zero, suc, ◌+◌, List, [], ◌∷◌, ◌++◌, Option, Some, slice_get, sym, ◌∙◌, subst, arith}
use Rattle.room_core.specs.Parts.{AreGood, numbers}
use Rattle.edit_journal.specs.Seats.{Opening}
use Rattle.track_locks.specs.Homes.{IsGoodAt, AreGoodAt}

add_good : {P : Type 0} (good : ℕ → P → Type 0) (ns : List ℕ) (ps : List P) (n : ℕ) (p : P) → AreGood good ns ps → good n p → AreGood good (ns ++ n ∷ []) (ps ++ p ∷ [])
add_good good [] [] n p h one = (one, tt)
add_good good [] (q ∷ ps) n p h one = absurd h
add_good good (m ∷ ns) [] n p h one = absurd h
add_good good (m ∷ ns) (q ∷ ps) n p h one = (h.0, add_good good ns ps n p h.1 one)

-- one good part more
pub good_more : {O P : Type 0} (good : O → ℕ → P → Type 0) (opening : Option (Opening O P)) (ns : List ℕ) (ps : List P) (n : ℕ) (p : P)
    → AreGoodAt good opening ns ps → IsGoodAt good opening n p → AreGoodAt good opening (ns ++ n ∷ []) (ps ++ p ∷ [])
good_more good opening ns ps n p h one = λ o is. add_good (good o.0) ns ps n p (h o is) (one o is)

none_longer : {P : Type 0} (good : ℕ → P → Type 0) (ps : List P) (p : P) → AreGood good [] (ps ++ p ∷ []) → ⊥
none_longer good [] p h = h
none_longer good (q ∷ ps) p h = h

none_shorter : {P : Type 0} (good : ℕ → P → Type 0) (ns : List ℕ) (n : ℕ) → AreGood good (ns ++ n ∷ []) [] → ⊥
none_shorter good [] n h = h
none_shorter good (m ∷ ns) n h = h

drop_good : {P : Type 0} (good : ℕ → P → Type 0) (ns : List ℕ) (ps : List P) (n : ℕ) (p : P) → AreGood good (ns ++ n ∷ []) (ps ++ p ∷ []) → AreGood good ns ps × good n p
drop_good good [] [] n p h = (tt, h.0)
drop_good good [] (q ∷ ps) n p h = absurd (none_longer good ps p h.1)
drop_good good (m ∷ ns) [] n p h = absurd (none_shorter good ns n h.1)
drop_good good (m ∷ ns) (q ∷ ps) n p h = let r = drop_good good ns ps n p h.1 in ((h.0, r.0), r.1)

-- one less
pub good_less : {O P : Type 0} (good : O → ℕ → P → Type 0) (opening : Option (Opening O P)) (ns : List ℕ) (ps : List P) (n : ℕ) (p : P)
    → AreGoodAt good opening (ns ++ n ∷ []) (ps ++ p ∷ []) → AreGoodAt good opening ns ps × IsGoodAt good opening n p
good_less good opening ns ps n p h = (λ o is. (drop_good (good o.0) ns ps n p (h o is)).0, λ o is. (drop_good (good o.0) ns ps n p (h o is)).1)

good_from : {P : Type 0} (good : ℕ → P → Type 0) (from count : ℕ) (ps : List P) (n : ℕ) (p : P) → AreGood good (numbers from count) ps → slice_get ps n ≡ Some p → good (from + n) p
good_from good from zero [] n p h e = absurd (Prim.grind (arith, e))
good_from good from zero (q ∷ ps) n p h e = absurd h
good_from good from (suc count) [] n p h e = absurd h
good_from good from (suc count) (q ∷ ps) zero p h e =
    let same : q ≡ p = Prim.grind (arith, e) in
    let first : from ≡ from + 0 = omega arith in subst (good (from + 0)) same (subst (λ k. good k q) first h.0)
good_from good from (suc count) (q ∷ ps) (suc n) p h e =
    let next : from + 1 + n ≡ from + suc n = omega arith in subst (λ k. good k p) next (good_from good (from + 1) count ps n p h.1 e)

-- a part of the opening is good at its number
pub first_good : {O P : Type 0} (good : O → ℕ → P → Type 0) (count : ℕ) (o : Opening O P) (opening : Option (Opening O P)) (n : ℕ) (p : P)
    → opening ≡ Some o → AreGood (good o.0) (numbers 0 count) o.1 → slice_get o.1 n ≡ Some p → IsGoodAt good opening n p
first_good {O} {P} good count o opening n p is all at = λ q be.
    let e : Some o ≡ Some q = sym is ∙ be in
    let same : o ≡ q = Prim.grind (arith, e) in
    let from : 0 + n ≡ n = omega arith in
    subst (λ (x : Opening O P). good x.0 n p) same (subst (λ k. good o.0 k p) from (good_from (good o.0) 0 count o.1 n p all at))
