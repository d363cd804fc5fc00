-- Parts changed one after another.
use Rattle.std.proofs.Common.{◌≡◌, ℕ, zero, suc, ◌+◌, ◌<◌, ◌≤◌, List, [], ◌∷◌, Option, Some, None, All, IfSome, OnOk}
use Rattle.std.proofs.Common.{OnErr, Result, Ok, Err, length, map, refl, sym, ap, subst, arith}
use Rattle.std.proofs.lemmas.List.Elements.{All-cons}
use Rattle.room_core.specs.Parts.{AreGood}
use Rattle.take_back.specs.Parts.{changed, changed_by, given_back, nows, IsGoodKept}
use Rattle.take_back.specs.declared.kept.Kept.{Kept}
use Rattle.take_back.specs.declared.kept.Former.{Former}

-- parts that are good, and so are those that they are copied from
pub good_nows : {P : Type 0} (good : ℕ → P → Type 0) (ns : List ℕ) (ks : List (Kept P))
    → AreGood (IsGoodKept good) ns ks → AreGood good ns (nows ks)
good_nows good [] [] h = tt
good_nows good [] (k ∷ ks) h = absurd h
good_nows good (n ∷ ns) [] h = absurd h
good_nows good (n ∷ ns) (k ∷ ks) h = (h.0.0, good_nows good ns ks h.1)

pub all_nows : {P : Type 0} (Roomy : P → Type 0) (ks : List (Kept P)) → All (λ (k : Kept P). Roomy k.now) ks
    → All Roomy (nows ks)
all_nows Roomy [] h = λ k d inside. absurd (omega (arith, inside))
all_nows Roomy (k ∷ ks) h = All-cons Roomy k.now (nows ks) (h 0 k (omega arith))
    (all_nows Roomy ks (λ j d inside. h (suc j) d (omega (arith, inside))))

pub good_changed : {P : Type 0} (good : ℕ → P → Type 0) (set by : ℕ) (ns : List ℕ) (ks : List (Kept P)) (ps : List P)
    → AreGood (IsGoodKept good) ns ks
    → AreGood good ns ps → AreGood (IsGoodKept good) ns (changed set by ks ps)
good_changed good set by [] [] ps h g = tt
good_changed good set by [] (k ∷ ks) ps h g = absurd h
good_changed good set by (n ∷ ns) [] ps h g = absurd h
good_changed good set by (n ∷ ns) (k ∷ ks) [] h g = absurd g
good_changed good set by (n ∷ ns) (k ∷ ks) (p ∷ ps) h g = ((g.0, h.0.0), good_changed good set by ns ks ps h.1 g.1)

pub good_length : {P : Type 0} (good : ℕ → P → Type 0) (ns : List ℕ) (ps : List P) → AreGood good ns ps
    → length ps ≡ length ns
good_length good [] [] h = refl
good_length good [] (p ∷ ps) h = absurd h
good_length good (n ∷ ns) [] h = absurd h
good_length good (n ∷ ns) (p ∷ ps) h = ap suc (good_length good ns ps h.1)

good_back : {P : Type 0} (good : ℕ → P → Type 0) (n : ℕ) (now : P) (before : Option (Former P)) → good n now
    → IfSome before (λ (f : Former P). good n f.part)
    → IsGoodKept good n (given_back (record { now = now; before = before }))
good_back good n now None h g = (h, tt)
good_back good n now (Some f) h g = (g, tt)

pub good_given : {P : Type 0} (good : ℕ → P → Type 0) (ns : List ℕ) (ks : List (Kept P))
    → AreGood (IsGoodKept good) ns ks
    → AreGood (IsGoodKept good) ns (map given_back ks)
good_given good [] [] h = tt
good_given good [] (k ∷ ks) h = absurd h
good_given good (n ∷ ns) [] h = absurd h
good_given good (n ∷ ns) (k ∷ ks) h = (good_back good n k.now k.before h.0.0 h.0.1, good_given good ns ks h.1)

-- parts that were given back or stay as they are
pub good_either : {P A E : Type 0} (good : ℕ → P → Type 0) (ns : List ℕ) (ks now : List (Kept P)) (result : Result A E)
    → AreGood (IsGoodKept good) ns ks
    → OnOk result (now ≡ map given_back ks) → OnErr result (now ≡ ks) → AreGood (IsGoodKept good) ns now
good_either good ns ks now (Ok a) h given same = subst (AreGood (IsGoodKept good) ns) (sym given)
    (good_given good ns ks h)
good_either good ns ks now (Err e) h given same = subst (AreGood (IsGoodKept good) ns) (sym same) h
