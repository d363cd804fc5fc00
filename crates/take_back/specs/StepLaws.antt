-- What the steps name, and what an opening has.
use Rattle.std.proofs.Common.{◌≡◌, ℕ, suc, ◌+◌, ◌<◌, ◌≤◌, List, [], ◌∷◌, Option, Some, None, All, IfSome, length, map}
use Rattle.std.proofs.Common.{option_map, refl, sym, ap, ◌∙◌, subst, arith}
use Rattle.part_sets.specs.Members.{first_absent, members}
use Rattle.part_sets.specs.MemberLaws.{ascend}
use Rattle.room_core.specs.Parts.{AreGood, IsNaming, numbers}
use Rattle.room_core.specs.Whole.{Meaning}
use Rattle.take_back.specs.Backs.{Naming}
use Rattle.take_back.specs.Parts.{nows, CanOpen, IsGoodKept}
use Rattle.take_back.specs.Steps.{backed, missing, names_of, refusal_of}
use Rattle.take_back.specs.declared.answers.BackRefusal.{BackRefusal}
use Rattle.take_back.specs.declared.kept.Kept.{Kept}
use Rattle.take_back.specs.declared.kept.Former.{Former}
use Rattle.take_back.specs.declared.step.Deed.{Deed}
use Rattle.take_back.specs.declared.step.Deed.TheVariants.{Do, Back}
use Rattle.take_back.specs.declared.step.Step.{Step}

pub none_mapped : {A B : Type 0} (f : A → B) (o : Option A) → option_map f o ≡ None → o ≡ None
none_mapped f None h = refl
none_mapped f (Some a) h = absurd (Prim.grind (arith, h))

pub none_missing : (count : ℕ) (ns : List ℕ) → missing count ns ≡ None → (0 < length ns)
    × (first_absent count ns ≡ None)
none_missing count [] h = absurd (Prim.grind (arith, h))
none_missing count (n ∷ ns) h = (omega arith, h)

named_deed : {P C D R : Type 0} (count : ℕ) (m : Meaning P C D R) (a : Deed C) → Naming m count
    → refusal_of count m.refuses a ≡ None
    → IsNaming count (names_of m.names a)
named_deed count m (Do c) naming h = naming c (none_mapped _ (m.refuses c) h)
named_deed count m (Back tracks) naming h =
    let there = none_missing count (members tracks) (none_mapped _ (missing count (members tracks)) h) in
    record { some = there.0; ascend = ascend tracks count there.1 }

pub backed-named : {P C D R : Type 0} (count : ℕ) (m : Meaning P C D R) → Naming m count → (s : Step C)
    → (backed count m).refuses s ≡ None
    → IsNaming count ((backed count m).names s)
backed-named count m naming s h = named_deed count m s.act naming h

good_fresh : {P : Type 0} (good : ℕ → P → Type 0) (ns : List ℕ) (ks : List (Kept P)) → AreGood good ns (nows ks)
    → All (λ (k : Kept P). k.before ≡ None) ks
    → AreGood (IsGoodKept good) ns ks
good_fresh good [] [] h all = tt
good_fresh good [] (k ∷ ks) h all = absurd h
good_fresh good (n ∷ ns) [] h all = absurd h
good_fresh good (n ∷ ns) (k ∷ ks) h all =
    let none : k.before ≡ None = all 0 k (omega arith) in (
      (h.0, subst (λ b. IfSome b (λ (f : Former _). good n f.part)) (sym none) tt),
      good_fresh good ns ks h.1
          (λ j d inside. all (suc j) d (omega (arith, inside))),
    )

pub backed-opens : {P : Type 0} (good : ℕ → P → Type 0) (count : ℕ) (opens : List P → Type 0)
    → ((ps : List P) → opens ps → (0 < count) × (count ≤ 32) × AreGood good (numbers 0 count) ps)
    → (ks : List (Kept P)) → CanOpen opens ks → (0 < count) × (count ≤ 32)
    × AreGood (IsGoodKept good) (numbers 0 count) ks
backed-opens good count opens law ks h =
    let plain = law (nows ks) h.0 in (plain.0, plain.1, good_fresh good (numbers 0 count) ks plain.2 h.1)
