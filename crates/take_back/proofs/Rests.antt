-- The parts of a set beside its numbers, one after another.
use Rattle.std.proofs.Common.{◌≡◌, ℕ, zero, suc, ◌+◌, ◌-◌, ◌^◌, ◌<◌, ◌≤◌, List, [], ◌∷◌, ◌++◌, Bool, true, false}
use Rattle.std.proofs.Common.{Option, Some, None, cond, drop, length, slice_get, slice_index_or, refl, sym, ap, ◌∙◌}
use Rattle.std.proofs.Common.{subst, arith, if◌then◌else◌}
use Rattle.part_sets.specs.Members.{first_absent, has, members}
use Rattle.part_sets.specs.MemberLaws.{members-set, set-members}
use Rattle.part_sets.proofs.Looking.{members_after, at_start, next_member, no_more}
use Rattle.room_core.specs.Whole.{set_of}
use Rattle.take_back.specs.Parts.{first_not}
use Rattle.take_back.specs.Steps.{missing}
use Rattle.take_back.specs.declared.kept.Kept.{Kept}
use Rattle.take_back.specs.declared.kept.Former.{Former}

chosen : (b : Bool) (set t : ℕ) → t < 32 → has set t ≡ b → members_after set t ≡ (if b then t ∷ members_after set
    (t + 1) else members_after set (t + 1))
chosen b set t h e = next_member set t h ∙ ap (λ c. if c then t ∷ members_after set (t + 1) else members_after set
    (t + 1)) e

pub passed_over : (set t at count : ℕ) → t < 32 → has set t ≡ false → at + length (members_after set t) ≡ count
    → at + length (members_after set (t + 1)) ≡ count
passed_over set t at count h e same = ap (λ ns. at + length ns) (sym (chosen false set t h e)) ∙ same

pub counted : (set t at count : ℕ) → t < 32 → has set t ≡ true → at + length (members_after set t) ≡ count
    → (at < count) × (at + 1 + length (members_after set (t + 1)) ≡ count)
counted set t at count h e same =
    let one : at + suc (length (members_after set (t + 1))) ≡ count = ap (λ ns. at + length ns)
    (sym (chosen true set t h e)) ∙ same in
    (omega (arith, one), omega (arith, one))

drop_suc : {A : Type 0} (xs : List A) (k : ℕ) (d : A) → k < length xs → drop k xs ≡ slice_index_or xs k d ∷ drop
    (suc k) xs
drop_suc [] k d h = absurd (omega (arith, h))
drop_suc (x ∷ xs) zero d h = refl
drop_suc (x ∷ xs) (suc k) d h = drop_suc xs k d (omega (arith, h))

drop-index : {A : Type 0} (xs : List A) (k : ℕ) (d : A) → k < length xs → drop k xs ≡ slice_index_or xs k d ∷ drop
    (k + 1) xs
drop-index xs k d h = let next : suc k ≡ k + 1 = omega arith in drop_suc xs k d h
    ∙ ap (λ (j : ℕ). slice_index_or xs k d ∷ drop j xs) next

opened : {P : Type 0} (test : Option (Former P) → Bool) (set t at : ℕ) (ks : List (Kept P)) (d : Kept P) → t < 32
    → has set t ≡ true → at < length ks
    → first_not test (members_after set t) (drop at ks)
    ≡ (if test (slice_index_or ks at d).before then first_not test (members_after set (t + 1)) (drop (at + 1) ks)
    else Some t)
opened test set t at ks d h e there =
    ap (λ ns. first_not test ns (drop at ks)) (chosen true set t h e)
    ∙ ap (first_not test (t ∷ members_after set (t + 1))) (drop-index ks at d there)

pub not_looked : {P : Type 0} (test : Option (Former P) → Bool) (set t at : ℕ) (ks : List (Kept P)) (o : Option ℕ)
    → t < 32 → has set t ≡ false
    → first_not test (members_after set t) (drop at ks) ≡ o → first_not test (members_after set (t + 1))
    (drop at ks) ≡ o
not_looked test set t at ks o h e same = ap (λ ns. first_not test ns (drop at ks)) (sym (chosen false set t h e)) ∙ same

pub passes_next : {P : Type 0} (test : Option (Former P) → Bool) (set t at : ℕ) (ks : List (Kept P)) (d : Kept P)
    (o : Option ℕ) → t < 32 → has set t ≡ true → at < length ks
    → test (slice_index_or ks at d).before ≡ true → first_not test (members_after set t) (drop at ks) ≡ o
    → first_not test (members_after set (t + 1)) (drop (at + 1) ks) ≡ o
passes_next test set t at ks d o h e there passes same =
    sym (opened test set t at ks d h e there ∙ ap (λ b. if b then first_not test (members_after set (t + 1))
    (drop (at + 1) ks) else Some t) passes) ∙ same

pub fails_here : {P : Type 0} (test : Option (Former P) → Bool) (set t at : ℕ) (ks : List (Kept P)) (d : Kept P)
    (o : Option ℕ) → t < 32 → has set t ≡ true → at < length ks
    → test (slice_index_or ks at d).before ≡ false → first_not test (members_after set t) (drop at ks) ≡ o → Some t ≡ o
fails_here test set t at ks d o h e there fails same =
    sym (opened test set t at ks d h e there ∙ ap (λ b. if b then first_not test (members_after set (t + 1))
    (drop (at + 1) ks) else Some t) fails) ∙ same

pub none_left : {P : Type 0} (test : Option (Former P) → Bool) (set t at : ℕ) (ks : List (Kept P))
    (o : Option ℕ) → t ≡ 32
    → first_not test (members_after set t) (drop at ks) ≡ o → None ≡ o
none_left test set t at ks o e same = sym (ap (λ ns. first_not test ns (drop at ks)) (no_more set t e)) ∙ same

-- a set without a member is 0
pub none_named : (set count : ℕ) → set ≡ 0 → missing count (members set) ≡ Some count
none_named set count e = ap (λ (s : ℕ). missing count (members s)) e ∙ ap (missing count) (members-set [] tt)

some_missing : (count : ℕ) (ns : List ℕ) → (ns ≡ [] → ⊥) → missing count ns ≡ first_absent count ns
some_missing count [] h = absurd (h refl)
some_missing count (n ∷ ns) h = refl

pub some_named : (set count : ℕ) → (set ≡ 0 → ⊥) → set < 2 ^ 32 → missing count (members set) ≡ first_absent count
    (members set)
some_named set count h few = some_missing count (members set) (λ none. h (sym (set-members set few) ∙ ap set_of none))
