-- Entries that come next in a legal history, and their lines.
use Rattle.std.proofs.Common.{◌≡◌, ℕ, zero, suc, ◌<◌, List, [], ◌∷◌, ◌++◌, length, map, take, drop, Result, Ok, Err, IfOk, refl, sym, ◌∙◌, ap, subst, arith}
use Rattle.std.specs.Prelude.{slice_index_or}
use Rattle.std.proofs.lemmas.List.{append_assoc, length-map, take-append-drop}
use Rattle.room_core.specs.declared.entry.Entry.{Entry}
use Rattle.room_core.specs.History.{IsLegal}
use Rattle.room_core.specs.Whole.{Meaning, whole}
use Rattle.kept_desk.specs.Desks.{IsEntered}

-- a list is what stands before one of its elements, that, and what comes after it
pub apart : {A : Type 0} (l : List A) (k : ℕ) (d : A) → k < length l → (before : List A) × (after : List A) × (l ≡ before ++ slice_index_or l k d ∷ after)
apart [] k d lt = absurd (omega (arith, lt))
apart (x ∷ xs) zero d lt = ([], xs, refl)
apart (x ∷ xs) (suc k) d lt = let rest = apart xs k d (omega (arith, lt)) in (x ∷ rest.0, rest.1, ap (λ l. x ∷ l) rest.2)

-- so is one that such a list stands in
within : {A : Type 0} (front l back before after : List A) (x : A) → l ≡ before ++ x ∷ after
    → front ++ (l ++ back) ≡ (front ++ before) ++ x ∷ (after ++ back)
within front l back before after x is =
    ap (λ k. front ++ (k ++ back)) is
    ∙ (ap (λ k. front ++ k) (append_assoc before (x ∷ after) back) ∙ sym (append_assoc front before (x ∷ (after ++ back))))

pub entered : {P C R X : Type 0} (m : Meaning P C R X) (opening : List P) (history entries : List (Entry C)) (from : ℕ)
    → IsLegal (whole m) opening history → entries ≡ take 1024 (drop from history) → (k : ℕ) (d : Entry C) → k < length entries → IsEntered m (slice_index_or entries k d)
entered {P} {C} m opening history entries from legal next k d lt =
    let one = apart entries k d lt in
    let back = drop 1024 (drop from history) in
    let all : history ≡ take from history ++ (entries ++ back) =
    sym (take-append-drop from history) ∙ ap (λ l. take from history ++ l) (sym (take-append-drop 1024 (drop from history)) ∙ ap (λ l. l ++ back) (sym next)) in
    record {
      opening = opening;
      before = take from history ++ one.0;
      after = one.1 ++ back;
      legal = subst (λ (l : List (Entry C)). IsLegal (whole m) opening l) (all ∙ within (take from history) entries back one.0 one.1 (slice_index_or entries k d) one.2) legal;
    }

take_own : {A : Type 0} (m : ℕ) (l : List A) → take (length (take m l)) l ≡ take m l
take_own zero l = refl
take_own (suc m) [] = refl
take_own (suc m) (x ∷ xs) = ap (λ l. x ∷ l) (take_own m xs)

-- the lines of the entries that come next are as many lines as they are
lines_next : {A B : Type 0} (f : A → B) (m : ℕ) (l entries : List A) (batch : List B) → entries ≡ take m l → batch ≡ map f entries → batch ≡ map f (take (length batch) l)
lines_next f m l entries batch next is =
    let count : length batch ≡ length (take m l) = ap length is ∙ (length-map entries f ∙ ap length next) in
    is ∙ ap (map f) (next ∙ (sym (take_own m l) ∙ ap (λ n. take n l) (sym count)))

-- where there are any
pub lines_next_if : {A B E : Type 0} (f : A → B) (m : ℕ) (l entries : List A) (result : Result (List B) E) → entries ≡ take m l
    → IfOk result (λ batch. batch ≡ map f entries) → IfOk result (λ batch. batch ≡ map f (take (length batch) l))
lines_next_if f m l entries (Ok batch) next is = lines_next f m l entries batch next is
lines_next_if f m l entries (Err e) next is = tt
