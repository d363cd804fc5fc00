-- The first entries of a history that grows, and their lines.
use Rattle.std.proofs.Common.{◌≡◌, ℕ, ◌+◌, ◌≤◌, List, ◌++◌, length, map, take, drop, Option, Some, None, IsSome, refl, sym, ◌∙◌, ap, arith}
use Rattle.std.proofs.lemmas.List.{append_assoc, length-take, length-map, map-append, length-drop, take-append-le, drop-append-le}
use Rattle.std.proofs.Math.Seq.{take-add, take-append_seam}
use Rattle.room_core.specs.declared.entry.Entry.{Entry}
use Rattle.edit_journal.specs.Seats.{Begins}
use Rattle.kept_desk.specs.Desks.{ArePending}

-- so many lines of a front are there where the front is as long
pub front_within : {A B : Type 0} (f : A → B) (n : ℕ) (l : List A) → length (map f (take n l)) ≡ n → n ≤ length l
front_within f n l is = omega (arith, is, length-map (take n l) f, length-take n l)

-- the lines of a front and of what follows it are those of the longer front
pub front_more : {A B : Type 0} (f : A → B) (n m : ℕ) (l : List A) → map f (take (n + m) l) ≡ map f (take n l) ++ map f (take m (drop n l))
front_more f n m l = ap (map f) (take-add n m l) ∙ map-append f (take n l) (take m (drop n l))

-- what follows a front has so many entries
pub rest_within : {A B : Type 0} (f : A → B) (n m : ℕ) (l : List A) (batch : List B) → n ≤ length l → length batch ≡ m → batch ≡ map f (take m (drop n l)) → n + m ≤ length l
rest_within f n m l batch within count is =
    let same : length batch ≡ length (map f (take m (drop n l))) = ap length is in
    omega (arith, within, count, same, length-map (take m (drop n l)) f, length-take m (drop n l), length-drop n l)

-- the front stays where the history goes on
pub front_stays : {A : Type 0} (n : ℕ) (l more : List A) → n ≤ length l → Begins more l → take n more ≡ take n l
front_stays n l more within begins = ap (take n) begins.1 ∙ take-append-le n l begins.0 within

-- and so do the first entries that follow it
pub rest_stays : {A : Type 0} (n m : ℕ) (l more : List A) → n + m ≤ length l → Begins more l → take m (drop n more) ≡ take m (drop n l)
rest_stays n m l more within begins =
    ap (λ k. take m (drop n k)) begins.1
    ∙ (ap (take m) (drop-append-le n l begins.0 (omega (arith, within)))
    ∙ take-append-le m (drop n l) begins.0 (omega (arith, within, length-drop n l)))

pub pending_stays : {C : Type 0} (line_of : Entry C → List ℕ) (n : ℕ) (l more : List (Entry C)) (pending : Option (List (List ℕ)))
    → n ≤ length l → Begins more l → ArePending line_of (drop n l) pending → ArePending line_of (drop n more) pending
pending_stays line_of n l more None within begins are = tt
pending_stays line_of n l more (Some batch) within begins are =
    let fits = rest_within line_of n (length batch) l batch within refl are.1 in
    (are.0, are.1 ∙ ap (map line_of) (sym (rest_stays n (length batch) l more fits begins)))

-- one history begins a longer one, and that a longer one still
pub begins_on : {A : Type 0} (one two three : List A) → Begins two one → Begins three two → Begins three one
begins_on one two three a b =
    (a.0 ++ b.0, b.1 ∙ (ap (λ l. l ++ b.0) a.1 ∙ append_assoc one a.0 b.0))

-- a front that the history begins with
pub front_of_begins : {A : Type 0} (kept l : List A) → Begins l kept → take (length kept) l ≡ kept
front_of_begins kept l begins = ap (take (length kept)) begins.1 ∙ take-append_seam kept begins.0

-- what is pending, where something is
pub pending_there : (pending : Option (List (List ℕ))) → IsSome pending → (batch : List (List ℕ)) × (pending ≡ Some batch)
pending_there None is = absurd (Prim.grind (arith, is))
pending_there (Some batch) is = (batch, refl)
