-- No two members of a crew that is read have one name.
use Rattle.std.proofs.Common.{◌≡◌, ◌≢◌, ℕ, ◌+◌, ◌≤◌, List, [], ◌∷◌, ◌++◌, Bool, true, false, ◌||◌, ◌&&◌, Result, Ok, Err, length, nat_le, bytes_eq, if◌then◌else◌, refl, sym, subst}
use Rattle.std.specs.List.{AllByRecursion, list_any, slice_split}
use Rattle.std.proofs.lemmas.Bool.{leb-true}
use Rattle.std.proofs.lemmas.Slice.Eq.{bytes_eq-Decides}
use Rattle.std.specs.Bool.{Decides}
use Rattle.line_words.specs.Blanks.{words_of}
use Rattle.line_words.specs.Lines.{is_lf}
use Rattle.sha2.specs.Sha256.{sha256}
use Rattle.crew_words.specs.Crews.{HaveOwnNames, MemberState, crew_read, goes_on, has_name, is_key, is_name, line_read, lines_read, told_part, with_enough, words_read}
use Rattle.crew_words.specs.declared.crew.CrewFault.{CrewFault}
use Rattle.crew_words.specs.declared.crew.CrewFault.TheVariants.{Line, Twice, Few, Long}
use Rattle.crew_words.specs.declared.crew.TheConstants.{MOST_BYTES}

or_false : (a b : Bool) → (a || b) ≡ false → (a ≡ false) × (b ≡ false)
or_false true b h = absurd cc
or_false false b h = (refl, h)

differ : (b : Bool) (xs ys : List ℕ) → Decides b (xs ≡ ys) → b ≡ false → ys ≢ xs
differ true xs ys told h = absurd cc
differ false xs ys told h = λ same. let no : false ≡ true = told.1 (sym same) in absurd cc

all_more : (P : MemberState → Type 0) (crew : List MemberState) (member : MemberState) → AllByRecursion P crew → P member → AllByRecursion P (crew ++ member ∷ [])
all_more P [] member all one = (one, tt)
all_more P (first ∷ crew) member all one = (all.0, all_more P crew member all.1 one)

own_more : (crew : List MemberState) (member : MemberState) → HaveOwnNames crew → list_any (has_name member.name) crew ≡ false → HaveOwnNames (crew ++ member ∷ [])
own_more [] member own none = (tt, tt)
own_more (first ∷ crew) member own none =
    let parts = or_false (bytes_eq first.name member.name) (list_any (has_name member.name) crew) none in (
      all_more (λ other. other.name ≢ first.name) crew member own.0
          (differ (bytes_eq first.name member.name) first.name member.name (bytes_eq-Decides first.name member.name) parts.0),
      own_more crew member own.1 parts.1,
    )

own_same : (crew more : List MemberState) → crew ≡ more → HaveOwnNames crew → HaveOwnNames more
own_same crew more same own = subst HaveOwnNames same own

is_ok : (crew more : List MemberState) (read : Result (List MemberState) CrewFault) → read ≡ Ok crew → read ≡ Ok more → crew ≡ more
is_ok crew more read one other = cc

member_own : (crew more : List MemberState) (number : ℕ) (name key : List ℕ) (sound taken : Bool) → list_any (has_name name) crew ≡ taken
    → (if sound then (if taken then Err (Twice number) else Ok (crew ++ record { name = name; sum = sha256 key } ∷ [])) else Err (Line number)) ≡ Ok more
    → HaveOwnNames crew → HaveOwnNames more
member_own crew more number name key true true known h own = absurd cc
member_own crew more number name key true false known h own =
    own_same (crew ++ record { name = name; sum = sha256 key } ∷ []) more (is_ok (crew ++ record { name = name; sum = sha256 key } ∷ []) more _ refl h) (own_more crew (record { name = name; sum = sha256 key }) own known)
member_own crew more number name key false taken known h own = absurd cc

words_own : (crew more : List MemberState) (number : ℕ) (words : List (List ℕ)) → words_read crew number words ≡ Ok more → HaveOwnNames crew → HaveOwnNames more
words_own crew more number [] h own = own_same crew more (is_ok crew more _ refl h) own
words_own crew more number (name ∷ []) h own = absurd cc
words_own crew more number (name ∷ key ∷ []) h own =
    member_own crew more number name key (is_name name && is_key key) (list_any (has_name name) crew) refl h own
words_own crew more number (name ∷ key ∷ other ∷ words) h own = absurd cc

-- what a reading that went well went on from
goes_on_from : (read : Result (List MemberState) CrewFault) (next : List MemberState → Result (List MemberState) CrewFault) (more : List MemberState)
    → goes_on read next ≡ Ok more → (crew : List MemberState) × (read ≡ Ok crew) × (next crew ≡ Ok more)
goes_on_from (Ok crew) next more h = (crew, refl, h)
goes_on_from (Err fault) next more h = absurd cc

lines_own : (lines : List (List ℕ)) (crew more : List MemberState) (number : ℕ) → lines_read crew number lines ≡ Ok more → HaveOwnNames crew → HaveOwnNames more
lines_own [] crew more number h own = own_same crew more (is_ok crew more _ refl h) own
lines_own (line ∷ lines) crew more number h own =
    let from = goes_on_from (line_read crew number line) (λ c. lines_read c (number + 1) lines) more h in
    lines_own lines from.0 more (number + 1) from.2 (words_own crew from.0 number (words_of (told_part line)) from.1 own)

enough_told : (b : Bool) (stations : ℕ) (crew more : List MemberState) → nat_le stations (length crew) ≡ b
    → (if b then Ok crew else Err (Few (length crew) stations)) ≡ Ok more → (stations ≤ length more) × (crew ≡ more)
enough_told true stations crew more known h = let same : crew ≡ more = is_ok crew more _ refl h in (rw (← same) (leb-true _ _ known), same)
enough_told false stations crew more known h = absurd cc

-- of a crew that is read
pub record IsSoundCrew (stations : ℕ) (crew : List MemberState) : Type 0 where
  pub enough : stations ≤ length crew
  pub names : HaveOwnNames crew

read_sound : (b : Bool) (stations : ℕ) (text : List ℕ) (crew : List MemberState)
    → (if b then goes_on (lines_read [] 1 (slice_split is_lf text)) (with_enough stations) else Err Long) ≡ Ok crew → IsSoundCrew stations crew
read_sound true stations text crew h =
    let from = goes_on_from (lines_read [] 1 (slice_split is_lf text)) (with_enough stations) crew h in
    let told = enough_told (nat_le stations (length from.0)) stations from.0 crew refl from.2 in
    record { enough = told.0; names = own_same from.0 crew told.1 (lines_own (slice_split is_lf text) [] from.0 1 from.1 tt) }
read_sound false stations text crew h = absurd cc

pub crew_sound : (stations : ℕ) (text : List ℕ) (crew : List MemberState) → crew_read stations text ≡ Ok crew → IsSoundCrew stations crew
crew_sound stations text crew h = read_sound (nat_le (length text) MOST_BYTES) stations text crew h
