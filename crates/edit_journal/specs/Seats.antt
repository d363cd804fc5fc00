-- What a seat of the journal's table knows, and the rule of all seats. The table has one word, the number of entries.
use Rattle.std.specs.Prelude.{◌≡◌, ◌⊎◌, ℕ, List, [], ◌∷◌, ◌++◌, length, map, true, false, ◌==◌, Bool, Option, Some, None, if◌then◌else◌}
use Rattle.std.specs.List.{filter, list_any}
use mathlib.Core.Option.{some}
use lib.ListN.{get_elem?}
use Rattle.room_core.specs.declared.entry.Entry.{Entry}
use Rattle.room_core.specs.Parts.{numbers}
use Rattle.edit_journal.specs.declared.name.Name.{Name}
use Rattle.edit_journal.specs.declared.name.Name.TheVariants.{Part, Station}
use Rattle.edit_journal.specs.declared.view.View.{View}

-- the object's value, and the parts that a history begins with
abbrev pub Opening : Type 0 → Type 0 → Type 0
Opening O P = O × List P

-- these entries begin the log
abbrev pub Begins : {E : Type 0} → List E → List E → Type 0
Begins {E} log entries = (rest : List E) × (log ≡ entries ++ rest)

abbrev pub In : {A : Type 0} → A → List A → Type 0
In x [] = ⊥
In x (y ∷ ys) = (x ≡ y) ⊎ In x ys

abbrev pub is_same : Name → Name → Bool
is_same (Part n) (Part m) = n == m
is_same (Part n) (Station m) = false
is_same (Station n) (Part m) = false
is_same (Station n) (Station m) = n == m

-- an entry bears the parts that its call names, and its station
abbrev pub bears : {C : Type 0} → (C → List ℕ) → Entry C → Name → Bool
bears names e (Part n) = list_any (λ k. k == n) (names e.call)
bears names e (Station s) = e.station == s

-- the entries that bear a name
abbrev pub proj : {C : Type 0} → (C → List ℕ) → Name → List (Entry C) → List (Entry C)
proj names x entries = filter (λ e. bears names e x) entries

-- the names of so many parts and stations
abbrev pub all_names : ℕ → ℕ → List Name
all_names parts stations = map (λ n. Part n) (numbers 0 parts) ++ map (λ n. Station n) (numbers 0 stations)

-- the journal's view, and one that is spent
abbrev pub keeper : {O P C : Type 0} → Option (Opening O P) → List Name → List (Entry C) → View O P C
keeper opening names entries = record { keeps = true; opening = opening; names = names; entries = entries; remembered = [] }

abbrev pub nobody : {O P C : Type 0} → View O P C
nobody = record { keeps = false; opening = None; names = []; entries = []; remembered = [] }

-- this history and the journal agree on the name
pub record Agrees {C : Type 0} (names : C → List ℕ) (log : List (Entry C)) (x : Name) (entries : List (Entry C)) : Type 0 where
  pub front : Begins log entries
  pub same : proj names x entries ≡ proj names x log

-- what the rule says of one view
pub record Fits {O P C : Type 0} (names : C → List ℕ) (seat : ℕ) (opening : Opening O P) (log : List (Entry C)) (by : ℕ) (v : View O P C) : Type 0 where
  pub keeps : v.keeps ≡ true → (by ≡ seat) × (v.entries ≡ log)
  pub quiet : v.keeps ≡ false → v.remembered ≡ []
  pub same : (o : Opening O P) → v.opening ≡ Some o → o ≡ opening
  pub front : Begins log v.entries
  pub knows : (x : Name) → In x v.names → proj names x v.entries ≡ proj names x log
  pub remembers : (x : Name) (o : Option (Opening O P)) (l : List (Entry C)) → In (x, (o, l)) v.remembered → (o ≡ Some opening) × Agrees names log x l

-- no name stands in two views
abbrev pub Apart : {O P C : Type 0} → List (View O P C) → Type 0
Apart {O} {P} {C} views = (i j : ℕ) (u v : View O P C) (x : Name) → get_elem? views i ≡ some u → get_elem? views j ≡ some v → In x u.names → In x v.names → i ≡ j

-- the rule, of the journal's seat, the one opening and the journal's entries
pub record SeatRule {O P C : Type 0} (names : C → List ℕ) (words : List ℕ) (views : List (View O P C)) (seat : ℕ) (opening : Opening O P) (log : List (Entry C)) : Type 0 where
  pub count : words ≡ length log ∷ []
  pub each : (by : ℕ) (v : View O P C) → get_elem? views by ≡ some v → Fits names seat opening log by v
  pub apart : Apart views

-- which names an entry bears is told by the object's value in the opening
abbrev pub Kept : {O P C : Type 0} → (O → C → List ℕ) → List ℕ → List (View O P C) → Type 0
Kept {O} {P} {C} names words views = (seat : ℕ) × (opening : Opening O P) × (log : List (Entry C)) × SeatRule (names opening.0) words views seat opening log

-- what a look at the word teaches the journal's seat
abbrev pub Learns : {O P C : Type 0} → (O → C → List ℕ) → View O P C → ℕ → Type 0
Learns {O} {P} {C} names v n =
    v.keeps ≡ true → (n ≡ length v.entries)
    × ((opening : Opening O P) (x : Name) (o : Option (Opening O P)) (l : List (Entry C))
    → v.opening ≡ Some opening → In (x, (o, l)) v.remembered
    → (o ≡ Some opening) × Agrees (names opening.0) v.entries x l)

abbrev pub without : Name → List Name → List Name
without name [] = []
without name (n ∷ ns) = if is_same n name then without name ns else n ∷ without name ns

abbrev pub forget : {A : Type 0} → Name → List (Name × A) → List (Name × A)
forget name [] = []
forget name (p ∷ ps) = if is_same p.0 name then forget name ps else p ∷ forget name ps

-- the view gives up a name, and a token has it
abbrev pub left_of : {O P C : Type 0} → Option Name → View O P C → View O P C
left_of None v = v
left_of (Some name) v = record v { names = without name v.names; remembered = forget name v.remembered }

abbrev pub bearer : {O P C : Type 0} → Option (Opening O P) → List Name → List (Entry C) → View O P C
bearer opening names entries = record { keeps = false; opening = opening; names = names; entries = entries; remembered = [] }

abbrev pub listed : {A : Type 0} → Option A → List A
listed None = []
listed (Some a) = a ∷ []

abbrev pub right_of : {O P C : Type 0} → Option Name → View O P C → View O P C
right_of name v = bearer v.opening (listed name) v.entries

abbrev pub noted : {A : Type 0} → A → List Name → List (Name × A)
noted a [] = []
noted a (x ∷ xs) = (x, a) ∷ noted a xs

-- the view takes in a token's names, and remembers its opening and its history
abbrev pub both_of : {O P C : Type 0} → View O P C → View O P C → View O P C
both_of v w = record v { names = v.names ++ w.names; remembered = v.remembered ++ noted (w.opening, w.entries) w.names }

abbrev pub added : {O P C : Type 0} → Option (Entry C) → View O P C → View O P C
added entry v = record v { entries = v.entries ++ listed entry; remembered = [] }
