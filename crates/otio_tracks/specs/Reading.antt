-- What stands in a document: a value, or the first fault with its place.
use Rattle.std.specs.Prelude.{◌≡◌, ℕ, List, [], ◌∷◌, Option, Some, None, Result, Ok, Err}
use Rattle.json_tokens.specs.Reading.{◌>>=◌}
use Rattle.otio_tracks.specs.declared.faults.DocCode.{DocCode}
use Rattle.otio_tracks.specs.declared.faults.Fault.{Fault}
use Rattle.otio_tracks.specs.declared.faults.DocFault.{DocFault}
use Rattle.otio_tracks.specs.declared.faults.DocFault.TheVariants.{Refused, Memory}

abbrev pub Read : Type 0 → Type 0
Read A = Result A Fault

abbrev pub refuse : {A : Type 0} → DocCode → ℕ → Read A
refuse code at = Err (record { code = code; at = at })

-- the value, where there is one
abbrev pub or_refuse : {A : Type 0} → Option A → DocCode → ℕ → Read A
or_refuse (Some x) code at = Ok x
or_refuse None code at = refuse code at

-- a step for each of some values, one after another
abbrev pub each : {S X : Type 0} → (S → X → Read S) → S → List X → Read S
each step state [] = Ok state
each step state (x ∷ xs) = step state x >>= λ next. each step next xs

-- What a function returned, seen by view, is what is read.
abbrev pub Reads : {X Y : Type 0} → (X → Y) → Result X Fault → Read Y → Type 0
Reads view (Ok x) read = read ≡ Ok (view x)
Reads view (Err fault) read = read ≡ Err fault

-- The same, unless memory ran out.
abbrev pub Fails : {Y : Type 0} → DocFault → Read Y → Type 0
Fails Memory read = Unit {0}
Fails (Refused code at) read = read ≡ refuse code at

abbrev pub Gives : {X Y : Type 0} → (X → Y) → Result X DocFault → Read Y → Type 0
Gives view (Ok x) read = read ≡ Ok (view x)
Gives view (Err fault) read = Fails fault read
