-- What is put on the output, whole or cut by a write that failed, and the line that says why something was refused.
use Rattle.std.specs.Prelude.{◌≡◌, ℕ, ◌⊎◌, List, ◌++◌, codes, decimal}
use Rattle.room_ports.specs.Bytes.{Takes, TakesFront}
use Rattle.room_ports.specs.Counts.{HasRisen}
use Rattle.command_files.specs.declared.status.Status.{Status}
use Rattle.command_files.specs.declared.status.Status.TheVariants.{WriteFault}
use Rattle.command_files.specs.Ports.{OutputTold}

-- the text was put on the output
abbrev pub IsPut : List ℕ → OutputTold → OutputTold → Type 0
IsPut text old new = (new.faults ≡ old.faults) × Takes old.taken new.taken text

-- a front of it was, and then a write failed
abbrev pub IsCut : List ℕ → OutputTold → OutputTold → Type 0
IsCut text old new = HasRisen old.faults new.faults × TakesFront old.taken new.taken text

-- a command that ends with a text: with this status where all of it was put, and else because a write failed
abbrev pub PutsWith : Status → List ℕ → OutputTold → OutputTold → Status → Type 0
PutsWith whole text old new status =
    ((status ≡ whole) × IsPut text old new) ⊎ ((status ≡ WriteFault) × IsCut text old new)

-- the line of a refusal: `refused`, its code and its number
abbrev pub refusal_text : List ℕ → ℕ → List ℕ
refusal_text code number = codes "refused " ++ code ++ codes " " ++ decimal number ++ codes "\n"
