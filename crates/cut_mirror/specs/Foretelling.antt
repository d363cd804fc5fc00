-- What a call would be answered.
use Rattle.std.specs.Prelude.{◌≡◌, Result, Ok, Err}
use Rattle.out_of_memory.specs.declared.fault.Fault.{Fault}
use Rattle.out_of_memory.specs.declared.fault.Fault.TheVariants.{Refused, Memory}

-- It would be answered so. Where memory is short nobody is told whether it would be refused.
abbrev pub Foretells : {D R : Type 0} → Result D R → Result D (Fault R) → Type 0
Foretells meant (Ok d) = meant ≡ Ok d
Foretells meant (Err (Refused r)) = meant ≡ Err r
Foretells meant (Err Memory) = Unit {0}
