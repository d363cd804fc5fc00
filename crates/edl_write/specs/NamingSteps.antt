-- Names while a list asks for them: the steps of the code.
use Rattle.std.specs.Prelude.{◌≡◌, ℕ, List, [], ◌∷◌, Some, Result, Err}
use Rattle.reel_names.specs.declared.namer.ReelName.{ReelName}
use Rattle.reel_names.specs.Namers.{AreNames, name_of}
use Rattle.edl_write.specs.declared.fault.ListFault.{ListFault}
use Rattle.edl_write.specs.declared.fault.ListFault.TheVariants.{Channels, DissolveTooLong, Events, Memory, PartialDissolve, PastDay, Reel}
use Rattle.edl_write.specs.Naming.{Names}

abbrev pub names_at : List ReelName → List ReelName → Names
names_at given used = record { given = given; used = used }

-- each of these reels has its name among those given
abbrev pub AreAmong : List ReelName → List ReelName → Type 0
AreAmong given [] = Unit {0}
AreAmong given (r ∷ rs) = (name_of given r.reel ≡ Some r.name) × AreAmong given rs

pub record AreUsed (given used : List ReelName) : Type 0 where
  pub among : AreAmong given used
  pub names : AreNames used

-- a fault for the reel that was refused
abbrev pub IsRefusal : ListFault → Result Names ℕ → Type 0
IsRefusal (Channels count) answer = ⊥
IsRefusal (PartialDissolve at) answer = ⊥
IsRefusal (DissolveTooLong at) answer = ⊥
IsRefusal (Events count) answer = ⊥
IsRefusal (PastDay frame) answer = ⊥
IsRefusal (Reel reel) answer = answer ≡ Err reel
IsRefusal Memory answer = Unit {0}
