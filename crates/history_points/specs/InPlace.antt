-- What a call on all parts that is done in place answers and leaves.
use Rattle.std.specs.Prelude.{◌≡◌, Result, Ok, Err}
use Rattle.out_of_memory.specs.declared.fault.Fault.{Fault}
use Rattle.out_of_memory.specs.declared.fault.Fault.TheVariants.{Refused, Memory}

-- The parts and the answer that are meant, or the refusal and the parts as they were. The parts that the call names are
-- taken out of their places before it is known whether it applies, for which there may be no memory; the parts are as
-- they were then too.
abbrev pub AnswersInPlace : {S D R : Type 0} → Result (S × D) R → S → S → Result D (Fault R) → Type 0
AnswersInPlace meant before after (Ok d) = meant ≡ Ok (after, d)
AnswersInPlace meant before after (Err (Refused r)) = (meant ≡ Err r) × (after ≡ before)
AnswersInPlace meant before after (Err Memory) = after ≡ before
