-- What a call of an object answers and leaves.
use Rattle.std.specs.Prelude.{◌≡◌, Bool, Result, Ok, Err, IsOk, IsTrue}
use Rattle.out_of_memory.specs.declared.fault.Fault.{Fault}
use Rattle.out_of_memory.specs.declared.fault.Fault.TheVariants.{Refused, Memory}

-- The state and the answer that are meant, or the refusal and the state as it was. Where the call finds no memory the
-- state is as it was too; where a call that is to be refused is refused whatever memory there is, this one was to be done.
abbrev pub AnswersCall : {S D R : Type 0} → Bool → Result (S × D) R → S → S → Result D (Fault R) → Type 0
AnswersCall refuses_first meant before after (Ok d) = meant ≡ Ok (after, d)
AnswersCall refuses_first meant before after (Err (Refused r)) = (meant ≡ Err r) × (after ≡ before)
AnswersCall refuses_first meant before after (Err Memory) = (IsTrue refuses_first → IsOk meant) × (after ≡ before)
