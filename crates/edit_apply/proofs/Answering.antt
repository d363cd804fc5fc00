-- A call that is refused whatever memory there is answers as a call does, whether that is asked of it or not.
use Rattle.std.proofs.Common.{Bool, Result, Ok, Err}
use Rattle.out_of_memory.specs.Answers.{Answers}
use Rattle.out_of_memory.specs.declared.fault.Fault.{Fault}
use Rattle.out_of_memory.specs.declared.fault.Fault.TheVariants.{Refused, Memory}
use Rattle.room_core.specs.Calls.{AnswersCall}

pub answers-call : {S D R : Type 0} (first : Bool) (meant : Result (S × D) R) (before after : S) (result : Result D (Fault R))
    → Answers meant before after result → AnswersCall first meant before after result
answers-call first meant before after (Ok d) h = h
answers-call first meant before after (Err (Refused r)) h = h
answers-call first meant before after (Err Memory) h = ((λ asked. h.0), h.1)
