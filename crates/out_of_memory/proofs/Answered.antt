-- A call that found no memory, as its answer is handed on by another.
use Rattle.std.proofs.Common.{◌≡◌, Result, Ok, Err, IsErrAnd, IsOk, arith}
use Rattle.out_of_memory.specs.Answers.{Answers}
use Rattle.out_of_memory.specs.declared.fault.Fault.{Fault}
use Rattle.out_of_memory.specs.declared.fault.Fault.TheVariants.{Refused, Memory}

pub answers-memory : {S D R : Type 0} (meant : Result (S × D) R) (before after : S) (result : Result D (Fault R))
    → IsErrAnd result (λ (e : Fault R). e ≡ Memory) → IsOk meant → after ≡ before → Answers meant before after result
answers-memory meant before after (Ok d) e ok same = absurd e
answers-memory meant before after (Err (Refused r)) e ok same = absurd (Prim.grind (arith, e))
answers-memory meant before after (Err Memory) e ok same = (ok, same)
