-- What a call that may find no memory answers and leaves.
use Rattle.std.specs.Prelude.{◌≡◌, Result, Ok, Err, IsOk}
use Rattle.out_of_memory.specs.declared.fault.Fault.{Fault}
use Rattle.out_of_memory.specs.declared.fault.Fault.TheVariants.{Refused, Memory}

-- What a call leaves and answers is what it means: the state and the answer that are meant, or the refusal and the
-- state as it was. It finds no memory only where it was to be done, so a refusal is told whatever memory there is; the
-- state is as it was then too.
abbrev pub Answers : {S D R : Type 0} → Result (S × D) R → S → S → Result D (Fault R) → Type 0
Answers meant before after (Ok d) = meant ≡ Ok (after, d)
Answers meant before after (Err (Refused r)) = (meant ≡ Err r) × (after ≡ before)
Answers meant before after (Err Memory) = IsOk meant × (after ≡ before)

-- A question is answered by what it means. It finds no memory only where it is to be answered, as above.
abbrev pub Tells : {A R : Type 0} → Result A R → Result A (Fault R) → Type 0
Tells meant (Ok a) = meant ≡ Ok a
Tells meant (Err (Refused r)) = meant ≡ Err r
Tells meant (Err Memory) = IsOk meant
