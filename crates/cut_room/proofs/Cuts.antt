-- Why there is no cut.
use Rattle.std.proofs.Common.{◌≡◌, ℕ, List, length, Err, sym, arith, subst}
use Rattle.room_core.specs.Whole.{Meaning}
use Rattle.edit_journal.specs.Turns.{Known}
use Rattle.edit_journal.specs.declared.log.CopyFault.{CopyFault}
use Rattle.edit_journal.specs.Faults.{SaysNoPoint}
use Rattle.edit_journal.specs.declared.log.CopyFault.TheVariants.{NoPoint, Memory}
use Rattle.cut_room.specs.Rooms.{IsAtPoint, IsCut}

-- why entries were not copied is why there is no cut
pub cut_fault : {O P C D R : Type 0} (m : Meaning P C D R) (opening : List P) (before after : Known O P C) (n : ℕ) (f : CopyFault)
    → IsAtPoint m opening before after (length after.entries) → SaysNoPoint f n (length after.entries) → IsCut m opening n before after (Err f)
cut_fault m opening before after n (NoPoint count) at says = (subst (λ k. IsAtPoint m opening before after k) (sym says.1) at, omega (arith, says.0, says.1))
cut_fault m opening before after n Memory at says = (at.stays, says)
