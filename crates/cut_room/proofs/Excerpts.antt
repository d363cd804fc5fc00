-- Entries that were copied, or why they were not.
use Rattle.std.proofs.Common.{◌≡◌, ℕ, ◌<◌, List, length, Err, sym, subst}
use Rattle.room_core.specs.Whole.{Meaning}
use Rattle.edit_journal.specs.Turns.{Known}
use Rattle.edit_journal.specs.Faults.{SaysNoPoint}
use Rattle.edit_journal.specs.declared.log.CopyFault.{CopyFault}
use Rattle.edit_journal.specs.declared.log.CopyFault.TheVariants.{NoPoint, Memory}
use Rattle.cut_room.specs.Rooms.{IsAtPoint, IsExcerpt}

-- why entries were not copied, at a point that is the journal's length
pub excerpt_fault : {O P C D R : Type 0} (m : Meaning P C D R) (opening : List P) (from most : ℕ) (before after : Known O P C) (f : CopyFault)
    → IsAtPoint m opening before after (length after.entries) → SaysNoPoint f from (length after.entries) → IsExcerpt m opening from most before after (Err f)
excerpt_fault m opening from most before after (NoPoint count) at says = (subst (λ k. IsAtPoint m opening before after k) (sym says.1) at, subst (λ k. k < from) (sym says.1) says.0)
excerpt_fault m opening from most before after Memory at says = (at, says)
