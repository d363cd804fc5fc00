-- A pass at the journal.
use Rattle.std.proofs.Common.{◌≡◌, ℕ, List, sym, ap, ◌∙◌, subst}
use Rattle.room_core.specs.declared.entry.Entry.{Entry}
use Rattle.room_core.specs.Projection.{of_station}
use Rattle.room_core.specs.Whole.{Meaning}
use Rattle.edit_journal.specs.declared.name.Name.TheVariants.{Station}
use Rattle.edit_journal.specs.Seats.{Begins, In}
use Rattle.edit_journal.specs.Turns.{AllAgree, IsJournal, Known, Open, gathered}
use Rattle.edit_journal.proofs.Fresh.{in_last}

-- it is there
pub pass_there : {O P C : Type 0} (before after : Open O P C) (pass : Known O P C) → after ≡ gathered (Station pass.number) pass.opening pass.entries before
    → In (Station pass.number) after.names
pass_there {O} {P} {C} before after pass is = subst (λ (w : Open O P C). In (Station pass.number) w.names) (sym is) (in_last (Station pass.number) before.names)

-- and its history was told there
pub told_pass : {O P C : Type 0} (before after : Open O P C) (pass : Known O P C) → after ≡ gathered (Station pass.number) pass.opening pass.entries before
    → In (Station pass.number, (pass.opening, pass.entries)) after.told
told_pass {O} {P} {C} before after pass is =
    subst (λ (w : Open O P C). In (Station pass.number, (pass.opening, pass.entries)) w.told) (sym is) (in_last (Station pass.number, (pass.opening, pass.entries)) before.told)

-- by what a look tells, what it knew begins the journal, with all entries of its station
pub pass_stands : {O P C D R : Type 0} (meaning : O → Meaning P C D R) (opens : O → List P → Type 0) (stations : ℕ) (before after : Open O P C) (pass : Known O P C)
    → after ≡ gathered (Station pass.number) pass.opening pass.entries before → IsJournal meaning opens stations after.opening after.entries → AllAgree meaning after
    → Begins before.entries pass.entries × (of_station pass.number before.entries ≡ of_station pass.number pass.entries)
pass_stands {O} {P} {C} meaning opens stations before after pass is journal agree =
    let a = (agree journal.0 (Station pass.number) pass.opening pass.entries journal.1 (told_pass before after pass is)).1 in
    let same = ap (λ (w : Open O P C). w.entries) is in (
      subst (λ (l : List (Entry C)). Begins l pass.entries) same a.front,
      ap (λ (l : List (Entry C)). of_station pass.number l) (sym same) ∙ sym a.same,
    )
