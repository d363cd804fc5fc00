use Rattle.std.proofs.Common.{Some, sym, ap, ◌∙◌}
use Rattle.std.specs.Prelude.{option_map}
use Rattle.command_words.specs.Commands.{asked_by, asks_for_list}
use Rattle.command_words.proofs.ListedRows.{rows_of_list}
use Rattle.command_words.proofs.tables.wants_table.Goals as goal

pub returns-in-Some-ListCut-clause-rows : goal.returns-in-Some-ListCut-clause-rows
returns-in-Some-ListCut-clause-rows c = λ says.
    let asks = ap asks_for_list (sym c.command_in.ensures.command) ∙ (ap (λ r. asks_for_list (option_map asked_by r)) c.in-Some-ListCut.is ∙ ap (λ x. asks_for_list (Some (asked_by x))) c.in-Some-ListCut.field-0-is) in
    rows_of_list c.args.words.now asks (sym c.says_names.ensures.says ∙ says)
