use Rattle.std.proofs.Common.{Option, option_map, sym, ap, ◌∙◌}
use Rattle.program_words.specs.CommandTexts.{Row, told_row}
use Rattle.program_words.specs.Complaints.{near_usage, no_command}
use Rattle.program_words.proofs.complaints.unknown_command.Goals as goal

pub returns-in-None : goal.returns-in-None
returns-in-None c =
    c.no_command-in-None.ensures
    ∙ ap (λ (row : Option Row). no_command c.args.word.now (near_usage row)) (ap (option_map told_row) (sym c.in-None.is) ∙ c.command_near.ensures)
