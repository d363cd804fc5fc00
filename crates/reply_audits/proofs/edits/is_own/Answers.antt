use Rattle.std.proofs.Common.{ap, option_map, sym, ◌∙◌}
use Rattle.reply_audits.proofs.Verdicts.{none_there, says_there}
use Rattle.reply_audits.proofs.edits.is_own.Goals as goal

pub returns-in-Some : goal.returns-in-Some
returns-in-Some c =
    says_there _ c.in-Some.entry.now _ c.is_entry.result (sym c.entry_at.ensures ∙ ap (option_map (λ e. e.now)) c.in-Some.is) c.is_entry.ensures

pub returns-in-None : goal.returns-in-None
returns-in-None c = none_there _ _ (sym c.entry_at.ensures ∙ ap (option_map (λ e. e.now)) c.in-None.is)
