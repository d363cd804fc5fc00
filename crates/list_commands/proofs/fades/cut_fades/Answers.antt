use Rattle.std.proofs.Common.{◌∙◌}
use Rattle.list_commands.proofs.fades.cut_fades.Goals as goal

pub shown_fades-requires-clause-tracks : goal.shown_fades-requires-clause-tracks
shown_fades-requires-clause-tracks c = rw (c.deref.ensures.value ∙ c.in-Ok.ensures) c.requires.tracks

pub returns-in-Ok : goal.returns-in-Ok
returns-in-Ok c = rw (c.deref.ensures.value ∙ c.in-Ok.ensures) at c.shown_fades.ensures
