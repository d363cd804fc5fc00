use Rattle.list_commands.proofs.fades.fades_opened.Goals as goal

pub fades_at-requires-clause-text : goal.fades_at-requires-clause-text
fades_at-requires-clause-text g c = rw c.deref.ensures.value c.in-Ok.ensures.opens.3.0
