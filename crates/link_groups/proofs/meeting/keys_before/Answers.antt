use Rattle.link_groups.proofs.meeting.keys_before.Goals as goal

pub returns-clause-marked : goal.returns-clause-marked
returns-clause-marked g c = c.mark_before.ensures.marked
