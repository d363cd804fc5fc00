use Rattle.std.proofs.Common.{inl}
use Rattle.list_commands.proofs.points.list_opened.Goals as goal

pub list_point-requires-clause-text : goal.list_point-requires-clause-text
list_point-requires-clause-text g c = rw c.deref.ensures.value c.in-Ok.ensures.opens.3.0

pub returns-in-Ok : goal.returns-in-Ok
returns-in-Ok g c = (
  c.in-Ok.ensures.same,
  inl (record {
    entries = c.in-Ok.entries.items;
    holds = c.in-Ok.ensures.opens;
    quiet = c.in-Ok.ensures.counts;
    ends = rw c.deref.ensures.value at c.list_point.ensures;
  }),
)
