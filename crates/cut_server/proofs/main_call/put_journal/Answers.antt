use Rattle.std.proofs.Common.{◌≡◌, ◌∙◌}
use Rattle.journal_text.specs.Journals.{journal_text_of}
use Rattle.station_sessions.proofs.Inputs.{source_same}
use Rattle.cut_server.proofs.main_call.put_journal.Goals as goal

pub returns-in-Ok-clause-ends : goal.returns-in-Ok-clause-ends
returns-in-Ok-clause-ends g c =
    let k = source_same _ _ _ _ _ _ _ _ (g.met.L.Line.source_side c.args.line.now) (g.met.L.Line.source_side c.put.new.sink) c.put.ensures.apart in
    let text : c.deref.result.now ≡ journal_text_of c.args.entries.now = c.deref.ensures.value ∙ c.journal_text_into.ensures in
    ((k.1, c.in-Ok.ensures.quiet), k.0, rw (← text) c.in-Ok.ensures.ok)

pub returns-in-Ok-clause-lent : goal.returns-in-Ok-clause-lent
returns-in-Ok-clause-lent g c =
    let k = source_same _ _ _ _ _ _ _ _ (g.met.L.Line.source_side c.args.line.now) (g.met.L.Line.source_side c.put.new.sink) c.put.ensures.apart in
    k.2

pub returns-clause-ends : goal.returns-clause-ends
returns-clause-ends g c =
    let k = source_same _ _ _ _ _ _ _ _ (g.met.L.Line.source_side c.args.line.now) (g.met.L.Line.source_side c.put.new.sink) c.put.ensures.apart in
    let text : c.deref.result.now ≡ journal_text_of c.args.entries.now = c.deref.ensures.value ∙ c.journal_text_into.ensures in
    ((c.in-Err.ensures.cause, k.1), k.0, rw (← text) c.in-Err.ensures.err)

pub returns-clause-lent : goal.returns-clause-lent
returns-clause-lent g c =
    let k = source_same _ _ _ _ _ _ _ _ (g.met.L.Line.source_side c.args.line.now) (g.met.L.Line.source_side c.put.new.sink) c.put.ensures.apart in
    k.2
