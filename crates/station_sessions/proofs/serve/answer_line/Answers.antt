use Rattle.std.proofs.Common.{[], ◌∷◌}
use Rattle.line_words.specs.Told.{line_told}
use Rattle.station_sessions.specs.Outside.{AreSent, LastIsCut}
use Rattle.station_sessions.proofs.Serves.{breaks_one, serves_grown, serves_more, serves_one, sent_one, cut_one}
use Rattle.station_sessions.proofs.serve.answer_line.Goals as goal

pub returns-in-Ok-send-clause-ok : goal.returns-in-Ok-send-clause-ok
returns-in-Ok-send-clause-ok g c =
    let t = g.K.Sink.taken c.args.output.now in
    let u = g.K.Sink.taken c.send.new.output in
    let reply = c.answer-reply.result.0 in
    let line = line_told c.args.end c.args.text.now in
    let one = serves_one c.args.session.now c.answer-reply.new.self c.hold.new.self line reply c.answer-reply.result.1 c.answer-reply.ensures c.hold.ensures.same (AreSent t u) c.in-Ok.ensures.held
    (sent_one t u reply (rw c.in-Ok-send.is at c.send.ensures.ok)) in
    serves_more c.args.session.now c.hold.new.self c.keep_cut.new.self (line ∷ []) [] t u u one (serves_grown c.hold.new.self c.keep_cut.new.self u c.keep_cut.ensures)

pub returns-in-Err-send-clause-stop : goal.returns-in-Err-send-clause-stop
returns-in-Err-send-clause-stop g c =
    let t = g.K.Sink.taken c.args.output.now in
    let u = g.K.Sink.taken c.send.new.output in
    let reply = c.answer-reply.result.0 in
    serves_one c.args.session.now c.answer-reply.new.self c.hold.new.self _ reply c.answer-reply.result.1 c.answer-reply.ensures c.hold.ensures.same (LastIsCut t u) c.in-Ok.ensures.held
    (cut_one t u reply (rw c.in-Err-send.is at c.send.ensures.err))

pub returns-in-Err-clause-stop : goal.returns-in-Err-clause-stop
returns-in-Err-clause-stop g c = (
  c.in-Err.ensures.fault.0,
  c.in-Err.ensures.fault.1,
  breaks_one c.args.session.now c.answer-reply.new.self c.hold.new.self _ c.answer-reply.result.0 c.answer-reply.result.1 c.answer-reply.ensures c.hold.ensures.same (g.K.Sink.taken c.args.output.now),
)
