use Rattle.std.proofs.Common.{[]}
use Rattle.station_sessions.specs.Outside.{AreSent}
use Rattle.line_words.specs.Lines.{last_line}
use Rattle.station_sessions.proofs.Serves.{serves_none, serves_lines}
use Rattle.station_sessions.proofs.serve.finish.Goals as goal

pub returns-in-None-clause-ok : goal.returns-in-None-clause-ok
returns-in-None-clause-ok g c =
    let s = c.args.session.now in
    let t = g.K.Sink.taken c.args.output.now in
    serves_lines s s [] (last_line c.args.reader.now.pending) (AreSent t t) c.in-None.ensures.lines (serves_none s t)
