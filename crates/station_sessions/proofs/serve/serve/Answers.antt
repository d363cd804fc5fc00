use Rattle.std.proofs.Common.{◌≡◌, ℕ, ◌-◌, ◌++◌, [], List, take, drop, length, refl, sym, ap, ◌∙◌, arith}
use Rattle.std.proofs.lemmas.List.{length-append, length-take}
use Rattle.room_ports.proofs.Fronts.{gives-nothing}
use Rattle.station_sessions.specs.Outside.{outside}
use Rattle.station_sessions.proofs.Serves.{serves_none, stops_written, written_then}
use Rattle.station_sessions.proofs.Inputs.{ends_all, ends_stop, piece_stop, too_much, piece_more, take_split, take_fitting, fitting, source_same, sink_same}
use Rattle.station_sessions.proofs.serve.serve.Goals as goal

pub loop-total-init : goal.loop-total-init
loop-total-init g c = record {
  buffer = refl;
  number = omega (arith, c.requires);
  station = refl;
  lent = refl;
  so_far = (
    [],
    refl,
    record {
      gives = gives-nothing (g.L.Source.left c.args.line.now);
      waits = c.new-reader.ensures.pending;
      serves = serves_none c.args.session.now (g.L.Sink.taken c.args.line.now);
      within = omega arith;
      quiet = (refl, refl);
    },
  );
}

pub returns-in-Ok-finish-clause-ends : goal.returns-in-Ok-finish-clause-ends
returns-in-Ok-finish-clause-ends g c =
    let s = c.loop-total.invariant.so_far in
    let k = source_same _ _ _ _ _ _ _ _ (g.met.L.Line.source_side c.read.new.self) (g.met.L.Line.source_side c.finish.new.output) c.finish.ensures.apart in
    let t = sink_same _ _ _ _ _ _ _ _ (g.met.L.Line.sink_side c.loop-total.line) (g.met.L.Line.sink_side c.read.new.self) c.read.ensures.apart in
    ends_all g.P.Keeping.may_fail c.args.session.now c.loop-total.session c.finish.new.session
    (outside (g.L.Source.left c.args.line.now) (g.L.Source.read_faults c.args.line.now) (g.L.Sink.taken c.args.line.now) (g.L.Sink.write_faults c.args.line.now))
    (outside (g.L.Source.left c.loop-total.line) (g.L.Source.read_faults c.loop-total.line) (g.L.Sink.taken c.loop-total.line) (g.L.Sink.write_faults c.loop-total.line))
    (outside (g.L.Source.left c.finish.new.output) (g.L.Source.read_faults c.finish.new.output) (g.L.Sink.taken c.finish.new.output) (g.L.Sink.write_faults c.finish.new.output))
    c.loop-total.reader.pending s.0 (take c.in-Ok.n c.read.new.into) c.in-Ok.n s.2
    (record { gives = rw k.0 c.in-Ok.ensures.front; reads = k.1 ∙ c.in-Ok.ensures.quiet })
    c.if-n-eq0.true (c.in-Ok.ensures.end (omega (arith, c.loop-total.invariant.buffer)))
    (c.in-Ok-finish.ensures.quiet ∙ t.1) (rw t.0 at c.in-Ok-finish.ensures.ok)

pub returns-in-Err-finish-clause-ends : goal.returns-in-Err-finish-clause-ends
returns-in-Err-finish-clause-ends g c =
    let s = c.loop-total.invariant.so_far in
    let k = source_same _ _ _ _ _ _ _ _ (g.met.L.Line.source_side c.read.new.self) (g.met.L.Line.source_side c.finish.new.output) c.finish.ensures.apart in
    let t = sink_same _ _ _ _ _ _ _ _ (g.met.L.Line.sink_side c.loop-total.line) (g.met.L.Line.sink_side c.read.new.self) c.read.ensures.apart in
    rw c.end_of.ensures
    (ends_stop g.P.Keeping.may_fail c.args.session.now c.loop-total.session c.finish.new.session
    (outside (g.L.Source.left c.args.line.now) (g.L.Source.read_faults c.args.line.now) (g.L.Sink.taken c.args.line.now) (g.L.Sink.write_faults c.args.line.now))
    (outside (g.L.Source.left c.loop-total.line) (g.L.Source.read_faults c.loop-total.line) (g.L.Sink.taken c.loop-total.line) (g.L.Sink.write_faults c.loop-total.line))
    (outside (g.L.Source.left c.finish.new.output) (g.L.Source.read_faults c.finish.new.output) (g.L.Sink.taken c.finish.new.output) (g.L.Sink.write_faults c.finish.new.output))
    c.loop-total.reader.pending s.0 (take c.in-Ok.n c.read.new.into) c.in-Ok.n c.in-Err-finish.stop s.2
    (record { gives = rw k.0 c.in-Ok.ensures.front; reads = k.1 ∙ c.in-Ok.ensures.quiet })
    c.if-n-eq0.true (c.in-Ok.ensures.end (omega (arith, c.loop-total.invariant.buffer)))
    (rw t.1 at c.in-Err-finish.ensures.counts) (rw t.0 at c.in-Err-finish.ensures.stop))

pub returns-in-Err-answer_piece-clause-ends : goal.returns-in-Err-answer_piece-clause-ends
returns-in-Err-answer_piece-clause-ends g c =
    let s = c.loop-total.invariant.so_far in
    let k = source_same _ _ _ _ _ _ _ _ (g.met.L.Line.source_side c.read.new.self) (g.met.L.Line.source_side c.answer_piece.new.output) c.answer_piece.ensures.apart in
    let t = sink_same _ _ _ _ _ _ _ _ (g.met.L.Line.sink_side c.loop-total.line) (g.met.L.Line.sink_side c.read.new.self) c.read.ensures.apart in
    let into = c.read.new.into in
    rw c.end_of-in-Err-answer_piece.ensures
    (piece_stop g.P.Keeping.may_fail c.args.session.now c.loop-total.session c.answer_piece.new.session
    (outside (g.L.Source.left c.args.line.now) (g.L.Source.read_faults c.args.line.now) (g.L.Sink.taken c.args.line.now) (g.L.Sink.write_faults c.args.line.now))
    (outside (g.L.Source.left c.loop-total.line) (g.L.Source.read_faults c.loop-total.line) (g.L.Sink.taken c.loop-total.line) (g.L.Sink.write_faults c.loop-total.line))
    (outside (g.L.Source.left c.answer_piece.new.output) (g.L.Source.read_faults c.answer_piece.new.output) (g.L.Sink.taken c.answer_piece.new.output) (g.L.Sink.write_faults c.answer_piece.new.output))
    c.loop-total.reader.pending s.0 (take c.in-Ok.n into) c.split_at.result.0.now c.in-Err-answer_piece.stop s.2
    (record { gives = rw k.0 c.in-Ok.ensures.front; reads = k.1 ∙ c.in-Ok.ensures.quiet })
    (omega (arith, length-take c.in-Ok.n into, c.in-Ok.ensures.within, c.loop-total.invariant.buffer))
    (take_fitting (67108864 - length s.0) c.in-Ok.n c.min-fits.result into (omega (arith, c.min-fits.ensures, s.1)) (omega (arith, c.min-fits.ensures)) (fitting c.min-fits.result c.in-Ok.n (67108864 - length s.0) (omega (arith, c.min-fits.ensures, s.1))) ∙ sym c.split_at.ensures.front)
    (rw t.1 at c.in-Err-answer_piece.ensures.counts) (rw t.0 at c.in-Err-answer_piece.ensures.stop))

pub returns-then-fits-n-clause-ends : goal.returns-then-fits-n-clause-ends
returns-then-fits-n-clause-ends g c =
    let s = c.loop-total.invariant.so_far in
    let k = source_same _ _ _ _ _ _ _ _ (g.met.L.Line.source_side c.read.new.self) (g.met.L.Line.source_side c.answer_piece.new.output) c.answer_piece.ensures.apart in
    let t = sink_same _ _ _ _ _ _ _ _ (g.met.L.Line.sink_side c.loop-total.line) (g.met.L.Line.sink_side c.read.new.self) c.read.ensures.apart in
    let into = c.read.new.into in
    let piece = c.split_at.result.0.now in
    let rest = drop c.min-fits.result (take c.in-Ok.n into) in
    let cut : take c.in-Ok.n into ≡ piece ++ rest = take_split c.min-fits.result c.in-Ok.n into (omega (arith, c.min-fits.ensures)) ∙ ap (λ (p : List ℕ). p ++ rest) (sym c.split_at.ensures.front) in
    too_much g.P.Keeping.may_fail c.args.session.now c.loop-total.session c.answer_piece.new.session
    (outside (g.L.Source.left c.args.line.now) (g.L.Source.read_faults c.args.line.now) (g.L.Sink.taken c.args.line.now) (g.L.Sink.write_faults c.args.line.now))
    (outside (g.L.Source.left c.loop-total.line) (g.L.Source.read_faults c.loop-total.line) (g.L.Sink.taken c.loop-total.line) (g.L.Sink.write_faults c.loop-total.line))
    (outside (g.L.Source.left c.answer_piece.new.output) (g.L.Source.read_faults c.answer_piece.new.output) (g.L.Sink.taken c.answer_piece.new.output) (g.L.Sink.write_faults c.answer_piece.new.output))
    c.loop-total.reader.pending s.0 (take c.in-Ok.n into) piece rest s.2
    (record { gives = rw k.0 c.in-Ok.ensures.front; reads = k.1 ∙ c.in-Ok.ensures.quiet })
    (omega (arith, length-take c.in-Ok.n into, c.in-Ok.ensures.within, c.loop-total.invariant.buffer)) cut
    (omega (arith, s.1, c.min-fits.ensures, c.if-fits-n.true, c.split_at.ensures.front_len))
    (omega (arith, length-take c.in-Ok.n into, c.in-Ok.ensures.within, c.loop-total.invariant.buffer, c.read.auto.into, c.min-fits.ensures, c.if-fits-n.true, c.split_at.ensures.front_len))
    (c.in-Ok-answer_piece.ensures.quiet ∙ t.1) (rw t.0 at c.in-Ok-answer_piece.ensures.ok)

pub loop-total-preserved : goal.loop-total-preserved
loop-total-preserved g c =
    let s = c.loop-total.invariant.so_far in
    let k = source_same _ _ _ _ _ _ _ _ (g.met.L.Line.source_side c.read.new.self) (g.met.L.Line.source_side c.answer_piece.new.output) c.answer_piece.ensures.apart in
    let t = sink_same _ _ _ _ _ _ _ _ (g.met.L.Line.sink_side c.loop-total.line) (g.met.L.Line.sink_side c.read.new.self) c.read.ensures.apart in
    let into = c.read.new.into in
    let piece = c.split_at.result.0.now in
    let same : c.min-fits.result ≡ c.in-Ok.n = omega (arith, c.min-fits.ensures, c.if-fits-n.false) in
    let all : take c.in-Ok.n into ≡ piece = sym (c.split_at.ensures.front ∙ ap (λ (n : ℕ). take n into) same) in
    record {
      buffer = omega (arith, c.loop-total.invariant.buffer, c.read.auto.into);
      number = omega (arith, c.loop-total.invariant.number, c.answer_piece.ensures.number, c.split_at.ensures.front_len, same);
      station = c.answer_piece.ensures.station ∙ c.loop-total.invariant.station;
      lent = k.2 ∙ (t.2 ∙ c.loop-total.invariant.lent);
      so_far = (
        s.0 ++ piece,
        omega (arith, s.1, same, c.split_at.ensures.front_len, length-append s.0 piece),
        piece_more c.args.session.now c.loop-total.session c.answer_piece.new.session
            (outside (g.L.Source.left c.args.line.now) (g.L.Source.read_faults c.args.line.now) (g.L.Sink.taken c.args.line.now) (g.L.Sink.write_faults c.args.line.now))
            (outside (g.L.Source.left c.loop-total.line) (g.L.Source.read_faults c.loop-total.line) (g.L.Sink.taken c.loop-total.line) (g.L.Sink.write_faults c.loop-total.line))
            (outside (g.L.Source.left c.answer_piece.new.output) (g.L.Source.read_faults c.answer_piece.new.output) (g.L.Sink.taken c.answer_piece.new.output) (g.L.Sink.write_faults c.answer_piece.new.output))
            c.loop-total.reader.pending c.answer_piece.new.reader.pending s.0 piece s.2
            (record { gives = rw k.0 (rw all at c.in-Ok.ensures.front); reads = k.1 ∙ c.in-Ok.ensures.quiet })
            (omega (arith, s.1, s.2.within, c.min-fits.ensures, c.split_at.ensures.front_len))
            (c.in-Ok-answer_piece.ensures.quiet ∙ t.1) c.in-Ok-answer_piece.ensures.pending (rw t.0 at c.in-Ok-answer_piece.ensures.ok),
      );
    }

pub returns-in-Ok-finish-clause-lent : goal.returns-in-Ok-finish-clause-lent
returns-in-Ok-finish-clause-lent g c =
    let k = source_same _ _ _ _ _ _ _ _ (g.met.L.Line.source_side c.read.new.self) (g.met.L.Line.source_side c.finish.new.output) c.finish.ensures.apart in
    let t = sink_same _ _ _ _ _ _ _ _ (g.met.L.Line.sink_side c.loop-total.line) (g.met.L.Line.sink_side c.read.new.self) c.read.ensures.apart in
    k.2 ∙ (t.2 ∙ c.loop-total.invariant.lent)

pub returns-in-Err-finish-clause-lent : goal.returns-in-Err-finish-clause-lent
returns-in-Err-finish-clause-lent g c =
    let k = source_same _ _ _ _ _ _ _ _ (g.met.L.Line.source_side c.read.new.self) (g.met.L.Line.source_side c.finish.new.output) c.finish.ensures.apart in
    let t = sink_same _ _ _ _ _ _ _ _ (g.met.L.Line.sink_side c.loop-total.line) (g.met.L.Line.sink_side c.read.new.self) c.read.ensures.apart in
    k.2 ∙ (t.2 ∙ c.loop-total.invariant.lent)

pub returns-in-Err-answer_piece-clause-lent : goal.returns-in-Err-answer_piece-clause-lent
returns-in-Err-answer_piece-clause-lent g c =
    let k = source_same _ _ _ _ _ _ _ _ (g.met.L.Line.source_side c.read.new.self) (g.met.L.Line.source_side c.answer_piece.new.output) c.answer_piece.ensures.apart in
    let t = sink_same _ _ _ _ _ _ _ _ (g.met.L.Line.sink_side c.loop-total.line) (g.met.L.Line.sink_side c.read.new.self) c.read.ensures.apart in
    k.2 ∙ (t.2 ∙ c.loop-total.invariant.lent)

pub returns-then-fits-n-clause-lent : goal.returns-then-fits-n-clause-lent
returns-then-fits-n-clause-lent g c =
    let k = source_same _ _ _ _ _ _ _ _ (g.met.L.Line.source_side c.read.new.self) (g.met.L.Line.source_side c.answer_piece.new.output) c.answer_piece.ensures.apart in
    let t = sink_same _ _ _ _ _ _ _ _ (g.met.L.Line.sink_side c.loop-total.line) (g.met.L.Line.sink_side c.read.new.self) c.read.ensures.apart in
    k.2 ∙ (t.2 ∙ c.loop-total.invariant.lent)

pub returns-in-Err-clause-lent : goal.returns-in-Err-clause-lent
returns-in-Err-clause-lent g c =
    let t = sink_same _ _ _ _ _ _ _ _ (g.met.L.Line.sink_side c.loop-total.line) (g.met.L.Line.sink_side c.read.new.self) c.read.ensures.apart in
    t.2 ∙ c.loop-total.invariant.lent

pub returns-in-Ok-finish-clause-written : goal.returns-in-Ok-finish-clause-written
returns-in-Ok-finish-clause-written g c = written_then c.args.session.now c.loop-total.session c.finish.new.session _ _ c.loop-total.invariant.so_far.2.serves c.in-Ok-finish.ensures.ok.written

pub returns-in-Err-finish-clause-written : goal.returns-in-Err-finish-clause-written
returns-in-Err-finish-clause-written g c =
    let stops = c.in-Err-finish.ensures.stop in
    written_then c.args.session.now c.loop-total.session c.finish.new.session _ _ c.loop-total.invariant.so_far.2.serves
    (stops_written g.P.Keeping.may_fail c.loop-total.session c.finish.new.session [] stops.0 (g.L.Sink.taken c.read.new.self) (g.L.Sink.taken c.finish.new.output) c.in-Err-finish.stop stops.2)

pub returns-in-Err-answer_piece-clause-written : goal.returns-in-Err-answer_piece-clause-written
returns-in-Err-answer_piece-clause-written g c =
    let stops = c.in-Err-answer_piece.ensures.stop in
    written_then c.args.session.now c.loop-total.session c.answer_piece.new.session _ _ c.loop-total.invariant.so_far.2.serves
    (stops_written g.P.Keeping.may_fail c.loop-total.session c.answer_piece.new.session stops.0 stops.1 (g.L.Sink.taken c.read.new.self) (g.L.Sink.taken c.answer_piece.new.output) c.in-Err-answer_piece.stop stops.3)

pub returns-then-fits-n-clause-written : goal.returns-then-fits-n-clause-written
returns-then-fits-n-clause-written g c =
    written_then c.args.session.now c.loop-total.session c.answer_piece.new.session _ _ c.loop-total.invariant.so_far.2.serves c.in-Ok-answer_piece.ensures.ok.written

pub returns-in-Err-clause-written : goal.returns-in-Err-clause-written
returns-in-Err-clause-written g c = c.loop-total.invariant.so_far.2.serves.written
