use Rattle.std.proofs.Common.{◌≡◌, ℕ, ◌-◌, ◌+◌, ◌++◌, [], List, take, drop, length, refl, sym, ap, ◌∙◌, arith}
use Rattle.std.proofs.lemmas.List.{length-append, length-take}
use Rattle.room_ports.proofs.Fronts.{gives-nothing}
use Rattle.input_lines.proofs.Pieces.{fitting, take_fitting, take_split}
use Rattle.input_lines.proofs.SoFar.{at_end, in_piece, one_more, too_much}
use Rattle.input_lines.proofs.taking.take_lines.Goals as goal

pub loop-total-init : goal.loop-total-init
loop-total-init g c = record {
  buffer = refl;
  few = omega arith;
  so_far = (
    [],
    refl,
    record {
      gives = gives-nothing (g.S.Source.left c.args.input.now);
      waits = c.new-reader.ensures.pending;
      taken = g.met.T.TakesLines.stays c.args.taker.now;
      counts = refl;
      within = omega arith;
      quiet = refl;
    },
  );
}

pub returns-then-n-eq0 : goal.returns-then-n-eq0
returns-then-n-eq0 g c =
    let s = c.loop-total.invariant.so_far in
    at_end g.T.TakesLines.goes g.T.TakesLines.stops g.T.TakesLines.ends g.T.TakesLines.cuts g.met.T.TakesLines.joins
    c.args.taker.now c.loop-total.taker c.finish.new.taker
    (g.S.Source.left c.args.input.now) (g.S.Source.left c.loop-total.input) (g.S.Source.left c.read.new.self)
    (g.S.Source.read_faults c.args.input.now) (g.S.Source.read_faults c.loop-total.input) (g.S.Source.read_faults c.read.new.self)
    c.loop-total.reader.pending c.loop-total.count s.0 (take c.in-Ok.n c.read.new.into) c.in-Ok.n c.finish.result
    s.2 c.in-Ok.ensures.front c.in-Ok.ensures.quiet c.if-n-eq0.true (c.in-Ok.ensures.end (omega (arith, c.loop-total.invariant.buffer)))
    c.finish.ensures

pub returns-in-Err-take_piece : goal.returns-in-Err-take_piece
returns-in-Err-take_piece g c =
    let s = c.loop-total.invariant.so_far in
    let into = c.read.new.into in
    in_piece g.T.TakesLines.goes g.T.TakesLines.stops g.T.TakesLines.ends g.T.TakesLines.cuts g.met.T.TakesLines.joins
    c.args.taker.now c.loop-total.taker c.take_piece.new.taker
    (g.S.Source.left c.args.input.now) (g.S.Source.left c.loop-total.input) (g.S.Source.left c.read.new.self)
    (g.S.Source.read_faults c.args.input.now) (g.S.Source.read_faults c.loop-total.input) (g.S.Source.read_faults c.read.new.self)
    c.loop-total.reader.pending c.loop-total.count s.0 (take c.in-Ok.n into) c.split_at.result.0.now c.in-Err-take_piece.stop
    s.2 c.in-Ok.ensures.front c.in-Ok.ensures.quiet
    (omega (arith, length-take c.in-Ok.n into, c.in-Ok.ensures.within, c.loop-total.invariant.buffer))
    (take_fitting (67108864 - length s.0) c.in-Ok.n c.min-fits.result into (omega (arith, c.min-fits.ensures, s.1)) (omega (arith, c.min-fits.ensures))
    (fitting c.min-fits.result c.in-Ok.n (67108864 - length s.0) (omega (arith, c.min-fits.ensures, s.1))) ∙ sym c.split_at.ensures.front)
    c.in-Err-take_piece.ensures.stop

pub returns-then-fits-n : goal.returns-then-fits-n
returns-then-fits-n g c =
    let s = c.loop-total.invariant.so_far in
    let into = c.read.new.into in
    let piece = c.split_at.result.0.now in
    let rest = drop c.min-fits.result (take c.in-Ok.n into) in
    let cut : take c.in-Ok.n into ≡ piece ++ rest = take_split c.min-fits.result c.in-Ok.n into (omega (arith, c.min-fits.ensures)) ∙ ap (λ (p : List ℕ). p ++ rest) (sym c.split_at.ensures.front) in
    too_much g.T.TakesLines.goes g.T.TakesLines.stops g.T.TakesLines.ends g.T.TakesLines.cuts g.met.T.TakesLines.joins
    c.args.taker.now c.loop-total.taker c.take_piece.new.taker
    (g.S.Source.left c.args.input.now) (g.S.Source.left c.loop-total.input) (g.S.Source.left c.read.new.self)
    (g.S.Source.read_faults c.args.input.now) (g.S.Source.read_faults c.loop-total.input) (g.S.Source.read_faults c.read.new.self)
    c.loop-total.reader.pending c.loop-total.count s.0 (take c.in-Ok.n into) piece rest
    s.2 c.in-Ok.ensures.front c.in-Ok.ensures.quiet
    (omega (arith, length-take c.in-Ok.n into, c.in-Ok.ensures.within, c.loop-total.invariant.buffer)) cut
    (omega (arith, s.1, c.min-fits.ensures, c.if-fits-n.true, c.split_at.ensures.front_len))
    (omega (arith, length-take c.in-Ok.n into, c.in-Ok.ensures.within, c.loop-total.invariant.buffer, c.read.auto.into, c.min-fits.ensures, c.if-fits-n.true, c.split_at.ensures.front_len))
    c.in-Ok-take_piece.ensures.ok

pub loop-total-preserved : goal.loop-total-preserved
loop-total-preserved g c =
    let s = c.loop-total.invariant.so_far in
    let into = c.read.new.into in
    let piece = c.split_at.result.0.now in
    let same : c.min-fits.result ≡ c.in-Ok.n = omega (arith, c.min-fits.ensures, c.if-fits-n.false) in
    let all : take c.in-Ok.n into ≡ piece = sym (c.split_at.ensures.front ∙ ap (λ (n : ℕ). take n into) same) in
    record {
      buffer = omega (arith, c.loop-total.invariant.buffer, c.read.auto.into);
      few = omega (arith, c.loop-total.invariant.few, c.in-Ok-take_piece.ensures.few, c.split_at.ensures.front_len, same);
      so_far = (
        s.0 ++ piece,
        omega (arith, s.1, same, c.split_at.ensures.front_len, length-append s.0 piece),
        one_more g.T.TakesLines.goes g.T.TakesLines.stops g.T.TakesLines.ends g.T.TakesLines.cuts g.met.T.TakesLines.joins
            c.args.taker.now c.loop-total.taker c.take_piece.new.taker
            (g.S.Source.left c.args.input.now) (g.S.Source.left c.loop-total.input) (g.S.Source.left c.read.new.self)
            (g.S.Source.read_faults c.args.input.now) (g.S.Source.read_faults c.loop-total.input) (g.S.Source.read_faults c.read.new.self)
            c.loop-total.reader.pending c.take_piece.new.reader.pending c.loop-total.count c.in-Ok-take_piece.count s.0 piece
            s.2 (rw all at c.in-Ok.ensures.front) c.in-Ok.ensures.quiet
            (omega (arith, s.1, s.2.within, c.min-fits.ensures, c.split_at.ensures.front_len))
            c.in-Ok-take_piece.ensures.pending c.in-Ok-take_piece.ensures.count c.in-Ok-take_piece.ensures.ok,
      );
    }
