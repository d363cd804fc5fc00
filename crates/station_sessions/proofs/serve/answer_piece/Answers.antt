use Rattle.std.proofs.Common.{◌≡◌, ◌+◌, ◌++◌, ◌∷◌, [], List, drop, take, refl, sym, ap, ◌∙◌, arith, append_assoc}
use Rattle.line_words.specs.Lines.{Line as InputLine}
use Rattle.line_words.specs.Pieces.{ended, pending_after}
use Rattle.line_words.specs.Told.{line_told}
use Rattle.line_words.proofs.PieceLaws.{ended_fed, pending_after_fed}
use Rattle.station_sessions.proofs.Serves.{serves_none, serves_more, stops_next, one_told}
use Rattle.station_sessions.proofs.serve.answer_piece.Goals as goal

pub loop-at-init : goal.loop-at-init
loop-at-init g c = record {
  within = omega arith;
  number = omega arith;
  pending = refl;
  served = ([], refl, serves_none c.args.session.now (g.K.Sink.taken c.args.output.now));
  station = refl;
  quiet = refl;
  apart = refl;
}

pub loop-at-preserved-in-Ok : goal.loop-at-preserved-in-Ok
loop-at-preserved-in-Ok g c =
    let inv = c.loop-at.invariant in
    let back = c.split_at.ensures.back in
    let p = c.args.piece.now in
    let n = c.feed-fed.result.taken in
    let q = c.feed-fed.new.self.pending in
    let l = line_told c.in-Some.end c.line.result.now in
    let told : l ∷ [] ≡ ended c.loop-at.reader.pending (take n (drop c.loop-at.at p)) =
    one_told c.feed-fed.result.line c.in-Some.end c.line.result.now c.feed-fed.new.self.last _ c.in-Some.is c.line.ensures (rw back at c.feed-fed.ensures.lines) in
    let pend : q ≡ pending_after c.loop-at.reader.pending (take n (drop c.loop-at.at p)) = rw back at c.feed-fed.ensures.pending in
    let some = c.feed-fed.ensures.some (omega (arith, c.split_at.ensures.back_len, c.loop-at-test.true)) in
    let done = inv.served.0 in
    record {
      within = omega (arith, c.feed-fed.ensures.within, c.split_at.ensures.back_len);
      number = omega (arith, inv.number, c.answer_line.ensures.number, some);
      pending = inv.pending ∙ pending_after_fed c.loop-at.reader.pending q p c.loop-at.at n pend;
      served = (
        done ++ l ∷ [],
        inv.served.1 ∙ (ap (λ (zs : List InputLine). done ++ zs) (ended_fed c.loop-at.reader.pending q (l ∷ []) p c.loop-at.at n told pend) ∙ sym (append_assoc done (l ∷ []) _)),
        serves_more c.args.session.now c.loop-at.session c.answer_line.new.session done (l ∷ []) (g.K.Sink.taken c.args.output.now) (g.K.Sink.taken c.loop-at.output) (g.K.Sink.taken c.answer_line.new.output) inv.served.2 c.in-Ok.ensures.ok,
      );
      station = c.answer_line.ensures.station ∙ inv.station;
      quiet = c.in-Ok.ensures.quiet ∙ inv.quiet;
      apart = c.answer_line.ensures.apart ∙ inv.apart;
    }

pub returns-in-Err-clause-stop : goal.returns-in-Err-clause-stop
returns-in-Err-clause-stop g c =
    let inv = c.loop-at.invariant in
    let back = c.split_at.ensures.back in
    let p = c.args.piece.now in
    let n = c.feed-fed.result.taken in
    let q = c.feed-fed.new.self.pending in
    let l = line_told c.in-Some.end c.line.result.now in
    let told : l ∷ [] ≡ ended c.loop-at.reader.pending (take n (drop c.loop-at.at p)) =
    one_told c.feed-fed.result.line c.in-Some.end c.line.result.now c.feed-fed.new.self.last _ c.in-Some.is c.line.ensures (rw back at c.feed-fed.ensures.lines) in
    let pend : q ≡ pending_after c.loop-at.reader.pending (take n (drop c.loop-at.at p)) = rw back at c.feed-fed.ensures.pending in
    let done = inv.served.0 in (
      done,
      l,
      (
        ended q (drop (c.loop-at.at + n) p),
        inv.served.1 ∙ ap (λ (zs : List InputLine). done ++ zs) (ended_fed c.loop-at.reader.pending q (l ∷ []) p c.loop-at.at n told pend),
      ),
      stops_next g.P.Keeping.may_fail c.args.session.now c.loop-at.session c.answer_line.new.session done l (g.K.Sink.taken c.args.output.now) (g.K.Sink.taken c.loop-at.output) (g.K.Sink.taken c.answer_line.new.output) c.in-Err.stop inv.served.2 c.in-Err.ensures.stop,
    )
