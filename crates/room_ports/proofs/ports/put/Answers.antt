use Rattle.std.proofs.Common.{◌∙◌, ap, arith, length}
use Rattle.std.proofs.lemmas.Result.{err_from_is_err_and}
use Rattle.room_ports.proofs.Fronts.{takes-more, takes_front-more}
use Rattle.room_ports.proofs.ports.put.Goals as goal

pub loop-done-preserved : goal.loop-done-preserved
loop-done-preserved g c = record {
  within = omega (arith, c.in_ok-done.ensures.within, c.split_at.ensures.back_len);
  so_far = takes-more (g.K.Sink.taken c.args.sink.now) (g.K.Sink.taken c.loop-done.sink) (g.K.Sink.taken c.write.new.self) _ _ _ _ c.split_at.ensures.back c.loop-done.invariant.so_far c.in_ok-done.ensures.ok;
  quiet = c.in_ok-done.ensures.quiet ∙ c.loop-done.invariant.quiet;
  apart = c.in_ok-done.ensures.apart ∙ c.loop-done.invariant.apart;
  none = λ empty. absurd (omega (arith, c.loop-done-test.true, ap length empty));
}

pub returns-in_err-done-clause-err : goal.returns-in_err-done-clause-err
returns-in_err-done-clause-err g c =
    let p = err_from_is_err_and c.from_residual.result c.from_residual.ensures.1 in
    rw p.1 (takes_front-more (g.K.Sink.taken c.args.sink.now) (g.K.Sink.taken c.loop-done.sink) (g.K.Sink.taken c.write.new.self) _ _ _ c.split_at.ensures.back c.loop-done.invariant.so_far c.in_err-done.ensures.err)
