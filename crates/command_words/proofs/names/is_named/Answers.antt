use Rattle.std.proofs.Common.{sym, ap, ◌∙◌, arith}
use Rattle.std.specs.Prelude.{bytes_eq}
use Rattle.command_words.proofs.NameRows.{found, passed}
use Rattle.command_words.proofs.names.is_named.Goals as goal

pub returns-then-eq : goal.returns-then-eq
returns-then-eq c =
    sym (found (λ r. bytes_eq r.name c.args.name.now) c.args.words.now c.args.end c.loop-i.i c.word.result.now c.loop-i-test.true c.word.ensures (ap (λ r. bytes_eq r.name c.args.name.now) c.row_in.ensures ∙ (sym c.eq.ensures ∙ c.if-eq.true)))
    ∙ c.loop-i.invariant.same

pub loop-i-preserved : goal.loop-i-preserved
loop-i-preserved c = record {
  within = (omega (arith, c.loop-i.invariant.within.0), omega (arith, c.loop-i-test.true));
  same =
      passed (λ r. bytes_eq r.name c.args.name.now) c.args.words.now c.args.end c.loop-i.i c.word.result.now c.loop-i-test.true c.word.ensures (ap (λ r. bytes_eq r.name c.args.name.now) c.row_in.ensures ∙ (sym c.eq.ensures ∙ c.if-eq.false))
      ∙ c.loop-i.invariant.same;
}
