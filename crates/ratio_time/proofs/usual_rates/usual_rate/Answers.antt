use Rattle.std.proofs.Common.{◌≡◌, arith}
use Rattle.std.proofs.lemmas.List.Elements.{All-more}
use Rattle.ratio_time.specs.Rates.{usual_rates, StandsFor}
use Rattle.ratio_time.proofs.usual_rates.usual_rate.Goals as goal

pub loop-num-preserved : goal.loop-num-preserved
loop-num-preserved c =
    All-more (λ usual. StandsFor c.args.number.now usual → ⊥) usual_rates c.loop-num.num-index (0, 0) c.loop-num-test.true c.loop-num.invariant
    (λ near. let yes = c.stands_for.ensures.1 near in let no = c.if-stands_for.false in cc)

pub returns-clause-none : goal.returns-clause-none
returns-clause-none c = let all : c.loop-num.num-index ≡ 7 = omega arith in rw all at c.loop-num.invariant
