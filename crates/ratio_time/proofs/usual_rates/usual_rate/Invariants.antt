use Rattle.std.proofs.Common.{take}
use Rattle.std.specs.List.{All}
use Rattle.ratio_time.specs.Rates.{usual_rates, StandsFor}
use Rattle.ratio_time.proofs.usual_rates.usual_rate.Given as goal

abbrev pub invariant-loop-num : goal.invariant-loop-num
invariant-loop-num l = All (λ usual. StandsFor l.number usual → ⊥) (take l.num-index usual_rates)
