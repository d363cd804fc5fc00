use Rattle.std.proofs.lemmas.List.Elements.{All-contains}
use Rattle.ratio_time.specs.Rates.{usual_rates, StandsFor}
use Rattle.ratio_time.proofs.Usual.{one_usual, usual_value, itself_value}
use Rattle.ratio_time.proofs.usual_rates.rate_of.Goals as goal

pub returns-in-Some-clause-usual : goal.returns-in-Some-clause-usual
returns-in-Some-clause-usual c =
    one_usual c.args.number.now (c.in-Some.rate.num, c.in-Some.rate.den) c.in-Some.ensures.found.0 c.in-Some.ensures.found.1

pub returns-in-Some-clause-itself : goal.returns-in-Some-clause-itself
returns-in-Some-clause-itself c = λ none own.
    absurd (All-contains (λ usual. StandsFor c.args.number.now usual → ⊥) usual_rates (c.in-Some.rate.num, c.in-Some.rate.den) none c.in-Some.ensures.found.0 c.in-Some.ensures.found.1)

pub returns-in-Some-clause-none : goal.returns-in-Some-clause-none
returns-in-Some-clause-none c =
    ((λ e. cc), (λ none. absurd (All-contains (λ usual. StandsFor c.args.number.now usual → ⊥) usual_rates (c.in-Some.rate.num, c.in-Some.rate.den) none.0 c.in-Some.ensures.found.0 c.in-Some.ensures.found.1)))

pub returns-in-None-clause-usual : goal.returns-in-None-clause-usual
returns-in-None-clause-usual c = λ k d lt near. absurd (c.in-None.ensures.none k d lt near)

pub returns-in-Some-clause-value : goal.returns-in-Some-clause-value
returns-in-Some-clause-value c =
    usual_value c.args.number.now (c.in-Some.rate.num, c.in-Some.rate.den) c.in-Some.ensures.found.0 c.in-Some.ensures.found.1

pub returns-in-None-clause-value : goal.returns-in-None-clause-value
returns-in-None-clause-value c =
    rw (itself_value c.args.number.now c.in-None.ensures.none) c.rate_itself.ensures.value
