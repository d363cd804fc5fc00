use Rattle.std.proofs.Common.{inl, rules, arith}
use Rattle.std.proofs.lemmas.List.Elements.{All-nil, All-push}
use Rattle.line_table.specs.CallTexts.{IsSmall}
use Rattle.line_table.specs.Spelling.{numbers_of}
use Rattle.line_table.proofs.ListWords.{next_numeral, no_numeral, none_behind}
use Rattle.line_table.proofs.parts.numbers.Goals as goal

pub loop-rest-init : goal.loop-rest-init
loop-rest-init c = rw c.new-numbers.ensures.items (none_behind (numbers_of c.args.list.now), All-nil IsSmall)

pub loop-rest-preserved : goal.loop-rest-preserved
loop-rest-preserved c =
    let left = rw c.in-Some.is at c.loop-rest.invariant.0 in
    rw c.in_ok-push.ensures.items (
      next_numeral c.loop-rest.numbers.items c.in_ok-number.number c.in-Some.listed.now c.first_listed.result.0.now _ _ c.first_listed.ensures.words c.in_ok-number.ensures left,
      All-push IsSmall c.loop-rest.numbers.items c.in_ok-number.number c.loop-rest.invariant.1 (omega arith),
    )

pub returns-in_err-number-clause-read : goal.returns-in_err-number-clause-read
returns-in_err-number-clause-read c =
    let left = rw c.in-Some.is at c.loop-rest.invariant.0 in
    let fault = no_numeral c.loop-rest.numbers.items c.in-Some.listed.now c.first_listed.result.0.now _ _ _ c.first_listed.ensures.words c.in_err-number.ensures left in
    inl (search rules)
