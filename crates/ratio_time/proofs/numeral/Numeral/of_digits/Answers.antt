use Rattle.std.proofs.Common.{FitsSigned, w64, rules}
use Rattle.std.proofs.lemmas.Int.{to_z-of_z}
use Rattle.ratio_time.proofs.Zeros.{same_number}
use Rattle.ratio_time.proofs.numeral.Numeral.of_digits.Goals as goal

pub returns-clause-same : goal.returns-clause-same
returns-clause-same c =
    let fits : FitsSigned w64 c.signed-mantissa.result = search rules in
    rw (to_z-of_z w64 c.signed-mantissa.result fits, c.signed-mantissa.ensures.value)
    (same_number c.args.negative _ _ _ _ c.without_trailing_zeros-digits.ensures.places c.without_trailing_zeros-digits.ensures.value)
