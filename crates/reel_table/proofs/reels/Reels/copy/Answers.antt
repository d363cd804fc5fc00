use Rattle.std.proofs.Common.{length, arith, ap, ◌∙◌}
use Rattle.std.specs.String.{string_bytes}
use Rattle.std.proofs.lemmas.List.{length-map}
use Rattle.reel_table.proofs.Keys.{same_texts}
use Rattle.reel_table.proofs.reels.Reels.copy.Goals as goal

pub invariant_of-result : goal.invariant_of-result
invariant_of-result c =
    let keys = c.self.inside.names.keys in
    let copied = c.in_ok-names.names.keys in
    let same = same_texts keys copied c.in_ok-names.ensures.cases in
    (omega (arith, ap length same, length-map keys (λ s. string_bytes s), length-map copied (λ s. string_bytes s), c.self.invariant.0), rw same c.self.invariant.1)

pub returns : goal.returns
returns c = same_texts c.self.inside.names.keys c.in_ok-names.names.keys c.in_ok-names.ensures.cases ∙ c.self.view_is
