-- What is asked of a former part.
use Rattle.std.specs.Prelude.{ℕ, Option, Bool}
use Rattle.take_back.specs.declared.back.Rule.{Rule}
use Rattle.take_back.specs.declared.back.Rule.TheVariants.{By, Names}
use Rattle.take_back.specs.declared.kept.Former.{Former}
use Rattle.take_back.specs.Parts.{has_names, is_by}

abbrev pub passes : {P : Type 0} → Rule → Option (Former P) → Bool
passes (By station) before = is_by station before
passes (Names names) before = has_names names before
