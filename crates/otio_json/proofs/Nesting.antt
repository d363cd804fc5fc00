-- How many levels of nests are allowed.
use Rattle.std.proofs.Common.{ℕ}
use Rattle.otio_json.specs.declared.nests.Nesting.{Nesting}
use Rattle.otio_json.specs.declared.nests.Nesting.TheVariants.{Forbidden, Levels}

abbrev pub levels_of : Nesting → ℕ
levels_of Forbidden = 0
levels_of (Levels n) = n
