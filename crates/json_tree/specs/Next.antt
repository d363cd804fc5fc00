-- What stands behind an element.
use Rattle.std.specs.Prelude.{Bool, true, false}
use Rattle.json_tree.specs.declared.values.Next.{Next}
use Rattle.json_tree.specs.declared.values.Next.TheVariants.{Another, End}

abbrev pub is_another : Next → Bool
is_another Another = true
is_another End = false
