-- The source frames that a thing has.
use Rattle.std.specs.Prelude.{ℕ, Option, option_map, slice_get}
use Rattle.frame_meaning.specs.declared.cells.What.{What}
use Rattle.frame_meaning.specs.declared.cells.What.TheVariants.{Media as MediaOf, Nest as NestOf}
use Rattle.composables.specs.declared.media.Table.{Table}
use Rattle.composables.specs.declared.media.Media.{Media}
use Rattle.composables.specs.declared.media.Nest.{Nest}

-- [from, to) of an entry of the table: a media entry's own range, and [0, length) of a nest
abbrev pub bounds_of : Table → What → Option (ℕ × ℕ)
bounds_of t (MediaOf m) = option_map (λ (e : Media). (e.from, e.to)) (slice_get t.media m)
bounds_of t (NestOf j) = option_map (λ (e : Nest). (0, e.length)) (slice_get t.nests j)
