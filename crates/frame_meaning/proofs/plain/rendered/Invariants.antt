use Rattle.std.proofs.Common.{◌≡◌, map}
use Rattle.std.specs.List.{range_with_len}
use Rattle.frame_meaning.specs.Render.{shown_at}
use Rattle.frame_meaning.proofs.plain.rendered.Given as goal

abbrev pub invariant-loop-place : goal.invariant-loop-place
invariant-loop-place l = l.frames.items ≡ map (shown_at l.cells) (range_with_len 0 l.place)
