use Rattle.std.proofs.Common.{◌≡◌, ◌+◌, length}
use Rattle.frame_meaning.specs.Render.{render}
use Rattle.composables.specs.Joined.{frames_in}
use Rattle.dissolves.specs.Parts.{first_of, frames_shown, EachBetween}
use Rattle.dissolves.specs.Walk.{Walked}
use Rattle.dissolves.proofs.Whole.{with_next}
use Rattle.dissolves.proofs.shown.runs_in.Given as goal

abbrev pub invariant-loop-here : goal.invariant-loop-here
invariant-loop-here l = record {
  here : l.here ≡ first_of (with_next l.here l.items);
  walked : Walked l.shown.items l.from l.a l.b (frames_shown l.before (with_next l.here l.items)) (render l.track.cells);
  frames : l.from + frames_in (with_next l.here l.items) ≡ length l.track.cells;
  each : EachBetween l.before (with_next l.here l.items);
}

abbrev pub decreases-loop-here : goal.decreases-loop-here
decreases-loop-here l = length (with_next l.here l.items)

abbrev pub ghosts-place_at : goal.ghosts-place_at
ghosts-place_at a = record { name = a.blank.name; parts = a.blank.parts }
