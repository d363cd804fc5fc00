use Rattle.std.proofs.Common.{ℕ, nat_eq}
use Rattle.frame_meaning.specs.declared.cells.What.{What}
use Rattle.frame_meaning.specs.Going.{same_what}
use Rattle.frame_meaning.proofs.Maximal.{frames-runs, maximal-runs, one-number, one-what}
use Rattle.frame_meaning.proofs.laws.runs_are_maximal_and_all.Goals as goal

pub returns-clause-frames : goal.returns-clause-frames
returns-clause-frames c = frames-runs What same_what one-what

pub returns-clause-maximal : goal.returns-clause-maximal
returns-clause-maximal c = maximal-runs What same_what one-what

pub returns-clause-reel_frames : goal.returns-clause-reel_frames
returns-clause-reel_frames c = frames-runs ℕ nat_eq one-number

pub returns-clause-reel_maximal : goal.returns-clause-reel_maximal
returns-clause-reel_maximal c = maximal-runs ℕ nat_eq one-number
