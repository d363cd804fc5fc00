use Rattle.std.proofs.Common.{◌≡◌, ◌++◌, drop}
use Rattle.std.specs.List.{flat_map}
use Rattle.flatten.specs.Joined.{lens_of}
use Rattle.flatten.specs.Segments.{AreApart, ArePlaced, EachIsSegment, first_partial, segment_frames}
use Rattle.flatten.specs.Strips.{frames_of}
use Rattle.flatten.proofs.cutting.segments.Given as goal

abbrev pub invariant-loop-run : goal.invariant-loop-run
invariant-loop-run l = record {
  frames : flat_map segment_frames l.all.items ++ frames_of (drop l.run-index l.runs) ≡ frames_of l.runs;
  each : EachIsSegment l.all.items;
  placed : ArePlaced 0 l.all.items;
  apart : AreApart l.all.items;
  lens : lens_of l.all.items ≡ l.at;
  partial : first_partial l.at (drop l.run-index l.runs) ≡ first_partial 0 l.runs;
}
