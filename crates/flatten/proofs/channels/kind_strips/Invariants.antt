use Rattle.std.proofs.Common.{◌≡◌, ◌++◌, drop, map}
use Rattle.flatten.specs.Channels.{channels, of_kind}
use Rattle.flatten.specs.Nests.{frames_of_nests, track_frames}
use Rattle.flatten.specs.Strips.{AllFit, frames_of}
use Rattle.flatten.proofs.channels.kind_strips.Given as goal

abbrev pub invariant-loop-index : goal.invariant-loop-index
invariant-loop-index l = record {
  all : AllFit l.all;
  same : map frames_of l.all ++ map (track_frames l.table.media (frames_of_nests l.table)) (of_kind l.kind (drop l.index l.table.kinds) (drop l.index l.tracks)) ≡ channels l.kind l.table l.tracks;
}
