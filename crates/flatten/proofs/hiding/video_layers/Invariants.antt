use Rattle.std.proofs.Common.{◌≡◌, ◌++◌, drop, map}
use Rattle.composables.specs.declared.media.Kind.TheVariants.{Video}
use Rattle.flatten.specs.Channels.{of_kind}
use Rattle.flatten.specs.Hiding.{track_layer}
use Rattle.flatten.specs.Marks.{AllComposed, seen_of}
use Rattle.flatten.proofs.hiding.video_layers.Given as goal

abbrev pub invariant-loop-index : goal.invariant-loop-index
invariant-loop-index l = record {
  all : AllComposed l.all;
  same : map seen_of l.all ++ map (track_layer l.table) (of_kind Video (drop l.index l.table.kinds) (drop l.index l.tracks)) ≡ map (track_layer l.table) (of_kind Video l.table.kinds l.tracks);
}
