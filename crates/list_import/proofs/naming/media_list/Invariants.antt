use Rattle.std.proofs.Common.{◌≡◌, map}
use Rattle.std.specs.List.{range_with_len}
use Rattle.list_import.specs.ListReels.{media_of}
use Rattle.list_import.proofs.naming.media_list.Given as goal

abbrev pub invariant-loop-reel : goal.invariant-loop-reel
invariant-loop-reel l = l.media ≡ map media_of (range_with_len 0 l.reel)
