use Rattle.std.proofs.Common.{◌≡◌, ◌+◌, drop}
use Rattle.otio_text.specs.Texts.{grown}
use Rattle.otio_text.specs.Documents.{later_tracks}
use Rattle.otio_text.proofs.writing.put_other_tracks.Given as goal

abbrev pub invariant-loop-index : goal.invariant-loop-index
invariant-loop-index l = grown l.out (later_tracks l.table l.rate (l.index + 1) (drop l.index l.others)) ≡ grown l.fn.out (later_tracks l.table l.rate 1 l.others)
