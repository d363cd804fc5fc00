use Rattle.std.proofs.Common.{◌≡◌, drop}
use Rattle.std.specs.List.{flat_map}
use Rattle.json_tree.specs.Writing.{escaped}
use Rattle.otio_text.specs.Texts.{grown}
use Rattle.otio_text.proofs.text.DocText.put_escaped.Given as goal

abbrev pub invariant-loop-byte : goal.invariant-loop-byte
invariant-loop-byte l = grown l.self (flat_map escaped (drop l.byte-index l.text)) ≡ grown l.fn.self (flat_map escaped l.text)
