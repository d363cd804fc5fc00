use Rattle.std.proofs.Common.{◌≡◌, ◌+◌, ◌*◌, drop, length}
use Rattle.otio_text.specs.Texts.{grown}
use Rattle.otio_text.specs.Documents.{later_items, later_layers}
use Rattle.otio_text.proofs.writing.+put.Given as goal

abbrev pub decreases-put_nest_layers : goal.decreases-put_nest_layers
decreases-put_nest_layers l = 20 * l.levels + 1

abbrev pub decreases-put_nest : goal.decreases-put_nest
decreases-put_nest l = 20 * l.levels + 2

abbrev pub decreases-put_thing : goal.decreases-put_thing
decreases-put_thing l = 20 * l.levels + 5

abbrev pub decreases-put_item : goal.decreases-put_item
decreases-put_item l = 20 * l.levels + 6

abbrev pub decreases-put_other_items : goal.decreases-put_other_items
decreases-put_other_items l = 20 * l.levels + 7

abbrev pub decreases-put_items : goal.decreases-put_items
decreases-put_items l = 20 * l.levels + 8

abbrev pub decreases-put_layer : goal.decreases-put_layer
decreases-put_layer l = 20 * l.levels + 9

abbrev pub decreases-put_other_layers : goal.decreases-put_other_layers
decreases-put_other_layers l = 20 * l.levels + 10

abbrev pub decreases-put_layers : goal.decreases-put_layers
decreases-put_layers l = 20 * l.levels + 11

abbrev pub invariant-put_other_layers-loop-layer : goal.invariant-put_other_layers-loop-layer
invariant-put_other_layers-loop-layer l = grown l.out (later_layers l.table l.rate l.levels (drop l.layer-index l.others)) ≡ grown l.fn.out (later_layers l.table l.rate l.levels l.others)

abbrev pub invariant-put_other_items-loop-view : goal.invariant-put_other_items-loop-view
invariant-put_other_items-loop-view l = grown l.out (later_items l.table l.rate l.levels l.others) ≡ grown l.fn.out (later_items l.table l.rate l.levels l.fn.others)

abbrev pub decreases-put_other_items-loop-view : goal.decreases-put_other_items-loop-view
decreases-put_other_items-loop-view l = length l.others
