use Rattle.std.proofs.Common.{◌-◌, arith, false}
use Rattle.edit_splice.proofs.Outcomes.{length-spliced_track}
use Rattle.edit_delta.proofs.Bounded.{below-more, parts-kept, parts-stay}
use Rattle.edit_delta.proofs.placing.place_parts.Goals as goal

pub splice_within-requires-clause-numbers : goal.splice_within-requires-clause-numbers
splice_within-requires-clause-numbers g c = below-more c.args.track.now.next_item 4294967294 c.args.parts.now (omega (arith, c.requires.roomy.item)) c.requires.parts.numbers

pub splice_within-requires-clause-kept : goal.splice_within-requires-clause-kept
splice_within-requires-clause-kept g c few =
    parts-kept false c.args.table.now c.args.track.now c.args.x c.args.y c.args.parts.now c.requires.good c.requires.parts (record {
      frames = omega (arith, length-spliced_track false c.args.track.now c.args.x c.args.y c.args.parts.now c.requires.parts.order c.requires.parts.within, c.requires.parts.short);
      items = few;
    })

pub returns-clause-good : goal.returns-clause-good
returns-clause-good g c =
    parts-stay false c.args.table.now c.args.track.now c.splice_within.new.track c.args.x c.args.y c.args.parts.now c.args.done c.splice_within.result c.requires.good c.requires.parts c.splice_within.ensures.answers
