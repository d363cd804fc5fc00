use Rattle.std.proofs.Common.{length, ap, arith, refl}
use Rattle.journal_text.proofs.IntoRoom.{feed_fits, items_fit, line_more, room_left}
use Rattle.journal_text.proofs.journal.journal_text_into.Goals as goal

pub put_count-requires : goal.put_count-requires
put_count-requires c =
    let none = ap length c.requires.room.0 in
    omega (arith, c.requires.room.1, c.args.out.now.ok.0, none)

pub loop-entry-init : goal.loop-entry-init
loop-entry-init c =
    let none = ap length c.requires.room.0 in
    record {
      text = rw (c.put_count.ensures.text, c.requires.room.0) refl;
      room = omega (arith, c.requires.text.within, c.requires.room.1, c.args.out.now.ok.0, none, c.put_count.ensures.len, c.put_count.ensures.room);
    }

pub put_entry_text-requires-clause-items : goal.put_entry_text-requires-clause-items
put_entry_text-requires-clause-items c =
    items_fit c.args.entries.now c.loop-entry.entry-index _ c.entry-item.result c.entry-item.is c.requires.text.lines c.loop-entry-test.true _ _ c.loop-entry.invariant.room

pub put-requires : goal.put-requires
put-requires c =
    feed_fits c.args.entries.now c.loop-entry.entry-index _ c.entry-item.result c.entry-item.is c.requires.text.lines c.loop-entry-test.true c.loop-entry.out.items c.put_entry_text.new.out.items _ _ _ _
    c.loop-entry.out.ok.0 c.put_entry_text.new.out.ok.0 c.put_entry_text.ensures.text c.loop-entry.invariant.room c.put_entry_text.ensures.room

pub loop-entry-preserved : goal.loop-entry-preserved
loop-entry-preserved c = record {
  text = rw (c.put.ensures.text, c.put_entry_text.ensures.text) (line_more c.args.entries.now c.loop-entry.entry-index _ c.entry-item.result c.entry-item.is c.requires.text.lines c.loop-entry-test.true c.loop-entry.out.items _ c.loop-entry.invariant.text);
  room =
      let left = room_left c.args.entries.now c.loop-entry.entry-index _ c.entry-item.result c.entry-item.is c.requires.text.lines c.loop-entry-test.true c.loop-entry.out.items c.put_entry_text.new.out.items _ _ _ _
      c.loop-entry.out.ok.0 c.put_entry_text.new.out.ok.0 c.put_entry_text.ensures.text c.loop-entry.invariant.room c.put_entry_text.ensures.room in
      omega (arith, left, c.put.ensures.len, c.put.ensures.room);
}
