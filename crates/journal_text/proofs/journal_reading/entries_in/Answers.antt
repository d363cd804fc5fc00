use Rattle.std.proofs.Common.{◌≡◌, ◌++◌, length, ap, arith, rules, length-append}
use Rattle.std.proofs.lemmas.List.Elements.{All-push}
use Rattle.journal_text.specs.Journals.{entry_line, HasLine}
use Rattle.journal_text.proofs.JournalSteps.{one_more, shorter}
use Rattle.journal_text.proofs.journal_reading.entries_in.Goals as goal

pub loop-rest-preserved : goal.loop-rest-preserved
loop-rest-preserved c =
    let has : HasLine c.in-Some-2.entry = search rules in
    let is : c.loop-rest.rest.now ≡ entry_line c.in-Some-2.entry ++ c.in-Some-2.more.now = search rules in
    let items = c.in_ok-push-in-Some-2.ensures.items in
    let more = ap length items in
    let less = shorter c.in-Some-2.entry c.loop-rest.rest.now c.in-Some-2.more.now is in
    record {
      lines = rw items (All-push HasLine c.loop-rest.entries.items c.in-Some-2.entry c.loop-rest.invariant.lines has);
      so_far = rw items (one_more c.loop-rest.entries.items c.in-Some-2.entry c.loop-rest.rest.now c.in-Some-2.more.now c.args.text.now c.loop-rest.invariant.so_far is);
      room = omega (arith, simp length-append at more, less, c.loop-rest.invariant.room);
    }
