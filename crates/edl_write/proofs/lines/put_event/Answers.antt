use Rattle.edl_write.proofs.Texts.{on_ok, two_lines}
use Rattle.edl_write.proofs.lines.put_event.Goals as goal

pub returns-in_ok-put_line-in-Some : goal.returns-in_ok-put_line-in-Some
returns-in_ok-put_line-in-Some c =
    on_ok c.put_line-in-Some.result
    (λ last line.
    two_lines c.args.counting.now c.args.start c.args.names.now c.args.number line c.args.event.now c.in-Some.left c.args.out.now.items c.put_line.new.out.items c.put_line-in-Some.new.out.items
    c.name_of_side.result c.set.result c.source_of.result c.line_of_left.result c.line_of_dissolve.result c.name_of_side.ensures c.set.ensures c.source_of.ensures c.in-Some.is
    c.line_of_left.ensures c.line_of_dissolve.ensures c.in_ok-put_line-in-Some.ensures last)
    c.put_line-in-Some.ensures
