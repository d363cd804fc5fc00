use Rattle.std.proofs.Common.{Bool, ◌&&◌, ◌||◌, eqb, slice_get, ap, ◌∙◌, arith}
use Rattle.std.specs.BTreeSet.{contains}
use Rattle.link_groups.specs.Marks.{in_row}
use Rattle.link_groups.specs.Splits.{key_cmp}
use Rattle.link_groups.proofs.Marked.{or-last, rows-set}
use Rattle.link_groups.proofs.link_marks.LinkMarks.add_one.Goals as goal

pub returns-then-link-lt-ROW_NUMBERS : goal.returns-then-link-lt-ROW_NUMBERS
returns-then-link-lt-ROW_NUMBERS c q =
    ap (λ (b : Bool). b || contains key_cmp c.args.self.now.others q)
    (rows-set c.args.self.now.rows.items c.index_mut.result.now c.mark.new.row c.args.link.home c.args.link.number q.0 q.1 (omega (arith, c.if-link-len.true, c.len.ensures, c.args.self.now.rows.ok)) c.index_mut.ensures.value c.in_ok-mark.ensures)
    ∙ or-last (in_row (slice_get c.args.self.now.rows.items q.0) q.1) (eqb q.0 c.args.link.home && eqb q.1 c.args.link.number) (contains key_cmp c.args.self.now.others q)
