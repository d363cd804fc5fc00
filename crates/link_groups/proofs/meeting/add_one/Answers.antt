use Rattle.std.proofs.Common.{Some, false, true, ◌∙◌}
use Rattle.std.specs.BTreeMap.{is_at}
use Rattle.std.specs.BTreeSet.{contains}
use Rattle.link_groups.specs.Keys.{may_have, pair_key}
use Rattle.link_groups.specs.Splits.{is_key_of, key_cmp, key_of}
use Rattle.link_groups.proofs.SplitKeys.{at-link}
use Rattle.link_groups.proofs.Unmarked.{marked-at, not-put, put}
use Rattle.link_groups.proofs.meeting.add_one.Goals as goal

pub returns-then-not-may_have_link-clause-links : goal.returns-then-not-may_have_link-clause-links
returns-then-not-may_have_link-clause-links c q =
    not-put (contains key_cmp c.args.met.now q) (may_have c.args.marks.now (pair_key q)) (is_key_of q (Some c.args.link)) (marked-at c.args.marks.now c.args.link q false c.if-not-may_have_link.ensures)

pub returns-clause-links : goal.returns-clause-links
returns-clause-links c q =
    c.in_ok-insert.ensures.updates.0 q
    ∙ put (contains key_cmp c.args.met.now q) (may_have c.args.marks.now (pair_key q)) (is_key_of q (Some c.args.link)) (is_at (key_cmp (key_of c.args.link)) q) (at-link c.args.link q)
    (marked-at c.args.marks.now c.args.link q true c.if-not-may_have_link.ensures)
