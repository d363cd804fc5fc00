use Rattle.std.proofs.Common.{Some, false, true, ◌∙◌}
use Rattle.std.specs.BTreeMap.{is_at}
use Rattle.std.specs.BTreeSet.{contains}
use Rattle.link_groups.specs.Splits.{is_key_of, key_cmp, key_of}
use Rattle.link_groups.proofs.SplitKeys.{at-link}
use Rattle.link_groups.proofs.Unmarked.{contains-at, not-put, put, taken}
use Rattle.link_groups.proofs.staying.find_one.Goals as goal

pub returns-then-not-remove-clause-found : goal.returns-then-not-remove-clause-found
returns-then-not-remove-clause-found c q =
    not-put (contains key_cmp c.args.found.now q) (contains key_cmp c.args.missing.now q) (is_key_of q (Some c.args.link)) (contains-at c.args.missing.now c.args.link q false c.if-not-remove.ensures.test)

pub returns-then-not-remove-clause-missing : goal.returns-then-not-remove-clause-missing
returns-then-not-remove-clause-missing c q =
    c.if-not-remove.ensures.updates.0 q ∙ taken (contains key_cmp c.args.missing.now q) (is_key_of q (Some c.args.link)) (is_at (key_cmp (key_of c.args.link)) q) (at-link c.args.link q)

pub returns-clause-found : goal.returns-clause-found
returns-clause-found c q =
    c.in_ok-insert.ensures.updates.0 q
    ∙ put (contains key_cmp c.args.found.now q) (contains key_cmp c.args.missing.now q) (is_key_of q (Some c.args.link)) (is_at (key_cmp (key_of c.args.link)) q) (at-link c.args.link q)
    (contains-at c.args.missing.now c.args.link q true c.if-not-remove.ensures.test)

pub returns-clause-missing : goal.returns-clause-missing
returns-clause-missing c q =
    c.if-not-remove.ensures.updates.0 q ∙ taken (contains key_cmp c.args.missing.now q) (is_key_of q (Some c.args.link)) (is_at (key_cmp (key_of c.args.link)) q) (at-link c.args.link q)
