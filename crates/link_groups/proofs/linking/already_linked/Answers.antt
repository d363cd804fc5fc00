use Rattle.std.proofs.Common.{sym, ◌∙◌}
use Rattle.link_groups.proofs.AllFound.{already-step, no_item}
use Rattle.link_groups.proofs.linking.already_linked.Goals as goal

pub loop-index-preserved : goal.loop-index-preserved
loop-index-preserved c =
    c.loop-index.invariant ∙ already-step c.loop-index.index c.args.named.now c.args.items.now c.args.found.now no_item c.loop-index-test.true c.requires.each c.requires.all (sym c.is_some.ensures ∙ c.if-is_some.false)
