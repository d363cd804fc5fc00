use Rattle.std.proofs.Common.{sym, ◌∙◌}
use Rattle.composables.proofs.Numbered.{numbered-here}
use Rattle.composables.proofs.named_tracks.own_index.Goals as goal

pub returns-then-number-clause-found : goal.returns-then-number-clause-found
returns-then-number-clause-found c =
    c.loop-index.invariant ∙ numbered-here c.args.number c.args.named.now c.loop-index.index c.index-named-index.result c.loop-index-test.true c.index-named-index.is (sym c.number.ensures ∙ c.if-number.true)
