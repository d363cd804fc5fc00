use Rattle.cut_mirror.proofs.Named.{copy_next}
use Rattle.cut_mirror.proofs.parts.copy_named.Goals as goal

pub loop-name-preserved : goal.loop-name-preserved
loop-name-preserved g c =
    rw (c.in_ok-push.ensures.items, c.in_ok-copy_part.ensures)
    (copy_next c.args.parts.now c.loop-name.named.items c.args.names.now c.loop-name.name-index _
    c.index-parts-name.result c.requires.within c.loop-name-test.true
    c.index-parts-name.is c.loop-name.invariant)
