use Rattle.std.proofs.Common.{ap, ◌∙◌}
use Rattle.room_core.specs.declared.entry.Entry.{Entry}
use Rattle.cut_mirror.proofs.Lasts.{last}
use Rattle.cut_mirror.proofs.numbers.is_above.Goals as goal

pub returns-then-entries-k : goal.returns-then-entries-k
returns-then-entries-k g c =
    last c.args.entries.now c.loop-k.k c.index-entries-k.result _ c.args.station c.args.number c.loop-k-test.true
    c.loop-k.invariant.within c.requires.rise
    c.index-entries-k.is (ap (λ (x : Entry _). x.station) c.index-entries-k.is ∙ c.if-entries-k.true)
    c.loop-k.invariant.above
