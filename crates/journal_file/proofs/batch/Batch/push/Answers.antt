use Rattle.std.proofs.Common.{◌<◌, length, sym, subst}
use Rattle.journal_file.specs.Layout.{IsLine}
use Rattle.journal_file.specs.Batches.{lines_in}
use Rattle.journal_file.proofs.Pushes.{filled}
use Rattle.journal_file.proofs.batch.Batch.push.Goals as goal

pub invariant_of-self-2 : goal.invariant_of-self-2
invariant_of-self-2 c =
    let i = c.self.invariant in
    filled (lines_in c.self.inside.bytes.items) c.of-line.result _ c.self.inside.count i.0
    (subst IsLine (sym c.of-line.ensures) c.requires.line)
    (c.in_ok-extend.ensures.ok (lines_in c.self.inside.bytes.items) i.1) i.2
    (subst (λ l. length l < 1024) (sym c.self.view_is) c.requires.room)
