use Rattle.std.proofs.Common.{◌<◌, ◌^◌, ℕ, List, length, sym, subst}
use Rattle.frame_meaning.specs.declared.frames.Run.{Run}
use Rattle.flatten.specs.Strips.{AreFit, frames_of}
use Rattle.flatten.proofs.Building.{below_get}
use Rattle.flatten.proofs.Over.{each_fit}
use Rattle.flatten.proofs.channels.join_each.Goals as goal

pub join_runs-requires-clause-fit : goal.join_runs-requires-clause-fit
join_runs-requires-clause-fit c =
    subst AreFit (sym c.as_slice.ensures) (each_fit c.args.strips.now c.loop-strip.strip-index c.strip-item.result c.loop-strip-test.true c.strip-item.is c.requires.fit)

pub join_runs-requires-clause-short : goal.join_runs-requires-clause-short
join_runs-requires-clause-short c =
    subst (λ (rs : List (Run ℕ)). length (frames_of rs) < 2 ^ 32) (sym c.as_slice.ensures)
    (below_get c.args.strips.now c.loop-strip.strip-index c.strip-item.result c.loop-strip-test.true c.strip-item.is c.requires.short)
