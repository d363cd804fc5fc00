use Rattle.std.proofs.Common.{ℕ, ◌++◌, List, sym, ap, subst}
use Rattle.frame_meaning.specs.declared.frames.Frame.TheVariants.{Dark}
use Rattle.frame_meaning.specs.declared.frames.Run.{Run}
use Rattle.flatten.specs.Strips.{AreFit, frames_of, laid_over}
use Rattle.flatten.proofs.Over.{fit_get}
use Rattle.flatten.proofs.Parts.{at_start}
use Rattle.flatten.proofs.stacks.lay_over.Goals as goal

pub loop-run-init : goal.loop-run-init
loop-run-init c = record {
  all = subst AreFit (sym c.new-all.ensures) tt;
  spot = at_start c.args.lower.now 0 c.requires.lower;
  same = ap (λ (rs : List (Run ℕ)). frames_of rs ++ laid_over (frames_of c.args.upper.now) (frames_of c.args.lower.now)) c.new-all.ensures;
}

pub add_over-requires-clause-run : goal.add_over-requires-clause-run
add_over-requires-clause-run c = fit_get c.args.upper.now c.loop-run.run-index (record { frame = Dark; len = 0 }) c.loop-run-test.true c.requires.upper
