use Rattle.std.proofs.Common.{sym, ap, ◌∙◌, subst}
use Rattle.flatten.specs.Strips.{AreFit, frames_of}
use Rattle.flatten.proofs.Marking.{fit_marked, runs_marked}
use Rattle.flatten.proofs.sights.mark_runs.Goals as goal

pub returns : goal.returns
returns c = record {
  are = ap frames_of c.in_ok-marked.ensures ∙ runs_marked c.args.how c.args.runs.now;
  fit = subst AreFit (sym c.in_ok-marked.ensures) (fit_marked c.args.how c.args.runs.now c.requires);
}
