use Rattle.std.proofs.Common.{ℕ, List, sym, arith, subst}
use Rattle.frame_meaning.specs.declared.frames.Run.{Run}
use Rattle.flatten.specs.Strips.{Show, frames_of, padded}
use Rattle.flatten.proofs.Building.{added_to_none, length-added}
use Rattle.flatten.proofs.Parts.{at_start}
use Rattle.flatten.proofs.nests.padded_strip.Goals as goal

pub add_padded-requires-clause-spot : goal.add_padded-requires-clause-spot
add_padded-requires-clause-spot c = at_start c.args.runs.now 0 c.requires

pub new-requires : goal.new-requires
new-requires c =
    omega (arith, c.ranges.length.fits, length-added c.new-all.result c.add_padded.new.all c.args.length (frames_of c.args.runs.now) c.new-all.ensures c.in_ok-add_padded.ensures.added)

pub returns : goal.returns
returns c =
    let fs = padded c.args.length (frames_of c.args.runs.now) in
    subst (λ (rs : List (Run ℕ)). Show rs fs) (sym c.in_ok-strip.ensures)
    (record { are = added_to_none c.new-all.result c.add_padded.new.all fs c.new-all.ensures c.in_ok-add_padded.ensures.added; fit = c.in_ok-add_padded.ensures.all })
