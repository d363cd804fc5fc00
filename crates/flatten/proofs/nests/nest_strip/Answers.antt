use Rattle.std.proofs.Common.{ℕ, List, IfOk, map, sym, subst}
use Rattle.frame_meaning.specs.declared.frames.Frame.{Frame}
use Rattle.flatten.specs.Strips.{AreFit, Show, frames_of}
use Rattle.flatten.proofs.Building.{nest_meant}
use Rattle.flatten.proofs.nests.nest_strip.Goals as goal

pub padded_strip-requires : goal.padded_strip-requires
padded_strip-requires c = subst AreFit (sym c.as_slice-3.ensures) c.in_ok-stacked.ensures.fit

pub returns : goal.returns
returns c =
    subst (λ (fs : List (Frame ℕ)). IfOk c.padded_strip.result (λ s. Show s fs))
    (nest_meant c.args.media.now (map frames_of c.args.nests.now) c.args.nest.now c.as_slice.result.now c.in_ok-layers.layers c.as_slice-2.result.now c.in_ok-stacked.stacked c.as_slice-3.result.now
    c.as_slice.ensures c.in_ok-layers.ensures.are c.as_slice-2.ensures c.in_ok-stacked.ensures.are c.as_slice-3.ensures)
    c.padded_strip.ensures
