use Rattle.std.proofs.Common.{◌^◌, ℕ, List, map, sym, ap, ◌∙◌, subst}
use Rattle.frame_meaning.specs.declared.frames.Frame.{Frame}
use Rattle.composables.specs.declared.media.Kind.TheVariants.{Audio}
use Rattle.flatten.specs.Nests.{frames_of_nests}
use Rattle.flatten.specs.Strips.{AreBelow, frames_of}
use Rattle.flatten.proofs.Building.{channels_below}
use Rattle.flatten.proofs.channels.audio_runs.Goals as goal

pub join_each-requires-clause-short : goal.join_each-requires-clause-short
join_each-requires-clause-short c =
    subst (λ (fss : List (List (Frame ℕ))). AreBelow (2 ^ 32) fss) (sym (ap (map frames_of) c.as_slice.ensures ∙ c.in_ok-strips.ensures.are))
    (channels_below Audio c.args.table.now (frames_of_nests c.args.table.now) c.args.tracks.now c.requires.tracks)
