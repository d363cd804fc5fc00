use Rattle.std.proofs.Common.{◌≡◌, ℕ, List, IfOk, subst}
use Rattle.frame_meaning.specs.declared.frames.Frame.{Frame}
use Rattle.composables.specs.declared.media.Kind.TheVariants.{Video}
use Rattle.flatten.specs.Channels.{channels, maximal_runs}
use Rattle.flatten.specs.Nests.{frames_of_nests}
use Rattle.flatten.specs.Strips.{frames_of}
use Rattle.flatten.proofs.Building.{channels_below, video_meant, video_short}
use Rattle.flatten.proofs.channels.video_runs.Goals as goal

pub join_runs-requires-clause-short : goal.join_runs-requires-clause-short
join_runs-requires-clause-short c =
    let fss = channels Video c.args.table.now c.args.tracks.now in
    video_short fss (frames_of c.as_slice-2.result.now)
    (video_meant fss c.in_ok-strips.strips c.as_slice.result.now c.in_ok-strip.strip c.as_slice-2.result.now c.in_ok-strips.ensures.are c.as_slice.ensures c.in_ok-strip.ensures.are c.as_slice-2.ensures)
    (channels_below Video c.args.table.now (frames_of_nests c.args.table.now) c.args.tracks.now c.requires.tracks)

pub returns : goal.returns
returns c =
    let fss = channels Video c.args.table.now c.args.tracks.now in
    subst (λ (fs : List (Frame ℕ)). IfOk c.join_runs.result (λ all. all ≡ maximal_runs fs))
    (video_meant fss c.in_ok-strips.strips c.as_slice.result.now c.in_ok-strip.strip c.as_slice-2.result.now c.in_ok-strips.ensures.are c.as_slice.ensures c.in_ok-strip.ensures.are c.as_slice-2.ensures)
    c.join_runs.ensures
