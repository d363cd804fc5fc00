use Rattle.std.proofs.Common.{◌∙◌, ap, List, map}
use Rattle.composables.specs.TrackState.{TrackState}
use Rattle.cut_steps.proofs.Left.{can_open, good_fresh}
use Rattle.cut_steps.specs.CutSteps.{fresh_tracks, stepping}
use Rattle.edit_apply.specs.Apply.{track_count}
use Rattle.edit_apply.specs.RoomTracks.{IsOpening}
use Rattle.history_points.proofs.Openings.{of_opening}
use Rattle.command_files.proofs.Openings.{sound_opens}
use Rattle.room_core.specs.Parts.{numbers}
use Rattle.take_back.specs.Parts.{CanOpen, fresh}
use Rattle.test_commands.proofs.replays.replayed.Goals as goal

pub replay-requires-clause-from : goal.replay-requires-clause-from
replay-requires-clause-from c =
    let o = c.args.opening in
    let from = c.deref.ensures.value ∙ (c.in_ok-parts.ensures ∙ ap (λ (ts : List TrackState). map fresh ts) c.into_vec.ensures) in
    rw from
    (of_opening (stepping o.table) (CanOpen (IsOpening o.table)) c.args.n (fresh_tracks o.tracks)
    (can_open o.table o.tracks (sound_opens o c.requires.sound c.requires.some)) c.requires.most)

pub replay-requires-clause-good : goal.replay-requires-clause-good
replay-requires-clause-good c =
    let o = c.args.opening in
    let from = c.deref.ensures.value ∙ (c.in_ok-parts.ensures ∙ ap (λ (ts : List TrackState). map fresh ts) c.into_vec.ensures) in
    rw from (good_fresh o.table (numbers 0 (track_count o.table)) o.tracks (sound_opens o c.requires.sound c.requires.some).good)
