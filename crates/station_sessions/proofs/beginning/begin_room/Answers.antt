use Rattle.std.proofs.Common.{◌∙◌, ap, List, map, subst, sym}
use Rattle.composables.specs.TrackState.{TrackState}
use Rattle.composables.specs.declared.media.Table.{Table}
use Rattle.cut_steps.proofs.Left.{can_open}
use Rattle.cut_steps.specs.CutSteps.{KeptTrack}
use Rattle.edit_apply.specs.RoomTracks.{IsOpening}
use Rattle.take_back.specs.Parts.{CanOpen, fresh}
use Rattle.station_sessions.proofs.beginning.begin_room.Goals as goal

pub new-requires-clause-opens : goal.new-requires-clause-opens
new-requires-clause-opens c =
    let table = c.cut_object.ensures in
    let parts = c.in_ok-parts.ensures ∙ ap (λ (ts : List TrackState). map fresh ts) c.into_vec.ensures in
    subst (λ (x : Table × List KeptTrack). CanOpen (IsOpening x.0) x.1) (λ i. (sym table i, sym parts i))
    (can_open c.args.opening.table c.args.opening.tracks c.requires.opens)
