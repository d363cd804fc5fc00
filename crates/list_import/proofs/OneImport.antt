-- A list has one opening.
use Rattle.std.proofs.Common.{List, sym, ap, ◌∙◌}
use Rattle.composables.specs.TrackState.{TrackState}
use Rattle.list_import.specs.ListReels.{shots_of}
use Rattle.list_import.specs.Imports.{start_of}
use Rattle.list_import.specs.Meanings.{ImportsAreOne}
use Rattle.list_import.proofs.ShotsGood.{can_be_ordered}
use Rattle.list_import.proofs.ShownImports.{opened, opening_with}
use Rattle.list_import.proofs.OneOrder.{one_tracks}

pub one_import : ImportsAreOne
one_import events counted o p read none is other =
    opened events counted o is
    ∙ (ap (λ (ts : List TrackState). opening_with events counted ts)
    (one_tracks (start_of events) (shots_of events) o.tracks p.tracks (can_be_ordered events read none).0 is.tracks other.tracks)
    ∙ sym (opened events counted p other))
