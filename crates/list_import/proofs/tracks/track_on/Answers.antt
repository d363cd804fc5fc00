use Rattle.std.proofs.Common.{List, ap, ◌∙◌}
use Rattle.list_import.specs.declared.shots.Shot.{Shot}
use Rattle.list_import.specs.TrackItems.{track_views, track_with}
use Rattle.list_import.proofs.tracks.track_on.Goals as goal

pub returns : goal.returns
returns c = (
  c.in_ok-on.on.items,
  c.in_ok-on.ensures.own,
  c.in_ok-track.ensures ∙ ap (λ (l : List Shot). track_with c.args.number (track_views c.args.start 0 l)) c.as_slice.ensures.value,
)
