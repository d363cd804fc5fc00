use Rattle.otio_json.proofs.ShownTracks.{tracks_show_their_items}
use Rattle.otio_json.proofs.laws.a_track_shows_its_items_one_after_another.Goals as goal

pub returns : goal.returns
returns c = tracks_show_their_items
