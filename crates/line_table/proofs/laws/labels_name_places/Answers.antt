use Rattle.line_table.proofs.LabelPlaces.{place_told, place_named}
use Rattle.line_table.proofs.laws.labels_name_places.Goals as goal

pub returns : goal.returns
returns c = λ counting start place word. (place_told counting start place word, place_named counting start place word)
