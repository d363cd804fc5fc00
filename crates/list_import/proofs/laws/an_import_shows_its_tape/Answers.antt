use Rattle.list_import.proofs.ShownImports.{imports_show_their_tape}
use Rattle.list_import.proofs.laws.an_import_shows_its_tape.Goals as goal

pub returns : goal.returns
returns c = imports_show_their_tape
