use Rattle.list_import.proofs.SoundImports.{import_sound}
use Rattle.list_import.proofs.laws.an_import_is_sound.Goals as goal

pub returns : goal.returns
returns c = import_sound
