use Rattle.otio_laws.proofs.SoundOpenings.{openings_are_sound_cuts}
use Rattle.otio_laws.proofs.laws.a_sound_opening_is_a_sound_cut.Goals as goal

pub returns : goal.returns
returns c = openings_are_sound_cuts
