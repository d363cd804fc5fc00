use Rattle.otio_laws.proofs.Points.{points_are_read_again, points_are_sound_cuts}
use Rattle.otio_laws.proofs.laws.a_cut_at_any_point_is_read_again.Goals as goal

pub returns-clause-sound : goal.returns-clause-sound
returns-clause-sound c = points_are_sound_cuts

pub returns-clause-again : goal.returns-clause-again
returns-clause-again c = points_are_read_again
