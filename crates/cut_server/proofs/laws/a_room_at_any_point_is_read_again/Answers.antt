use Rattle.cut_server.proofs.Points.{rooms_are_read_again, rooms_are_sound_cuts}
use Rattle.cut_server.proofs.laws.a_room_at_any_point_is_read_again.Goals as goal

pub returns-clause-sound : goal.returns-clause-sound
returns-clause-sound c = rooms_are_sound_cuts

pub returns-clause-again : goal.returns-clause-again
returns-clause-again c = rooms_are_read_again
