use Rattle.edl_laws.proofs.EventsPlay.{events_play_as_their_cut}
use Rattle.edl_laws.proofs.ReelsNamed.{named_alike_is_one}
use Rattle.edl_laws.proofs.laws.a_list_plays_as_its_cut.Goals as goal

pub returns-clause-plays : goal.returns-clause-plays
returns-clause-plays c = events_play_as_their_cut

pub returns-clause-one : goal.returns-clause-one
returns-clause-one c = named_alike_is_one
