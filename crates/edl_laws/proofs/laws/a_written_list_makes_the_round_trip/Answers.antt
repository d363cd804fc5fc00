use Rattle.edl_laws.proofs.RoundTrip.{written_lists_round_trip}
use Rattle.edl_laws.proofs.laws.a_written_list_makes_the_round_trip.Goals as goal

pub returns : goal.returns
returns c = written_lists_round_trip
