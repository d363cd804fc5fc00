use Rattle.stored_rooms.proofs.Accepted.{accepted}
use Rattle.stored_rooms.proofs.laws.accepted_files_are_not_refused.Goals as goal

pub returns : goal.returns
returns c = accepted c.a_damaged_file_has_none.ensures.none c.a_file_has_one_list_of_records.ensures c.records_have_one_reading.ensures.not_both
