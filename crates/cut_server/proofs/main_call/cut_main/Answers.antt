use Rattle.cut_server.proofs.EndingWell.{ends_well, numbered_well}
use Rattle.cut_server.proofs.main_call.cut_main.Goals as goal

pub returns-clause-complete : goal.returns-clause-complete
returns-clause-complete g c = λ unhindered.
    numbered_well c.number.result c.do_command-status.result.0 c.number.ensures
    (ends_well _ _ _ _ _ _ c.accepted_files_are_not_refused.ensures c.accepted_streams_are_not_refused.ensures c.legal_sessions_are_not_refused.ensures _ c.do_command-status.result.0 unhindered c.do_command-status.ensures)
