use Rattle.otio_json.specs.Openings.{plain_opening}
use Rattle.cut_server.proofs.Openings.{plain_some}
use Rattle.cut_server.proofs.Telling.{run_in}
use Rattle.cut_server.proofs.main_call.run_plain.Goals as goal

pub run_opened-requires-clause-some : goal.run_opened-requires-clause-some
run_opened-requires-clause-some g c = plain_some c.in-Ok.opening c.args.tracks c.args.reels c.requires.least c.in-Ok.ensures.plain

pub returns : goal.returns
returns g c = run_in c.in-Ok.opening (plain_opening c.args.tracks c.args.reels) _ _ c.run_opened.result c.in-Ok.ensures.plain c.run_opened.ensures
