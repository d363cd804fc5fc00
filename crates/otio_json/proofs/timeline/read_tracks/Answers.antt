use Rattle.std.proofs.lemmas.Result.{err_from_is_err_and}
use Rattle.otio_json.proofs.timeline.read_tracks.Goals as goal

pub returns-in_err-tracks-clause-read : goal.returns-in_err-tracks-clause-read
returns-in_err-tracks-clause-read c =
    let p = err_from_is_err_and c.from_residual.result c.from_residual.ensures.1 in
    rw (p.1, p.2) (rw c.new-table.ensures at c.in_err-tracks.ensures)

pub returns-clause-read : goal.returns-clause-read
returns-clause-read c = rw c.in_ok-table.ensures.table (rw c.new-table.ensures at c.in_ok-tracks.ensures)
