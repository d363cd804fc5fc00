use Rattle.std.proofs.Common.{Some, None}
use Rattle.json_tree.specs.View.{tree_of}
use Rattle.otio_tracks.specs.Times.{rate_pair}
use Rattle.otio_tracks.proofs.TimeLaws.{rate_told}
use Rattle.otio_tracks.proofs.times.rate.Goals as goal

pub returns-in-Some : goal.returns-in-Some
returns-in-Some c = rate_told c.in_ok-number.number (Some (rate_pair c.in-Some.rate)) (tree_of c.args.json.now) c.in_ok-number.ensures c.in-Some.ensures.value

pub returns-in-None : goal.returns-in-None
returns-in-None c = rw c.fault_at.ensures (rate_told c.in_ok-number.number None (tree_of c.args.json.now) c.in_ok-number.ensures c.in-None.ensures.value)
