use Rattle.otio_tracks.specs.RowInside.{row_of}
use Rattle.otio_tracks.proofs.RowFrames.{last_short}
use Rattle.otio_tracks.proofs.RowSound.{dissolve_fits_ok}
use Rattle.otio_tracks.proofs.rows.Row.dissolve_before.Goals as goal

pub dissolve_between-requires : goal.dissolve_between-requires
dissolve_between-requires c = last_short c.self.inside.done.items c.self.inside.last 9223372036854775808 (rw (← c.self.view_is) at c.requires)

pub returns-in-Some-clause-fits : goal.returns-in-Some-clause-fits
returns-in-Some-clause-fits c = rw (← c.self.view_is) (dissolve_fits_ok (row_of c.self.inside) c.in-Some.waiting c.args.next.now c.dissolve_between.result c.dissolve_between.ensures c.self.invariant)
