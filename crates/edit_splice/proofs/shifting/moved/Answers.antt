use Rattle.std.proofs.Common.{◌∙◌, arith}
use Rattle.edit_splice.proofs.Moving.{kept-put}
use Rattle.edit_splice.proofs.shifting.moved.Goals as goal

pub splice_by-requires-clause-kept : goal.splice_by-requires-clause-kept
splice_by-requires-clause-kept g c =
    rw c.in_ok-shifted.ensures (kept-put c.args.shift.now c.args.track.now c.min.result c.min-2.result c.as_slice.result.now c.requires.order c.requires.fits (record { frames = c.requires.short; items = c.requires.few })
    (omega (arith, c.min.ensures, c.length-length.ensures.value)) (omega (arith, c.min-2.ensures, c.length-length.ensures.value)) (c.as_slice.ensures ∙ c.put_views-views.ensures))
