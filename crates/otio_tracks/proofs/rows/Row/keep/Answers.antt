use Rattle.std.proofs.Common.{None, sym, ◌∙◌, arith}
use Rattle.otio_tracks.specs.RowInside.{row_of}
use Rattle.otio_tracks.proofs.RowFrames.{last_fits}
use Rattle.otio_tracks.proofs.RowSound.{keep_joined, keep_more}
use Rattle.otio_tracks.proofs.rows.Row.keep.Goals as goal

pub longer-self-inside-requires : goal.longer-self-inside-requires
longer-self-inside-requires c =
    let few = rw (← c.self.view_is) at c.requires.frames in
    last_fits c.self.inside.done.items c.self.inside.last c.args.next.now.len 18446744073709551616 (omega (arith, few))

pub invariant_of-self-then-joins : goal.invariant_of-self-then-joins
invariant_of-self-then-joins c =
    rw c.longer-self-inside.ensures (keep_joined (row_of c.self.inside) c.args.next.now None c.self.invariant (sym c.joins.ensures ∙ c.if-joins.true))

pub invariant_of-self-2 : goal.invariant_of-self-2
invariant_of-self-2 c =
    rw c.in_ok-push_last.ensures.ok (keep_more (row_of c.self.inside) c.args.next.now c.args.mark None c.self.invariant (omega (arith, c.if-next-eq0.false)) c.requires.sound (sym c.joins.ensures ∙ c.if-joins.false)
    (rw (← c.self.view_is) at c.requires.fits))
