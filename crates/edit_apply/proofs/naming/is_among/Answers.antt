use Rattle.std.proofs.Common.{sym, ◌∙◌, arith, nat_lt, ◌≡◌, false}
use Rattle.edit_apply.proofs.Sets.{of_set, of_none}
use Rattle.edit_apply.proofs.naming.is_among.Goals as goal

pub returns-then-track-lt32 : goal.returns-then-track-lt32
returns-then-track-lt32 c = c.has_track.ensures ∙ of_set c.args.tracks c.args.track c.if-track-lt32.true

pub returns-else-track-lt32 : goal.returns-else-track-lt32
returns-else-track-lt32 c = not_below ∙ sym (of_none c.args.tracks c.args.track c.if-track-lt32.false) where
  not_below : nat_lt c.args.track 32 ≡ false
  not_below = Prim.grind (arith, c.if-track-lt32.false)
