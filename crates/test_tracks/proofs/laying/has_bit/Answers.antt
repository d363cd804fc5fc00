use Rattle.std.proofs.Common.{sym, ◌∙◌, arith}
use Rattle.std.proofs.lemmas.Bool.{ltb-true}
use Rattle.test_tracks.proofs.Laid.{bit_below, bit_is_set}
use Rattle.test_tracks.proofs.laying.has_bit.Goals as goal

pub returns-then-track-lt32 : goal.returns-then-track-lt32
returns-then-track-lt32 c = (
  λ h. (bit_is_set c.args.tracks c.args.track).0 (sym c.has_track.ensures ∙ h),
  λ b. c.has_track.ensures ∙ (bit_is_set c.args.tracks c.args.track).1 b,
)

pub returns-else-track-lt32 : goal.returns-else-track-lt32
returns-else-track-lt32 c = (
  λ e. absurd (omega (arith, ltb-true c.args.track 32 e, c.if-track-lt32.false)),
  λ b. absurd (omega (arith, bit_below c.args.tracks c.args.track (omega (arith, c.ranges.tracks.fits)) b, c.if-track-lt32.false)),
)
