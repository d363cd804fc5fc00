-- Rates and frames as pairs of numbers.
use Rattle.std.proofs.Common.{◌≡◌, ℕ, Option, Ok, refl, sym, ap, ◌∙◌}
use Rattle.json_tokens.specs.Reading.{◌>>=◌}
use Rattle.json_tree.specs.Tree.{Tree}
use Rattle.json_tree.specs.Parts.{place_of}
use Rattle.ratio_time.specs.declared.numeral.Numeral.{Numeral}
use Rattle.ratio_time.specs.declared.rate.Rate.{Rate}
use Rattle.ratio_time.specs.declared.time.RationalTime.{RationalTime}
use Rattle.ratio_time.specs.declared.time.TimeRange.{TimeRange}
use Rattle.ratio_time.specs.Rates.{rate_value}
use Rattle.ratio_time.specs.Division.{frames_of, narrowed_of, floor_of, ceiling_of}
use Rattle.otio_tracks.specs.declared.faults.DocCode.TheVariants.{O5}
use Rattle.otio_tracks.specs.Reading.{or_refuse}
use Rattle.otio_tracks.specs.Times.{rate_meant, numeral_read, rate_read, moment_read, frame_read, on_frame, frame_at, moment_of, rate_pair}
use Rattle.otio_tracks.specs.Clips.{narrowed}

rate_is_meant : (n : Numeral) → rate_value n ≡ rate_meant (n.mantissa, n.places)
unfolding rate_value rate_meant
rate_is_meant n = refl

pub rate_told : (n : Numeral) (o : Option (ℕ × ℕ)) (t : Tree) → numeral_read t ≡ Ok (n.mantissa, n.places) → rate_value n ≡ o → rate_read t ≡ or_refuse o O5 (place_of t)
rate_told n o t e v = ap (λ r. r >>= λ x. or_refuse (rate_meant x) O5 (place_of t)) e ∙ ap (λ x. or_refuse x O5 (place_of t)) (sym (rate_is_meant n) ∙ v)

frame_is_at : (time : RationalTime) (rate : Rate) → frames_of time rate ≡ frame_at (moment_of time) (rate_pair rate)
unfolding frames_of floor_of ceiling_of frame_at
frame_is_at time rate = refl

pub frame_told : (time : RationalTime) (rate : Rate) (t : Tree) → moment_read t ≡ Ok (moment_of time) → frame_read (rate_pair rate) t ≡ on_frame (frames_of time rate) (place_of t)
unfolding frame_read
frame_told time rate t e = ap (λ r. r >>= λ m. on_frame (frame_at m (rate_pair rate)) (place_of t)) e ∙ ap (λ r. on_frame r (place_of t)) (sym (frame_is_at time rate))

pub narrowed_is : (range : TimeRange) (rate : Rate) → narrowed_of range rate ≡ narrowed (moment_of range.start) (moment_of range.duration) (rate_pair rate)
unfolding narrowed_of floor_of ceiling_of narrowed
narrowed_is range rate = refl
