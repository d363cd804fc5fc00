-- The rate of a sequence that a word spells, and the counting at it.
use Rattle.std.proofs.Common.{◌≡◌, ℕ, Bool, true, false, List, Option, Some, None, IfSome, refl, ap, ◌∙◌}
use Rattle.std.specs.Prelude.{◌↔◌, IsNone, option_and_then}
use Rattle.ratio_time.specs.declared.numeral.Numeral.{Numeral}
use Rattle.ratio_time.specs.Rates.{rate_value}
use Rattle.json_tokens.specs.ReadingNumerals.{numeral_in}
use Rattle.otio_tracks.specs.Times.{rate_meant}
use Rattle.timecode12.specs.Numbers.{Counted}
use Rattle.timecode12.specs.declared.rate.SequenceRate.{SequenceRate}
use Rattle.timecode12.specs.declared.rate.SequenceRate.TheVariants.{F23976, F24, F25, F2997, F30}
use Rattle.command_words.specs.Commands.{sequence_of, rate_of_word, drop_frame_at}

rate_is_meant : (n : Numeral) → rate_value n ≡ rate_meant (n.mantissa, n.places)
unfolding rate_value rate_meant
rate_is_meant n = refl

pub no_number : (word : List ℕ) → None ≡ numeral_in word → None ≡ rate_of_word word
no_number word e = ap (λ o. option_and_then sequence_of (option_and_then rate_meant o)) e

pub number_told : (word : List ℕ) (n : Numeral) → Some (n.mantissa, n.places) ≡ numeral_in word → option_and_then sequence_of (rate_value n) ≡ rate_of_word word
number_told word n e =
    ap (option_and_then sequence_of) (rate_is_meant n) ∙ ap (λ o. option_and_then sequence_of (option_and_then rate_meant o)) e

-- what a counting is asked for, and what it is
same_counting : (c : Counted) (rate : SequenceRate) (drop : Bool) → c.rate ≡ rate → c.drop_frame ≡ drop → Some c ≡ Some (record { rate = rate; drop_frame = drop })
same_counting c rate drop r d = ap (λ x. counted x c.drop_frame) r ∙ ap (counted rate) d where
  counted : SequenceRate → Bool → Option Counted
  counted x y = Some (record { rate = x; drop_frame = y })

no_none : true ≡ false → ⊥
no_none h = cc

dropped : (rate : SequenceRate) (r : Option Counted) → (IsNone r ↔ (rate ≡ F2997 → ⊥)) → IfSome r (λ c. (c.rate ≡ rate) × (c.drop_frame ≡ true)) → r ≡ drop_frame_at rate
dropped F23976 None none some = refl
dropped F23976 (Some c) none some = absurd (no_none (none.1 (λ e. cc)))
dropped F24 None none some = refl
dropped F24 (Some c) none some = absurd (no_none (none.1 (λ e. cc)))
dropped F25 None none some = refl
dropped F25 (Some c) none some = absurd (no_none (none.1 (λ e. cc)))
dropped F2997 None none some = absurd (none.0 refl refl)
dropped F2997 (Some c) none some = same_counting c F2997 true some.0 some.1
dropped F30 None none some = refl
dropped F30 (Some c) none some = absurd (no_none (none.1 (λ e. cc)))
