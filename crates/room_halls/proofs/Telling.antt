-- What a hall tells after a change at one station.
use Rattle.std.proofs.Common.{◌≡◌, ◌≢◌, ℕ, ◌<◌, List, Option, Some, None, Bool, true, false, true≢false, length, inl, inr, sym, ap, ◌∙◌}
use Rattle.std.specs.Prelude.{slice_get, slice_set}
use Rattle.std.proofs.lemmas.Option.{slice_get_past}
use Rattle.std.proofs.lemmas.Bool.Decides.{leb_tells}
use Rattle.room_halls.specs.Stations.{LineTold, OthersStay, station_told, noted, note_of, is_noted}
use Rattle.room_halls.specs.Lines.{hall_tells, told_or_blank}
use Rattle.room_halls.proofs.Places.{get-same, get-other}

-- of a station that was seated there is a note
pub seated-within : {T : Type 0} (notes : List (Option T)) (station : ℕ) → is_noted (note_of notes station) ≡ true
    → station < length notes
seated-within notes station seated = elim (leb_tells (length notes) station) [
  | inl h ↦ absurd (true≢false (sym seated ∙ ap (λ o. is_noted (noted o)) (slice_get_past notes station h.1)))
  | inr h ↦ h.1
]

-- the note that was made
pub noted-at : {T : Type 0} (notes after : List (Option T)) (note : T) (station : ℕ)
    → after ≡ slice_set notes station (Some note) → station < length notes → note_of after station ≡ Some note
noted-at notes after note station e within =
    ap (λ ns. note_of ns station) e ∙ ap noted (get-same notes station (Some note) within)

-- what is noted of the others stays
pub noted-others : {T : Type 0} (notes grown now : List (Option T)) (note : T) (station : ℕ)
    → ((s : ℕ) → note_of grown s ≡ note_of notes s) → now ≡ slice_set grown station (Some note)
    → (s : ℕ) → s ≢ station → note_of now s ≡ note_of notes s
noted-others notes grown now note station same d s apart =
    ap (λ ns. note_of ns s) d ∙ (ap noted (get-other grown station s (Some note) apart) ∙ same s)

abbrev flag : Option Bool → Bool
flag None = false
flag (Some b) = b

-- a note is not two
pub not-both : (o : Option Bool) → o ≡ Some false → o ≡ Some true → ⊥
not-both o e f = true≢false (ap flag (sym f ∙ e))

module _ {L T : Type 0} (told : L → LineTold) where
  -- the station whose line was put there has it
  pub tells-line : (lines after : List L) (line : L) (notes : List (Option T)) (station : ℕ)
      → after ≡ slice_set lines station line → station < length lines
      → (hall_tells told after notes station).line ≡ told line
  tells-line lines after line notes station e within =
      ap (λ ls. told_or_blank told (slice_get ls station)) e
      ∙ ap (told_or_blank told) (get-same lines station line within)

  -- the station of which something was noted is seated
  pub tells-seated : (lines : List L) (notes after : List (Option T)) (note : T) (station : ℕ)
      → after ≡ slice_set notes station (Some note) → station < length notes
      → (hall_tells told lines after station).seated ≡ true
  tells-seated lines notes after note station e within =
      ap (λ ns. is_noted (note_of ns station)) e ∙ ap (λ o. is_noted (noted o)) (get-same notes station (Some note) within)

  -- nothing that is told of another station changes
  pub tells-others : (lines after : List L) (line : L) (notes grown now : List (Option T)) (note : T) (station : ℕ)
      → after ≡ slice_set lines station line → ((s : ℕ) → note_of grown s ≡ note_of notes s)
      → now ≡ slice_set grown station (Some note)
      → OthersStay station (hall_tells told lines notes) (hall_tells told after now)
  tells-others lines after line notes grown now note station e same d other apart =
      ap (λ ls. station_told (told_or_blank told (slice_get ls other)) (is_noted (note_of now other))) e
      ∙ (ap (λ o. station_told (told_or_blank told o) (is_noted (note_of now other))) (get-other lines station other line apart)
      ∙ ap (λ n. station_told (told_or_blank told (slice_get lines other)) (is_noted n))
      (noted-others notes grown now note station same d other apart))
