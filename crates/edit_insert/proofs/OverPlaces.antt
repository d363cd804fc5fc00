-- An overwrite is a splice of the track itself.
use Rattle.std.proofs.Common.{◌≡◌, ℕ, ◌+◌, ◌-◌, ◌++◌, List, [], ◌∷◌, length, min, Option, Some, None, sym, ap, ◌∙◌, arith, Bool}
use Rattle.frame_meaning.specs.declared.cells.What.{What}
use Rattle.composables.specs.declared.calls.Overwrite.{Overwrite}
use Rattle.composables.specs.declared.media.Table.{Table}
use Rattle.composables.specs.declared.refusals.Done.TheVariants.{Item}
use Rattle.composables.specs.declared.items.ItemView.{ItemView}
use Rattle.composables.specs.declared.refusals.Refusal.{Refusal}
use Rattle.composables.specs.TrackFacts.{IsKept}
use Rattle.composables.specs.TrackState.{TrackState}
use Rattle.composables.specs.Views.{clip_view, gap_views}
use Rattle.edit_splice.specs.Splicing.{spliced_track}
use Rattle.edit_splice.proofs.Outcomes.{length-spliced_track}
use Rattle.composables.specs.Answers.{unless}
use Rattle.edit_insert.specs.Edits.{overwrite_track, overwritten}
use Rattle.composables.specs.Limits.{track_within_limits}
use Rattle.edit_splice.specs.Padding.{new_views}
use Rattle.edit_insert.specs.Sources.{source_refusal}
use Rattle.edit_splice.proofs.Moving.{frames-put}
use Rattle.edit_splice.proofs.Padding.{padded-put}

pub over-put : (keep : Bool) (t : TrackState) (at : ℕ) (what : What) (from len : ℕ) → IsKept t
    → overwritten keep t at what from len ≡ spliced_track keep t (min at (length t.cells)) (min (at + len) (length t.cells)) (gap_views (at - length t.cells) ++ new_views (Some (clip_view t.next_item what from len)))
over-put keep t at what from len kept = padded-put keep t at (at + len) (clip_view t.next_item what from len ∷ []) kept (omega arith)

pub over-length : (keep : Bool) (t : TrackState) (at : ℕ) (what : What) (from len : ℕ) → IsKept t
    → length (overwritten keep t at what from len).cells ≡ min at (length t.cells) + (at - length t.cells + len) + (length t.cells - min (at + len) (length t.cells))
over-length keep t at what from len kept =
    omega (
      arith,
      ap (λ (u : TrackState). length u.cells) (over-put keep t at what from len kept),
      length-spliced_track keep t (min at (length t.cells)) (min (at + len) (length t.cells)) (gap_views (at - length t.cells) ++ new_views (Some (clip_view t.next_item what from len))) (omega arith) (omega arith),
      frames-put (at - length t.cells) (Some (clip_view t.next_item what from len)),
    )

pub over-allowed : (table : Table) (c : Overwrite) (t : TrackState) → source_refusal table t.number c.what c.from c.len ≡ None
    → overwrite_track table c t ≡ track_within_limits (overwritten c.keep t c.at c.what c.from c.len) (Item t.next_item)
over-allowed table c t e = ap (λ (r : Option Refusal). unless r (track_within_limits (overwritten c.keep t c.at c.what c.from c.len) (Item t.next_item))) e

-- what the code puts in, where it tells each part
pub over-parts : (table : Table) (c : Overwrite) (t : TrackState) (x y number : ℕ) (items : List ItemView) → source_refusal table t.number c.what c.from c.len ≡ None → IsKept t
    → x ≡ min c.at (length t.cells) → y ≡ min (c.at + c.len) (length t.cells) → number ≡ t.next_item
    → items ≡ gap_views (c.at - length t.cells) ++ new_views (Some (clip_view t.next_item c.what c.from c.len))
    → overwrite_track table c t ≡ track_within_limits (spliced_track c.keep t x y items) (Item number)
over-parts table c t x y number items none kept e f h k =
    over-allowed table c t none
    ∙ ap (λ (u : TrackState). track_within_limits u (Item t.next_item)) (over-put c.keep t c.at c.what c.from c.len kept)
    ∙ sym (ap (λ (n : ℕ). track_within_limits (spliced_track c.keep t n y items) (Item number)) e
    ∙ ap (λ (n : ℕ). track_within_limits (spliced_track c.keep t (min c.at (length t.cells)) n items) (Item number)) f
    ∙ ap (λ (vs : List ItemView). track_within_limits (spliced_track c.keep t (min c.at (length t.cells)) (min (c.at + c.len) (length t.cells)) vs) (Item number)) k
    ∙ ap (λ (n : ℕ). track_within_limits (spliced_track c.keep t (min c.at (length t.cells)) (min (c.at + c.len) (length t.cells)) (gap_views (c.at - length t.cells) ++ new_views (Some (clip_view t.next_item c.what c.from c.len)))) (Item n)) h)

pub items-told : (at len gap number : ℕ) (what : What) (from next frames : ℕ) (v : ItemView) (items : List ItemView)
    → items ≡ gap_views gap ++ new_views (Some v) → gap ≡ at - frames → v ≡ clip_view number what from len → number ≡ next
    → items ≡ gap_views (at - frames) ++ new_views (Some (clip_view next what from len))
items-told at len gap number what from next frames v items e f h k =
    e ∙ ap (λ (n : ℕ). gap_views n ++ new_views (Some v)) f
    ∙ ap (λ (w : ItemView). gap_views (at - frames) ++ new_views (Some w)) h
    ∙ ap (λ (n : ℕ). gap_views (at - frames) ++ new_views (Some (clip_view n what from len))) k
