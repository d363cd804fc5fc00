-- The first track that is over a limit, one track after another.
use Rattle.std.proofs.Common.{◌≡◌, ◌≤◌, Bool, true, false, cond, ltb, List, [], ◌∷◌, All, length, Some, None, refl, arith}
use Rattle.std.proofs.lemmas.Bool.{ltb-false}
use Rattle.composables.specs.declared.TheConstants.{MAX_FRAMES, MAX_ITEMS}
use Rattle.composables.specs.declared.refusals.Refusal.TheVariants.{TooLong, TooManyItems}
use Rattle.composables.specs.Items.{items_of}
use Rattle.composables.specs.TrackState.{TrackState}
use Rattle.std.proofs.lemmas.List.Elements.{All-cons}
use Rattle.edit_splice.proofs.Standing.{all_none}
use Rattle.edit_splice.specs.declared.shifting.Shift.{Shift}
use Rattle.composables.specs.Limits.{too_long, too_many}
use Rattle.edit_splice.specs.Moves.{all_moved, moved}

pub short-all : (s : Shift) (ts : List TrackState) → too_long (all_moved s ts) ≡ None → All (λ (t : TrackState). length (moved s t).cells ≤ MAX_FRAMES) ts
short-all s [] e = all_none (λ (t : TrackState). length (moved s t).cells ≤ MAX_FRAMES)
short-all s (t ∷ ts) e = by (ltb MAX_FRAMES (length (moved s t).cells)) refl e (short-all s ts) where
  by : (b : Bool) → ltb MAX_FRAMES (length (moved s t).cells) ≡ b → cond b (Some (TooLong t.number)) (too_long (all_moved s ts)) ≡ None
      → (too_long (all_moved s ts) ≡ None → All (λ (t : TrackState). length (moved s t).cells ≤ MAX_FRAMES) ts)
      → All (λ (t : TrackState). length (moved s t).cells ≤ MAX_FRAMES) (t ∷ ts)
  by true f e later = absurd (Prim.grind (arith, e))
  by false f e later = All-cons (λ (t : TrackState). length (moved s t).cells ≤ MAX_FRAMES) t ts (ltb-false MAX_FRAMES (length (moved s t).cells) f) (later e)

pub few-all : (s : Shift) (ts : List TrackState) → too_many (all_moved s ts) ≡ None → All (λ (t : TrackState). length (items_of (moved s t).cells) ≤ MAX_ITEMS) ts
few-all s [] e = all_none (λ (t : TrackState). length (items_of (moved s t).cells) ≤ MAX_ITEMS)
few-all s (t ∷ ts) e = by (ltb MAX_ITEMS (length (items_of (moved s t).cells))) refl e (few-all s ts) where
  by : (b : Bool) → ltb MAX_ITEMS (length (items_of (moved s t).cells)) ≡ b → cond b (Some (TooManyItems t.number)) (too_many (all_moved s ts)) ≡ None
      → (too_many (all_moved s ts) ≡ None → All (λ (t : TrackState). length (items_of (moved s t).cells) ≤ MAX_ITEMS) ts)
      → All (λ (t : TrackState). length (items_of (moved s t).cells) ≤ MAX_ITEMS) (t ∷ ts)
  by true f e later = absurd (Prim.grind (arith, e))
  by false f e later = All-cons (λ (t : TrackState). length (items_of (moved s t).cells) ≤ MAX_ITEMS) t ts (ltb-false MAX_ITEMS (length (items_of (moved s t).cells)) f) (later e)
