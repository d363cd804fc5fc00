-- Tracks within their limits.
use Rattle.std.proofs.Common.{◌≡◌, ◌≤◌, ◌<◌, Bool, true, false, cond, ltb, List, length, Option, Some, None, Ok, Err, refl, ap, ◌∙◌, arith}
use Rattle.std.proofs.lemmas.Bool.{ltb-false, le-ltb, lt-ltb}
use Rattle.std.specs.Option.{option_or}
use Rattle.composables.specs.declared.refusals.Done.{Done}
use Rattle.composables.specs.declared.refusals.Refusal.{Refusal}
use Rattle.composables.specs.declared.refusals.Refusal.TheVariants.{TooLong, TooManyItems}
use Rattle.composables.specs.declared.TheConstants.{MAX_FRAMES, MAX_ITEMS}
use Rattle.composables.specs.Items.{items_of}
use Rattle.composables.specs.TrackState.{TrackState}
use Rattle.edit_splice.specs.Laws.{IsWithinLimits}
use Rattle.composables.specs.Answers.{unless}
use Rattle.composables.specs.Limits.{over_limits, too_long, too_many, track_within_limits, within_limits}

pub within-done : (u : TrackState) (done : Done) (n : TrackState) (d : Done) → track_within_limits u done ≡ Ok (n, d) → (n ≡ u) × (d ≡ done) × IsWithinLimits u
within-done u done n d = by (ltb MAX_FRAMES (length u.cells)) (ltb MAX_ITEMS (length (items_of u.cells))) refl refl where
  by : (a b : Bool) → ltb MAX_FRAMES (length u.cells) ≡ a → ltb MAX_ITEMS (length (items_of u.cells)) ≡ b
      → unless {A = TrackState × Done} (cond a (Some (TooLong u.number)) None) (unless {A = TrackState × Done} (cond b (Some (TooManyItems u.number)) None) (Ok (u, done))) ≡ Ok (n, d)
      → (n ≡ u) × (d ≡ done) × IsWithinLimits u
  by true b e f g = Prim.grind (arith, g)
  by false true e f g = Prim.grind (arith, g)
  by false false e f g = (
    Prim.grind (arith, g),
    Prim.grind (arith, g),
    record { frames = ltb-false MAX_FRAMES (length u.cells) e; items = ltb-false MAX_ITEMS (length (items_of u.cells)) f },
  )

-- a track that is short enough, by its items and gaps
pub within-few : (u : TrackState) (done : Done) → length u.cells ≤ MAX_FRAMES → length (items_of u.cells) ≤ MAX_ITEMS → track_within_limits u done ≡ Ok (u, done)
within-few u done h k =
    ap (λ (a : Bool). unless {A = TrackState × Done} (cond a (Some (TooLong u.number)) None) (unless {A = TrackState × Done} (cond (ltb MAX_ITEMS (length (items_of u.cells))) (Some (TooManyItems u.number)) None) (Ok (u, done)))) (le-ltb MAX_FRAMES (length u.cells) h)
    ∙ ap (λ (b : Bool). unless {A = TrackState × Done} (cond b (Some (TooManyItems u.number)) None) (Ok (u, done))) (le-ltb MAX_ITEMS (length (items_of u.cells)) k)

pub within-many : (u : TrackState) (done : Done) → length u.cells ≤ MAX_FRAMES → MAX_ITEMS < length (items_of u.cells) → track_within_limits u done ≡ Err (TooManyItems u.number)
within-many u done h k =
    ap (λ (a : Bool). unless {A = TrackState × Done} (cond a (Some (TooLong u.number)) None) (unless {A = TrackState × Done} (cond (ltb MAX_ITEMS (length (items_of u.cells))) (Some (TooManyItems u.number)) None) (Ok (u, done)))) (le-ltb MAX_FRAMES (length u.cells) h)
    ∙ ap (λ (b : Bool). unless {A = TrackState × Done} (cond b (Some (TooManyItems u.number)) None) (Ok (u, done))) (lt-ltb MAX_ITEMS (length (items_of u.cells)) k)

pub within-long : (u : TrackState) (done : Done) → MAX_FRAMES < length u.cells → track_within_limits u done ≡ Err (TooLong u.number)
within-long u done h =
    ap (λ (a : Bool). unless {A = TrackState × Done} (cond a (Some (TooLong u.number)) None) (unless {A = TrackState × Done} (cond (ltb MAX_ITEMS (length (items_of u.cells))) (Some (TooManyItems u.number)) None) (Ok (u, done)))) (lt-ltb MAX_FRAMES (length u.cells) h)

-- the refusal for the limits is that of what is meant within them
pub over-refused : (us : List TrackState) (done : Done) (why : Refusal) → over_limits us ≡ Some why → within_limits us done ≡ Err why
over-refused us done why = by (too_long us) (too_many us) where
  by : (a b : Option Refusal) → option_or a b ≡ Some why → unless {A = List TrackState × Done} a (unless {A = List TrackState × Done} b (Ok (us, done))) ≡ Err why
  by (Some r) b e = Prim.grind (arith, e)
  by None (Some r) e = Prim.grind (arith, e)
  by None None e = absurd (Prim.grind (arith, e))

-- and where there is none all keep them
pub none-over : (us : List TrackState) → over_limits us ≡ None → (too_long us ≡ None) × (too_many us ≡ None)
none-over us = by (too_long us) (too_many us) where
  by : (a b : Option Refusal) → option_or a b ≡ None → (a ≡ None) × (b ≡ None)
  by (Some r) b e = absurd (Prim.grind (arith, e))
  by None b e = (refl, e)

pub within-all : (us : List TrackState) (done : Done) → over_limits us ≡ None → within_limits us done ≡ Ok (us, done)
within-all us done none =
    let keep : (too_long us ≡ None) × (too_many us ≡ None) = none-over us none in
    ap (λ (a : Option Refusal). unless {A = List TrackState × Done} a (unless {A = List TrackState × Done} (too_many us) (Ok (us, done)))) keep.0
    ∙ ap (λ (b : Option Refusal). unless {A = List TrackState × Done} b (Ok (us, done))) keep.1
