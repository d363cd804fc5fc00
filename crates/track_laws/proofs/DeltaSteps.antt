-- What calls by a delta leave of good tracks: on the own track, by the delta used, and of items where they are found.
use Rattle.std.proofs.Common.{◌≡◌, ℕ, zero, suc, ◌+◌, ◌-◌, ◌<◌, ◌≤◌, ◌^◌, ◌⊎◌, inl, inr, ℤ, pos, negsuc, Bool, true, false, cond, List, [], ◌∷◌, All, take, Option, Some, None, IfSome, Result, Ok, Err, refl, sym, ap, arith, subst, slice_get}
use Rattle.std.proofs.lemmas.Bool.{ltb-true}
use Rattle.frame_meaning.specs.declared.cells.What.{What}
use Rattle.frame_meaning.specs.declared.frames.Side.{Side}
use Rattle.frame_meaning.specs.declared.frames.Side.TheVariants.{Dark, Pic}
use Rattle.frame_meaning.specs.Cells.{later_side, same_number}
use Rattle.composables.specs.declared.items.ItemView.{ItemView}
use Rattle.composables.specs.declared.media.Table.{Table}
use Rattle.composables.specs.declared.refusals.Done.{Done}
use Rattle.composables.specs.declared.refusals.Done.TheVariants.{By}
use Rattle.composables.specs.declared.refusals.Refusal.{Refusal}
use Rattle.composables.specs.Answers.{Applied, unless}
use Rattle.composables.specs.Bounds.{bounds_of}
use Rattle.composables.specs.Good.{IsGood, SideLiesIn}
use Rattle.composables.specs.Items.{items_of}
use Rattle.composables.specs.Joined.{frames_in}
use Rattle.composables.specs.Limits.{track_within_limits}
use Rattle.composables.specs.OwnTracks.{among_named, for_own, numbers_of, on_own, track_numbered}
use Rattle.composables.specs.Ranges.{on_range, range_from, range_of}
use Rattle.composables.specs.TrackFacts.{HasSource}
use Rattle.composables.specs.TrackState.{TrackState}
use Rattle.composables.proofs.Joining.{same-is}
use Rattle.edit_delta.specs.Nearest.{nearest}
use Rattle.edit_delta.specs.Reaching.{has_after, has_after_in}
use Rattle.edit_delta.specs.Using.{used_on}
use Rattle.edit_delta.proofs.Greatest.{is-nearest}
use Rattle.edit_delta.proofs.Pieces.{After, after-of}
use Rattle.edit_delta.proofs.Spots.{Spot, spot-of}
use Rattle.edit_splice.specs.Laws.{IsWithinLimits}
use Rattle.edit_splice.proofs.Bridging.{for-found}
use Rattle.edit_splice.proofs.Limits.{within-done}
use Rattle.track_laws.specs.Goods.{IsBounded, KeepsGood}
use Rattle.track_laws.proofs.Own.{for-none, own-good, put-good}
use Rattle.track_laws.proofs.Putting.{end_of, first_of}

-- what a call leaves, if it is done: on one track, and on all that it names
abbrev pub GoodOne : Table → Result (TrackState × Done) Refusal → Type 0
GoodOne table (Ok (u, d)) = IsGood table u
GoodOne table (Err r) = Unit {0}

abbrev pub GoodAll : Table → Applied → Type 0
GoodAll table (Ok (us, d)) = All (IsGood table) us
GoodAll table (Err r) = Unit {0}

pub all-good : (table : Table) (names : List ℕ) (meant : List TrackState → Applied)
    → ((named : List TrackState) → IsBounded table → numbers_of named ≡ names → All (IsGood table) named → GoodAll table (meant named)) → KeepsGood table names meant
all-good table names meant h named news done bounded numbers good e = subst (GoodAll table) e (h named bounded numbers good)

pub all-leave : (table : Table) (r : Applied) → ((us : List TrackState) (d : Done) → r ≡ Ok (us, d) → All (IsGood table) us) → GoodAll table r
all-leave table (Ok (us, d)) h = h us d refl
all-leave table (Err why) h = tt

pub unless-good : (table : Table) (why : Option Refusal) (meant : Applied) → GoodAll table meant → GoodAll table (unless why meant)
unless-good table None meant h = h
unless-good table (Some r) meant h = tt

-- the own track

pub among-good : (table : Table) (ts : List TrackState) (r : Result (TrackState × Done) Refusal) → All (IsGood table) ts → GoodOne table r → GoodAll table (among_named ts r)
among-good table ts (Ok (u, d)) h g = put-good table ts u h g
among-good table ts (Err r) h g = tt

pub for-good : (table : Table) (own : ℕ) (meant : TrackState → Applied) (ts : List TrackState) → ((t : TrackState) → track_numbered own ts ≡ Some t → GoodAll table (meant t)) → GoodAll table (for_own own meant ts)
for-good table own meant ts each = by (track_numbered own ts) refl where
  by : (o : Option TrackState) → track_numbered own ts ≡ o → GoodAll table (for_own own meant ts)
  by None e = subst (GoodAll table) (sym (for-none own meant ts e)) tt
  by (Some t) e = subst (GoodAll table) (sym (for-found own meant ts t e)) (each t e)

pub own-leaves : (table : Table) (own : ℕ) (meant : TrackState → Result (TrackState × Done) Refusal) (ts : List TrackState) → All (IsGood table) ts
    → ((t : TrackState) → IsGood table t → GoodOne table (meant t)) → GoodAll table (on_own own meant ts)
own-leaves table own meant ts h each =
    all-leave table (on_own own meant ts) (λ us d k. own-good table own meant ts us d h (λ t u e g l. subst (GoodOne table) l (each t g)) k)

-- the delta used

within_good : (table : Table) (u : TrackState) (done : Done) → (IsWithinLimits u → IsGood table u) → GoodOne table (track_within_limits u done)
within_good table u done h = by (track_within_limits u done) refl where
  by : (r : Result (TrackState × Done) Refusal) → track_within_limits u done ≡ r → GoodOne table r
  by (Ok (n, d)) e = let k = within-done u done n d e in subst (IsGood table) (sym k.0) (h k.2)
  by (Err why) e = tt

pub used-good : (table : Table) (t : TrackState) (moved : ℤ → TrackState) (allowed : ℤ → Bool) (by : ℤ) → IsGood table t
    → ((n : ℕ) → allowed (pos (suc n)) ≡ true → IsWithinLimits (moved (pos (suc n))) → IsGood table (moved (pos (suc n))))
    → ((n : ℕ) → allowed (negsuc n) ≡ true → IsWithinLimits (moved (negsuc n)) → IsGood table (moved (negsuc n)))
    → GoodOne table (used_on t moved (nearest allowed by))
used-good table t moved allowed by good later earlier = at (nearest allowed by) (is-nearest allowed by).member where
  at : (d : ℤ) → (d ≡ pos 0) ⊎ (allowed d ≡ true) → GoodOne table (used_on t moved d)
  at (pos zero) m = good
  at (pos (suc n)) (inl e) = absurd cc
  at (pos (suc n)) (inr e) = within_good table (moved (pos (suc n))) (By (pos (suc n))) (later n e)
  at (negsuc n) (inl e) = absurd cc
  at (negsuc n) (inr e) = within_good table (moved (negsuc n)) (By (negsuc n)) (earlier n e)

-- source frames after an item's, in a table whose ranges end by 2^32

pub numbered-after : (table : Table) (s : Side What) (len n : ℕ) → IsBounded table → 0 < len → has_after table (later_side s (len - 1)) n ≡ true → HasSource s len 0 n
numbered-after table Dark len n bounded filled e = tt
numbered-after table (Pic w s) len n bounded filled e = (omega arith, by (bounds_of table w) (bounded w) e) where
  by : (o : Option (ℕ × ℕ)) → IfSome o (λ range. range.1 ≤ 2 ^ 32) → has_after_in o (s + (len - 1)) n ≡ true → s + len + n ≤ 2 ^ 32
  by None b e = absurd cc
  by (Some r) b e = let lt : s + (len - 1) + n < r.1 = ltb-true (s + (len - 1) + n) r.1 e in omega (arith, lt, b, filled)

pub goes-after : (table : Table) (s : Side What) (len n : ℕ) → IsBounded table → 0 < len → has_after table (later_side s (len - 1)) n ≡ true → SideLiesIn table s len 0 0 → After table s len n
goes-after table s len n bounded filled e lies = after-of table s len n n filled (omega arith) e (numbered-after table s len n bounded filled e) lies

-- an item that was found

pub record StandsFound (vs : List ItemView) (p i x y : ℕ) : Type 0 where
  pub index : ℕ
  pub view : ItemView
  pub read : slice_get vs index ≡ Some view
  pub from : x ≡ p + frames_in (take index vs)
  pub to : y ≡ p + frames_in (take (suc index) vs)
  pub number : view.item ≡ Some i

found_from : (vs : List ItemView) (p i x y : ℕ) → range_from p vs i ≡ Some (x, y) → StandsFound vs p i x y
found_from [] p i x y e = absurd cc
found_from (v ∷ vs) p i x y e = by (same_number v.item (Some i)) refl e (λ k. found_from vs (p + v.len) i x y k) where
  by : (b : Bool) → same_number v.item (Some i) ≡ b → cond b (Some (p, p + v.len)) (range_from (p + v.len) vs i) ≡ Some (x, y)
      → (range_from (p + v.len) vs i ≡ Some (x, y) → StandsFound vs (p + v.len) i x y) → StandsFound (v ∷ vs) p i x y
  by true f k later =
      let a : p ≡ x = ap first_of k in
      let b : p + v.len ≡ y = ap end_of k in
      record { index = 0; view = v; read = refl; from = omega (arith, a); to = omega (arith, b); number = same-is v.item (Some i) f }
  by false f k later =
      let r = later k in
      record { index = suc r.index; view = r.view; read = r.read; from = omega (arith, r.from); to = omega (arith, r.to); number = r.number }

pub record SpotOf (table : Table) (t : TrackState) (i x y : ℕ) : Type 0 where
  pub index : ℕ
  pub view : ItemView
  pub spot : Spot table t index view x y
  pub number : view.item ≡ Some i

pub found-spot : (table : Table) (t : TrackState) (i x y : ℕ) → IsGood table t → range_of t.cells i ≡ Some (x, y) → SpotOf table t i x y
found-spot table t i x y good e =
    let r = found_from (items_of t.cells) 0 i x y e in
    let next : suc r.index ≡ r.index + 1 = omega arith in
    let to : y ≡ frames_in (take (r.index + 1) (items_of t.cells)) = omega (arith, r.to, ap (λ (k : ℕ). frames_in (take k (items_of t.cells))) next) in
    record { index = r.index; view = r.view; spot = spot-of table t r.index r.view x y good r.read (omega (arith, r.from)) to; number = r.number }

pub range-good : (table : Table) (t : TrackState) (i : ℕ) (meant : ℕ → ℕ → Result (TrackState × Done) Refusal) → IsGood table t
    → ((x y : ℕ) → SpotOf table t i x y → GoodOne table (meant x y)) → GoodOne table (on_range meant (range_of t.cells i))
range-good table t i meant good each = by (range_of t.cells i) refl where
  by : (o : Option (ℕ × ℕ)) → range_of t.cells i ≡ o → GoodOne table (on_range meant o)
  by None e = tt
  by (Some (x, y)) e = each x y (found-spot table t i x y good e)
