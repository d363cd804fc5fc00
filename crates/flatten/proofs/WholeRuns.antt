-- A channel that is cut into segments has no part of a dissolve.
use Rattle.std.proofs.Common.{◌≡◌, ℕ, zero, suc, ◌+◌, ◌-◌, ◌<◌, Bool, true, false, cond, eqb, ◌&&◌, nat_eq, List, [], ◌∷◌, ◌++◌, Option, Some, None, refl, sym, ap, ◌∙◌, arith, subst, append_assoc}
use Rattle.std.proofs.lemmas.Bool.{eq-eqb, ne_eqb}
use Rattle.std.specs.List.{flat_map}
use Rattle.frame_meaning.specs.declared.frames.Side.{Side}
use Rattle.frame_meaning.specs.declared.frames.Side.TheVariants as side
use Rattle.frame_meaning.specs.declared.frames.Frame.{Frame}
use Rattle.frame_meaning.specs.declared.frames.Frame.TheVariants as frame
use Rattle.frame_meaning.specs.declared.frames.Run.{Run}
use Rattle.frame_meaning.specs.Cells.{later_side}
use Rattle.frame_meaning.specs.Going.{frame_goes_on, side_goes_on}
use Rattle.frame_meaning.specs.Render.{frame_of}
use Rattle.frame_meaning.specs.RunFrames.{frames_from}
use Rattle.frame_meaning.specs.Runs.{with_frame}
use Rattle.dissolves.specs.Pieces.{later_frame}
use Rattle.flatten.specs.declared.cutting.Segment.{Segment}
use Rattle.flatten.specs.Channels.{maximal_runs}
use Rattle.flatten.specs.Segments.{AreSegments, EachIsSegment, HasDissolve, first_partial, frames_in, is_whole, segment_frames}
use Rattle.flatten.proofs.Joining.{runs_front, with_run}

abbrev pub EachWhole : List (Run ℕ) → Type 0
EachWhole [] = Unit {0}
EachWhole (r ∷ rs) = (is_whole r.frame r.len ≡ true) × EachWhole rs

none_partial : (at : ℕ) (rs : List (Run ℕ)) → EachWhole rs → first_partial at rs ≡ None
none_partial at [] h = refl
none_partial at (r ∷ rs) h = ap (λ (b : Bool). cond b (first_partial (at + r.len) rs) (Some at)) h.0 ∙ none_partial (at + r.len) rs h.1

-- frames that are no mix

abbrev pub IsPlain : Frame ℕ → Type 0
IsPlain frame.Dark = Unit {0}
IsPlain (frame.Pic w s) = Unit {0}
IsPlain (frame.Mix l r n d) = ⊥

plain_whole : (f : Frame ℕ) (n : ℕ) → IsPlain f → is_whole f n ≡ true
plain_whole frame.Dark n p = refl
plain_whole (frame.Pic w s) n p = refl
plain_whole (frame.Mix l r k d) n p = absurd p

plain_side : (s : Side ℕ) → IsPlain (frame_of s)
plain_side side.Dark = tt
plain_side (side.Pic w k) = tt

whole_with : (r : Run ℕ) (rs : List (Run ℕ)) → IsPlain r.frame → EachWhole rs → EachWhole (with_run r rs)
whole_with r [] p h = (plain_whole r.frame r.len p, tt)
whole_with r (q ∷ qs) p h = by_test (frame_goes_on nat_eq (later_frame r.frame (r.len - 1)) q.frame) where
  by_test : (b : Bool) → EachWhole (cond b (record { frame = r.frame; len = r.len + q.len } ∷ qs) (r ∷ q ∷ qs))
  by_test true = (plain_whole r.frame (r.len + q.len) p, h.1)
  by_test false = (plain_whole r.frame r.len p, h)

plain_before : (s : Side ℕ) (n : ℕ) (fs : List (Frame ℕ)) → EachWhole (maximal_runs fs) → EachWhole (maximal_runs (frames_from (frame_of s) n ++ fs))
plain_before s zero fs h = h
plain_before s (suc n) fs h =
    subst EachWhole (sym (runs_front (frame_of s) n fs)) (whole_with (record { frame = frame_of s; len = suc n }) (maximal_runs fs) (plain_side s) h)

-- a dissolve ends where it does not go on

abbrev pub HeadApart : Frame ℕ → List (Frame ℕ) → Type 0
HeadApart f [] = Unit {0}
HeadApart f (g ∷ gs) = frame_goes_on nat_eq f g ≡ false

stays_apart : (r : Run ℕ) (fs : List (Frame ℕ)) → HeadApart (later_frame r.frame (r.len - 1)) fs → with_run r (maximal_runs fs) ≡ r ∷ maximal_runs fs
stays_apart r [] h = refl
stays_apart r (g ∷ gs) h = by_runs (maximal_runs gs) where
  by_runs : (qs : List (Run ℕ)) → with_run r (with_frame nat_eq g qs) ≡ r ∷ with_frame nat_eq g qs
  by_runs [] = ap (λ (b : Bool). cond b (record { frame = r.frame; len = r.len + 1 } ∷ []) (r ∷ record { frame = g; len = 1 } ∷ [])) h
  by_runs (q ∷ qs) = by_test (frame_goes_on nat_eq g q.frame) where
    by_test : (b : Bool) → with_run r (cond b (record { frame = g; len = q.len + 1 } ∷ qs) (record { frame = g; len = 1 } ∷ q ∷ qs))
        ≡ r ∷ cond b (record { frame = g; len = q.len + 1 } ∷ qs) (record { frame = g; len = 1 } ∷ q ∷ qs)
    by_test true = ap (λ (b : Bool). cond b (record { frame = r.frame; len = r.len + (q.len + 1) } ∷ qs) (r ∷ record { frame = g; len = q.len + 1 } ∷ qs)) h
    by_test false = ap (λ (b : Bool). cond b (record { frame = r.frame; len = r.len + 1 } ∷ q ∷ qs) (r ∷ record { frame = g; len = 1 } ∷ q ∷ qs)) h

mix_before : (l s : Side ℕ) (n : ℕ) (fs : List (Frame ℕ)) → 0 < n → HeadApart (later_frame (frame.Mix l s 1 (n + 1)) (n - 1)) fs → EachWhole (maximal_runs fs)
    → EachWhole (maximal_runs (frames_from (frame.Mix l s 1 (n + 1)) n ++ fs))
mix_before l s zero fs h a w = absurd (omega (arith, h))
mix_before l s (suc n) fs h a w =
    let m : Run ℕ = record { frame = frame.Mix l s 1 (suc n + 1); len = suc n } in
    let whole : is_whole (frame.Mix l s 1 (suc n + 1)) (suc n) ≡ true =
    ap (λ (b : Bool). b && eqb (suc n + 1) (suc n + 1)) (eq-eqb 1 1 refl) ∙ eq-eqb (suc n + 1) (suc n + 1) refl in
    let both : EachWhole (m ∷ maximal_runs fs) = (whole, w) in
    subst EachWhole (sym (runs_front (frame.Mix l s 1 (suc n + 1)) n fs ∙ stays_apart m fs a)) both

and_no : (b c : Bool) → c ≡ false → (b && c) ≡ false
and_no true c h = h
and_no false c h = refl

mix_to_plain : (l r : Side ℕ) (k d : ℕ) (s : Side ℕ) → frame_goes_on nat_eq (frame.Mix l r k d) (frame_of s) ≡ false
mix_to_plain l r k d side.Dark = refl
mix_to_plain l r k d (side.Pic w j) = refl

mix_to_first : (l r : Side ℕ) (k d : ℕ) (l' r' : Side ℕ) (d' : ℕ) → 0 < k → frame_goes_on nat_eq (frame.Mix l r k d) (frame.Mix l' r' 1 d') ≡ false
mix_to_first l r k d l' r' d' h =
    and_no ((side_goes_on nat_eq l l' && side_goes_on nat_eq r r') && eqb d d') (eqb 1 (k + 1)) (ne_eqb 1 (k + 1) (λ e. absurd (omega (arith, e, h))))

first_apart : (from : Option (Side ℕ)) (n : ℕ) (s : Side ℕ) (len : ℕ) (rest : List (Frame ℕ)) (l r : Side ℕ) (k d : ℕ) → 0 < len → HasDissolve from n len → 0 < k
    → HeadApart (frame.Mix l r k d) (frames_in from n s len ++ rest)
first_apart None n s zero rest l r k d h has some = absurd (omega (arith, h))
first_apart None n s (suc len) rest l r k d h has some = mix_to_plain l r k d s
first_apart (Some left) zero s len rest l r k d h has some = absurd (omega (arith, has.0))
first_apart (Some left) (suc n) s len rest l r k d h has some = mix_to_first l r k d left s (suc n + 1) some

starts_apart : (ss : List Segment) (l r : Side ℕ) (k d : ℕ) → EachIsSegment ss → 0 < k → HeadApart (frame.Mix l r k d) (flat_map segment_frames ss)
starts_apart [] l r k d h some = tt
starts_apart (u ∷ us) l r k d h some = first_apart u.from u.frames u.side u.len (flat_map segment_frames us) l r k d h.0.filled h.0.dissolve some

behind_apart : (s : Side ℕ) (m : ℕ) (rest : List (Frame ℕ)) (l r : Side ℕ) (k d : ℕ) → HeadApart (frame.Mix l r k d) rest → HeadApart (frame.Mix l r k d) (frames_from (frame_of s) m ++ rest)
behind_apart s zero rest l r k d h = h
behind_apart s (suc m) rest l r k d h = mix_to_plain l r k d s

-- segment by segment

whole_in : (from : Option (Side ℕ)) (n : ℕ) (s : Side ℕ) (len : ℕ) (ss : List Segment) → HasDissolve from n len → EachIsSegment ss → EachWhole (maximal_runs (flat_map segment_frames ss))
    → EachWhole (maximal_runs (frames_in from n s len ++ flat_map segment_frames ss))
whole_in None n s len ss has each w = plain_before s len (flat_map segment_frames ss) w
whole_in (Some left) n s len ss has each w =
    let rest : List (Frame ℕ) = flat_map segment_frames ss in
    let behind : List (Frame ℕ) = frames_from (frame_of (later_side s n)) (len - n) in
    let some : 0 < 1 + (n - 1) = omega arith in
    let apart : HeadApart (later_frame (frame.Mix left s 1 (n + 1)) (n - 1)) (behind ++ rest) =
    behind_apart (later_side s n) (len - n) rest (later_side left (n - 1)) (later_side s (n - 1)) (1 + (n - 1)) (n + 1)
    (starts_apart ss (later_side left (n - 1)) (later_side s (n - 1)) (1 + (n - 1)) (n + 1) each some) in
    subst (λ (fs : List (Frame ℕ)). EachWhole (maximal_runs fs)) (sym (append_assoc (frames_from (frame.Mix left s 1 (n + 1)) n) behind rest))
    (mix_before left s n (behind ++ rest) has.0 apart (plain_before (later_side s n) (len - n) rest w))

whole_of : (ss : List Segment) → EachIsSegment ss → EachWhole (maximal_runs (flat_map segment_frames ss))
whole_of [] h = tt
whole_of (s ∷ ss) h = whole_in s.from s.frames s.side s.len ss h.0.dissolve h.1 (whole_of ss h.1)

pub no_part : (ss : List Segment) (fs : List (Frame ℕ)) → AreSegments ss fs → first_partial 0 (maximal_runs fs) ≡ None
no_part ss fs h = subst (λ (gs : List (Frame ℕ)). first_partial 0 (maximal_runs gs) ≡ None) h.are (none_partial 0 (maximal_runs (flat_map segment_frames ss)) (whole_of ss h.each))
