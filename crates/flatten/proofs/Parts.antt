-- Runs from a spot on.
use Rattle.std.proofs.Common.{◌≡◌, ℕ, zero, suc, ◌+◌, ◌-◌, ◌<◌, ◌≤◌, List, [], ◌∷◌, ◌++◌, Option, Some, None, length, drop, slice_get, refl, sym, ap, ◌∙◌, arith, subst, append_assoc}
use Rattle.std.proofs.lemmas.List.{append-nil, drop-drop}
use Rattle.std.proofs.lemmas.Grind.{flat_map-append}
use Rattle.frame_meaning.specs.declared.frames.Frame.{Frame}
use Rattle.frame_meaning.specs.declared.frames.Frame.TheVariants.{Dark}
use Rattle.frame_meaning.specs.declared.frames.Run.{Run}
use Rattle.frame_meaning.specs.RunFrames.{next_frame, frames_from, run_frames}
use Rattle.dissolves.specs.Pieces.{later_frame}
use Rattle.flatten.specs.Strips.{AreFit, BehindSome, IsFit, frames_of, padded}
use Rattle.flatten.proofs.Moving.{drop_past, drop_within, front, length-from}

pub frames_at : (rs : List (Run ℕ)) (i : ℕ) (r : Run ℕ) → slice_get rs i ≡ Some r → frames_of (drop i rs) ≡ run_frames r ++ frames_of (drop (suc i) rs)
frames_at [] i r h = absurd cc
frames_at (q ∷ rs) zero r h = let e : q ≡ r = cc in ap (λ (x : Run ℕ). run_frames x ++ frames_of rs) e
frames_at (q ∷ rs) (suc i) r h = frames_at rs i r h

pub fit_at : (rs : List (Run ℕ)) (i : ℕ) (r : Run ℕ) → AreFit rs → slice_get rs i ≡ Some r → IsFit r
fit_at [] i r f h = absurd cc
fit_at (q ∷ rs) zero r f h = let e : q ≡ r = cc in subst IsFit e f.0
fit_at (q ∷ rs) (suc i) r f h = fit_at rs i r f.1 h

pub no_more : (rs : List (Run ℕ)) (i : ℕ) → slice_get rs i ≡ None → frames_of (drop i rs) ≡ []
no_more [] zero h = refl
no_more [] (suc i) h = refl
no_more (q ∷ rs) zero h = absurd cc
no_more (q ∷ rs) (suc i) h = no_more rs i h

pub at_start : (rs : List (Run ℕ)) (i : ℕ) → AreFit rs → BehindSome (slice_get rs i) 0
at_start [] i f = refl
at_start (q ∷ rs) zero f = f.0.filled
at_start (q ∷ rs) (suc i) f = at_start rs i f.1

pub behind : (rs : List (Run ℕ)) (i used : ℕ) (r : Run ℕ) → BehindSome (slice_get rs i) used → slice_get rs i ≡ Some r → used < r.len
behind rs i used r b h = subst (λ (o : Option (Run ℕ)). BehindSome o used) h b

pub still_behind : (rs : List (Run ℕ)) (i used : ℕ) (r : Run ℕ) → slice_get rs i ≡ Some r → used < r.len → BehindSome (slice_get rs i) used
still_behind rs i used r h b = subst (λ (o : Option (Run ℕ)). BehindSome o used) (sym h) b

drop-none : {A : Type 0} (n : ℕ) → ◌≡◌ {A = List A} (drop n []) []
drop-none zero = refl
drop-none (suc n) = refl

pub none_left : (rs : List (Run ℕ)) (i used : ℕ) → slice_get rs i ≡ None → drop used (frames_of (drop i rs)) ≡ []
none_left rs i used h = ap (drop used) (no_more rs i h) ∙ drop-none used

pub whole_part : (rs : List (Run ℕ)) (i used : ℕ) (r : Run ℕ) → slice_get rs i ≡ Some r → used < r.len
    → drop used (frames_of (drop i rs)) ≡ frames_from (later_frame r.frame used) (r.len - used) ++ frames_of (drop (suc i) rs)
whole_part rs i used r h b =
    ap (drop used) (frames_at rs i r h) ∙ drop_within r.frame used r.len (frames_of (drop (suc i) rs)) (omega (arith, b))

pub front_part : (rs : List (Run ℕ)) (i used most : ℕ) (r : Run ℕ) → slice_get rs i ≡ Some r → used < r.len → most ≤ r.len - used
    → drop used (frames_of (drop i rs)) ≡ frames_from (later_frame r.frame used) most ++ drop (used + most) (frames_of (drop i rs))
front_part rs i used most r h b m =
    let all : drop used (frames_of (drop i rs)) ≡ frames_from (later_frame r.frame used) (r.len - used) ++ frames_of (drop (suc i) rs) = whole_part rs i used r h b in
    all
    ∙ (front (later_frame r.frame used) most (r.len - used) (frames_of (drop (suc i) rs)) m
    ∙ ap (λ (fs : List (Frame ℕ)). frames_from (later_frame r.frame used) most ++ fs)
    (ap (drop most) (sym all) ∙ drop-drop most used (frames_of (drop i rs))))

-- a part of some frames, of which n are to be passed or taken

pub passed_part : (left after : List (Frame ℕ)) (r : Run ℕ) (n : ℕ) → left ≡ run_frames r ++ after → r.len ≤ n → drop (n - r.len) after ≡ drop n left
passed_part left after r n is h = sym (ap (drop n) is ∙ drop_past r.frame r.len n after h)

pub passed_none : (left : List (Frame ℕ)) (n : ℕ) → left ≡ [] → left ≡ drop n left
passed_none left n is = is ∙ sym (ap (drop n) is ∙ drop-none n)

padded_past : (f : Frame ℕ) (k n : ℕ) (rest : List (Frame ℕ)) → k ≤ n → padded n (frames_from f k ++ rest) ≡ frames_from f k ++ padded (n - k) rest
padded_past f zero n rest h = let e : n ≡ n - 0 = omega arith in ap (λ (m : ℕ). padded m rest) e
padded_past f (suc k) zero rest h = absurd (omega arith)
padded_past f (suc k) (suc n) rest h =
    let e : n - k ≡ suc n - suc k = omega arith in
    ap (λ (fs : List (Frame ℕ)). f ∷ fs) (padded_past (next_frame f) k n rest (omega arith) ∙ ap (λ (m : ℕ). frames_from (next_frame f) k ++ padded m rest) e)

pub padded-none : (n : ℕ) → padded n [] ≡ frames_from Dark n
padded-none zero = refl
padded-none (suc n) = ap (λ (fs : List (Frame ℕ)). Dark ∷ fs) (padded-none n)

pub frames_of-push : (rs : List (Run ℕ)) (r : Run ℕ) → frames_of (rs ++ r ∷ []) ≡ frames_of rs ++ run_frames r
frames_of-push rs r = flat_map-append run_frames rs (r ∷ []) ∙ ap (λ (fs : List (Frame ℕ)). frames_of rs ++ fs) (append-nil (run_frames r))

pub fit-push : (rs : List (Run ℕ)) (r : Run ℕ) → AreFit rs → IsFit r → AreFit (rs ++ r ∷ [])
fit-push [] r f h = (h, tt)
fit-push (q ∷ rs) r f h = (f.0, fit-push rs r f.1 h)

pub added_part : (all new : List (Run ℕ)) (left after : List (Frame ℕ)) (r : Run ℕ) (n : ℕ) → new ≡ all ++ r ∷ [] → left ≡ run_frames r ++ after → r.len ≤ n
    → frames_of new ++ padded (n - r.len) after ≡ frames_of all ++ padded n left
added_part all new left after r n pushed is h =
    ap (λ (rs : List (Run ℕ)). frames_of rs ++ padded (n - r.len) after) pushed
    ∙ (ap (λ (fs : List (Frame ℕ)). fs ++ padded (n - r.len) after) (frames_of-push all r)
    ∙ (append_assoc (frames_of all) (run_frames r) (padded (n - r.len) after)
    ∙ ap (λ (fs : List (Frame ℕ)). frames_of all ++ fs) (sym (ap (padded n) is ∙ padded_past r.frame r.len n after h))))

pub added_dark : (all new : List (Run ℕ)) (left : List (Frame ℕ)) (r : Run ℕ) (n : ℕ) → new ≡ all ++ r ∷ [] → left ≡ [] → r ≡ record { frame = Dark; len = n }
    → frames_of new ≡ frames_of all ++ padded n left
added_dark all new left r n pushed is dark =
    ap frames_of pushed
    ∙ (frames_of-push all r
    ∙ ap (λ (fs : List (Frame ℕ)). frames_of all ++ fs) (ap run_frames dark ∙ (sym (padded-none n) ∙ sym (ap (padded n) is))))

pub added_rest : (all new : List (Run ℕ)) (left after : List (Frame ℕ)) (r : Run ℕ) → new ≡ all ++ r ∷ [] → left ≡ run_frames r ++ after
    → frames_of new ++ after ≡ frames_of all ++ left
added_rest all new left after r pushed is =
    ap (λ (rs : List (Run ℕ)). frames_of rs ++ after) pushed
    ∙ (ap (λ (fs : List (Frame ℕ)). fs ++ after) (frames_of-push all r)
    ∙ (append_assoc (frames_of all) (run_frames r) after
    ∙ ap (λ (fs : List (Frame ℕ)). frames_of all ++ fs) (sym is)))

pub fewer : (left after : List (Frame ℕ)) (r : Run ℕ) → left ≡ run_frames r ++ after → 0 < r.len → length after < length left
fewer left after r is h = omega (arith, ap length is, longer (run_frames r) after, length-from r.frame r.len) where
  longer : (xs ys : List (Frame ℕ)) → length (xs ++ ys) ≡ length xs + length ys
  longer [] ys = omega arith
  longer (x ∷ xs) ys = omega (arith, longer xs ys)

pub pushed_fit : (all new : List (Run ℕ)) (r : Run ℕ) → new ≡ all ++ r ∷ [] → AreFit all → IsFit r → AreFit new
pushed_fit all new r pushed f h = subst AreFit (sym pushed) (fit-push all r f h)
