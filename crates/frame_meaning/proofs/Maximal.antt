-- The runs of frames are maximal, and one after another they are the frames.
use Rattle.std.proofs.Common.{◌≡◌, ℕ, suc, ◌+◌, ◌-◌, ◌<◌, Bool, true, false, cond, eqb, nat_eq, ◌&&◌, List, [], ◌∷◌, ◌++◌, refl, sym, ap, ◌∙◌, arith, subst}
use Rattle.std.specs.List.{flat_map}
use Rattle.std.proofs.lemmas.Bool.{and_parts, eqb-true}
use Rattle.frame_meaning.specs.declared.cells.What.{What}
use Rattle.frame_meaning.specs.declared.cells.What.TheVariants as what
use Rattle.frame_meaning.specs.declared.frames.Side.{Side}
use Rattle.frame_meaning.specs.declared.frames.Side.TheVariants as side
use Rattle.frame_meaning.specs.declared.frames.Frame.{Frame}
use Rattle.frame_meaning.specs.declared.frames.Frame.TheVariants as frame
use Rattle.frame_meaning.specs.declared.frames.Run.{Run}
use Rattle.frame_meaning.specs.Cells.{next_side}
use Rattle.frame_meaning.specs.Going.{same_what, side_goes_on, frame_goes_on}
use Rattle.frame_meaning.specs.Runs.{runs, with_frame}
use Rattle.frame_meaning.specs.RunFrames.{next_frame, frames_from, later_frame, run_frames, AreMaximal}

-- things and numbers that are one are equal
pub one-what : (v w : What) → same_what v w ≡ true → w ≡ v
one-what (what.Media m) (what.Media n) e = ap (λ (k : ℕ). what.Media k) (sym (eqb-true m n e))
one-what (what.Media m) (what.Nest j) e = absurd cc
one-what (what.Nest i) (what.Media n) e = absurd cc
one-what (what.Nest i) (what.Nest j) e = ap (λ (k : ℕ). what.Nest k) (sym (eqb-true i j e))

pub one-number : (m n : ℕ) → nat_eq m n ≡ true → n ≡ m
one-number m n e = sym (eqb-true m n e)

-- what goes on is what comes next
module _ (W : Type 0) (eq : W → W → Bool) (one : (v w : W) → eq v w ≡ true → w ≡ v) where
  side_next : (s t : Side W) → side_goes_on eq s t ≡ true → t ≡ next_side s
  side_next side.Dark side.Dark e = refl
  side_next side.Dark (side.Pic w t) e = absurd cc
  side_next (side.Pic v s) side.Dark e = absurd cc
  side_next (side.Pic v s) (side.Pic w t) e =
      let both = and_parts (eq v w) (eqb t (s + 1)) e in
      ap (λ (u : W). side.Pic u t) (one v w both.0) ∙ ap (λ (k : ℕ). side.Pic v k) (eqb-true t (s + 1) both.1)

  mix_next : (l r l' r' : Side W) (n d n' d' : ℕ) → (((side_goes_on eq l l' && side_goes_on eq r r') && eqb d d') && eqb n' (n + 1)) ≡ true → frame.Mix l' r' n' d' ≡ frame.Mix (next_side l) (next_side r) (n + 1) d
  mix_next l r l' r' n d n' d' e =
      let last = and_parts ((side_goes_on eq l l' && side_goes_on eq r r') && eqb d d') (eqb n' (n + 1)) e in
      let den = and_parts (side_goes_on eq l l' && side_goes_on eq r r') (eqb d d') last.0 in
      let sides = and_parts (side_goes_on eq l l') (side_goes_on eq r r') den.0 in
      ap (λ (s : Side W). frame.Mix s r' n' d') (side_next l l' sides.0)
      ∙ (ap (λ (s : Side W). frame.Mix (next_side l) s n' d') (side_next r r' sides.1)
      ∙ (ap (λ (k : ℕ). frame.Mix (next_side l) (next_side r) k d') (eqb-true n' (n + 1) last.1)
      ∙ ap (λ (k : ℕ). frame.Mix (next_side l) (next_side r) (n + 1) k) (sym (eqb-true d d' den.1))))

  pub frame-next : (f g : Frame W) → frame_goes_on eq f g ≡ true → g ≡ next_frame f
  frame-next frame.Dark frame.Dark e = refl
  frame-next frame.Dark (frame.Pic w t) e = absurd cc
  frame-next frame.Dark (frame.Mix l r n d) e = absurd cc
  frame-next (frame.Pic v s) frame.Dark e = absurd cc
  frame-next (frame.Pic v s) (frame.Pic w t) e =
      let both = and_parts (eq v w) (eqb t (s + 1)) e in
      ap (λ (u : W). frame.Pic u t) (one v w both.0) ∙ ap (λ (k : ℕ). frame.Pic v k) (eqb-true t (s + 1) both.1)
  frame-next (frame.Pic v s) (frame.Mix l r n d) e = absurd cc
  frame-next (frame.Mix l r n d) frame.Dark e = absurd cc
  frame-next (frame.Mix l r n d) (frame.Pic w t) e = absurd cc
  frame-next (frame.Mix l r n d) (frame.Mix l' r' n' d') e = mix_next l r l' r' n d n' d' e

  -- one frame more in front
  frames_more : (f : Frame W) (rs : List (Run W)) → flat_map run_frames (with_frame eq f rs) ≡ f ∷ flat_map run_frames rs
  frames_more f [] = refl
  frames_more f (r ∷ rs) = by_test (frame_goes_on eq f r.frame) refl where
    by_test : (b : Bool) → frame_goes_on eq f r.frame ≡ b
        → flat_map run_frames (cond b (record { frame = f; len = r.len + 1 } ∷ rs) (record { frame = f; len = 1 } ∷ r ∷ rs)) ≡ f ∷ (run_frames r ++ flat_map run_frames rs)
    by_test true e =
        let more : r.len + 1 ≡ suc r.len = omega arith in
        ap (λ (n : ℕ). frames_from f n ++ flat_map run_frames rs) more
        ∙ ap (λ (g : Frame W). f ∷ (frames_from g r.len ++ flat_map run_frames rs)) (sym (frame-next f r.frame e))
    by_test false e = refl

  pub frames-runs : (fs : List (Frame W)) → flat_map run_frames (runs eq fs) ≡ fs
  frames-runs [] = refl
  frames-runs (f ∷ fs) = frames_more f (runs eq fs) ∙ ap (λ gs. f ∷ gs) (frames-runs fs)

  -- a run with a frame more in front has the same last frame
  same_last : (f g : Frame W) (n : ℕ) → g ≡ next_frame f → 0 < n → later_frame f (n + 1 - 1) ≡ later_frame g (n - 1)
  same_last f g n e h =
      let one : n + 1 - 1 ≡ suc (n - 1) = omega (arith, h) in
      ap (later_frame f) one ∙ ap (λ (k : Frame W). later_frame k (n - 1)) (sym e)

  longer_run : (f : Frame W) (r : Run W) (rs : List (Run W)) → frame_goes_on eq f r.frame ≡ true → AreMaximal eq (r ∷ rs) → AreMaximal eq (record { frame = f; len = r.len + 1 } ∷ rs)
  longer_run f r [] e m = omega arith
  longer_run f r (s ∷ rs) e m =
      let P : Frame W → Type 0 = λ g. frame_goes_on eq g s.frame ≡ false in
      (omega arith, subst P (sym (same_last f r.frame r.len (frame-next f r.frame e) m.0)) m.1, m.2)

  maximal_more : (f : Frame W) (rs : List (Run W)) → AreMaximal eq rs → AreMaximal eq (with_frame eq f rs)
  maximal_more f [] m = omega arith
  maximal_more f (r ∷ rs) m = by_test (frame_goes_on eq f r.frame) refl where
    by_test : (b : Bool) → frame_goes_on eq f r.frame ≡ b → AreMaximal eq (cond b (record { frame = f; len = r.len + 1 } ∷ rs) (record { frame = f; len = 1 } ∷ r ∷ rs))
    by_test true e = longer_run f r rs e m
    by_test false e =
        let first : later_frame f (1 - 1) ≡ f = refl in
        let P : Frame W → Type 0 = λ g. frame_goes_on eq g r.frame ≡ false in
        (omega arith, subst P (sym first) e, m)

  pub maximal-runs : (fs : List (Frame W)) → AreMaximal eq (runs eq fs)
  maximal-runs [] = tt
  maximal-runs (f ∷ fs) = maximal_more f (runs eq fs) (maximal-runs fs)
