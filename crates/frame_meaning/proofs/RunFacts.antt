-- The runs of frames.
use Rattle.std.proofs.Common.{◌≡◌, ℕ, ◌+◌, ◌<◌, ◌≤◌, Bool, true, false, cond, List, [], ◌∷◌, length, drop, ap, arith, length-drop}
use Rattle.frame_meaning.specs.declared.frames.Frame.{Frame}
use Rattle.frame_meaning.specs.declared.frames.Run.{Run}
use Rattle.frame_meaning.specs.Going.{frame_goes_on}
use Rattle.frame_meaning.specs.Runs.{first_len, runs, with_frame}

first_len-with_frame : {W : Type 0} (eq : W → W → Bool) (f : Frame W) (rs : List (Run W)) → first_len (with_frame eq f rs) ≤ first_len rs + 1
first_len-with_frame eq f [] = omega arith
first_len-with_frame eq f (r ∷ rs) = by_test (frame_goes_on eq f r.frame) where
  by_test : (b : Bool) → first_len (cond b (record { frame = f; len = r.len + 1 } ∷ rs) (record { frame = f; len = 1 } ∷ r ∷ rs)) ≤ r.len + 1
  by_test true = omega arith
  by_test false = omega arith

pub first_len-runs : {W : Type 0} (eq : W → W → Bool) (fs : List (Frame W)) → first_len (runs eq fs) ≤ length fs
first_len-runs eq [] = omega arith
first_len-runs eq (f ∷ fs) = omega (arith, first_len-with_frame eq f (runs eq fs), first_len-runs eq fs)

pub first_len-behind : {W : Type 0} (eq : W → W → Bool) (fs : List (Frame W)) (rs : List (Run W)) (i : ℕ) → rs ≡ runs eq (drop i fs) → 0 < i → i ≤ length fs → first_len rs + 1 ≤ length fs
first_len-behind eq fs rs i is h k = omega (arith, ap first_len is, first_len-runs eq (drop i fs), length-drop i fs)
