-- Frames that go on, some frames later.
use Rattle.std.proofs.Common.{◌≡◌, ℕ, zero, suc, ◌+◌, ◌-◌, ◌≤◌, ◌^◌, List, ◌∷◌, ◌++◌, length, drop, refl, sym, ap, ◌∙◌, arith}
use Rattle.frame_meaning.specs.declared.frames.Side.{Side}
use Rattle.frame_meaning.specs.declared.frames.Side.TheVariants as side
use Rattle.frame_meaning.specs.declared.frames.Frame.{Frame}
use Rattle.frame_meaning.specs.declared.frames.Frame.TheVariants.{Dark, Pic, Mix}
use Rattle.frame_meaning.specs.Cells.{later_side, next_side}
use Rattle.frame_meaning.specs.RunFrames.{next_frame, frames_from}
use Rattle.dissolves.specs.Pieces.{Reaches, SideReaches, later_frame}

same_side : (s : Side ℕ) → later_side s 0 ≡ s
same_side side.Dark = refl
same_side (side.Pic w s) = let e : s + 0 ≡ s = omega arith in ap (λ (n : ℕ). side.Pic w n) e

pub same_frame : (f : Frame ℕ) → later_frame f 0 ≡ f
same_frame Dark = refl
same_frame (Pic w s) = let e : s + 0 ≡ s = omega arith in ap (λ (n : ℕ). Pic w n) e
same_frame (Mix l r n d) =
    let e : n + 0 ≡ n = omega arith in
    ap (λ (x : Side ℕ). Mix x (later_side r 0) (n + 0) d) (same_side l)
    ∙ (ap (λ (x : Side ℕ). Mix l x (n + 0) d) (same_side r) ∙ ap (λ (k : ℕ). Mix l r k d) e)

side_further : (s : Side ℕ) (n : ℕ) → later_side (next_side s) n ≡ later_side s (suc n)
side_further side.Dark n = refl
side_further (side.Pic w s) n = let e : s + 1 + n ≡ s + suc n = omega arith in ap (λ (k : ℕ). side.Pic w k) e

pub further : (f : Frame ℕ) (n : ℕ) → later_frame (next_frame f) n ≡ later_frame f (suc n)
further Dark n = refl
further (Pic w s) n = let e : s + 1 + n ≡ s + suc n = omega arith in ap (λ (k : ℕ). Pic w k) e
further (Mix l r m d) n =
    let e : m + 1 + n ≡ m + suc n = omega arith in
    ap (λ (x : Side ℕ). Mix x (later_side (next_side r) n) (m + 1 + n) d) (side_further l n)
    ∙ (ap (λ (x : Side ℕ). Mix (later_side l (suc n)) x (m + 1 + n) d) (side_further r n)
    ∙ ap (λ (k : ℕ). Mix (later_side l (suc n)) (later_side r (suc n)) k d) e)

side_then_next : (s : Side ℕ) (n : ℕ) → next_side (later_side s n) ≡ later_side s (suc n)
side_then_next side.Dark n = refl
side_then_next (side.Pic w s) n = let e : s + n + 1 ≡ s + suc n = omega arith in ap (λ (k : ℕ). side.Pic w k) e

pub then_next : (f : Frame ℕ) (n : ℕ) → next_frame (later_frame f n) ≡ later_frame f (suc n)
then_next Dark n = refl
then_next (Pic w s) n = let e : s + n + 1 ≡ s + suc n = omega arith in ap (λ (k : ℕ). Pic w k) e
then_next (Mix l r m d) n =
    let e : m + n + 1 ≡ m + suc n = omega arith in
    ap (λ (x : Side ℕ). Mix x (next_side (later_side r n)) (m + n + 1) d) (side_then_next l n)
    ∙ (ap (λ (x : Side ℕ). Mix (later_side l (suc n)) x (m + n + 1) d) (side_then_next r n)
    ∙ ap (λ (k : ℕ). Mix (later_side l (suc n)) (later_side r (suc n)) k d) e)

-- the frames of a run and others behind them

pub length-from : (f : Frame ℕ) (n : ℕ) → length (frames_from f n) ≡ n
length-from f zero = refl
length-from f (suc n) = ap suc (length-from (next_frame f) n)

pub drop_within : (f : Frame ℕ) (k n : ℕ) (rest : List (Frame ℕ)) → k ≤ n → drop k (frames_from f n ++ rest) ≡ frames_from (later_frame f k) (n - k) ++ rest
drop_within f zero n rest h =
    let e : n ≡ n - 0 = omega arith in
    ap (λ (m : ℕ). frames_from f m ++ rest) e ∙ ap (λ (g : Frame ℕ). frames_from g (n - 0) ++ rest) (sym (same_frame f))
drop_within f (suc k) zero rest h = absurd (omega arith)
drop_within f (suc k) (suc n) rest h =
    let e : n - k ≡ suc n - suc k = omega arith in
    drop_within (next_frame f) k n rest (omega arith)
    ∙ (ap (λ (g : Frame ℕ). frames_from g (n - k) ++ rest) (further f k)
    ∙ ap (λ (m : ℕ). frames_from (later_frame f (suc k)) m ++ rest) e)

pub drop_past : (f : Frame ℕ) (k n : ℕ) (rest : List (Frame ℕ)) → k ≤ n → drop n (frames_from f k ++ rest) ≡ drop (n - k) rest
drop_past f zero n rest h = let e : n ≡ n - 0 = omega arith in ap (λ (m : ℕ). drop m rest) e
drop_past f (suc k) zero rest h = absurd (omega arith)
drop_past f (suc k) (suc n) rest h =
    let e : n - k ≡ suc n - suc k = omega arith in
    drop_past (next_frame f) k n rest (omega arith) ∙ ap (λ (m : ℕ). drop m rest) e

pub front : (f : Frame ℕ) (k n : ℕ) (rest : List (Frame ℕ)) → k ≤ n → frames_from f n ++ rest ≡ frames_from f k ++ drop k (frames_from f n ++ rest)
front f zero n rest h = refl
front f (suc k) zero rest h = absurd (omega arith)
front f (suc k) (suc n) rest h = ap (λ (fs : List (Frame ℕ)). f ∷ fs) (front (next_frame f) k n rest (omega arith))

pub two_runs : (f g : Frame ℕ) (m n : ℕ) → g ≡ later_frame f m → frames_from f (m + n) ≡ frames_from f m ++ frames_from g n
two_runs f g m n is = split f m n (m + n) refl ∙ ap (λ (h : Frame ℕ). frames_from f m ++ frames_from h n) (sym is) where
  split : (f : Frame ℕ) (m n k : ℕ) → k ≡ m + n → frames_from f k ≡ frames_from f m ++ frames_from (later_frame f m) n
  split f zero n k e = let x : k ≡ n = omega (arith, e) in ap (frames_from f) x ∙ ap (λ (h : Frame ℕ). frames_from h n) (sym (same_frame f))
  split f (suc m) n zero e = absurd (omega (arith, e))
  split f (suc m) n (suc k) e =
      let x : k ≡ m + n = omega (arith, e) in
      ap (λ (fs : List (Frame ℕ)). f ∷ fs) (split (next_frame f) m n k x ∙ ap (λ (h : Frame ℕ). frames_from (next_frame f) m ++ frames_from h n) (further f m))

-- how far the numbers of frames reach

side_less : (s : Side ℕ) (m n : ℕ) → m ≤ n → SideReaches s n → SideReaches s m
side_less side.Dark m n h r = tt
side_less (side.Pic w s) m n h r = omega (arith, r)

pub reaches_less : (f : Frame ℕ) (m n : ℕ) → m ≤ n → Reaches f n → Reaches f m
reaches_less Dark m n h r = tt
reaches_less (Pic w s) m n h r = omega (arith, r)
reaches_less (Mix l q k d) m n h r = let num : k + m ≤ 2 ^ 32 = omega (arith, r.2) in (side_less l m n h r.0, side_less q m n h r.1, num)

side_moved : (s : Side ℕ) (k m n : ℕ) → k + m ≤ n → SideReaches s n → SideReaches (later_side s k) m
side_moved side.Dark k m n h r = tt
side_moved (side.Pic w s) k m n h r = omega (arith, r)

pub reaches_moved : (f : Frame ℕ) (k m n : ℕ) → k + m ≤ n → Reaches f n → Reaches (later_frame f k) m
reaches_moved Dark k m n h r = tt
reaches_moved (Pic w s) k m n h r = omega (arith, r)
reaches_moved (Mix l q j d) k m n h r = let num : j + k + m ≤ 2 ^ 32 = omega (arith, r.2) in (side_moved l k m n h r.0, side_moved q k m n h r.1, num)

side_joined : (s : Side ℕ) (k m : ℕ) → SideReaches (later_side s k) m → SideReaches s (k + m)
side_joined side.Dark k m r = tt
side_joined (side.Pic w s) k m r = omega (arith, r)

pub reaches_joined : (f : Frame ℕ) (k m : ℕ) → Reaches (later_frame f k) m → Reaches f (k + m)
reaches_joined Dark k m r = tt
reaches_joined (Pic w s) k m r = omega (arith, r)
reaches_joined (Mix l q j d) k m r = let num : j + (k + m) ≤ 2 ^ 32 = omega (arith, r.2) in (side_joined l k m r.0, side_joined q k m r.1, num)
