-- The elements at some places of a list, and of two lists one behind the other.
use Rattle.std.proofs.Common.{◌≡◌, ℕ, zero, suc, ◌+◌, ◌-◌, ◌≤◌, min, max, List, [], ◌∷◌, ◌++◌, length, take, drop, refl, sym, ap, ◌∙◌, arith, length-drop}
use Rattle.frame_meaning.specs.declared.cells.What.{What}
use Rattle.frame_meaning.specs.declared.frames.Frame.{Frame}
use Rattle.frame_meaning.specs.declared.frames.Run.{Run}
use Rattle.dissolves.specs.Pieces.{cut, later_frame, frames_from, run_frames}
use Rattle.dissolves.proofs.Behind.{frame-zero, frame-twice}

take-append : {F : Type 0} (n : ℕ) (xs ys : List F) → take n (xs ++ ys) ≡ take n xs ++ take (n - length xs) ys
take-append n [] ys = let e : n ≡ n - 0 = omega arith in ap (λ (k : ℕ). take k ys) e ∙ none n where
  none : (k : ℕ) → take (n - 0) ys ≡ take k [] ++ take (n - 0) ys
  none zero = refl
  none (suc k) = refl
take-append zero (x ∷ xs) ys = let e : 0 ≡ 0 - suc (length xs) = omega arith in ap (λ (k : ℕ). take k ys) e
take-append (suc n) (x ∷ xs) ys =
    let e : n - length xs ≡ suc n - suc (length xs) = omega arith in
    ap (λ zs. x ∷ zs) (take-append n xs ys ∙ ap (λ (k : ℕ). take n xs ++ take k ys) e)

drop-append : {F : Type 0} (n : ℕ) (xs ys : List F) → drop n (xs ++ ys) ≡ drop n xs ++ drop (n - length xs) ys
drop-append n [] ys = let e : n ≡ n - 0 = omega arith in ap (λ (k : ℕ). drop k ys) e ∙ none n where
  none : (k : ℕ) → drop (n - 0) ys ≡ drop k [] ++ drop (n - 0) ys
  none zero = refl
  none (suc k) = refl
drop-append zero (x ∷ xs) ys = let e : 0 ≡ 0 - suc (length xs) = omega arith in ap (λ (k : ℕ). x ∷ xs ++ drop k ys) e
drop-append (suc n) (x ∷ xs) ys =
    let e : n - length xs ≡ suc n - suc (length xs) = omega arith in
    drop-append n xs ys ∙ ap (λ (k : ℕ). drop n xs ++ drop k ys) e

pub cut-append : {F : Type 0} (a b : ℕ) (xs ys : List F) → a ≤ b → cut a b (xs ++ ys) ≡ cut a b xs ++ cut (a - length xs) (b - length xs) ys
cut-append a b xs ys h =
    let e : b - a - length (drop a xs) ≡ b - length xs - (a - length xs) = omega (arith, length-drop a xs) in
    ap (take (b - a)) (drop-append a xs ys)
    ∙ (take-append (b - a) (drop a xs) (drop (a - length xs) ys)
    ∙ ap (λ (k : ℕ). cut a b xs ++ take k (drop (a - length xs) ys)) e)

-- the part of a run's frames

drop-frames : (k : ℕ) (f : Frame What) (n : ℕ) → drop k (frames_from f n) ≡ frames_from (later_frame f k) (n - k)
drop-frames zero f n =
    let e : n ≡ n - 0 = omega arith in
    ap (frames_from f) e ∙ ap (λ (g : Frame What). frames_from g (n - 0)) (sym (frame-zero f))
drop-frames (suc k) f zero = let e : 0 ≡ 0 - suc k = omega arith in ap (frames_from (later_frame f (suc k))) e
drop-frames (suc k) f (suc n) =
    let e : n - k ≡ suc n - suc k = omega arith in
    let p : 1 + k ≡ suc k = omega arith in
    drop-frames k (later_frame f 1) n
    ∙ (ap (λ (g : Frame What). frames_from g (n - k)) (frame-twice f 1 k ∙ ap (later_frame f) p)
    ∙ ap (frames_from (later_frame f (suc k))) e)

take-frames : (k : ℕ) (f : Frame What) (n m : ℕ) → m ≡ min k n → take k (frames_from f n) ≡ frames_from f m
take-frames zero f n m e = let z : 0 ≡ m = omega arith in ap (frames_from f) z
take-frames (suc k) f zero m e = let z : 0 ≡ m = omega arith in ap (frames_from f) z
take-frames (suc k) f (suc n) m e =
    let s : suc (min k n) ≡ m = omega arith in
    ap (λ gs. f ∷ gs) (take-frames k (later_frame f 1) n (min k n) refl) ∙ ap (frames_from f) s

cut-frames : (x y : ℕ) (f : Frame What) (n m : ℕ) → m ≡ min (y - x) (n - x) → cut x y (frames_from f n) ≡ frames_from (later_frame f x) m
cut-frames x y f n m e = ap (take (y - x)) (drop-frames x f n) ∙ take-frames (y - x) (later_frame f x) (n - x) m e

-- the part of a run that begins at a place and lies in [a, b)
pub cut-run : (a b from begin end : ℕ) (r p : Run What) → begin ≡ max a from → end ≡ min b (from + r.len) → a ≤ b
    → p.frame ≡ later_frame r.frame (begin - from) → p.len ≡ end - begin → cut (a - from) (b - from) (run_frames r) ≡ run_frames p
cut-run a b from begin end r p is_begin is_end order is_frame is_len =
    let m : p.len ≡ min (b - from - (a - from)) (r.len - (a - from)) = omega arith in
    let x : a - from ≡ begin - from = omega arith in
    cut-frames (a - from) (b - from) r.frame r.len p.len m
    ∙ (ap (λ (k : ℕ). frames_from (later_frame r.frame k) p.len) x
    ∙ ap (λ (g : Frame What). frames_from g p.len) (sym is_frame))

pub cut-none : (a b from begin end : ℕ) (r : Run What) → begin ≡ max a from → end ≡ min b (from + r.len) → a ≤ b → end ≤ begin
    → cut (a - from) (b - from) (run_frames r) ≡ []
cut-none a b from begin end r is_begin is_end order none =
    let m : 0 ≡ min (b - from - (a - from)) (r.len - (a - from)) = omega arith in
    cut-frames (a - from) (b - from) r.frame r.len 0 m
