-- The runs of frames behind which come the frames of a run.
use Rattle.std.proofs.Common.{◌≡◌, ℕ, zero, suc, ◌+◌, ◌-◌, ◌<◌, Bool, true, false, cond, eqb, ◌&&◌, List, [], ◌∷◌, ◌++◌, length, refl, sym, ap, ◌∙◌, arith}
use Rattle.std.proofs.lemmas.Bool.{and_parts, eq-eqb, eqb-true}
use Rattle.frame_meaning.specs.declared.cells.What.{What}
use Rattle.frame_meaning.specs.declared.cells.What.TheVariants as what
use Rattle.frame_meaning.specs.declared.frames.Side.{Side}
use Rattle.frame_meaning.specs.declared.frames.Side.TheVariants as side
use Rattle.frame_meaning.specs.declared.frames.Frame.{Frame}
use Rattle.frame_meaning.specs.declared.frames.Frame.TheVariants as frame
use Rattle.frame_meaning.specs.declared.frames.Run.{Run}
use Rattle.frame_meaning.specs.Cells.{later_side}
use Rattle.frame_meaning.specs.Going.{same_what, side_goes_on, frame_goes_on}
use Rattle.frame_meaning.specs.Runs.{with_frame, runs}
use Rattle.composables.proofs.Spans.{later-zero}
use Rattle.dissolves.specs.Pieces.{later_frame, frames_from, run_frames, last_frame, push_run, len_of}

-- one thing

same_what-refl : (w : What) → same_what w w ≡ true
same_what-refl (what.Media m) = eq-eqb m m refl
same_what-refl (what.Nest j) = eq-eqb j j refl

same_what-is : (v w : What) → same_what v w ≡ true → v ≡ w
same_what-is (what.Media m) (what.Media n) h = ap (λ (k : ℕ). what.Media k) (eqb-true m n h)
same_what-is (what.Media m) (what.Nest j) h = cc
same_what-is (what.Nest i) (what.Media n) h = cc
same_what-is (what.Nest i) (what.Nest j) h = ap (λ (k : ℕ). what.Nest k) (eqb-true i j h)

-- what goes on is the frame one later

side_next : (s : Side What) → side_goes_on same_what s (later_side s 1) ≡ true
side_next side.Dark = refl
side_next (side.Pic w s) =
    ap (λ (b : Bool). b && eqb (s + 1) (s + 1)) (same_what-refl w) ∙ eq-eqb (s + 1) (s + 1) refl

both : (a b c d : Bool) → a ≡ true → b ≡ true → c ≡ true → d ≡ true → (((a && b) && c) && d) ≡ true
both a b c d p q r s = ap (λ (x : Bool). ((x && b) && c) && d) p ∙ (ap (λ (x : Bool). (x && c) && d) q ∙ (ap (λ (x : Bool). x && d) r ∙ s))

frame_next : (f : Frame What) → frame_goes_on same_what f (later_frame f 1) ≡ true
frame_next frame.Dark = refl
frame_next (frame.Pic w s) =
    ap (λ (b : Bool). b && eqb (s + 1) (s + 1)) (same_what-refl w) ∙ eq-eqb (s + 1) (s + 1) refl
frame_next (frame.Mix l r n d) =
    both (side_goes_on same_what l (later_side l 1)) (side_goes_on same_what r (later_side r 1)) (eqb d d) (eqb (n + 1) (n + 1))
    (side_next l) (side_next r) (eq-eqb d d refl) (eq-eqb (n + 1) (n + 1) refl)

side_is_next : (s t : Side What) → side_goes_on same_what s t ≡ true → t ≡ later_side s 1
side_is_next side.Dark side.Dark h = refl
side_is_next side.Dark (side.Pic w t) h = cc
side_is_next (side.Pic v s) side.Dark h = cc
side_is_next (side.Pic v s) (side.Pic w t) h =
    let p = and_parts (same_what v w) (eqb t (s + 1)) h in
    ap (λ (x : What). side.Pic x t) (sym (same_what-is v w p.0)) ∙ ap (λ (n : ℕ). side.Pic v n) (eqb-true t (s + 1) p.1)

frame_is_next : (f g : Frame What) → frame_goes_on same_what f g ≡ true → g ≡ later_frame f 1
frame_is_next frame.Dark frame.Dark h = refl
frame_is_next frame.Dark (frame.Pic w t) h = cc
frame_is_next frame.Dark (frame.Mix l r n d) h = cc
frame_is_next (frame.Pic v s) frame.Dark h = cc
frame_is_next (frame.Pic v s) (frame.Pic w t) h =
    let p = and_parts (same_what v w) (eqb t (s + 1)) h in
    ap (λ (x : What). frame.Pic x t) (sym (same_what-is v w p.0)) ∙ ap (λ (n : ℕ). frame.Pic v n) (eqb-true t (s + 1) p.1)
frame_is_next (frame.Pic v s) (frame.Mix l r n d) h = cc
frame_is_next (frame.Mix l r n d) frame.Dark h = cc
frame_is_next (frame.Mix l r n d) (frame.Pic w t) h = cc
frame_is_next (frame.Mix l r n d) (frame.Mix l' r' n' d') h =
    let p = and_parts ((side_goes_on same_what l l' && side_goes_on same_what r r') && eqb d d') (eqb n' (n + 1)) h in
    let q = and_parts (side_goes_on same_what l l' && side_goes_on same_what r r') (eqb d d') p.0 in
    let s = and_parts (side_goes_on same_what l l') (side_goes_on same_what r r') q.0 in
    ap (λ (x : Side What). frame.Mix x r' n' d') (side_is_next l l' s.0)
    ∙ (ap (λ (x : Side What). frame.Mix (later_side l 1) x n' d') (side_is_next r r' s.1)
    ∙ (ap (λ (x : ℕ). frame.Mix (later_side l 1) (later_side r 1) n' x) (sym (eqb-true d d' q.1))
    ∙ ap (λ (x : ℕ). frame.Mix (later_side l 1) (later_side r 1) x d) (eqb-true n' (n + 1) p.1)))

-- later by zero, and later twice

pub frame-zero : (f : Frame What) → later_frame f 0 ≡ f
frame-zero frame.Dark = refl
frame-zero (frame.Pic w s) = let e : s + 0 ≡ s = omega arith in ap (λ (n : ℕ). frame.Pic w n) e
frame-zero (frame.Mix l r n d) =
    let e : n + 0 ≡ n = omega arith in
    ap (λ (x : Side What). frame.Mix x (later_side r 0) (n + 0) d) (later-zero l)
    ∙ (ap (λ (x : Side What). frame.Mix l x (n + 0) d) (later-zero r) ∙ ap (λ (k : ℕ). frame.Mix l r k d) e)

pub side-twice : (s : Side What) (j k : ℕ) → later_side (later_side s j) k ≡ later_side s (j + k)
side-twice side.Dark j k = refl
side-twice (side.Pic w s) j k = let e : s + j + k ≡ s + (j + k) = omega arith in ap (λ (n : ℕ). side.Pic w n) e

pub frame-twice : (f : Frame What) (j k : ℕ) → later_frame (later_frame f j) k ≡ later_frame f (j + k)
frame-twice frame.Dark j k = refl
frame-twice (frame.Pic w s) j k = let e : s + j + k ≡ s + (j + k) = omega arith in ap (λ (n : ℕ). frame.Pic w n) e
frame-twice (frame.Mix l r n d) j k =
    let e : n + j + k ≡ n + (j + k) = omega arith in
    ap (λ (x : Side What). frame.Mix x (later_side (later_side r j) k) (n + j + k) d) (side-twice l j k)
    ∙ (ap (λ (x : Side What). frame.Mix (later_side l (j + k)) x (n + j + k) d) (side-twice r j k)
    ∙ ap (λ (x : ℕ). frame.Mix (later_side l (j + k)) (later_side r (j + k)) x d) e)

-- the first of some runs is filled

abbrev FirstFilled : List (Run What) → Type 0
FirstFilled [] = Unit {0}
FirstFilled (r ∷ rs) = 0 < r.len

filled-with : (f : Frame What) (rs : List (Run What)) → FirstFilled (with_frame same_what f rs)
filled-with f [] = omega arith
filled-with f (r ∷ rs) = by_test (frame_goes_on same_what f r.frame) where
  by_test : (b : Bool) → FirstFilled (cond b (record { frame = f; len = r.len + 1 } ∷ rs) (record { frame = f; len = 1 } ∷ r ∷ rs))
  by_test true = omega arith
  by_test false = omega arith

filled-runs : (fs : List (Frame What)) → FirstFilled (runs same_what fs)
filled-runs [] = tt
filled-runs (f ∷ fs) = filled-with f (runs same_what fs)

-- a frame before runs, and a run behind them

with_onto : (f : Frame What) (r : Run What) (rs : List (Run What)) → frame_goes_on same_what f r.frame ≡ true → with_frame same_what f (r ∷ rs) ≡ record { frame = f; len = r.len + 1 } ∷ rs
with_onto f r rs h = ap (λ (b : Bool). cond b (record { frame = f; len = r.len + 1 } ∷ rs) (record { frame = f; len = 1 } ∷ r ∷ rs)) h

-- the runs of the frames of one run
one_run : (f : Frame What) (n : ℕ) → runs same_what (frames_from f (suc n)) ≡ record { frame = f; len = suc n } ∷ []
one_run f zero = refl
one_run f (suc n) =
    let e : suc n + 1 ≡ suc (suc n) = omega arith in
    ap (with_frame same_what f) (one_run (later_frame f 1) n)
    ∙ (with_onto f (record { frame = later_frame f 1; len = suc n }) [] (frame_next f)
    ∙ ap (λ (k : ℕ). record { frame = f; len = k } ∷ []) e)

-- the last frame of a run that has one frame more in front
last_more : (f : Frame What) (s : Run What) → 0 < s.len → frame_goes_on same_what f s.frame ≡ true → last_frame s ≡ later_frame f (s.len + 1 - 1)
last_more f s h g =
    let e : 1 + (s.len - 1) ≡ s.len + 1 - 1 = omega arith in
    ap (λ (x : Frame What). later_frame x (s.len - 1)) (frame_is_next f s.frame g)
    ∙ (frame-twice f 1 (s.len - 1) ∙ ap (later_frame f) e)

with-push : (f : Frame What) (rs : List (Run What)) (r : Run What) → FirstFilled rs
    → with_frame same_what f (push_run same_what rs r) ≡ push_run same_what (with_frame same_what f rs) r
with-push f [] r h =
    let e : r.len + 1 ≡ 1 + r.len = omega arith in
    let same : f ≡ later_frame f (1 - 1) = sym (frame-zero f) in
    ap (λ (k : ℕ). cond (frame_goes_on same_what f r.frame) (record { frame = f; len = k } ∷ []) (record { frame = f; len = 1 } ∷ r ∷ [])) e
    ∙ ap (λ (x : Frame What). cond (frame_goes_on same_what x r.frame) (record { frame = f; len = 1 + r.len } ∷ []) (record { frame = f; len = 1 } ∷ r ∷ [])) same
with-push f (s ∷ []) r h = by_tests (frame_goes_on same_what f s.frame) refl (frame_goes_on same_what (last_frame s) r.frame) refl where
  by_tests : (b : Bool) → frame_goes_on same_what f s.frame ≡ b → (c : Bool) → frame_goes_on same_what (last_frame s) r.frame ≡ c
      → with_frame same_what f (cond c (record s { len = s.len + r.len } ∷ []) (s ∷ r ∷ [])) ≡ push_run same_what (cond b (record { frame = f; len = s.len + 1 } ∷ []) (record { frame = f; len = 1 } ∷ s ∷ [])) r
  by_tests true p true q =
      let e : s.len + r.len + 1 ≡ s.len + 1 + r.len = omega arith in
      with_onto f (record s { len = s.len + r.len }) [] p
      ∙ (ap (λ (k : ℕ). record { frame = f; len = k } ∷ []) e
      ∙ sym (ap (λ (b : Bool). cond b (record { frame = f; len = s.len + 1 + r.len } ∷ []) (record { frame = f; len = s.len + 1 } ∷ r ∷ []))
      (ap (λ (x : Frame What). frame_goes_on same_what x r.frame) (sym (last_more f s h p)) ∙ q)))
  by_tests true p false q =
      with_onto f s (r ∷ []) p
      ∙ sym (ap (λ (b : Bool). cond b (record { frame = f; len = s.len + 1 + r.len } ∷ []) (record { frame = f; len = s.len + 1 } ∷ r ∷ []))
      (ap (λ (x : Frame What). frame_goes_on same_what x r.frame) (sym (last_more f s h p)) ∙ q))
  by_tests false p true q =
      ap (λ (b : Bool). cond b (record { frame = f; len = s.len + r.len + 1 } ∷ []) (record { frame = f; len = 1 } ∷ record s { len = s.len + r.len } ∷ [])) p
      ∙ sym (ap (λ (b : Bool). record { frame = f; len = 1 } ∷ cond b (record s { len = s.len + r.len } ∷ []) (s ∷ r ∷ [])) q)
  by_tests false p false q =
      ap (λ (b : Bool). cond b (record { frame = f; len = s.len + 1 } ∷ r ∷ []) (record { frame = f; len = 1 } ∷ s ∷ r ∷ [])) p
      ∙ sym (ap (λ (b : Bool). record { frame = f; len = 1 } ∷ cond b (record s { len = s.len + r.len } ∷ []) (s ∷ r ∷ [])) q)
with-push f (s ∷ t ∷ ts) r h = by_test (frame_goes_on same_what f s.frame) where
  by_test : (b : Bool) → cond b (record { frame = f; len = s.len + 1 } ∷ push_run same_what (t ∷ ts) r) (record { frame = f; len = 1 } ∷ s ∷ push_run same_what (t ∷ ts) r)
      ≡ push_run same_what (cond b (record { frame = f; len = s.len + 1 } ∷ t ∷ ts) (record { frame = f; len = 1 } ∷ s ∷ t ∷ ts)) r
  by_test true = refl
  by_test false = refl

pub runs-behind : (fs : List (Frame What)) (r : Run What) → 0 < r.len → runs same_what (fs ++ run_frames r) ≡ push_run same_what (runs same_what fs) r
runs-behind [] r h =
    let e : r.len ≡ suc (r.len - 1) = omega arith in
    ap (λ (k : ℕ). runs same_what (frames_from r.frame k)) e
    ∙ (one_run r.frame (r.len - 1) ∙ ap (λ (k : ℕ). record { frame = r.frame; len = k } ∷ []) (sym e))
runs-behind (f ∷ fs) r h = ap (with_frame same_what f) (runs-behind fs r h) ∙ with-push f (runs same_what fs) r (filled-runs fs)

-- how many frames there are

len_of-with : (f : Frame What) (rs : List (Run What)) → len_of (with_frame same_what f rs) ≡ suc (len_of rs)
len_of-with f [] = refl
len_of-with f (r ∷ rs) = by_test (frame_goes_on same_what f r.frame) where
  by_test : (b : Bool) → len_of (cond b (record { frame = f; len = r.len + 1 } ∷ rs) (record { frame = f; len = 1 } ∷ r ∷ rs)) ≡ suc (r.len + len_of rs)
  by_test true = omega arith
  by_test false = omega arith

pub len_of-runs : (fs : List (Frame What)) → len_of (runs same_what fs) ≡ length fs
len_of-runs [] = refl
len_of-runs (f ∷ fs) = len_of-with f (runs same_what fs) ∙ ap suc (len_of-runs fs)

pub length-frames_from : (f : Frame What) (n : ℕ) → length (frames_from f n) ≡ n
length-frames_from f zero = refl
length-frames_from f (suc n) = ap suc (length-frames_from (later_frame f 1) n)
