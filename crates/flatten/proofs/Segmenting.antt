-- Segments of a channel, one after another.
use Rattle.std.proofs.Common.{◌≡◌, ℕ, suc, ◌+◌, ◌-◌, ◌<◌, ◌≤◌, Bool, true, false, cond, eqb, nat_eq, List, [], ◌∷◌, ◌++◌, Option, Some, None, length, refl, sym, ap, ◌∙◌, arith, append_assoc}
use Rattle.std.proofs.lemmas.Bool.{and_parts, eqb-true}
use Rattle.std.proofs.lemmas.List.{append-nil, length-append}
use Rattle.std.specs.List.{flat_map}
use Rattle.frame_meaning.specs.declared.frames.Side.{Side}
use Rattle.frame_meaning.specs.declared.frames.Side.TheVariants as side
use Rattle.frame_meaning.specs.declared.frames.Frame.{Frame}
use Rattle.frame_meaning.specs.declared.frames.Frame.TheVariants as frame
use Rattle.frame_meaning.specs.Cells.{later_side}
use Rattle.frame_meaning.specs.Going.{frame_goes_on}
use Rattle.frame_meaning.specs.Render.{frame_of}
use Rattle.frame_meaning.specs.RunFrames.{next_frame, frames_from}
use Rattle.dissolves.specs.Pieces.{later_frame}
use Rattle.flatten.specs.declared.cutting.Segment.{Segment}
use Rattle.flatten.specs.Joined.{joined, lens_of, segment_of}
use Rattle.flatten.specs.Segments.{AreApart, ArePlaced, EachIsSegment, HasDissolve, IsSegment, first_shown, frames_in, goes_on_in, is_whole, segment_frames}
use Rattle.flatten.proofs.Joining.{frame_is_next}
use Rattle.flatten.proofs.Moving.{length-from, then_next, two_runs}

-- a segment that is made longer

pub later_is : (s : Side ℕ) (n : ℕ) → frame_of (later_side s n) ≡ later_frame (frame_of s) n
later_is side.Dark n = refl
later_is (side.Pic w k) n = refl

pub later_twice : (s : Side ℕ) (n len : ℕ) → n ≤ len → later_frame (frame_of (later_side s n)) (len - n) ≡ later_frame (frame_of s) len
later_twice side.Dark n len h = refl
later_twice (side.Pic w k) n len h = let e : k + n + (len - n) ≡ k + len = omega (arith, h) in ap (λ (m : ℕ). frame.Pic w m) e

longer : (from : Option (Side ℕ)) (n : ℕ) (s t : Side ℕ) (len m : ℕ) → HasDissolve from n len → frame_of t ≡ later_frame (frame_of s) len
    → frames_in from n s (len + m) ≡ frames_in from n s len ++ frames_from (frame_of t) m
longer None n s t len m h is = two_runs (frame_of s) (frame_of t) len m is
longer (Some left) n s t len m h is =
    let e : len + m - n ≡ len - n + m = omega (arith, h.1) in
    let mixed : List (Frame ℕ) = frames_from (frame.Mix left s 1 (n + 1)) n in
    let behind : Frame ℕ = frame_of (later_side s n) in
    ap (λ (k : ℕ). mixed ++ frames_from behind k) e
    ∙ (ap (λ (fs : List (Frame ℕ)). mixed ++ fs) (two_runs behind (frame_of t) (len - n) m (is ∙ sym (later_twice s n len h.1)))
    ∙ sym (append_assoc mixed (frames_from behind (len - n)) (frames_from (frame_of t) m)))

no_mix : (s : Side ℕ) (k : ℕ) (from : Option (Side ℕ)) (n : ℕ) (t : Side ℕ) → frame_goes_on nat_eq (frame_of (later_side s k)) (first_shown from n t) ≡ true → from ≡ None
no_mix s k None n t h = refl
no_mix side.Dark k (Some l) n t h = absurd cc
no_mix (side.Pic w j) k (Some l) n t h = absurd cc

go_on : (s : Side ℕ) (len : ℕ) (from : Option (Side ℕ)) (n : ℕ) (t : Side ℕ) → 0 < len → from ≡ None → frame_goes_on nat_eq (frame_of (later_side s (len - 1))) (first_shown from n t) ≡ true
    → frame_of t ≡ later_frame (frame_of s) len
go_on s len from n t h none goes =
    let e : suc (len - 1) ≡ len = omega (arith, h) in
    let last : Frame ℕ = frame_of (later_side s (len - 1)) in
    let g : frame_goes_on nat_eq last (frame_of t) ≡ true = sym (ap (λ (o : Option (Side ℕ)). frame_goes_on nat_eq last (first_shown o n t)) none) ∙ goes in
    frame_is_next last (frame_of t) g
    ∙ (ap next_frame (later_is s (len - 1)) ∙ (then_next (frame_of s) (len - 1) ∙ ap (later_frame (frame_of s)) e))

lengthened : (s t : Segment) → IsSegment s → goes_on_in s t ≡ true → segment_frames (record s { len = s.len + t.len }) ≡ segment_frames s ++ segment_frames t
lengthened s t h goes =
    let none : t.from ≡ None = no_mix s.side (s.len - 1) t.from t.frames t.side goes in
    longer s.from s.frames s.side t.side s.len t.len h.dissolve (go_on s.side s.len t.from t.frames t.side h.filled none goes)
    ∙ ap (λ (o : Option (Side ℕ)). segment_frames s ++ frames_in o t.frames t.side t.len) (sym none)

longer_dissolve : (from : Option (Side ℕ)) (n len m : ℕ) → HasDissolve from n len → HasDissolve from n (len + m)
longer_dissolve None n len m h = h
longer_dissolve (Some left) n len m h = let within : n ≤ len + m = omega (arith, h.1) in (h.0, within)

-- segments with one more behind them

pub frames_joined : (ss : List Segment) (t : Segment) → EachIsSegment ss → flat_map segment_frames (joined ss t) ≡ flat_map segment_frames ss ++ segment_frames t
frames_joined [] t h = append-nil (segment_frames t)
frames_joined (s ∷ []) t h = by_test (goes_on_in s t) refl where
  by_test : (b : Bool) → goes_on_in s t ≡ b → flat_map segment_frames (cond b (record s { len = s.len + t.len } ∷ []) (s ∷ t ∷ [])) ≡ (segment_frames s ++ []) ++ segment_frames t
  by_test true g =
      append-nil (segment_frames (record s { len = s.len + t.len }))
      ∙ (lengthened s t h.0 g ∙ ap (λ (fs : List (Frame ℕ)). fs ++ segment_frames t) (sym (append-nil (segment_frames s))))
  by_test false g =
      ap (λ (fs : List (Frame ℕ)). segment_frames s ++ fs) (append-nil (segment_frames t))
      ∙ ap (λ (fs : List (Frame ℕ)). fs ++ segment_frames t) (sym (append-nil (segment_frames s)))
frames_joined (s ∷ u ∷ us) t h =
    ap (λ (fs : List (Frame ℕ)). segment_frames s ++ fs) (frames_joined (u ∷ us) t h.1)
    ∙ sym (append_assoc (segment_frames s) (flat_map segment_frames (u ∷ us)) (segment_frames t))

pub each_joined : (ss : List Segment) (t : Segment) → EachIsSegment ss → IsSegment t → EachIsSegment (joined ss t)
each_joined [] t h k = (k, tt)
each_joined (s ∷ []) t h k = by_test (goes_on_in s t) where
  by_test : (b : Bool) → EachIsSegment (cond b (record s { len = s.len + t.len } ∷ []) (s ∷ t ∷ []))
  by_test true = (record { filled = omega (arith, h.0.filled); dissolve = longer_dissolve s.from s.frames s.len t.len h.0.dissolve }, tt)
  by_test false = (h.0, (k, tt))
each_joined (s ∷ u ∷ us) t h k = (h.0, each_joined (u ∷ us) t h.1 k)

pub placed_joined : (at : ℕ) (ss : List Segment) (t : Segment) → ArePlaced at ss → t.at ≡ at + lens_of ss → ArePlaced at (joined ss t)
placed_joined at [] t h e = let here : t.at ≡ at = omega (arith, e) in (here, tt)
placed_joined at (s ∷ []) t h e = by_test (goes_on_in s t) where
  by_test : (b : Bool) → ArePlaced at (cond b (record s { len = s.len + t.len } ∷ []) (s ∷ t ∷ []))
  by_test true = (h.0, tt)
  by_test false = let here : t.at ≡ at + s.len = omega (arith, e) in (h.0, (here, tt))
placed_joined at (s ∷ u ∷ us) t h e =
    let here : t.at ≡ at + s.len + (u.len + lens_of us) = omega (arith, e) in
    (h.0, placed_joined (at + s.len) (u ∷ us) t h.1 here)

pub apart_joined : (ss : List Segment) (t : Segment) → AreApart ss → AreApart (joined ss t)
apart_joined [] t h = tt
apart_joined (s ∷ []) t h = by_test (goes_on_in s t) refl where
  by_test : (b : Bool) → goes_on_in s t ≡ b → AreApart (cond b (record s { len = s.len + t.len } ∷ []) (s ∷ t ∷ []))
  by_test true g = tt
  by_test false g = (g, tt)
apart_joined (s ∷ u ∷ []) t h = by_test (goes_on_in u t) refl where
  by_test : (b : Bool) → goes_on_in u t ≡ b → AreApart (s ∷ cond b (record u { len = u.len + t.len } ∷ []) (u ∷ t ∷ []))
  by_test true g = (h.0, tt)
  by_test false g = (h.0, (g, tt))
apart_joined (s ∷ u ∷ v ∷ vs) t h = (h.0, apart_joined (u ∷ v ∷ vs) t h.1)

pub lens_joined : (ss : List Segment) (t : Segment) → lens_of (joined ss t) ≡ lens_of ss + t.len
lens_joined [] t = omega arith
lens_joined (s ∷ []) t = by_test (goes_on_in s t) where
  by_test : (b : Bool) → lens_of (cond b (record s { len = s.len + t.len } ∷ []) (s ∷ t ∷ [])) ≡ s.len + 0 + t.len
  by_test true = omega arith
  by_test false = omega arith
lens_joined (s ∷ u ∷ us) t = omega (arith, lens_joined (u ∷ us) t)

-- how many frames they have

pub length_in : (from : Option (Side ℕ)) (n : ℕ) (s : Side ℕ) (len : ℕ) → HasDissolve from n len → length (frames_in from n s len) ≡ len
length_in None n s len h = length-from (frame_of s) len
length_in (Some left) n s len h =
    let mixed : List (Frame ℕ) = frames_from (frame.Mix left s 1 (n + 1)) n in
    let behind : List (Frame ℕ) = frames_from (frame_of (later_side s n)) (len - n) in
    omega (arith, length-append mixed behind, length-from (frame.Mix left s 1 (n + 1)) n, length-from (frame_of (later_side s n)) (len - n), h.1)

pub length_segments : (ss : List Segment) → EachIsSegment ss → length (flat_map segment_frames ss) ≡ lens_of ss
length_segments [] h = refl
length_segments (s ∷ ss) h =
    omega (arith, length-append (segment_frames s) (flat_map segment_frames ss), length_in s.from s.frames s.side s.len h.0.dissolve, length_segments ss h.1)

-- the segment of a run

pub single : (at : ℕ) (f : Frame ℕ) (n : ℕ) → is_whole f n ≡ true → segment_frames (segment_of at f n) ≡ frames_from f n
single at frame.Dark n h = refl
single at (frame.Pic w s) n h = refl
single at (frame.Mix l r k d) n h =
    let p = and_parts (eqb k 1) (eqb d (n + 1)) h in
    let none : n - n ≡ 0 = omega arith in
    ap (λ (j : ℕ). frames_from (frame.Mix l r 1 (n + 1)) n ++ frames_from (frame_of (later_side r n)) j) none
    ∙ (append-nil (frames_from (frame.Mix l r 1 (n + 1)) n)
    ∙ (ap (λ (j : ℕ). frames_from (frame.Mix l r j (n + 1)) n) (sym (eqb-true k 1 p.0))
    ∙ ap (λ (j : ℕ). frames_from (frame.Mix l r k j) n) (sym (eqb-true d (n + 1) p.1))))

pub is_segment : (at : ℕ) (f : Frame ℕ) (n : ℕ) → 0 < n → IsSegment (segment_of at f n)
is_segment at frame.Dark n h = record { filled = h; dissolve = refl }
is_segment at (frame.Pic w s) n h = record { filled = h; dissolve = refl }
is_segment at (frame.Mix l r k d) n h = let all : n ≤ n = omega arith in record { filled = h; dissolve = (h, all) }

pub len_single : (at : ℕ) (f : Frame ℕ) (n : ℕ) → (segment_of at f n).len ≡ n
len_single at frame.Dark n = refl
len_single at (frame.Pic w s) n = refl
len_single at (frame.Mix l r k d) n = refl

pub at_single : (at : ℕ) (f : Frame ℕ) (n : ℕ) → (segment_of at f n).at ≡ at
at_single at frame.Dark n = refl
at_single at (frame.Pic w s) n = refl
at_single at (frame.Mix l r k d) n = refl
