-- The frames of a channel, one by one, from its segments.
use Rattle.std.proofs.Common.{◌≡◌, ℕ, zero, suc, ◌+◌, ◌-◌, ◌<◌, ◌≤◌, Bool, true, false, cond, not, ◌&&◌, List, [], ◌∷◌, Option, Some, None, length, get_or, nat_le, nat_lt, if◌then◌else◌, inl, inr, refl, sym, ap, ◌∙◌, arith}
use Rattle.std.proofs.lemmas.Bool.{cases_Bool, cases_lt, and_parts, le-leb, lt-leb, le-ltb, lt-ltb, ltb-true}
use Rattle.std.proofs.lemmas.List.{get_or_append_left, get_or-append_right}
use Rattle.std.specs.List.{flat_map}
use Rattle.frame_meaning.specs.declared.frames.Side.{Side}
use Rattle.frame_meaning.specs.declared.frames.Side.TheVariants as side
use Rattle.frame_meaning.specs.declared.frames.Frame.{Frame}
use Rattle.frame_meaning.specs.declared.frames.Frame.TheVariants as frame
use Rattle.frame_meaning.specs.Cells.{later_side}
use Rattle.frame_meaning.specs.Render.{frame_of}
use Rattle.frame_meaning.specs.RunFrames.{next_frame, frames_from}
use Rattle.dissolves.specs.Pieces.{later_frame}
use Rattle.flatten.specs.declared.cutting.Segment.{Segment}
use Rattle.flatten.specs.Segments.{ArePlaced, EachIsSegment, HasDissolve, frames_in, segment_frames}
use Rattle.flatten.proofs.Moving.{further, length-from, same_frame}
use Rattle.flatten.proofs.Segmenting.{later_is, later_twice, length_in}
use Rattle.edl_write.specs.Order.{is_dark, is_dark_in, shown}

frames_at : (f : Frame ℕ) (n k : ℕ) (d : Frame ℕ) → k < n → get_or (frames_from f n) k d ≡ later_frame f k
frames_at f zero k d h = absurd (omega arith)
frames_at f (suc n) zero d h = sym (same_frame f)
frames_at f (suc n) (suc k) d h = frames_at (next_frame f) n k d (omega arith) ∙ further f k

-- frame k of what begins at a cut, or of a dissolve of n frames from a side
abbrev pub frame_k : Option (Side ℕ) → ℕ → Side ℕ → ℕ → Frame ℕ
frame_k None n s k = frame_of (later_side s k)
frame_k (Some left) n s k =
    if nat_lt k n then frame.Mix (later_side left k) (later_side s k) (k + 1) (n + 1) else frame_of (later_side s k)

mix_at : (left s : Side ℕ) (n k : ℕ) → k < n → later_frame (frame.Mix left s 1 (n + 1)) k ≡ frame_k (Some left) n s k
mix_at left s n k h =
    let low : nat_lt k n ≡ true = lt-ltb k n h in
    let num : 1 + k ≡ k + 1 = omega arith in
    rw low (ap (λ (m : ℕ). frame.Mix (later_side left k) (later_side s k) m (n + 1)) num)

behind_at : (left s : Side ℕ) (n k : ℕ) → n ≤ k → later_frame (frame_of (later_side s n)) (k - n) ≡ frame_k (Some left) n s k
behind_at left s n k h = let high : nat_lt k n ≡ false = le-ltb k n h in rw high (later_twice s n k h ∙ sym (later_is s k))

frame_at : (from : Option (Side ℕ)) (n : ℕ) (s : Side ℕ) (len k : ℕ) (d : Frame ℕ) → HasDissolve from n len → k < len → get_or (frames_in from n s len) k d ≡ frame_k from n s k
frame_at None n s len k d h lt = frames_at (frame_of s) len k d lt ∙ sym (later_is s k)
frame_at (Some left) n s len k d h lt =
    let mixed : List (Frame ℕ) = frames_from (frame.Mix left s 1 (n + 1)) n in
    let behind : List (Frame ℕ) = frames_from (frame_of (later_side s n)) (len - n) in
    let count : length mixed ≡ n = length-from (frame.Mix left s 1 (n + 1)) n in
    elim (cases_lt k n) [
      | inl low ↦ get_or_append_left mixed behind d k (omega (arith, count, low)) ∙ (frames_at (frame.Mix left s 1 (n + 1)) n k d low ∙ mix_at left s n k low)
      | inr high ↦ get_or-append_right mixed behind n k d count high ∙ (frames_at (frame_of (later_side s n)) (len - n) (k - n) d (omega (arith, high, lt)) ∙ behind_at left s n k high)
    ]

-- ---- what the segments of a channel show at a place

abbrev pub lasts : Segment → ℕ → Bool
lasts s q = nat_le s.at q && nat_lt q (s.at + s.len)

abbrev pub frame_in_segment : Segment → ℕ → Frame ℕ
frame_in_segment s k = frame_k s.from s.frames s.side k

abbrev pub strip_at : List Segment → ℕ → Frame ℕ
strip_at [] q = frame.Dark
strip_at (s ∷ ss) q = if lasts s q then frame_in_segment s (q - s.at) else strip_at ss q

strip_before : (at : ℕ) (ss : List Segment) (q : ℕ) → ArePlaced at ss → q < at → strip_at ss q ≡ frame.Dark
strip_before at [] q h lt = refl
strip_before at (s ∷ ss) q h lt =
    let early : nat_le s.at q ≡ false = lt-leb s.at q (omega (arith, h.0, lt)) in
    rw early (strip_before (at + s.len) ss q h.1 (omega (arith, lt)))

-- they show the frames that they are
strip_is : (at : ℕ) (ss : List Segment) (q : ℕ) → ArePlaced at ss → EachIsSegment ss → at ≤ q → strip_at ss q ≡ get_or (flat_map segment_frames ss) (q - at) frame.Dark
strip_is at [] q h e le = refl
strip_is at (s ∷ ss) q h e le =
    let own : List (Frame ℕ) = segment_frames s in
    let rest : List (Frame ℕ) = flat_map segment_frames ss in
    let count : length own ≡ s.len = length_in s.from s.frames s.side s.len e.0.dissolve in
    let begun : nat_le s.at q ≡ true = le-leb s.at q (omega (arith, h.0, le)) in
    let place : q - s.at ≡ q - at = omega (arith, h.0, le) in
    elim (cases_lt q (at + s.len)) [
      | inl low ↦
          let within : nat_lt q (s.at + s.len) ≡ true = lt-ltb q (s.at + s.len) (omega (arith, h.0, low)) in
          rw (begun, within) (ap (frame_in_segment s) place
          ∙ (sym (frame_at s.from s.frames s.side s.len (q - at) frame.Dark e.0.dissolve (omega (arith, low, le)))
          ∙ sym (get_or_append_left own rest frame.Dark (q - at) (omega (arith, count, low, le)))))
      | inr high ↦
          let past : nat_lt q (s.at + s.len) ≡ false = le-ltb q (s.at + s.len) (omega (arith, h.0, high)) in
          let left : q - (at + s.len) ≡ q - at - s.len = omega arith in
          rw (begun, past) (strip_is (at + s.len) ss q h.1 e.1 high
          ∙ (ap (λ (i : ℕ). get_or rest i frame.Dark) left ∙ sym (get_or-append_right own rest s.len (q - at) frame.Dark count (omega (arith, high)))))
    ]

pub channel_is : (ss : List Segment) (q : ℕ) → ArePlaced 0 ss → EachIsSegment ss → strip_at ss q ≡ get_or (flat_map segment_frames ss) q frame.Dark
channel_is ss q h e =
    let whole : q - 0 ≡ q = omega arith in
    strip_is 0 ss q h e (omega arith) ∙ ap (λ (i : ℕ). get_or (flat_map segment_frames ss) i frame.Dark) whole

-- ---- dark segments may be left out

dark_k : (from : Option (Side ℕ)) (n : ℕ) (s : Side ℕ) (k : ℕ) → is_dark_in from s ≡ true → frame_k from n s k ≡ frame.Dark
dark_k None n side.Dark k h = refl
dark_k None n (side.Pic reel source) k h = absurd cc
dark_k (Some left) n s k h = absurd cc

dark_covered : (at : ℕ) (s : Segment) (ss : List Segment) (q : ℕ) → ArePlaced at (s ∷ ss) → is_dark s ≡ true → strip_at ss q ≡ strip_at (s ∷ ss) q
dark_covered at s ss q h dark =
    elim (cases_Bool (lasts s q)) [
      | inl t ↦
          let both = and_parts (nat_le s.at q) (nat_lt q (s.at + s.len)) t in
          let low : q < at + s.len = omega (arith, h.0, ltb-true q (s.at + s.len) both.1) in
          rw t (strip_before (at + s.len) ss q h.1 low ∙ sym (dark_k s.from s.frames s.side (q - s.at) dark))
      | inr t ↦ rw t refl
    ]

pub shown_strip : (at : ℕ) (ss : List Segment) (q : ℕ) → ArePlaced at ss → strip_at (shown ss) q ≡ strip_at ss q
shown_strip at [] q h = refl
shown_strip at (s ∷ ss) q h =
    let rest = shown_strip (at + s.len) ss q h.1 in
    elim (cases_Bool (is_dark s)) [
      | inl dark ↦ ap (λ (b : Bool). strip_at (cond (not b) (s ∷ shown ss) (shown ss)) q) dark ∙ (rest ∙ dark_covered at s ss q h dark)
      | inr light ↦ ap (λ (b : Bool). strip_at (cond (not b) (s ∷ shown ss) (shown ss)) q) light ∙ ap (λ (f : Frame ℕ). cond (lasts s q) (frame_in_segment s (q - s.at)) f) rest
    ]
