-- The frames of an event, as pieces.
use Rattle.std.proofs.Common.{◌≡◌, ℕ, zero, suc, ◌+◌, ◌-◌, ◌<◌, ◌≤◌, Bool, cond, List, ◌∷◌, ◌++◌, Option, Some, None, map, refl, sym, ap, ◌∙◌, arith}
use Rattle.std.specs.List.{range_with_len}
use Rattle.std.proofs.lemmas.Bool.{lt-ltb, le-ltb}
use Rattle.frame_meaning.specs.declared.frames.Side.{Side}
use Rattle.frame_meaning.specs.declared.frames.Side.TheVariants as side
use Rattle.frame_meaning.specs.declared.frames.Frame.{Frame}
use Rattle.frame_meaning.specs.declared.frames.Frame.TheVariants.{Dark, Pic, Mix}
use Rattle.frame_meaning.specs.Cells.{later_side, next_side}
use Rattle.frame_meaning.specs.Render.{frame_of}
use Rattle.frame_meaning.specs.RunFrames.{next_frame, frames_from, later_frame}
use Rattle.edl_events.specs.declared.event.Event.{Event}
use Rattle.edl_events.specs.declared.event.FromLine.{FromLine}
use Rattle.edl_events.specs.Events.{IsDissolve, IsEvent}
use Rattle.edl_events.specs.Tape.{event_frame, frame_in, side_of}
use Rattle.edl_read.specs.Pieces.{IsEven, event_frames}

-- ---- lists of frames by their places

pub even_frames : (g : ℕ → Frame (List ℕ)) (at n : ℕ) (f : Frame (List ℕ)) → ((k : ℕ) → k < n → g (at + k) ≡ later_frame f k) → map g (range_with_len at n) ≡ frames_from f n
even_frames g at zero f h = refl
even_frames g at (suc n) f h =
    let here : at ≡ at + 0 = omega arith in
    let first : g at ≡ f = ap g here ∙ h 0 (omega arith) in
    let more : map g (range_with_len (at + 1) n) ≡ frames_from (next_frame f) n =
    even_frames g (at + 1) n (next_frame f) (λ k low. let e : at + 1 + k ≡ at + suc k = omega arith in ap g e ∙ h (suc k) (omega (arith, low))) in
    ap (λ (x : Frame (List ℕ)). x ∷ map g (range_with_len (at + 1) n)) first ∙ ap (λ (fs : List (Frame (List ℕ))). f ∷ fs) more

pub same_frames : (g h : ℕ → Frame (List ℕ)) (a b n : ℕ) → ((k : ℕ) → k < n → g (a + k) ≡ h (b + k)) → map g (range_with_len a n) ≡ map h (range_with_len b n)
same_frames g h a b zero same = refl
same_frames g h a b (suc n) same =
    let x : a ≡ a + 0 = omega arith in
    let y : b + 0 ≡ b = omega arith in
    let first : g a ≡ h b = ap g x ∙ (same 0 (omega arith) ∙ ap h y) in
    let more : map g (range_with_len (a + 1) n) ≡ map h (range_with_len (b + 1) n) =
    same_frames g h (a + 1) (b + 1) n (λ k low.
    let p : a + 1 + k ≡ a + suc k = omega arith in
    let q : b + suc k ≡ b + 1 + k = omega arith in
    ap g p ∙ (same (suc k) (omega (arith, low)) ∙ ap h q)) in
    ap (λ (f : Frame (List ℕ)). f ∷ map g (range_with_len (a + 1) n)) first ∙ ap (λ (fs : List (Frame (List ℕ))). h b ∷ fs) more

pub two_ranges : (g : ℕ → Frame (List ℕ)) (at m n : ℕ) → map g (range_with_len at (m + n)) ≡ map g (range_with_len at m) ++ map g (range_with_len (at + m) n)
two_ranges g at zero n =
    let e : 0 + n ≡ n = omega arith in
    let p : at ≡ at + 0 = omega arith in
    ap (λ (k : ℕ). map g (range_with_len at k)) e ∙ ap (λ (k : ℕ). map g (range_with_len k n)) p
two_ranges g at (suc m) n =
    let e : suc m + n ≡ suc (m + n) = omega arith in
    let p : at + 1 + m ≡ at + suc m = omega arith in
    ap (λ (k : ℕ). map g (range_with_len at k)) e
    ∙ (ap (λ (fs : List (Frame (List ℕ))). g at ∷ fs) (two_ranges g (at + 1) m n)
    ∙ ap (λ (k : ℕ). g at ∷ (map g (range_with_len (at + 1) m) ++ map g (range_with_len k n))) p)

-- ---- what is shown some frames later

pub dark_later : (k : ℕ) → ◌≡◌ {A = Frame (List ℕ)} (later_frame Dark k) Dark
dark_later zero = refl
dark_later (suc k) = dark_later k

side_none : (s : Side (List ℕ)) → later_side s 0 ≡ s
side_none side.Dark = refl
side_none (side.Pic w s) = let e : s + 0 ≡ s = omega arith in ap (side.Pic w) e

side_next : (s : Side (List ℕ)) (k : ℕ) → later_side (next_side s) k ≡ later_side s (suc k)
side_next side.Dark k = refl
side_next (side.Pic w s) k = let e : s + 1 + k ≡ s + suc k = omega arith in ap (side.Pic w) e

pub pic_later : (w : List ℕ) (s k : ℕ) → later_frame (Pic w s) k ≡ Pic w (s + k)
pic_later w s zero = let e : s ≡ s + 0 = omega arith in ap (λ (n : ℕ). Pic w n) e
pic_later w s (suc k) = let e : s + 1 + k ≡ s + suc k = omega arith in pic_later w (s + 1) k ∙ ap (λ (n : ℕ). Pic w n) e

mix_later : (l r : Side (List ℕ)) (n d k : ℕ) → later_frame (Mix l r n d) k ≡ Mix (later_side l k) (later_side r k) (n + k) d
mix_later l r n d zero =
    let e : n ≡ n + 0 = omega arith in
    ap (λ (s : Side (List ℕ)). Mix s r n d) (sym (side_none l))
    ∙ (ap (λ (s : Side (List ℕ)). Mix (later_side l 0) s n d) (sym (side_none r)) ∙ ap (λ (m : ℕ). Mix (later_side l 0) (later_side r 0) m d) e)
mix_later l r n d (suc k) =
    let e : n + 1 + k ≡ n + suc k = omega arith in
    mix_later (next_side l) (next_side r) (n + 1) d k
    ∙ (ap (λ (s : Side (List ℕ)). Mix s (later_side (next_side r) k) (n + 1 + k) d) (side_next l k)
    ∙ (ap (λ (s : Side (List ℕ)). Mix (later_side l (suc k)) s (n + 1 + k) d) (side_next r k)
    ∙ ap (λ (m : ℕ). Mix (later_side l (suc k)) (later_side r (suc k)) m d) e))

side_more : (s : Side (List ℕ)) (m k : ℕ) → later_side (later_side s m) k ≡ later_side s (m + k)
side_more side.Dark m k = refl
side_more (side.Pic w s) m k = let e : s + m + k ≡ s + (m + k) = omega arith in ap (side.Pic w) e

alone_later : (s : Side (List ℕ)) (m k : ℕ) → frame_of (later_side s (m + k)) ≡ later_frame (frame_of (later_side s m)) k
alone_later side.Dark m k = sym (dark_later k)
alone_later (side.Pic w s) m k = let e : s + (m + k) ≡ s + m + k = omega arith in ap (λ (n : ℕ). Pic w n) e ∙ sym (pic_later w (s + m) k)

-- ---- the two parts of an event

mixed_at : (from : FromLine) (n : ℕ) (s : Side (List ℕ)) (k : ℕ) → k < n → frame_in (Some from) n s k ≡ Mix (later_side (side_of from.reel from.source) k) (later_side s k) (k + 1) (n + 1)
mixed_at from n s k h =
    ap (λ (b : Bool). cond b (Mix (later_side (side_of from.reel from.source) k) (later_side s k) (k + 1) (n + 1)) (frame_of (later_side s k))) (lt-ltb k n h)

behind_at : (o : Option FromLine) (n : ℕ) (s : Side (List ℕ)) (k : ℕ) → n ≤ k → frame_in o n s k ≡ frame_of (later_side s k)
behind_at None n s k h = refl
behind_at (Some from) n s k h =
    ap (λ (b : Bool). cond b (Mix (later_side (side_of from.reel from.source) k) (later_side s k) (k + 1) (n + 1)) (frame_of (later_side s k))) (le-ltb k n h)

mixed_even : (o : Option FromLine) (n len : ℕ) (s : Side (List ℕ)) (k : ℕ) → IsDissolve o n len → k < n → frame_in o n s k ≡ later_frame (frame_in o n s 0) k
mixed_even None n len s k h low = absurd (omega (arith, h, low))
mixed_even (Some from) n len s k h low =
    let l : Side (List ℕ) = side_of from.reel from.source in
    let num : k + 1 ≡ 0 + 1 + k = omega arith in
    let zero_l : later_side (later_side l 0) k ≡ later_side l k = ap (λ (x : Side (List ℕ)). later_side x k) (side_none l) in
    let zero_s : later_side (later_side s 0) k ≡ later_side s k = ap (λ (x : Side (List ℕ)). later_side x k) (side_none s) in
    mixed_at from n s k low
    ∙ (ap (λ (m : ℕ). Mix (later_side l k) (later_side s k) m (n + 1)) num
    ∙ (ap (λ (x : Side (List ℕ)). Mix x (later_side s k) (0 + 1 + k) (n + 1)) (sym zero_l)
    ∙ (ap (λ (x : Side (List ℕ)). Mix (later_side (later_side l 0) k) x (0 + 1 + k) (n + 1)) (sym zero_s)
    ∙ (sym (mix_later (later_side l 0) (later_side s 0) (0 + 1) (n + 1) k)
    ∙ ap (λ (f : Frame (List ℕ)). later_frame f k) (sym (mixed_at from n s 0 (omega (arith, low))))))))

pub dissolve_is_even : (e : Event) → IsEvent e → IsEven e 0 e.frames
dissolve_is_even e h k low =
    let p : 0 + k ≡ k = omega arith in
    let within : k < e.frames = omega (arith, low) in
    ap (event_frame e) p ∙ mixed_even e.from e.frames e.len (side_of e.reel e.source) k h.dissolve within

pub rest_is_even : (e : Event) (to : ℕ) → IsEven e e.frames to
rest_is_even e to k low =
    let s : Side (List ℕ) = side_of e.reel e.source in
    behind_at e.from e.frames s (e.frames + k) (omega arith)
    ∙ (alone_later s e.frames k ∙ ap (λ (f : Frame (List ℕ)). later_frame f k) (sym (behind_at e.from e.frames s e.frames (omega arith))))

pub not_longer : (o : Option FromLine) (n len : ℕ) → IsDissolve o n len → n ≤ len
not_longer None n len h = omega (arith, h)
not_longer (Some from) n len h = h.1

part_frames : (e : Event) (from n : ℕ) → IsEven e from (from + n) → map (event_frame e) (range_with_len from n) ≡ frames_from (event_frame e from) n
part_frames e from n h = even_frames (event_frame e) from n (event_frame e from) (λ k low. h k (omega (arith, low)))

pub two_parts : (e : Event) → IsEvent e → event_frames e ≡ frames_from (event_frame e 0) (e.frames - 0) ++ frames_from (event_frame e e.frames) (e.len - e.frames)
two_parts e h =
    let low : e.frames ≤ e.len = not_longer e.from e.frames e.len h.dissolve in
    let whole : e.len ≡ e.frames + (e.len - e.frames) = omega (arith, low) in
    let none : e.frames ≡ e.frames - 0 = omega arith in
    let begun : 0 + e.frames ≡ e.frames = omega arith in
    let first : map (event_frame e) (range_with_len 0 e.frames) ≡ frames_from (event_frame e 0) (e.frames - 0) =
    even_frames (event_frame e) 0 e.frames (event_frame e 0) (λ k l. dissolve_is_even e h k (omega (arith, l))) ∙ ap (frames_from (event_frame e 0)) none in
    ap (λ (n : ℕ). map (event_frame e) (range_with_len 0 n)) whole
    ∙ (two_ranges (event_frame e) 0 e.frames (e.len - e.frames)
    ∙ (ap (λ (fs : List (Frame (List ℕ))). fs ++ map (event_frame e) (range_with_len (0 + e.frames) (e.len - e.frames))) first
    ∙ ap (λ (fs : List (Frame (List ℕ))). frames_from (event_frame e 0) (e.frames - 0) ++ fs)
    (ap (λ (k : ℕ). map (event_frame e) (range_with_len k (e.len - e.frames))) begun ∙ part_frames e e.frames (e.len - e.frames) (rest_is_even e (e.frames + (e.len - e.frames))))))
