-- What the items and gaps of shots show, frame by frame.
use Rattle.std.proofs.Common.{◌≡◌, ℕ, zero, suc, ◌+◌, ◌-◌, ◌<◌, ◌≤◌, Bool, true, false, cond, ◌&&◌, List, [], ◌∷◌, ◌++◌, Option, Some, None, length, get_or, nat_eq, nat_le, nat_lt, if◌then◌else◌, inl, inr, refl, sym, ap, ◌∙◌, arith, append_assoc}
use Rattle.std.proofs.lemmas.Bool.{cases_lt, le-leb, le-ltb, lt-leb, lt-ltb}
use Rattle.std.proofs.lemmas.List.{append-nil, get_or-append_right, get_or_append_left, length-append}
use Rattle.frame_meaning.specs.declared.cells.What.{What}
use Rattle.frame_meaning.specs.declared.cells.Mark.{Mark}
use Rattle.frame_meaning.specs.declared.frames.Side.{Side}
use Rattle.frame_meaning.specs.declared.frames.Side.TheVariants.{Dark, Pic}
use Rattle.frame_meaning.specs.declared.frames.Frame.{Frame}
use Rattle.frame_meaning.specs.declared.frames.Frame.TheVariants as frame
use Rattle.frame_meaning.specs.Cells.{later_side}
use Rattle.frame_meaning.specs.Render.{frame_of}
use Rattle.composables.specs.declared.items.ItemView.{ItemView}
use Rattle.composables.specs.TrackFacts.{first_mark, left_reach}
use Rattle.composables.specs.Views.{earlier_side, gap_view}
use Rattle.composables.proofs.Spans.{later-zero}
use Rattle.dissolves.specs.Pieces.{frames_from, later_frame}
use Rattle.dissolves.specs.Parts.{first_of, frames_shown, head_frames, item_frames, mark_of as mark_in, own_frames, tail_frames}
use Rattle.dissolves.proofs.Behind.{frame-twice, frame-zero, length-frames_from, side-twice}
use Rattle.dissolves.proofs.Whole.{mark-first}
use Rattle.list_import.specs.declared.shots.Shot.{Shot}
use Rattle.list_import.specs.TrackItems.{cut_of, mark_of, number_behind, number_past, shot_views, track_views, view_of, views_by}
use Rattle.list_import.specs.ShotFacts.{AreLaid, HasRoom}
use Rattle.list_import.proofs.ShotRows.{IsCut, cut_facts, views_first}

-- ---- runs of frames

frames_two : (f : Frame What) (a b : ℕ) → frames_from f (a + b) ≡ frames_from f a ++ frames_from (later_frame f a) b
frames_two f zero b =
    let e : 0 + b ≡ b = omega arith in
    ap (frames_from f) e ∙ ap (λ (g : Frame What). frames_from g b) (sym (frame-zero f))
frames_two f (suc a) b =
    let e : suc a + b ≡ suc (a + b) = omega arith in
    let n : 1 + a ≡ suc a = omega arith in
    ap (frames_from f) e
    ∙ (ap (λ (gs : List (Frame What)). f ∷ gs) (frames_two (later_frame f 1) a b)
    ∙ ap (λ (g : Frame What). f ∷ (frames_from (later_frame f 1) a ++ frames_from g b)) (frame-twice f 1 a ∙ ap (later_frame f) n))

pub frames_at : (f : Frame What) (n k : ℕ) (d : Frame What) → k < n → get_or (frames_from f n) k d ≡ later_frame f k
frames_at f zero k d h = absurd (omega (arith, h))
frames_at f (suc n) zero d h = sym (frame-zero f)
frames_at f (suc n) (suc k) d h =
    let e : 1 + k ≡ suc k = omega arith in
    frames_at (later_frame f 1) n k d (omega (arith, h)) ∙ (frame-twice f 1 k ∙ ap (later_frame f) e)

-- ---- the frames of shots

-- a side by itself, or a whole dissolve with the frames of the incoming side behind it
abbrev pub frames_by : Option (Side What) → ℕ → Side What → ℕ → List (Frame What)
frames_by None n side len = frames_from (frame_of side) len
frames_by (Some left) n side len = frames_from (frame.Mix left side 1 (n + 1)) n ++ frames_from (frame_of (later_side side n)) (len - n)

abbrev pub shots_frames : ℕ → List Shot → List (Frame What)
shots_frames at [] = []
shots_frames at (s ∷ ss) = frames_from frame.Dark (s.place - at) ++ (frames_by s.from s.frames s.side s.len ++ shots_frames (s.place + s.len) ss)

-- ---- what views show

no_tail : (v : ItemView) (vs : List ItemView) → first_mark vs ≡ None → tail_frames v (first_of vs) ≡ []
no_tail v [] e = refl
no_tail v (w ∷ ws) e = ap (λ (m : Option Mark). tail_frames v (Some (record w { mark = m }))) e

no_reach : (vs : List ItemView) → first_mark vs ≡ None → left_reach (mark_in (first_of vs)) ≡ 0
no_reach vs e = ap left_reach (mark-first vs ∙ e)

no_head : (before : Option ItemView) (number : ℕ) (side : Side What) (len : ℕ) → head_frames before (view_of number side len None) ≡ []
no_head None number side len = refl
no_head (Some l) number side len = refl

-- an item or gap by itself
alone : (before : Option ItemView) (number : ℕ) (side : Side What) (len : ℕ) (vs : List ItemView) → first_mark vs ≡ None
    → item_frames before (view_of number side len None) (first_of vs) ≡ frames_from (frame_of side) len
alone before number side len vs e =
    let v : ItemView = view_of number side len None in
    let n : len - 0 - 0 ≡ len = omega arith in
    ap (λ (hs : List (Frame What)). (hs ++ own_frames v 0 (left_reach (mark_in (first_of vs)))) ++ tail_frames v (first_of vs)) (no_head before number side len)
    ∙ (ap (λ (k : ℕ). own_frames v 0 k ++ tail_frames v (first_of vs)) (no_reach vs e)
    ∙ (ap (λ (ts : List (Frame What)). own_frames v 0 0 ++ ts) (no_tail v vs e)
    ∙ (append-nil (own_frames v 0 0)
    ∙ (ap (λ (s : Side What). frames_from (frame_of s) (len - 0 - 0)) (later-zero side) ∙ ap (frames_from (frame_of side)) n))))

back : (side : Side What) (n : ℕ) → earlier_side (later_side side n) n ≡ side
back Dark n = refl
back (Pic w s) n = let e : s + n - n ≡ s = omega arith in ap (Pic w) e

none_later : (side : Side What) (n : ℕ) → later_side side (n - n) ≡ side
none_later side n = let e : n - n ≡ 0 = omega arith in ap (later_side side) e ∙ later-zero side

-- the outgoing item: all of it is in the dissolve
outgoing : (before : Option ItemView) (number next n len cut : ℕ) (left side : Side What) → cut ≤ n
    → item_frames before (view_of number left cut None) (Some (view_of next (later_side side cut) (len - cut) (Some (mark_of n cut)))) ≡ frames_from (frame.Mix left side 1 (n + 1)) cut
outgoing before number next n len cut left side short =
    let v : ItemView = view_of number left cut None in
    let r : ItemView = view_of next (later_side side cut) (len - cut) (Some (mark_of n cut)) in
    let none : cut - 0 - cut ≡ 0 = omega arith in
    let den : cut + (n - cut) + 1 ≡ n + 1 = omega (arith, short) in
    ap (λ (hs : List (Frame What)). (hs ++ own_frames v 0 cut) ++ tail_frames v (Some r)) (no_head before number left cut)
    ∙ (ap (λ (k : ℕ). frames_from (frame_of (later_side left 0)) k ++ tail_frames v (Some r)) none
    ∙ (ap (λ (s : Side What). frames_from (frame.Mix s (earlier_side (later_side side cut) cut) 1 (cut + (n - cut) + 1)) cut) (none_later left cut)
    ∙ (ap (λ (s : Side What). frames_from (frame.Mix left s 1 (cut + (n - cut) + 1)) cut) (back side cut)
    ∙ ap (λ (d : ℕ). frames_from (frame.Mix left side 1 d) cut) den)))

-- the incoming item: the rest of the dissolve, and what goes on behind it
incoming : (number next n len cut : ℕ) (left side : Side What) (vs : List ItemView) → cut ≤ n → n ≤ len → first_mark vs ≡ None
    → item_frames (Some (view_of number left cut None)) (view_of next (later_side side cut) (len - cut) (Some (mark_of n cut))) (first_of vs)
    ≡ frames_from (later_frame (frame.Mix left side 1 (n + 1)) cut) (n - cut) ++ frames_from (frame_of (later_side side n)) (len - n)
incoming number next n len cut left side vs short within e =
    let l : ItemView = view_of number left cut None in
    let r : ItemView = view_of next (later_side side cut) (len - cut) (Some (mark_of n cut)) in
    let den : cut + (n - cut) + 1 ≡ n + 1 = omega (arith, short) in
    let num : cut + 1 ≡ 1 + cut = omega arith in
    let whole : cut + (n - cut) ≡ n = omega (arith, short) in
    let rest : len - cut - (n - cut) - 0 ≡ len - n = omega (arith, short, within) in
    let head : List (Frame What) = head_frames (Some l) r in
    let head_is : head ≡ frames_from (later_frame (frame.Mix left side 1 (n + 1)) cut) (n - cut) =
    ap (λ (d : ℕ). frames_from (frame.Mix (later_side left cut) (later_side side cut) (cut + 1) d) (n - cut)) den
    ∙ ap (λ (m : ℕ). frames_from (frame.Mix (later_side left cut) (later_side side cut) m (n + 1)) (n - cut)) num in
    let own_is : own_frames r (n - cut) 0 ≡ frames_from (frame_of (later_side side n)) (len - n) =
    ap (λ (k : ℕ). frames_from (frame_of (later_side (later_side side cut) (n - cut))) k) rest
    ∙ ap (λ (s : Side What). frames_from (frame_of s) (len - n)) (side-twice side cut (n - cut) ∙ ap (later_side side) whole) in
    ap (λ (k : ℕ). (head ++ own_frames r (n - cut) k) ++ tail_frames r (first_of vs)) (no_reach vs e)
    ∙ (ap (λ (ts : List (Frame What)). (head ++ own_frames r (n - cut) 0) ++ ts) (no_tail r vs e)
    ∙ (append-nil (head ++ own_frames r (n - cut) 0)
    ∙ (ap (λ (hs : List (Frame What)). hs ++ own_frames r (n - cut) 0) head_is
    ∙ ap (λ (os : List (Frame What)). frames_from (later_frame (frame.Mix left side 1 (n + 1)) cut) (n - cut) ++ os) own_is)))

-- frames behind a shot are those behind its last view
abbrev last_of : ℕ → Option (Side What) → ℕ → Side What → ℕ → ItemView
last_of number None n side len = view_of number side len None
last_of number (Some left) n side len = view_of (number_past number left) (later_side side (cut_of n len)) (len - cut_of n len) (Some (mark_of n (cut_of n len)))

shot_shown : (media : ℕ) (before : Option ItemView) (number : ℕ) (o : Option (Side What)) (n : ℕ) (side : Side What) (len : ℕ) (vs : List ItemView) → HasRoom media o n side len → first_mark vs ≡ None
    → frames_shown before (views_by number o n side len ++ vs) ≡ frames_by o n side len ++ frames_shown (Some (last_of number o n side len)) vs
shot_shown media before number None n side len vs room e =
    ap (λ (fs : List (Frame What)). fs ++ frames_shown (Some (view_of number side len None)) vs) (alone before number side len vs e)
shot_shown media before number (Some left) n side len vs room e =
    let cut : ℕ = cut_of n len in
    let c : IsCut n len cut = cut_facts n len room.0 room.1 room.2 in
    let next : ℕ = number_past number left in
    let mix : Frame What = frame.Mix left side 1 (n + 1) in
    let rest : List (Frame What) = frames_shown (Some (last_of number (Some left) n side len)) vs in
    let behind : List (Frame What) = frames_from (frame_of (later_side side n)) (len - n) in
    let whole : cut + (n - cut) ≡ n = omega (arith, c.short) in
    let mixes : frames_from mix cut ++ frames_from (later_frame mix cut) (n - cut) ≡ frames_from mix n = sym (frames_two mix cut (n - cut)) ∙ ap (frames_from mix) whole in
    ap (λ (fs : List (Frame What)). fs ++ (item_frames (Some (view_of number left cut None)) (last_of number (Some left) n side len) (first_of vs) ++ rest)) (outgoing before number next n len cut left side c.short)
    ∙ (ap (λ (fs : List (Frame What)). frames_from mix cut ++ (fs ++ rest)) (incoming number next n len cut left side vs c.short room.1 e)
    ∙ (sym (append_assoc (frames_from mix cut) (frames_from (later_frame mix cut) (n - cut) ++ behind) rest)
    ∙ (ap (λ (fs : List (Frame What)). fs ++ rest) (sym (append_assoc (frames_from mix cut) (frames_from (later_frame mix cut) (n - cut)) behind))
    ∙ ap (λ (fs : List (Frame What)). (fs ++ behind) ++ rest) mixes)))

gap_shown : (before : Option ItemView) (n : ℕ) (vs : List ItemView) → first_mark vs ≡ None → (b : Bool) → nat_eq n 0 ≡ b → (frames : List (Frame What)) → ((other : Option ItemView) → frames_shown other vs ≡ frames)
    → frames_shown before (cond b [] (gap_view n ∷ []) ++ vs) ≡ frames_from frame.Dark n ++ frames
gap_shown before n vs e true is frames shown =
    let none : n ≡ 0 = nat_eq_true n is in
    shown before ∙ ap (λ (k : ℕ). frames_from frame.Dark k ++ frames) (sym none)
  where
    nat_eq_true : (n : ℕ) → nat_eq n 0 ≡ true → n ≡ 0
    nat_eq_true n t = grind arith
gap_shown before n vs e false is frames shown =
    ap (λ (fs : List (Frame What)). fs ++ frames_shown (Some (gap_view n)) vs) (alone before 0 Dark n vs e)
    ∙ ap (λ (fs : List (Frame What)). frames_from frame.Dark n ++ fs) (shown (Some (gap_view n)))

pub views_shown : (media : ℕ) (before : Option ItemView) (at number : ℕ) (ss : List Shot) → AreLaid media at ss → frames_shown before (track_views at number ss) ≡ shots_frames at ss
views_shown media before at number [] h = refl
views_shown media before at number (s ∷ ss) h =
    let behind : List ItemView = track_views (s.place + s.len) (number_behind number s) ss in
    let quiet : first_mark behind ≡ None = views_first (s.place + s.len) (number_behind number s) ss in
    let last : ItemView = last_of number s.from s.frames s.side s.len in
    let own : (other : Option ItemView) → frames_shown other (shot_views number s ++ behind) ≡ frames_by s.from s.frames s.side s.len ++ shots_frames (s.place + s.len) ss =
    λ other.
    shot_shown media other number s.from s.frames s.side s.len behind h.0.dissolve quiet
    ∙ ap (λ (fs : List (Frame What)). frames_by s.from s.frames s.side s.len ++ fs) (views_shown media (Some last) (s.place + s.len) (number_behind number s) ss h.1) in
    gap_shown before (s.place - at) (shot_views number s ++ behind) (begins number s.from s.frames s.side s.len behind) (nat_eq (s.place - at) 0) refl
    (frames_by s.from s.frames s.side s.len ++ shots_frames (s.place + s.len) ss) own
  where
    begins : (number : ℕ) (o : Option (Side What)) (n : ℕ) (side : Side What) (len : ℕ) (vs : List ItemView) → first_mark (views_by number o n side len ++ vs) ≡ None
    begins number None n side len vs = refl
    begins number (Some left) n side len vs = refl

-- ---- by their places

-- the frame k of a side by itself, or of a dissolve of n frames from another
abbrev pub frame_k : Option (Side What) → ℕ → Side What → ℕ → Frame What
frame_k None n side k = frame_of (later_side side k)
frame_k (Some left) n side k =
    if nat_lt k n then frame.Mix (later_side left k) (later_side side k) (k + 1) (n + 1) else frame_of (later_side side k)

later_alone : (side : Side What) (k : ℕ) → later_frame (frame_of side) k ≡ frame_of (later_side side k)
later_alone Dark k = refl
later_alone (Pic w s) k = refl

mixed_at : (left side : Side What) (n k : ℕ) → k < n → later_frame (frame.Mix left side 1 (n + 1)) k ≡ frame_k (Some left) n side k
mixed_at left side n k h =
    let low : nat_lt k n ≡ true = lt-ltb k n h in
    let num : 1 + k ≡ k + 1 = omega arith in
    rw low (ap (λ (m : ℕ). frame.Mix (later_side left k) (later_side side k) m (n + 1)) num)

behind_at : (left side : Side What) (n k : ℕ) → n ≤ k → later_frame (frame_of (later_side side n)) (k - n) ≡ frame_k (Some left) n side k
behind_at left side n k h =
    let high : nat_lt k n ≡ false = le-ltb k n h in
    let e : n + (k - n) ≡ k = omega (arith, h) in
    rw high (later_alone (later_side side n) (k - n) ∙ ap (λ (s : Side What). frame_of s) (side-twice side n (k - n) ∙ ap (later_side side) e))

frame_at : (media : ℕ) (o : Option (Side What)) (n : ℕ) (side : Side What) (len k : ℕ) (d : Frame What) → HasRoom media o n side len → k < len → get_or (frames_by o n side len) k d ≡ frame_k o n side k
frame_at media None n side len k d room low = frames_at (frame_of side) len k d low ∙ later_alone side k
frame_at media (Some left) n side len k d room low =
    let mixed : List (Frame What) = frames_from (frame.Mix left side 1 (n + 1)) n in
    let behind : List (Frame What) = frames_from (frame_of (later_side side n)) (len - n) in
    let count : length mixed ≡ n = length-frames_from (frame.Mix left side 1 (n + 1)) n in
    elim (cases_lt k n) [
      | inl in_mix ↦ get_or_append_left mixed behind d k (omega (arith, count, in_mix)) ∙ (frames_at (frame.Mix left side 1 (n + 1)) n k d in_mix ∙ mixed_at left side n k in_mix)
      | inr past ↦ get_or-append_right mixed behind n k d count past ∙ (frames_at (frame_of (later_side side n)) (len - n) (k - n) d (omega (arith, past, low)) ∙ behind_at left side n k past)
    ]

length_by : (media : ℕ) (o : Option (Side What)) (n : ℕ) (side : Side What) (len : ℕ) → HasRoom media o n side len → length (frames_by o n side len) ≡ len
length_by media None n side len room = length-frames_from (frame_of side) len
length_by media (Some left) n side len room =
    let mixed : List (Frame What) = frames_from (frame.Mix left side 1 (n + 1)) n in
    let behind : List (Frame What) = frames_from (frame_of (later_side side n)) (len - n) in
    omega (arith, length-append mixed behind, length-frames_from (frame.Mix left side 1 (n + 1)) n, length-frames_from (frame_of (later_side side n)) (len - n), room.1)

-- a shot is at a record frame
abbrev pub lasts : Shot → ℕ → Bool
lasts s q = nat_le s.place q && nat_lt q (s.place + s.len)

abbrev pub strip_at : List Shot → ℕ → Frame What
strip_at [] q = frame.Dark
strip_at (s ∷ ss) q = if lasts s q then frame_k s.from s.frames s.side (q - s.place) else strip_at ss q

strip_before : (media at : ℕ) (ss : List Shot) (q : ℕ) → AreLaid media at ss → q < at → strip_at ss q ≡ frame.Dark
strip_before media at [] q h low = refl
strip_before media at (s ∷ ss) q h low =
    let early : nat_le s.place q ≡ false = lt-leb s.place q (omega (arith, h.0.begins, low)) in
    rw early (strip_before media (s.place + s.len) ss q h.1 (omega (arith, h.0.begins, low)))

dark_at : (n k : ℕ) → k < n → get_or (frames_from {W = What} frame.Dark n) k frame.Dark ≡ frame.Dark
dark_at n k h = frames_at frame.Dark n k frame.Dark h

pub strip_is : (media at : ℕ) (ss : List Shot) (q : ℕ) → AreLaid media at ss → at ≤ q → get_or (shots_frames at ss) (q - at) frame.Dark ≡ strip_at ss q
strip_is media at [] q h le = refl
strip_is media at (s ∷ ss) q h le =
    let gap : List (Frame What) = frames_from frame.Dark (s.place - at) in
    let own : List (Frame What) = frames_by s.from s.frames s.side s.len in
    let rest : List (Frame What) = shots_frames (s.place + s.len) ss in
    let gap_len : length gap ≡ s.place - at = length-frames_from frame.Dark (s.place - at) in
    let own_len : length own ≡ s.len = length_by media s.from s.frames s.side s.len h.0.dissolve in
    elim (cases_lt q s.place) [
      | inl early ↦
          let not_yet : nat_le s.place q ≡ false = lt-leb s.place q early in
          get_or_append_left gap (own ++ rest) frame.Dark (q - at) (omega (arith, gap_len, early, le))
          ∙ (dark_at (s.place - at) (q - at) (omega (arith, early, le))
          ∙ rw not_yet (sym (strip_before media (s.place + s.len) ss q h.1 (omega (arith, early)))))
      | inr begun ↦
          let yes : nat_le s.place q ≡ true = le-leb s.place q begun in
          let k : q - at - (s.place - at) ≡ q - s.place = omega (arith, begun, h.0.begins) in
          let past_gap : get_or (gap ++ (own ++ rest)) (q - at) frame.Dark ≡ get_or (own ++ rest) (q - s.place) frame.Dark =
          get_or-append_right gap (own ++ rest) (s.place - at) (q - at) frame.Dark gap_len (omega (arith, begun)) ∙ ap (λ (i : ℕ). get_or (own ++ rest) i frame.Dark) k in
          elim (cases_lt q (s.place + s.len)) [
            | inl within ↦
                let in_time : nat_lt q (s.place + s.len) ≡ true = lt-ltb q (s.place + s.len) within in
                past_gap
                ∙ (get_or_append_left own rest frame.Dark (q - s.place) (omega (arith, own_len, within, begun))
                ∙ rw (yes, in_time) (frame_at media s.from s.frames s.side s.len (q - s.place) frame.Dark h.0.dissolve (omega (arith, within, begun, h.0.filled))))
            | inr ended ↦
                let over : nat_lt q (s.place + s.len) ≡ false = le-ltb q (s.place + s.len) ended in
                let i : q - s.place - s.len ≡ q - (s.place + s.len) = omega arith in
                past_gap
                ∙ (get_or-append_right own rest s.len (q - s.place) frame.Dark own_len (omega (arith, ended))
                ∙ (ap (λ (j : ℕ). get_or rest j frame.Dark) i ∙ rw (yes, over) (strip_is media (s.place + s.len) ss q h.1 ended)))
          ]
    ]
