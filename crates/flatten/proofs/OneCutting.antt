-- A channel has one cutting into segments.
use Rattle.std.proofs.Common.{◌≡◌, ℕ, zero, suc, ◌+◌, ◌-◌, ◌<◌, ◌≤◌, Bool, true, false, ltb, nat_eq, List, [], ◌∷◌, ◌++◌, Option, Some, None, length, get_or, refl, sym, ap, ◌∙◌, arith, subst, append_assoc}
use Rattle.std.proofs.lemmas.Bool.{ltb-true, ltb-false}
use Rattle.std.proofs.lemmas.List.{append_cancel_left, length-append}
use Rattle.std.specs.List.{flat_map}
use Rattle.frame_meaning.specs.declared.frames.Side.{Side}
use Rattle.frame_meaning.specs.declared.frames.Side.TheVariants as side
use Rattle.frame_meaning.specs.declared.frames.Frame.{Frame}
use Rattle.frame_meaning.specs.declared.frames.Frame.TheVariants as frame
use Rattle.frame_meaning.specs.Cells.{later_side}
use Rattle.frame_meaning.specs.Going.{frame_goes_on}
use Rattle.frame_meaning.specs.Render.{frame_of}
use Rattle.frame_meaning.specs.RunFrames.{next_frame, frames_from}
use Rattle.dissolves.specs.Pieces.{later_frame}
use Rattle.flatten.specs.declared.cutting.Segment.{Segment}
use Rattle.flatten.specs.Segments.{AreApart, ArePlaced, AreSegments, EachIsSegment, HasDissolve, IsSegment, first_shown, frames_in, goes_on_in, segment_frames}
use Rattle.flatten.proofs.Joining.{frame_goes}
use Rattle.flatten.proofs.Moving.{further, same_frame, then_next}
use Rattle.flatten.proofs.Segmenting.{later_is, later_twice, length_in}

clash : {A : Type 0} → true ≡ false → A
clash h = absurd cc

-- what stands at a place of frames

get_from : (f : Frame ℕ) (n k : ℕ) (rest : List (Frame ℕ)) (d : Frame ℕ) → k < n → get_or (frames_from f n ++ rest) k d ≡ later_frame f k
get_from f zero k rest d h = absurd (omega arith)
get_from f (suc n) zero rest d h = sym (same_frame f)
get_from f (suc n) (suc k) rest d h = get_from (next_frame f) n k rest d (omega arith) ∙ further f k

get_past : (f : Frame ℕ) (n k : ℕ) (rest : List (Frame ℕ)) (d : Frame ℕ) → n ≤ k → get_or (frames_from f n ++ rest) k d ≡ get_or rest (k - n) d
get_past f zero k rest d h = let e : k ≡ k - 0 = omega arith in ap (λ (m : ℕ). get_or rest m d) e
get_past f (suc n) zero rest d h = absurd (omega arith)
get_past f (suc n) (suc k) rest d h =
    let e : k - n ≡ suc k - suc n = omega arith in
    get_past (next_frame f) n k rest d (omega arith) ∙ ap (λ (m : ℕ). get_or rest m d) e

get_behind : (xs ys : List (Frame ℕ)) (d : Frame ℕ) → get_or (xs ++ ys) (length xs) d ≡ get_or ys 0 d
get_behind [] ys d = refl
get_behind (x ∷ xs) ys d = get_behind xs ys d

first_in : (from : Option (Side ℕ)) (n : ℕ) (s : Side ℕ) (len : ℕ) (rest : List (Frame ℕ)) (d : Frame ℕ) → 0 < len → HasDissolve from n len → get_or (frames_in from n s len ++ rest) 0 d ≡ first_shown from n s
first_in None n s zero rest d h k = absurd (omega arith)
first_in None n s (suc len) rest d h k = refl
first_in (Some left) zero s len rest d h k = absurd (omega (arith, k.0))
first_in (Some left) (suc n) s len rest d h k = refl

-- a segment's side goes on past its length
later_in : (from : Option (Side ℕ)) (n : ℕ) (s : Side ℕ) (k len : ℕ) (rest : List (Frame ℕ)) (d : Frame ℕ) → HasDissolve from n k → k < len
    → get_or (frames_in from n s len ++ rest) k d ≡ frame_of (later_side s k)
later_in None n s k len rest d h l = get_from (frame_of s) len k rest d l ∙ sym (later_is s k)
later_in (Some left) n s k len rest d h l =
    let mix : Frame ℕ = frame.Mix left s 1 (n + 1) in
    let behind : Frame ℕ = frame_of (later_side s n) in
    let less : k - n < len - n = omega (arith, h.1, l) in
    ap (λ (fs : List (Frame ℕ)). get_or fs k d) (append_assoc (frames_from mix n) (frames_from behind (len - n)) rest)
    ∙ (get_past mix n k (frames_from behind (len - n) ++ rest) d h.1
    ∙ (get_from behind (len - n) (k - n) rest d less
    ∙ (later_twice s n k h.1 ∙ sym (later_is s k))))

goes_later : (s : Side ℕ) (len : ℕ) → 0 < len → frame_goes_on nat_eq (frame_of (later_side s (len - 1))) (frame_of (later_side s len)) ≡ true
goes_later s len h =
    let e : suc (len - 1) ≡ len = omega (arith, h) in
    let last : Frame ℕ = frame_of (later_side s (len - 1)) in
    let next : next_frame last ≡ frame_of (later_side s len) =
    ap next_frame (later_is s (len - 1)) ∙ (then_next (frame_of s) (len - 1) ∙ (ap (later_frame (frame_of s)) e ∙ sym (later_is s len))) in
    ap (frame_goes_on nat_eq last) (sym next) ∙ frame_goes last

-- none is longer than another that begins as it does

length_one : (s : Segment) → IsSegment s → length (segment_frames s) ≡ s.len
length_one s h = length_in s.from s.frames s.side s.len h.dissolve

first_of : (s : Segment) (rest : List (Frame ℕ)) (d : Frame ℕ) → IsSegment s → get_or (segment_frames s ++ rest) 0 d ≡ first_shown s.from s.frames s.side
first_of s rest d h = first_in s.from s.frames s.side s.len rest d h.filled h.dissolve

next_goes_on : (s u : Segment) (len : ℕ) (us rest : List (Frame ℕ)) → IsSegment s → IsSegment u → s.len < len
    → segment_frames s ++ (segment_frames u ++ us) ≡ frames_in s.from s.frames s.side len ++ rest → goes_on_in s u ≡ true
next_goes_on s u len us rest h k l same =
    let d : Frame ℕ = frame.Dark in
    let at : get_or (segment_frames s ++ (segment_frames u ++ us)) s.len d ≡ first_shown u.from u.frames u.side =
    ap (λ (n : ℕ). get_or (segment_frames s ++ (segment_frames u ++ us)) n d) (sym (length_one s h)) ∙ (get_behind (segment_frames s) (segment_frames u ++ us) d ∙ first_of u us d k) in
    let is : first_shown u.from u.frames u.side ≡ frame_of (later_side s.side s.len) =
    sym at ∙ (ap (λ (fs : List (Frame ℕ)). get_or fs s.len d) same ∙ later_in s.from s.frames s.side s.len len rest d h.dissolve l) in
    ap (frame_goes_on nat_eq (frame_of (later_side s.side (s.len - 1)))) is ∙ goes_later s.side s.len h.filled

not_longer : (s : Segment) (ss : List Segment) (len : ℕ) (rest : List (Frame ℕ)) → IsSegment s → EachIsSegment ss → AreApart (s ∷ ss) → HasDissolve s.from s.frames len
    → segment_frames s ++ flat_map segment_frames ss ≡ frames_in s.from s.frames s.side len ++ rest → len ≤ s.len
not_longer s ss len rest h each apart has same = by_test (ltb s.len len) refl where
  longer : (us : List Segment) → EachIsSegment us → AreApart (s ∷ us) → s.len < len → segment_frames s ++ flat_map segment_frames us ≡ frames_in s.from s.frames s.side len ++ rest → len ≤ s.len
  longer [] e a l eq =
      omega (arith, l, ap length eq, length-append (segment_frames s) [], length_one s h, length-append (frames_in s.from s.frames s.side len) rest, length_in s.from s.frames s.side len has)
  longer (u ∷ us) e a l eq = clash (sym (next_goes_on s u len (flat_map segment_frames us) rest h e.0 l eq) ∙ a.0)

  by_test : (b : Bool) → ltb s.len len ≡ b → len ≤ s.len
  by_test true t = longer ss each apart (ltb-true s.len len t) same
  by_test false t = ltb-false s.len len t

-- two that begin alike

same_side : (s t : Side ℕ) → frame_of s ≡ frame_of t → s ≡ t
same_side side.Dark side.Dark h = refl
same_side side.Dark (side.Pic w k) h = absurd cc
same_side (side.Pic v j) side.Dark h = absurd cc
same_side (side.Pic v j) (side.Pic w k) h = let e : v ≡ w = cc in let f : j ≡ k = cc in ap (λ (x : ℕ). side.Pic x j) e ∙ ap (λ (x : ℕ). side.Pic w x) f

pub record BeginsAs (s t : Segment) : Type 0 where
  pub from_is : s.from ≡ t.from
  pub frames_are : s.frames ≡ t.frames
  pub side_is : s.side ≡ t.side

begins_as : (s t : Segment) (f g : Option (Side ℕ)) → s.from ≡ f → t.from ≡ g → HasDissolve f s.frames s.len → HasDissolve g t.frames t.len → first_shown f s.frames s.side ≡ first_shown g t.frames t.side → BeginsAs s t
begins_as s t None None sf tg h k e = record { from_is = sf ∙ sym tg; frames_are = h ∙ sym k; side_is = same_side s.side t.side e }
begins_as s t None (Some l) sf tg h k e = absurd (no_mix s.side e) where
  no_mix : (x : Side ℕ) → frame_of x ≡ frame.Mix l t.side 1 (t.frames + 1) → ⊥
  no_mix side.Dark h = absurd cc
  no_mix (side.Pic v j) h = absurd cc
begins_as s t (Some l) None sf tg h k e = absurd (no_mix t.side (sym e)) where
  no_mix : (x : Side ℕ) → frame_of x ≡ frame.Mix l s.side 1 (s.frames + 1) → ⊥
  no_mix side.Dark h = absurd cc
  no_mix (side.Pic v j) h = absurd cc
begins_as s t (Some l) (Some m) sf tg h k e =
    let lefts : l ≡ m = cc in
    let rights : s.side ≡ t.side = cc in
    let dens : s.frames + 1 ≡ t.frames + 1 = cc in
    let frames : s.frames ≡ t.frames = omega (arith, dens) in
    record { from_is = sf ∙ (ap (λ (x : Side ℕ). Some x) lefts ∙ sym tg); frames_are = frames; side_is = rights }

same_segment : (s t : Segment) → s.at ≡ t.at → s.len ≡ t.len → BeginsAs s t → s ≡ t
same_segment s t a l b =
    ap (λ (x : ℕ). record { at = x; len = s.len; from = s.from; frames = s.frames; side = s.side }) a
    ∙ (ap (λ (x : ℕ). record { at = t.at; len = x; from = s.from; frames = s.frames; side = s.side }) l
    ∙ (ap (λ (x : Option (Side ℕ)). record { at = t.at; len = t.len; from = x; frames = s.frames; side = s.side }) b.from_is
    ∙ (ap (λ (x : ℕ). record { at = t.at; len = t.len; from = t.from; frames = x; side = s.side }) b.frames_are
    ∙ ap (λ (x : Side ℕ). record { at = t.at; len = t.len; from = t.from; frames = t.frames; side = x }) b.side_is)))

as_begun : (s t : Segment) → BeginsAs s t → segment_frames t ≡ frames_in s.from s.frames s.side t.len
as_begun s t b =
    ap (λ (x : Option (Side ℕ)). frames_in x t.frames t.side t.len) (sym b.from_is)
    ∙ (ap (λ (x : ℕ). frames_in s.from x t.side t.len) (sym b.frames_are) ∙ ap (λ (x : Side ℕ). frames_in s.from s.frames x t.len) (sym b.side_is))

has_as : (s t : Segment) → BeginsAs s t → IsSegment t → HasDissolve s.from s.frames t.len
has_as s t b h = subst (λ (x : Option (Side ℕ)). HasDissolve x s.frames t.len) (sym b.from_is) (subst (λ (x : ℕ). HasDissolve t.from x t.len) (sym b.frames_are) h.dissolve)

turned : (s t : Segment) → BeginsAs s t → BeginsAs t s
turned s t b = record { from_is = sym b.from_is; frames_are = sym b.frames_are; side_is = sym b.side_is }

no_longer : (s t : Segment) (ss : List Segment) (rest : List (Frame ℕ)) → BeginsAs s t → IsSegment s → IsSegment t → EachIsSegment ss → AreApart (s ∷ ss)
    → segment_frames s ++ flat_map segment_frames ss ≡ segment_frames t ++ rest → t.len ≤ s.len
no_longer s t ss rest b h k each apart same =
    not_longer s ss t.len rest h each apart (has_as s t b k) (same ∙ ap (λ (fs : List (Frame ℕ)). fs ++ rest) (as_begun s t b))

behind_apart : (s : Segment) (ss : List Segment) → AreApart (s ∷ ss) → AreApart ss
behind_apart s [] a = tt
behind_apart s (u ∷ us) a = a.1

empty : (s : Segment) (rest : List (Frame ℕ)) → IsSegment s → segment_frames s ++ rest ≡ [] → ⊥
empty s rest h e = absurd (omega (arith, ap length e, length-append (segment_frames s) rest, length_one s h, h.filled))

one_cutting : (at : ℕ) (ss ts : List Segment) → flat_map segment_frames ss ≡ flat_map segment_frames ts → EachIsSegment ss → EachIsSegment ts → ArePlaced at ss → ArePlaced at ts → AreApart ss → AreApart ts → ss ≡ ts
one_cutting at [] [] same h k p q a b = refl
one_cutting at [] (t ∷ ts) same h k p q a b = absurd (empty t (flat_map segment_frames ts) k.0 (sym same))
one_cutting at (s ∷ ss) [] same h k p q a b = absurd (empty s (flat_map segment_frames ss) h.0 same)
one_cutting at (s ∷ ss) (t ∷ ts) same h k p q a b =
    let d : Frame ℕ = frame.Dark in
    let heads : first_shown s.from s.frames s.side ≡ first_shown t.from t.frames t.side =
    sym (first_of s (flat_map segment_frames ss) d h.0) ∙ (ap (λ (fs : List (Frame ℕ)). get_or fs 0 d) same ∙ first_of t (flat_map segment_frames ts) d k.0) in
    let begun : BeginsAs s t = begins_as s t s.from t.from refl refl h.0.dissolve k.0.dissolve heads in
    let one : t.len ≤ s.len = no_longer s t ss (flat_map segment_frames ts) begun h.0 k.0 h.1 a same in
    let other : s.len ≤ t.len = no_longer t s ts (flat_map segment_frames ss) (turned s t begun) k.0 h.0 k.1 b (sym same) in
    let lens : s.len ≡ t.len = omega (arith, one, other) in
    let is : s ≡ t = same_segment s t (p.0 ∙ sym q.0) lens begun in
    let rest : flat_map segment_frames ss ≡ flat_map segment_frames ts =
    append_cancel_left (segment_frames s) (flat_map segment_frames ss) (flat_map segment_frames ts)
    (same ∙ ap (λ (x : Segment). segment_frames x ++ flat_map segment_frames ts) (sym is)) in
    let placed : ArePlaced (at + s.len) ts = subst (λ (n : ℕ). ArePlaced (at + n) ts) (sym lens) q.1 in
    ap (λ (x : Segment). x ∷ ss) is
    ∙ ap (λ (xs : List Segment). t ∷ xs) (one_cutting (at + s.len) ss ts rest h.1 k.1 p.1 placed (behind_apart s ss a) (behind_apart t ts b))

pub cut_one_way : (ss ts : List Segment) (fs : List (Frame ℕ)) → AreSegments ss fs → AreSegments ts fs → ss ≡ ts
cut_one_way ss ts fs h k = one_cutting 0 ss ts (h.are ∙ sym k.are) h.each k.each h.placed k.placed h.apart k.apart
