-- A channel cut into segments run by run.
use Rattle.std.proofs.Common.{◌≡◌, ℕ, zero, suc, ◌+◌, ◌<◌, ◌≤◌, Bool, true, cond, List, [], ◌∷◌, ◌++◌, Option, Some, length, get_or, drop, sym, ap, ◌∙◌, arith, subst, append_assoc}
use Rattle.std.proofs.lemmas.List.{length-append}
use Rattle.std.specs.List.{flat_map}
use Rattle.frame_meaning.specs.declared.frames.Frame.{Frame}
use Rattle.frame_meaning.specs.declared.frames.Run.{Run}
use Rattle.frame_meaning.specs.RunFrames.{run_frames}
use Rattle.flatten.specs.declared.cutting.Segment.{Segment}
use Rattle.flatten.specs.Joined.{joined, lens_of, segment_of}
use Rattle.flatten.specs.Segments.{AreFilled, EachIsSegment, IsSegment, first_partial, is_whole, segment_frames}
use Rattle.flatten.specs.Strips.{frames_of}
use Rattle.flatten.proofs.Over.{drop_at}
use Rattle.flatten.proofs.Moving.{length-from}
use Rattle.flatten.proofs.Segmenting.{at_single, frames_joined, is_segment, len_single, length_segments, single}

pub filled_get : (rs : List (Run ℕ)) (i : ℕ) (d : Run ℕ) → i < length rs → AreFilled rs → 0 < (get_or rs i d).len
filled_get [] i d h f = absurd (omega arith)
filled_get (q ∷ rs) zero d h f = f.0
filled_get (q ∷ rs) (suc i) d h f = filled_get rs i d (omega arith) f.1

next_run : (rs : List (Run ℕ)) (i : ℕ) (d : Run ℕ) → i < length rs → drop i rs ≡ get_or rs i d ∷ drop (i + 1) rs
next_run rs i d h =
    let past : suc i ≡ i + 1 = omega arith in
    drop_at rs i d h ∙ ap (λ (k : ℕ). get_or rs i d ∷ drop k rs) past

pub frames_more_cut : (ss new : List Segment) (t : Segment) (at : ℕ) (rs : List (Run ℕ)) (i : ℕ) (d : Run ℕ) (meant : List (Frame ℕ)) → i < length rs
    → is_whole (get_or rs i d).frame (get_or rs i d).len ≡ true → EachIsSegment ss → t ≡ segment_of at (get_or rs i d).frame (get_or rs i d).len → new ≡ joined ss t
    → flat_map segment_frames ss ++ frames_of (drop i rs) ≡ meant → flat_map segment_frames new ++ frames_of (drop (i + 1) rs) ≡ meant
frames_more_cut ss new t at rs i d meant h whole each one is_joined same =
    let r : Run ℕ = get_or rs i d in
    let rest : List (Frame ℕ) = frames_of (drop (i + 1) rs) in
    ap (λ (x : List Segment). flat_map segment_frames x ++ rest) is_joined
    ∙ (ap (λ (fs : List (Frame ℕ)). fs ++ rest)
    (frames_joined ss t each
    ∙ ap (λ (fs : List (Frame ℕ)). flat_map segment_frames ss ++ fs) (ap segment_frames one ∙ single at r.frame r.len whole))
    ∙ (append_assoc (flat_map segment_frames ss) (run_frames r) rest
    ∙ (sym (ap (λ (qs : List (Run ℕ)). flat_map segment_frames ss ++ frames_of qs) (next_run rs i d h)) ∙ same)))

pub partial_more : (at : ℕ) (rs : List (Run ℕ)) (i : ℕ) (d : Run ℕ) (meant : Option ℕ) → i < length rs → is_whole (get_or rs i d).frame (get_or rs i d).len ≡ true
    → first_partial at (drop i rs) ≡ meant → first_partial (at + (get_or rs i d).len) (drop (i + 1) rs) ≡ meant
partial_more at rs i d meant h whole same =
    sym (ap (λ (b : Bool). cond b (first_partial (at + (get_or rs i d).len) (drop (i + 1) rs)) (Some at)) whole)
    ∙ (sym (ap (first_partial at) (next_run rs i d h)) ∙ same)

-- the next run lies within the channel
pub within : (ss : List Segment) (at : ℕ) (rs : List (Run ℕ)) (i : ℕ) (d : Run ℕ) (meant : List (Frame ℕ)) → i < length rs → EachIsSegment ss → lens_of ss ≡ at
    → flat_map segment_frames ss ++ frames_of (drop i rs) ≡ meant → at + (get_or rs i d).len ≤ length meant
within ss at rs i d meant h each lens same =
    let r : Run ℕ = get_or rs i d in
    let rest : List (Frame ℕ) = frames_of (drop (i + 1) rs) in
    omega (
      arith,
      length_segments ss each,
      lens,
      ap length same,
      length-append (flat_map segment_frames ss) (frames_of (drop i rs)),
      ap (λ (qs : List (Run ℕ)). length (frames_of qs)) (next_run rs i d h),
      length-append (run_frames r) rest,
      length-from r.frame r.len,
    )

-- what is told of the segment of the next run
pub told : (at : ℕ) (rs : List (Run ℕ)) (i : ℕ) (d : Run ℕ) (t : Segment) → t ≡ segment_of at (get_or rs i d).frame (get_or rs i d).len → i < length rs → AreFilled rs
    → IsSegment t × (t.at ≡ at) × (t.len ≡ (get_or rs i d).len)
told at rs i d t is h filled =
    let r : Run ℕ = get_or rs i d in (
      subst IsSegment (sym is) (is_segment at r.frame r.len (filled_get rs i d h filled)),
      ap (λ (s : Segment). s.at) is ∙ at_single at r.frame r.len,
      ap (λ (s : Segment). s.len) is ∙ len_single at r.frame r.len,
    )
