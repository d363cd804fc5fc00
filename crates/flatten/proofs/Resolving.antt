-- Runs of media and nests, and what they are once resolved.
use Rattle.std.proofs.Common.{◌≡◌, ℕ, zero, suc, ◌+◌, ◌-◌, ◌<◌, ◌≤◌, ◌^◌, List, [], ◌∷◌, ◌++◌, Option, Some, None, map, length, get_or, take, drop, slice_get, slice_index_or, refl, sym, ap, ◌∙◌, arith, subst, append_assoc}
use Rattle.std.specs.List.{flat_map, range_with_len}
use Rattle.std.proofs.lemmas.List.{append-nil, map-append}
use Rattle.std.proofs.Math.ListN.{drop_of_length-le}
use Rattle.frame_meaning.specs.declared.cells.What.{What}
use Rattle.frame_meaning.specs.declared.cells.What.TheVariants.{Media as MediaOf, Nest as NestOf}
use Rattle.frame_meaning.specs.declared.frames.Side.{Side}
use Rattle.frame_meaning.specs.declared.frames.Side.TheVariants as side
use Rattle.frame_meaning.specs.declared.frames.Frame.{Frame}
use Rattle.frame_meaning.specs.declared.frames.Frame.TheVariants as frame
use Rattle.frame_meaning.specs.declared.frames.Run.{Run}
use Rattle.frame_meaning.specs.Cells.{next_side}
use Rattle.frame_meaning.specs.Going.{same_what}
use Rattle.frame_meaning.specs.Numbered.{IsNumbered, SideIsNumbered}
use Rattle.frame_meaning.specs.Render.{frame_of, render, shown_at}
use Rattle.frame_meaning.specs.RunFrames.{AreMaximal, frames_from, next_frame, run_frames}
use Rattle.frame_meaning.specs.Runs.{runs}
use Rattle.frame_meaning.proofs.Maximal.{frames-runs, maximal-runs, one-what}
use Rattle.composables.specs.declared.media.Media.{Media}
use Rattle.composables.specs.TrackFacts.{IsKept}
use Rattle.composables.specs.TrackState.{TrackState}
use Rattle.dissolves.specs.Pieces.{Reaches, SideReaches, cut}
use Rattle.dissolves.proofs.Numbers.{EachIsNumbered, kept_numbered}
use Rattle.flatten.specs.Nests.{nest_in, reel_frame, reel_of, reel_side, resolved}
use Rattle.flatten.specs.Strips.{AreTrackRuns, IsTrackRun, padded}
use Rattle.flatten.proofs.Over.{drop_at}
use Rattle.flatten.proofs.Stacking.{next_at}

-- a run of a nest

pub nest_run : (media : List Media) (nests : List (List (Frame ℕ))) (j s n : ℕ) → map (resolved media nests) (frames_from (frame.Pic (NestOf j) s) n) ≡ padded n (drop s (slice_index_or nests j []))
nest_run media nests j s zero = refl
nest_run media nests j s (suc n) =
    let e : s + 1 ≡ suc s = omega arith in
    let fs : List (Frame ℕ) = slice_index_or nests j [] in
    ap (λ (gs : List (Frame ℕ)). slice_index_or fs s frame.Dark ∷ gs) (nest_run media nests j (s + 1) n ∙ ap (λ (k : ℕ). padded n (drop k fs)) e) ∙ sym (next_at fs s n)

pub run_in_nest : (media : List Media) (nests : List (List (Frame ℕ))) (f : Frame What) (j s n : ℕ) → nest_in f ≡ Some (j, s)
    → map (resolved media nests) (frames_from f n) ≡ padded n (drop s (slice_index_or nests j []))
run_in_nest media nests frame.Dark j s n h = absurd cc
run_in_nest media nests (frame.Pic (MediaOf m) k) j s n h = absurd cc
run_in_nest media nests (frame.Pic (NestOf i) k) j s n h =
    let x : (i, k) ≡ (j, s) = cc in
    nest_run media nests i k n ∙ ap (λ (p : ℕ × ℕ). padded n (drop p.1 (slice_index_or nests p.0 []))) x
run_in_nest media nests (frame.Mix l r k d) j s n h = absurd cc

-- a run of none

next_reel : (o : Option Media) (s : ℕ) → next_side (reel_of o s) ≡ reel_of o (s + 1)
next_reel None s = refl
next_reel (Some e) s = refl

next_reel_side : (media : List Media) (s : Side What) → next_side (reel_side media s) ≡ reel_side media (next_side s)
next_reel_side media side.Dark = refl
next_reel_side media (side.Pic (MediaOf m) s) = next_reel (slice_get media m) s
next_reel_side media (side.Pic (NestOf j) s) = refl

next_whole : (s : Side ℕ) → next_frame (frame_of s) ≡ frame_of (next_side s)
next_whole side.Dark = refl
next_whole (side.Pic w s) = refl

next_reel_frame : (media : List Media) (f : Frame What) → next_frame (reel_frame media f) ≡ reel_frame media (next_frame f)
next_reel_frame media frame.Dark = refl
next_reel_frame media (frame.Pic w s) = next_whole (reel_side media (side.Pic w s)) ∙ ap frame_of (next_reel_side media (side.Pic w s))
next_reel_frame media (frame.Mix l r n d) =
    ap (λ (x : Side ℕ). frame.Mix x (next_side (reel_side media r)) (n + 1) d) (next_reel_side media l)
    ∙ ap (λ (x : Side ℕ). frame.Mix (reel_side media (next_side l)) x (n + 1) d) (next_reel_side media r)

without : (media : List Media) (nests : List (List (Frame ℕ))) (f : Frame What) → nest_in f ≡ None → resolved media nests f ≡ reel_frame media f
without media nests frame.Dark h = refl
without media nests (frame.Pic (MediaOf m) s) h = refl
without media nests (frame.Pic (NestOf j) s) h = absurd cc
without media nests (frame.Mix l r n d) h = refl

still_without : (f : Frame What) → nest_in f ≡ None → nest_in (next_frame f) ≡ None
still_without frame.Dark h = refl
still_without (frame.Pic (MediaOf m) s) h = refl
still_without (frame.Pic (NestOf j) s) h = absurd cc
still_without (frame.Mix l r n d) h = refl

pub run_of_reel : (media : List Media) (nests : List (List (Frame ℕ))) (f : Frame What) (n : ℕ) → nest_in f ≡ None → map (resolved media nests) (frames_from f n) ≡ frames_from (reel_frame media f) n
run_of_reel media nests f zero h = refl
run_of_reel media nests f (suc n) h =
    ap (λ (x : Frame ℕ). x ∷ map (resolved media nests) (frames_from (next_frame f) n)) (without media nests f h)
    ∙ ap (λ (xs : List (Frame ℕ)). reel_frame media f ∷ xs)
    (run_of_reel media nests (next_frame f) n (still_without f h) ∙ ap (λ (g : Frame ℕ). frames_from g n) (sym (next_reel_frame media f)))

reel_reaches : (o : Option Media) (s n : ℕ) → s + n ≤ 2 ^ 32 → SideReaches (reel_of o s) n
reel_reaches None s n h = tt
reel_reaches (Some e) s n h = h

side_reaches : (media : List Media) (s : Side What) (n : ℕ) → SideReaches s n → SideReaches (reel_side media s) n
side_reaches media side.Dark n h = tt
side_reaches media (side.Pic (MediaOf m) s) n h = reel_reaches (slice_get media m) s n h
side_reaches media (side.Pic (NestOf j) s) n h = tt

whole_reaches : (s : Side ℕ) (n : ℕ) → SideReaches s n → Reaches (frame_of s) n
whole_reaches side.Dark n h = tt
whole_reaches (side.Pic w s) n h = h

pub frame_reaches : (media : List Media) (f : Frame What) (n : ℕ) → Reaches f n → Reaches (reel_frame media f) n
frame_reaches media frame.Dark n h = tt
frame_reaches media (frame.Pic w s) n h = whole_reaches (reel_side media (side.Pic w s)) n (side_reaches media (side.Pic w s) n h)
frame_reaches media (frame.Mix l r k d) n h = (side_reaches media l n h.0, side_reaches media r n h.1, h.2)

-- the runs of frames whose numbers are kept

front_numbered : (fs gs : List (Frame What)) → EachIsNumbered (fs ++ gs) → EachIsNumbered fs
front_numbered [] gs h = tt
front_numbered (f ∷ fs) gs h = (h.0, front_numbered fs gs h.1)

back_numbered : (fs gs : List (Frame What)) → EachIsNumbered (fs ++ gs) → EachIsNumbered gs
back_numbered [] gs h = h
back_numbered (f ∷ fs) gs h = back_numbered fs gs h.1

drop_numbered : (n : ℕ) (fs : List (Frame What)) → EachIsNumbered fs → EachIsNumbered (drop n fs)
drop_numbered zero fs h = h
drop_numbered (suc n) [] h = tt
drop_numbered (suc n) (f ∷ fs) h = drop_numbered n fs h.1

take_numbered : (n : ℕ) (fs : List (Frame What)) → EachIsNumbered fs → EachIsNumbered (take n fs)
take_numbered zero fs h = tt
take_numbered (suc n) [] h = tt
take_numbered (suc n) (f ∷ fs) h = (h.0, take_numbered n fs h.1)

places_numbered : (g : ℕ → Frame What) (p n : ℕ) → ((q : ℕ) → q < p + n → IsNumbered (g q)) → EachIsNumbered (map g (range_with_len p n))
places_numbered g p zero h = tt
places_numbered g p (suc n) h = (h p (omega arith), places_numbered g (p + 1) n (λ (q : ℕ) (l : q < p + 1 + n). h q (omega (arith, l))))

side_reach : (s : Side What) → SideIsNumbered s → SideReaches s 1
side_reach side.Dark h = tt
side_reach (side.Pic w s) h = omega (arith, h)

one_reach : (f : Frame What) → IsNumbered f → Reaches f 1
one_reach frame.Dark h = tt
one_reach (frame.Pic w s) h = omega (arith, h)
one_reach (frame.Mix l r n d) h = let num : n + 1 ≤ 2 ^ 32 = omega (arith, h.2) in (side_reach l h.0, side_reach r h.1, num)

side_more : (s : Side What) (n : ℕ) → SideReaches (next_side s) n → SideReaches s (suc n)
side_more side.Dark n h = tt
side_more (side.Pic w s) n h = omega (arith, h)

reach_more : (f : Frame What) (n : ℕ) → Reaches (next_frame f) n → Reaches f (suc n)
reach_more frame.Dark n h = tt
reach_more (frame.Pic w s) n h = omega (arith, h)
reach_more (frame.Mix l r k d) n h = let num : k + suc n ≤ 2 ^ 32 = omega (arith, h.2) in (side_more l n h.0, side_more r n h.1, num)

reach_of : (f : Frame What) (n : ℕ) → EachIsNumbered (frames_from f (suc n)) → Reaches f (suc n)
reach_of f zero h = one_reach f h.0
reach_of f (suc n) h = reach_more f (suc n) (reach_of (next_frame f) n h.1)

sound_run : (r : Run What) → 0 < r.len → EachIsNumbered (run_frames r) → IsTrackRun r
sound_run r h n =
    let e : r.len ≡ suc (r.len - 1) = omega (arith, h) in
    record {
      filled = h;
      reaches = subst (λ (k : ℕ). Reaches r.frame k) (sym e) (reach_of r.frame (r.len - 1) (subst (λ (k : ℕ). EachIsNumbered (frames_from r.frame k)) e n));
    }

sound_runs : (rs : List (Run What)) → AreMaximal same_what rs → EachIsNumbered (flat_map run_frames rs) → AreTrackRuns rs
sound_runs [] m n = tt
sound_runs (r ∷ []) m n = (sound_run r m (front_numbered (run_frames r) [] n), tt)
sound_runs (r ∷ s ∷ rs) m n =
    (sound_run r m.0 (front_numbered (run_frames r) (flat_map run_frames (s ∷ rs)) n), sound_runs (s ∷ rs) m.2 (back_numbered (run_frames r) (flat_map run_frames (s ∷ rs)) n))

pub shown_sound : (t : TrackState) (a b : ℕ) (rs : List (Run What)) → IsKept t → length t.cells < 4294967295 → rs ≡ runs same_what (cut a b (render t.cells)) → AreTrackRuns rs
shown_sound t a b rs kept short is =
    let fs : List (Frame What) = cut a b (render t.cells) in
    let each : EachIsNumbered (render t.cells) = places_numbered (shown_at t.cells) 0 (length t.cells) (λ (q : ℕ) (l : q < 0 + length t.cells). kept_numbered t kept short q (omega (arith, l))) in
    let numbered : EachIsNumbered fs = take_numbered (b - a) (drop a (render t.cells)) (drop_numbered a (render t.cells) each) in
    subst AreTrackRuns (sym is) (sound_runs (runs same_what fs) (maximal-runs What same_what one-what fs) (subst EachIsNumbered (sym (frames-runs What same_what one-what fs)) numbered))

pub sound_get : (rs : List (Run What)) (i : ℕ) (d : Run What) → i < length rs → AreTrackRuns rs → IsTrackRun (get_or rs i d)
sound_get [] i d h s = absurd (omega arith)
sound_get (r ∷ rs) zero d h s = s.0
sound_get (r ∷ rs) (suc i) d h s = sound_get rs i d (omega arith) s.1

-- one run more of those that are shown

pub run_more : (change : Frame What → Frame ℕ) (rs : List (Run What)) (i : ℕ) (d : Run What) (done more meant : List (Frame ℕ)) → i < length rs → more ≡ done ++ map change (run_frames (get_or rs i d))
    → done ++ map change (flat_map run_frames (drop i rs)) ≡ meant → more ++ map change (flat_map run_frames (drop (i + 1) rs)) ≡ meant
run_more change rs i d done more meant h is same =
    let past : i + 1 ≡ suc i = omega arith in
    let rest : List (Frame What) = flat_map run_frames (drop (suc i) rs) in
    let r : Run What = get_or rs i d in
    ap (λ (k : ℕ). more ++ map change (flat_map run_frames (drop k rs))) past
    ∙ (ap (λ (fs : List (Frame ℕ)). fs ++ map change rest) is
    ∙ (append_assoc done (map change (run_frames r)) (map change rest)
    ∙ (ap (λ (fs : List (Frame ℕ)). done ++ fs)
    (sym (map-append change (run_frames r) rest) ∙ ap (λ (qs : List (Run What)). map change (flat_map run_frames qs)) (sym (drop_at rs i d h)))
    ∙ same)))

pub run_end : (change : Frame What → Frame ℕ) (rs : List (Run What)) (i : ℕ) (done meant : List (Frame ℕ)) → length rs ≤ i → done ++ map change (flat_map run_frames (drop i rs)) ≡ meant → done ≡ meant
run_end change rs i done meant h same =
    sym (append-nil done) ∙ (sym (ap (λ (qs : List (Run What)). done ++ map change (flat_map run_frames qs)) (drop_of_length-le rs h)) ∙ same)
