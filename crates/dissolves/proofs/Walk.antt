-- A walk over the frames of a track from the front, which makes the runs of those in [a, b).
use Rattle.std.proofs.Common.{◌≡◌, ℕ, zero, suc, ◌+◌, ◌-◌, ◌≤◌, Bool, true, false, cond, List, [], ◌∷◌, ◌++◌, length, take, drop, refl, sym, ap, ◌∙◌, arith, subst, append_assoc, length-drop, length-take}
use Rattle.std.proofs.lemmas.List.{append-nil, drop-drop, length-append}
use Rattle.frame_meaning.specs.declared.cells.What.{What}
use Rattle.frame_meaning.specs.declared.frames.Frame.{Frame}
use Rattle.frame_meaning.specs.declared.frames.Run.{Run}
use Rattle.frame_meaning.specs.Going.{same_what, frame_goes_on}
use Rattle.frame_meaning.specs.Runs.{runs}
use Rattle.dissolves.specs.Pieces.{cut, frames_from, run_frames, last_frame, len_of, push_run}
use Rattle.dissolves.specs.Walk.{Walked}
use Rattle.dissolves.proofs.Behind.{len_of-runs, length-frames_from}
use Rattle.dissolves.proofs.Cutting.{cut-append}

pub walk_begun : (shown : List (Run What)) (from a b : ℕ) (rest all : List (Frame What)) → from ≤ a → a ≤ b → shown ≡ [] → rest ≡ drop from all
    → Walked shown from a b rest all
walk_begun shown from a b rest all within order none is =
    let x : from + (a - from) ≡ a = omega arith in
    let y : b - from - (a - from) ≡ b - a = omega arith in
    record {
      passed = [];
      are = none;
      left =
          ap (cut (a - from) (b - from)) is
          ∙ (ap (take (b - from - (a - from))) (drop-drop (a - from) from all ∙ ap (λ (k : ℕ). drop k all) x)
          ∙ ap (λ (k : ℕ). take k (drop a all)) y);
      short = omega arith;
    }

cut-nil : (a b : ℕ) → cut {F = Frame What} a b [] ≡ []
cut-nil a b = ap (take (b - a)) (dropped a) ∙ taken (b - a) where
  dropped : (n : ℕ) → ◌≡◌ {A = List (Frame What)} (drop n []) []
  dropped zero = refl
  dropped (suc n) = refl

  taken : (n : ℕ) → ◌≡◌ {A = List (Frame What)} (take n []) []
  taken zero = refl
  taken (suc n) = refl

pub walk_done : (shown : List (Run What)) (from a b : ℕ) (rest all : List (Frame What)) → Walked shown from a b rest all → rest ≡ [] → shown ≡ runs same_what (cut a b all)
walk_done shown from a b rest all w none =
    w.are ∙ ap (runs same_what) (sym (append-nil w.passed) ∙ (ap (λ gs. w.passed ++ gs) (sym (ap (cut (a - from) (b - from)) none ∙ cut-nil (a - from) (b - from))) ∙ w.left))

length-cut : (a b : ℕ) (fs : List (Frame What)) → length (cut a b fs) ≤ length fs
length-cut a b fs = omega (arith, length-take (b - a) (drop a fs), length-drop a fs)

-- the frames of one run more, of which some part went behind the runs
pub walk_more : (shown after : List (Run What)) (from a b : ℕ) (r : Run What) (rest all : List (Frame What)) → a ≤ b
    → ((fs : List (Frame What)) → shown ≡ runs same_what fs → after ≡ runs same_what (fs ++ cut (a - from) (b - from) (run_frames r)))
    → Walked shown from a b (run_frames r ++ rest) all → Walked after (from + r.len) a b rest all
walk_more shown after from a b r rest all order step w =
    let part : List (Frame What) = cut (a - from) (b - from) (run_frames r) in
    let len : length (run_frames r) ≡ r.len = length-frames_from r.frame r.len in
    let x : a - from - length (run_frames r) ≡ a - (from + r.len) = omega arith in
    let y : b - from - length (run_frames r) ≡ b - (from + r.len) = omega arith in
    let inner : a - from ≤ b - from = omega arith in
    record {
      passed = w.passed ++ part;
      are = step w.passed w.are;
      left =
          append_assoc w.passed part (cut (a - (from + r.len)) (b - (from + r.len)) rest)
          ∙ (ap (λ gs. w.passed ++ gs)
          (sym (cut-append (a - from) (b - from) (run_frames r) rest inner
          ∙ (ap (λ (k : ℕ). part ++ cut k (b - from - length (run_frames r)) rest) x
          ∙ ap (λ (k : ℕ). part ++ cut (a - (from + r.len)) k rest) y)))
          ∙ w.left);
      short = omega (arith, length-append w.passed part, w.short, length-cut (a - from) (b - from) (run_frames r), len);
    }

pub len_of-push : (rs : List (Run What)) (r : Run What) → len_of (push_run same_what rs r) ≡ len_of rs + r.len
len_of-push [] r = omega arith
len_of-push (s ∷ []) r = by_test (frame_goes_on same_what (last_frame s) r.frame) where
  by_test : (b : Bool) → len_of (cond b (record s { len = s.len + r.len } ∷ []) (s ∷ r ∷ [])) ≡ s.len + 0 + r.len
  by_test true = omega arith
  by_test false = omega arith
len_of-push (s ∷ t ∷ ts) r = omega (arith, len_of-push (t ∷ ts) r)

pub walk_room : (shown : List (Run What)) (from a b : ℕ) (rest all : List (Frame What)) → Walked shown from a b rest all → len_of shown ≤ from
walk_room shown from a b rest all w = omega (arith, ap len_of w.are, len_of-runs w.passed, w.short)

-- three runs more
pub walk_three : (v0 v1 v2 v3 : List (Run What)) (from to a b : ℕ) (h o t : Run What) (hs os ts rest all : List (Frame What))
    → run_frames h ≡ hs → run_frames o ≡ os → run_frames t ≡ ts → from + h.len + o.len + t.len ≡ to
    → ((next frames : List (Frame What)) → Walked v0 from a b (run_frames h ++ next) frames → Walked v1 (from + h.len) a b next frames)
    → ((next frames : List (Frame What)) → Walked v1 (from + h.len) a b (run_frames o ++ next) frames → Walked v2 (from + h.len + o.len) a b next frames)
    → ((next frames : List (Frame What)) → Walked v2 (from + h.len + o.len) a b (run_frames t ++ next) frames → Walked v3 (from + h.len + o.len + t.len) a b next frames)
    → Walked v0 from a b (hs ++ os ++ ts ++ rest) all → Walked v3 to a b rest all
walk_three v0 v1 v2 v3 from to a b h o t hs os ts rest all head own tail place one two three w =
    let parts : hs ++ os ++ ts ++ rest ≡ run_frames h ++ (run_frames o ++ (run_frames t ++ rest)) =
    append_assoc (hs ++ os) ts rest
    ∙ (append_assoc hs os (ts ++ rest)
    ∙ (ap (λ (gs : List (Frame What)). gs ++ (os ++ (ts ++ rest))) (sym head)
    ∙ (ap (λ (gs : List (Frame What)). run_frames h ++ (gs ++ (ts ++ rest))) (sym own)
    ∙ ap (λ (gs : List (Frame What)). run_frames h ++ (run_frames o ++ (gs ++ rest))) (sym tail)))) in
    let begun = subst (λ (gs : List (Frame What)). Walked v0 from a b gs all) parts w in
    subst (λ (n : ℕ). Walked v3 n a b rest all) place
    (three rest all (two (run_frames t ++ rest) all (one (run_frames o ++ (run_frames t ++ rest)) all begun)))

-- a run of no frames is passed
pub walk_none : (shown : List (Run What)) (from a b : ℕ) (run : Run What) (rest all : List (Frame What)) → run.len ≡ 0 → Walked shown from a b (run_frames run ++ rest) all → Walked shown (from + run.len) a b rest all
walk_none shown from a b run rest all none w =
    let none_shown : run_frames run ++ rest ≡ rest = ap (λ (n : ℕ). frames_from run.frame n ++ rest) none in
    let place : from ≡ from + run.len = omega (arith, none) in
    subst (λ (n : ℕ). Walked shown n a b rest all) place (subst (λ (gs : List (Frame What)). Walked shown from a b gs all) none_shown w)

-- the frames before the place b are all passed
pub walk_past : (shown : List (Run What)) (from a b : ℕ) (rest all : List (Frame What)) → Walked shown from a b rest all → b ≤ from → shown ≡ runs same_what (cut a b all)
walk_past shown from a b rest all w h =
    let none : b - from - (a - from) ≡ 0 = omega arith in
    w.are ∙ ap (runs same_what) (sym (append-nil w.passed) ∙ (ap (λ gs. w.passed ++ gs) (sym (ap (λ (k : ℕ). take k (drop (a - from) rest)) none)) ∙ w.left))
