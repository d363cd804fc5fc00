-- Runs joined where they go on.
use Rattle.std.proofs.Common.{◌≡◌, ℕ, zero, suc, ◌+◌, ◌-◌, ◌<◌, ◌≤◌, Bool, true, false, cond, eqb, ◌&&◌, nat_eq, List, [], ◌∷◌, ◌++◌, Option, Some, length, get_or, drop, refl, sym, ap, ◌∙◌, arith, subst, append_assoc}
use Rattle.std.proofs.lemmas.Bool.{eq-eqb}
use Rattle.std.proofs.lemmas.List.{append-nil, length-append}
use Rattle.frame_meaning.specs.declared.frames.Side.{Side}
use Rattle.frame_meaning.specs.declared.frames.Side.TheVariants as side
use Rattle.frame_meaning.specs.declared.frames.Frame.{Frame}
use Rattle.frame_meaning.specs.declared.frames.Frame.TheVariants.{Dark, Pic, Mix}
use Rattle.frame_meaning.specs.declared.frames.Run.{Run}
use Rattle.frame_meaning.specs.Cells.{next_side}
use Rattle.frame_meaning.specs.Going.{side_goes_on, frame_goes_on}
use Rattle.frame_meaning.specs.RunFrames.{next_frame, frames_from, run_frames}
use Rattle.frame_meaning.specs.Runs.{runs, with_frame}
use Rattle.frame_meaning.proofs.Maximal.{frame-next, one-number}
use Rattle.dissolves.specs.Pieces.{Reaches, later_frame}
use Rattle.flatten.specs.Channels.{maximal_runs}
use Rattle.flatten.specs.Strips.{IsFit, IsHeld, frames_of, held_frames}
use Rattle.flatten.proofs.Moving.{further, length-from, reaches_joined, same_frame, then_next, two_runs}
use Rattle.flatten.proofs.Over.{drop_at}

-- what comes next goes on, and nothing else does

side_goes : (s : Side ℕ) → side_goes_on nat_eq s (next_side s) ≡ true
side_goes side.Dark = refl
side_goes (side.Pic w s) = ap (λ (b : Bool). b && eqb (s + 1) (s + 1)) (eq-eqb w w refl) ∙ eq-eqb (s + 1) (s + 1) refl

four : (a b c d : Bool) → a ≡ true → b ≡ true → c ≡ true → d ≡ true → (((a && b) && c) && d) ≡ true
four a b c d p q r s = ap (λ (x : Bool). ((x && b) && c) && d) p ∙ (ap (λ (x : Bool). (x && c) && d) q ∙ (ap (λ (x : Bool). x && d) r ∙ s))

pub frame_goes : (f : Frame ℕ) → frame_goes_on nat_eq f (next_frame f) ≡ true
frame_goes Dark = refl
frame_goes (Pic w s) = ap (λ (b : Bool). b && eqb (s + 1) (s + 1)) (eq-eqb w w refl) ∙ eq-eqb (s + 1) (s + 1) refl
frame_goes (Mix l r n d) =
    four (side_goes_on nat_eq l (next_side l)) (side_goes_on nat_eq r (next_side r)) (eqb d d) (eqb (n + 1) (n + 1))
    (side_goes l) (side_goes r) (eq-eqb d d refl) (eq-eqb (n + 1) (n + 1) refl)

pub frame_is_next : (f g : Frame ℕ) → frame_goes_on nat_eq f g ≡ true → g ≡ next_frame f
frame_is_next f g h = frame-next ℕ nat_eq one-number f g h

-- the runs after one more run in front
abbrev pub with_run : Run ℕ → List (Run ℕ) → List (Run ℕ)
with_run r [] = r ∷ []
with_run r (s ∷ ss) = cond (frame_goes_on nat_eq (later_frame r.frame (r.len - 1)) s.frame) (record { frame = r.frame; len = r.len + s.len } ∷ ss) (r ∷ s ∷ ss)

one_more : (f : Frame ℕ) (rs : List (Run ℕ)) → with_frame nat_eq f rs ≡ with_run (record { frame = f; len = 1 }) rs
one_more f [] = refl
one_more f (s ∷ ss) =
    let e : s.len + 1 ≡ 1 + s.len = omega arith in
    let same : f ≡ later_frame f (1 - 1) = sym (same_frame f) in
    ap (λ (k : ℕ). cond (frame_goes_on nat_eq f s.frame) (record { frame = f; len = k } ∷ ss) (record { frame = f; len = 1 } ∷ s ∷ ss)) e
    ∙ ap (λ (x : Frame ℕ). cond (frame_goes_on nat_eq x s.frame) (record { frame = f; len = 1 + s.len } ∷ ss) (record { frame = f; len = 1 } ∷ s ∷ ss)) same

onto : (f : Frame ℕ) (n : ℕ) (rs : List (Run ℕ)) → with_frame nat_eq f (record { frame = next_frame f; len = n } ∷ rs) ≡ record { frame = f; len = n + 1 } ∷ rs
onto f n rs = ap (λ (b : Bool). cond b (record { frame = f; len = n + 1 } ∷ rs) (record { frame = f; len = 1 } ∷ record { frame = next_frame f; len = n } ∷ rs)) (frame_goes f)

longer : (f : Frame ℕ) (n : ℕ) (rs : List (Run ℕ)) → with_frame nat_eq f (with_run (record { frame = next_frame f; len = suc n }) rs) ≡ with_run (record { frame = f; len = suc (suc n) }) rs
longer f n [] = let e : suc n + 1 ≡ suc (suc n) = omega arith in onto f (suc n) [] ∙ ap (λ (k : ℕ). record { frame = f; len = k } ∷ []) e
longer f n (s ∷ ss) =
    let x : suc n - 1 ≡ n = omega arith in
    let y : suc (suc n) - 1 ≡ suc n = omega arith in
    let last : later_frame (next_frame f) (suc n - 1) ≡ later_frame f (suc (suc n) - 1) = ap (later_frame (next_frame f)) x ∙ (further f n ∙ ap (later_frame f) (sym y)) in
    by_test (frame_goes_on nat_eq (later_frame (next_frame f) (suc n - 1)) s.frame)
    ∙ ap (λ (g : Frame ℕ). cond (frame_goes_on nat_eq g s.frame) (record { frame = f; len = suc (suc n) + s.len } ∷ ss) (record { frame = f; len = suc (suc n) } ∷ s ∷ ss)) last where
      by_test : (b : Bool) → with_frame nat_eq f (cond b (record { frame = next_frame f; len = suc n + s.len } ∷ ss) (record { frame = next_frame f; len = suc n } ∷ s ∷ ss))
          ≡ cond b (record { frame = f; len = suc (suc n) + s.len } ∷ ss) (record { frame = f; len = suc (suc n) } ∷ s ∷ ss)
      by_test true = let e : suc n + s.len + 1 ≡ suc (suc n) + s.len = omega arith in onto f (suc n + s.len) ss ∙ ap (λ (k : ℕ). record { frame = f; len = k } ∷ ss) e
      by_test false = let e : suc n + 1 ≡ suc (suc n) = omega arith in onto f (suc n) (s ∷ ss) ∙ ap (λ (k : ℕ). record { frame = f; len = k } ∷ s ∷ ss) e

pub runs_front : (f : Frame ℕ) (n : ℕ) (fs : List (Frame ℕ)) → runs nat_eq (frames_from f (suc n) ++ fs) ≡ with_run (record { frame = f; len = suc n }) (runs nat_eq fs)
runs_front f zero fs = one_more f (runs nat_eq fs)
runs_front f (suc n) fs = ap (with_frame nat_eq f) (runs_front (next_frame f) n fs) ∙ longer f n (runs nat_eq fs)

runs_with : (r : Run ℕ) (fs : List (Frame ℕ)) → 0 < r.len → runs nat_eq (run_frames r ++ fs) ≡ with_run r (runs nat_eq fs)
runs_with r fs h =
    let e : r.len ≡ suc (r.len - 1) = omega arith in
    ap (λ (k : ℕ). runs nat_eq (frames_from r.frame k ++ fs)) e
    ∙ (runs_front r.frame (r.len - 1) fs ∙ ap (λ (k : ℕ). with_run (record { frame = r.frame; len = k }) (runs nat_eq fs)) (sym e))

pub last_alone : (r : Run ℕ) → 0 < r.len → runs nat_eq (run_frames r) ≡ r ∷ []
last_alone r h = ap (runs nat_eq) (sym (append-nil (run_frames r))) ∙ runs_with r [] h

-- a run that does not go on from another stays apart from it
stays : (q r : Run ℕ) (rs : List (Run ℕ)) → frame_goes_on nat_eq (later_frame q.frame (q.len - 1)) r.frame ≡ false → with_run q (with_run r rs) ≡ q ∷ with_run r rs
stays q r [] h = ap (λ (b : Bool). cond b (record { frame = q.frame; len = q.len + r.len } ∷ []) (q ∷ r ∷ [])) h
stays q r (s ∷ ss) h = by_test (frame_goes_on nat_eq (later_frame r.frame (r.len - 1)) s.frame) where
  by_test : (b : Bool) → with_run q (cond b (record { frame = r.frame; len = r.len + s.len } ∷ ss) (r ∷ s ∷ ss)) ≡ q ∷ cond b (record { frame = r.frame; len = r.len + s.len } ∷ ss) (r ∷ s ∷ ss)
  by_test true = ap (λ (b : Bool). cond b (record { frame = q.frame; len = q.len + (r.len + s.len) } ∷ ss) (q ∷ record { frame = r.frame; len = r.len + s.len } ∷ ss)) h
  by_test false = ap (λ (b : Bool). cond b (record { frame = q.frame; len = q.len + r.len } ∷ s ∷ ss) (q ∷ r ∷ s ∷ ss)) h

-- one run more behind the one that is held

pub follows : (q r : Run ℕ) → 0 < q.len → frame_goes_on nat_eq (later_frame q.frame (q.len - 1)) r.frame ≡ true → r.frame ≡ later_frame q.frame q.len
follows q r h g =
    let e : suc (q.len - 1) ≡ q.len = omega arith in
    frame_is_next (later_frame q.frame (q.len - 1)) r.frame g ∙ (then_next q.frame (q.len - 1) ∙ ap (later_frame q.frame) e)

pub joined_frames : (q r : Run ℕ) (rest : List (Frame ℕ)) → r.frame ≡ later_frame q.frame q.len → frames_from q.frame (q.len + r.len) ++ rest ≡ run_frames q ++ run_frames r ++ rest
joined_frames q r rest is = ap (λ (fs : List (Frame ℕ)). fs ++ rest) (two_runs q.frame r.frame q.len r.len is)

pub joined_fit : (q r : Run ℕ) → IsFit q → IsFit r → r.frame ≡ later_frame q.frame q.len → IsFit (record { frame = q.frame; len = q.len + r.len })
joined_fit q r f g is = record {
  filled = omega (arith, f.filled);
  reaches = reaches_joined q.frame q.len r.len (subst (λ (x : Frame ℕ). Reaches x r.len) is g.reaches);
}

pub apart : (all new : List (Run ℕ)) (q r : Run ℕ) (rest : List (Frame ℕ)) → new ≡ all ++ q ∷ [] → IsFit q → IsFit r → frame_goes_on nat_eq (later_frame q.frame (q.len - 1)) r.frame ≡ false
    → new ++ maximal_runs (run_frames r ++ rest) ≡ all ++ maximal_runs (run_frames q ++ run_frames r ++ rest)
apart all new q r rest pushed f g h =
    let behind : List (Run ℕ) = runs nat_eq (run_frames r ++ rest) in
    let both : runs nat_eq (run_frames q ++ run_frames r ++ rest) ≡ q ∷ behind =
    ap (runs nat_eq) (append_assoc (run_frames q) (run_frames r) rest)
    ∙ (runs_with q (run_frames r ++ rest) f.filled
    ∙ (ap (with_run q) (runs_with r rest g.filled)
    ∙ (stays q r (runs nat_eq rest) h ∙ ap (λ (rs : List (Run ℕ)). q ∷ rs) (sym (runs_with r rest g.filled))))) in
    ap (λ (rs : List (Run ℕ)). rs ++ behind) pushed
    ∙ (append_assoc all (q ∷ []) behind ∙ ap (λ (rs : List (Run ℕ)). all ++ rs) (sym both))

-- from run to run

pub length-held : (o : Option (Run ℕ)) (r : Run ℕ) → o ≡ Some r → length (held_frames o) ≡ r.len
length-held o r is = ap (λ (x : Option (Run ℕ)). length (held_frames x)) is ∙ length-from r.frame r.len

pub held_fit : (o : Option (Run ℕ)) (r : Run ℕ) → o ≡ Some r → IsHeld o → IsFit r
held_fit o r is h = subst IsHeld is h

pub frames_more : (rs : List (Run ℕ)) (i : ℕ) (d : Run ℕ) → i < length rs → frames_of (drop i rs) ≡ run_frames (get_or rs i d) ++ frames_of (drop (suc i) rs)
frames_more rs i d h = ap frames_of (drop_at rs i d h)

pub length-more : (rs : List (Run ℕ)) (i : ℕ) (d : Run ℕ) → i < length rs → length (frames_of (drop i rs)) ≡ (get_or rs i d).len + length (frames_of (drop (suc i) rs))
length-more rs i d h =
    omega (arith, ap length (frames_more rs i d h), length-append (run_frames (get_or rs i d)) (frames_of (drop (suc i) rs)), length-from (get_or rs i d).frame (get_or rs i d).len)

pub tested : (q r : Run ℕ) (last : Frame ℕ) (b t : Bool) → b ≡ frame_goes_on nat_eq last r.frame → last ≡ later_frame q.frame (q.len - 1) → b ≡ t
    → frame_goes_on nat_eq (later_frame q.frame (q.len - 1)) r.frame ≡ t
tested q r last b t goes is test = ap (λ (f : Frame ℕ). frame_goes_on nat_eq f r.frame) (sym is) ∙ (sym goes ∙ test)

pub join_more : (rs : List (Run ℕ)) (i : ℕ) (d : Run ℕ) (held : List (Frame ℕ)) → i < length rs
    → held ++ run_frames (get_or rs i d) ++ frames_of (drop (i + 1) rs) ≡ held ++ frames_of (drop i rs)
join_more rs i d held h =
    let past : i + 1 ≡ suc i = omega arith in
    append_assoc held (run_frames (get_or rs i d)) (frames_of (drop (i + 1) rs))
    ∙ ap (λ (fs : List (Frame ℕ)). held ++ fs) (ap (λ (k : ℕ). run_frames (get_or rs i d) ++ frames_of (drop k rs)) past ∙ sym (frames_more rs i d h))

pub none_behind : (rs : List (Run ℕ)) (i : ℕ) → length rs ≤ i → frames_of (drop i rs) ≡ []
none_behind [] zero h = refl
none_behind [] (suc i) h = refl
none_behind (r ∷ rs) zero h = absurd (omega arith)
none_behind (r ∷ rs) (suc i) h = none_behind rs i (omega arith)

pub join_last : (all new : List (Run ℕ)) (o : Option (Run ℕ)) (q : Run ℕ) (rest : List (Frame ℕ)) (meant : List (Run ℕ)) → o ≡ Some q → IsHeld o → rest ≡ [] → new ≡ all ++ q ∷ []
    → all ++ maximal_runs (held_frames o ++ rest) ≡ meant → new ≡ meant
join_last all new o q rest meant is held none pushed same =
    pushed
    ∙ (ap (λ (rs : List (Run ℕ)). all ++ rs)
    (sym (ap (λ (x : Option (Run ℕ)). maximal_runs (held_frames x ++ rest)) is
    ∙ (ap (λ (fs : List (Frame ℕ)). maximal_runs (run_frames q ++ fs)) none
    ∙ (ap maximal_runs (append-nil (run_frames q)) ∙ last_alone q (held_fit o q is held).filled))))
    ∙ same)

pub length-run : (r : Run ℕ) → length (run_frames r) ≡ r.len
length-run r = length-from r.frame r.len
