-- The runs of pieces, one behind another.
use Rattle.std.proofs.Common.{◌≡◌, ℕ, zero, suc, ◌+◌, ◌-◌, ◌<◌, Bool, true, false, cond, eqb, ◌&&◌, List, [], ◌∷◌, ◌++◌, refl, sym, ap, ◌∙◌, arith, subst, append_assoc}
use Rattle.std.specs.Str.{bytes_eq}
use Rattle.std.proofs.lemmas.Bool.{eq-eqb}
use Rattle.std.proofs.lemmas.List.{append-nil}
use Rattle.std.proofs.lemmas.Slice.Eq.{bytes_eq-Decides}
use Rattle.frame_meaning.specs.declared.frames.Side.{Side}
use Rattle.frame_meaning.specs.declared.frames.Side.TheVariants as side
use Rattle.frame_meaning.specs.declared.frames.Frame.{Frame}
use Rattle.frame_meaning.specs.declared.frames.Frame.TheVariants.{Dark, Pic, Mix}
use Rattle.frame_meaning.specs.declared.frames.Run.{Run}
use Rattle.frame_meaning.specs.Cells.{next_side}
use Rattle.frame_meaning.specs.Going.{side_goes_on, frame_goes_on}
use Rattle.frame_meaning.specs.RunFrames.{next_frame, frames_from, later_frame}
use Rattle.frame_meaning.specs.Runs.{runs, with_frame}
use Rattle.frame_meaning.proofs.Maximal.{frame-next}
use Rattle.edl_events.specs.declared.channel.Channel.{Channel}
use Rattle.edl_read.specs.declared.pieces.Piece.{Piece}
use Rattle.edl_read.specs.Pieces.{IsPiece, piece_frames}
use Rattle.edl_read.specs.TapeText.{frames_text, run_text, runs_text}

-- ---- frames that go on

pub later_more : (f : Frame (List ℕ)) (m n : ℕ) → later_frame (later_frame f m) n ≡ later_frame f (m + n)
later_more f zero n = let e : n ≡ 0 + n = omega arith in ap (later_frame f) e
later_more f (suc m) n = let e : suc (m + n) ≡ suc m + n = omega arith in later_more (next_frame f) m n ∙ ap (later_frame f) e

pub two_runs : (f : Frame (List ℕ)) (m n : ℕ) → frames_from f (m + n) ≡ frames_from f m ++ frames_from (later_frame f m) n
two_runs f zero n = let e : 0 + n ≡ n = omega arith in ap (frames_from f) e
two_runs f (suc m) n =
    let e : suc m + n ≡ suc (m + n) = omega arith in
    ap (frames_from f) e ∙ ap (λ (fs : List (Frame (List ℕ))). f ∷ fs) (two_runs (next_frame f) m n)

one_reel : (v w : List ℕ) → bytes_eq v w ≡ true → w ≡ v
one_reel v w h = sym ((bytes_eq-Decides v w).0 h)

same_reel : (w : List ℕ) → bytes_eq w w ≡ true
same_reel w = (bytes_eq-Decides w w).1 refl

side_goes : (s : Side (List ℕ)) → side_goes_on bytes_eq s (next_side s) ≡ true
side_goes side.Dark = refl
side_goes (side.Pic w s) = ap (λ (b : Bool). b && eqb (s + 1) (s + 1)) (same_reel w) ∙ eq-eqb (s + 1) (s + 1) refl

four : (a b c d : Bool) → a ≡ true → b ≡ true → c ≡ true → d ≡ true → (((a && b) && c) && d) ≡ true
four a b c d p q r s = ap (λ (x : Bool). ((x && b) && c) && d) p ∙ (ap (λ (x : Bool). (x && c) && d) q ∙ (ap (λ (x : Bool). x && d) r ∙ s))

frame_goes : (f : Frame (List ℕ)) → frame_goes_on bytes_eq f (next_frame f) ≡ true
frame_goes Dark = refl
frame_goes (Pic w s) = ap (λ (b : Bool). b && eqb (s + 1) (s + 1)) (same_reel w) ∙ eq-eqb (s + 1) (s + 1) refl
frame_goes (Mix l r n d) =
    four (side_goes_on bytes_eq l (next_side l)) (side_goes_on bytes_eq r (next_side r)) (eqb d d) (eqb (n + 1) (n + 1))
    (side_goes l) (side_goes r) (eq-eqb d d refl) (eq-eqb (n + 1) (n + 1) refl)

-- ---- a run that ends

-- the first of these frames does not go on from one
abbrev pub Breaks : Frame (List ℕ) → List (Frame (List ℕ)) → Type 0
Breaks f [] = Unit {0}
Breaks f (g ∷ gs) = frame_goes_on bytes_eq f g ≡ false

apart_from : (f g : Frame (List ℕ)) (rs : List (Run (List ℕ))) → frame_goes_on bytes_eq f g ≡ false → with_frame bytes_eq f (with_frame bytes_eq g rs) ≡ record { frame = f; len = 1 } ∷ with_frame bytes_eq g rs
apart_from f g [] h = ap (λ (b : Bool). cond b (record { frame = f; len = 1 + 1 } ∷ []) (record { frame = f; len = 1 } ∷ record { frame = g; len = 1 } ∷ [])) h
apart_from f g (s ∷ ss) h = by (frame_goes_on bytes_eq g s.frame) where
  by : (b : Bool) → with_frame bytes_eq f (cond b (record { frame = g; len = s.len + 1 } ∷ ss) (record { frame = g; len = 1 } ∷ s ∷ ss))
      ≡ record { frame = f; len = 1 } ∷ cond b (record { frame = g; len = s.len + 1 } ∷ ss) (record { frame = g; len = 1 } ∷ s ∷ ss)
  by true = ap (λ (b : Bool). cond b (record { frame = f; len = s.len + 1 + 1 } ∷ ss) (record { frame = f; len = 1 } ∷ record { frame = g; len = s.len + 1 } ∷ ss)) h
  by false = ap (λ (b : Bool). cond b (record { frame = f; len = 1 + 1 } ∷ s ∷ ss) (record { frame = f; len = 1 } ∷ record { frame = g; len = 1 } ∷ s ∷ ss)) h

onto : (f : Frame (List ℕ)) (n : ℕ) (rs : List (Run (List ℕ))) → with_frame bytes_eq f (record { frame = next_frame f; len = n } ∷ rs) ≡ record { frame = f; len = n + 1 } ∷ rs
onto f n rs = ap (λ (b : Bool). cond b (record { frame = f; len = n + 1 } ∷ rs) (record { frame = f; len = 1 } ∷ record { frame = next_frame f; len = n } ∷ rs)) (frame_goes f)

cut_off : (f : Frame (List ℕ)) (n : ℕ) (fs : List (Frame (List ℕ))) → Breaks (later_frame f n) fs → runs bytes_eq (frames_from f (suc n) ++ fs) ≡ record { frame = f; len = suc n } ∷ runs bytes_eq fs
cut_off f zero [] h = refl
cut_off f zero (g ∷ gs) h = apart_from f g (runs bytes_eq gs) h
cut_off f (suc n) fs h =
    let e : suc n + 1 ≡ suc (suc n) = omega arith in
    ap (with_frame bytes_eq f) (cut_off (next_frame f) n fs h)
    ∙ (onto f (suc n) (runs bytes_eq fs) ∙ ap (λ (k : ℕ). record { frame = f; len = k } ∷ runs bytes_eq fs) e)

pub run_alone : (c : Channel) (at n : ℕ) (f : Frame (List ℕ)) (fs : List (Frame (List ℕ))) → 0 < n → Breaks (later_frame f (n - 1)) fs → frames_text c at (frames_from f n ++ fs) ≡ run_text c at n f ++ frames_text c (at + n) fs
run_alone c at zero f fs some h = absurd (omega arith)
run_alone c at (suc n) f fs some h =
    let e : suc n - 1 ≡ n = omega arith in
    ap (runs_text c at) (cut_off f n fs (subst (λ (k : ℕ). Breaks (later_frame f k) fs) e h))

breaks_at : (f g : Frame (List ℕ)) (n : ℕ) (rest : List (Frame (List ℕ))) → 0 < n → frame_goes_on bytes_eq f g ≡ false → Breaks f (frames_from g n ++ rest)
breaks_at f g zero rest some h = absurd (omega arith)
breaks_at f g (suc n) rest some h = h

-- ---- a piece behind another

pub follows : (p q : Piece) → 0 < p.len → IsPiece p → frame_goes_on bytes_eq p.last q.first ≡ true → q.first ≡ later_frame p.first p.len
follows p q some h goes =
    let e : p.len - 1 + 1 ≡ p.len = omega (arith, some) in
    frame-next (List ℕ) bytes_eq one_reel p.last q.first goes
    ∙ (ap next_frame (h some) ∙ (later_more p.first (p.len - 1) 1 ∙ ap (later_frame p.first) e))

pub joined_text : (c : Channel) (at : ℕ) (p q : Piece) (rest : List (Frame (List ℕ))) → q.first ≡ later_frame p.first p.len
    → frames_text c at (frames_from p.first (p.len + q.len) ++ rest) ≡ frames_text c at (piece_frames p ++ (piece_frames q ++ rest))
joined_text c at p q rest is =
    ap (λ (fs : List (Frame (List ℕ))). frames_text c at (fs ++ rest)) (two_runs p.first p.len q.len ∙ ap (λ (f : Frame (List ℕ)). piece_frames p ++ frames_from f q.len) (sym is))
    ∙ ap (frames_text c at) (append_assoc (piece_frames p) (piece_frames q) rest)

pub joined_last : (p q : Piece) → 0 < q.len → IsPiece q → q.first ≡ later_frame p.first p.len → q.last ≡ later_frame p.first (p.len + q.len - 1)
joined_last p q more k is =
    let e : p.len + (q.len - 1) ≡ p.len + q.len - 1 = omega (arith, more) in
    k more ∙ (ap (λ (f : Frame (List ℕ)). later_frame f (q.len - 1)) is ∙ (later_more p.first p.len (q.len - 1) ∙ ap (later_frame p.first) e))

pub apart_text : (c : Channel) (old new : List ℕ) (p q : Piece) (rest : List (Frame (List ℕ))) → new ≡ old ++ run_text c p.place p.len p.first → 0 < p.len → 0 < q.len → IsPiece p → p.place + p.len ≡ q.place
    → frame_goes_on bytes_eq p.last q.first ≡ false
    → new ++ frames_text c q.place (piece_frames q ++ rest) ≡ old ++ frames_text c p.place (piece_frames p ++ (piece_frames q ++ rest))
apart_text c old new p q rest told some more h at stops =
    let own : List ℕ = run_text c p.place p.len p.first in
    let behind : List (Frame (List ℕ)) = piece_frames q ++ rest in
    let breaks : Breaks (later_frame p.first (p.len - 1)) behind =
    subst (λ (f : Frame (List ℕ)). Breaks f behind) (h some) (breaks_at p.last q.first q.len rest more stops) in
    ap (λ (text : List ℕ). text ++ frames_text c q.place behind) told
    ∙ (append_assoc old own (frames_text c q.place behind)
    ∙ ap (λ (text : List ℕ). old ++ text)
    (ap (λ (n : ℕ). own ++ frames_text c n behind) (sym at) ∙ sym (run_alone c p.place p.len p.first behind some breaks)))

-- a piece without frames stands for none
pub empty_text : (c : Channel) (at to n : ℕ) (f : Frame (List ℕ)) (rest : List (Frame (List ℕ))) → n ≡ 0 → at + n ≡ to → frames_text c at (frames_from f n ++ rest) ≡ frames_text c to rest
empty_text c at to n f rest none end =
    let e : at ≡ to = omega (arith, none, end) in
    ap (λ (k : ℕ). frames_text c at (frames_from f k ++ rest)) none ∙ ap (λ (k : ℕ). frames_text c k rest) e

pub no_frames : (n : ℕ) (f : Frame (List ℕ)) (rest : List (Frame (List ℕ))) → n ≡ 0 → frames_from f n ++ rest ≡ rest
no_frames n f rest none = ap (λ (k : ℕ). frames_from f k ++ rest) none

-- the text of a piece by itself
pub alone_text : (c : Channel) (at n : ℕ) (f : Frame (List ℕ)) → 0 < n → frames_text c at (frames_from f n ++ []) ≡ run_text c at n f
alone_text c at n f some = run_alone c at n f [] some tt ∙ append-nil (run_text c at n f)

pub none_text : (c : Channel) (at n : ℕ) (f : Frame (List ℕ)) → n ≡ 0 → frames_text c at (frames_from f n ++ []) ≡ []
none_text c at n f none = ap (λ (k : ℕ). frames_text c at (frames_from f k ++ [])) none
