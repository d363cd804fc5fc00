-- Named tracks picked by their numbers, and put back.
use Rattle.std.proofs.Common.{◌≡◌, ℕ, zero, suc, ◌+◌, ◌<◌, inl, inr, ℤ, Bool, cond, eqb, List, [], ◌∷◌, drop, length, slice_get, slice_set, unwrap_or, Option, Some, None, Ok, Err, refl, sym, ap, ◌∙◌, arith, subst}
use Rattle.std.proofs.lemmas.Bool.{ne_eqb}
use Rattle.frame_meaning.specs.declared.cells.Cell.{Cell}
use Rattle.frame_meaning.specs.declared.cells.Link.{Link}
use Rattle.composables.specs.declared.media.Table.{Table}
use Rattle.composables.specs.Answers.{Applied}
use Rattle.composables.specs.Items.{items_of}
use Rattle.composables.specs.OwnTracks.{numbers_of, track_numbered}
use Rattle.composables.specs.TrackState.{TrackState}
use Rattle.composables.proofs.Joining.{eqb-refl}
use Rattle.room_core.specs.Parts.{AscendBetween}
use Rattle.room_core.specs.Whole.{on_whole, picked, put_back, with_picked}
use Rattle.link_laws.specs.Rooms.{AreAmong, AreNamed, Ascend, IsRoom, LeavesTogether, StaysTogether, as_left, with_tracks}
use Rattle.link_laws.proofs.Sights.{Shows, shows-none}
use Rattle.link_laws.proofs.Tied.{Sees, together-of}
use Rattle.link_laws.specs.Wholes.{AreBare, KeepsNumbers, Numbered, StayTogether, UnlinkedAreTogether, WholesKeepTogether}

-- tracks by their places

numbered_at : (from : ℕ) (ts : List TrackState) (k : ℕ) (t : TrackState) → Numbered from ts → slice_get ts k ≡ Some t → (t.number ≡ from + k) × (track_numbered (from + k) ts ≡ Some t)
numbered_at from [] k t h e = absurd cc
numbered_at from (u ∷ us) zero t h e =
    let same : u ≡ t = cc in
    let z : from ≡ from + 0 = omega arith in
    let n : u.number ≡ from + 0 = h.0 ∙ z in (
      ap (λ (v : TrackState). v.number) (sym same) ∙ n,
      ap (λ (m : ℕ). cond (eqb m (from + 0)) (Some u) (track_numbered (from + 0) us)) n
          ∙ (ap (λ (b : Bool). cond b (Some u) (track_numbered (from + 0) us)) (eqb-refl (from + 0)) ∙ ap Some same),
    )
numbered_at from (u ∷ us) (suc k) t h e =
    let r = numbered_at (from + 1) us k t h.1 e in
    let z : from + 1 + k ≡ from + suc k = omega arith in
    let apart : u.number ≡ from + suc k → ⊥ = λ n. omega (arith, n, h.0) in (
      r.0 ∙ z,
      ap (λ (b : Bool). cond b (Some u) (track_numbered (from + suc k) us)) (ne_eqb u.number (from + suc k) apart)
          ∙ (ap (λ (m : ℕ). track_numbered m us) (sym z) ∙ r.1),
    )

pub at-place : (all : List TrackState) (n : ℕ) (t : TrackState) → Numbered 0 all → slice_get all n ≡ Some t → (t.number ≡ n) × (track_numbered t.number all ≡ Some t)
at-place all n t h e =
    let r = numbered_at 0 all n t h e in
    let z : 0 + n ≡ n = omega arith in
    (r.0 ∙ z, ap (λ (m : ℕ). track_numbered m all) r.0 ∙ r.1)

drop_step : {A : Type 0} (xs : List A) (k : ℕ) (y : A) (ys : List A) → drop k xs ≡ y ∷ ys → (slice_get xs k ≡ Some y) × (drop (suc k) xs ≡ ys)
drop_step [] zero y ys e = absurd cc
drop_step [] (suc k) y ys e = absurd cc
drop_step (x ∷ xs) zero y ys e = let same : x ≡ y = cc in let rest : xs ≡ ys = cc in (ap Some same, rest)
drop_step (x ∷ xs) (suc k) y ys e = drop_step xs k y ys e

pub among-from : (all : List TrackState) (k : ℕ) (ts : List TrackState) → Numbered 0 all → drop k all ≡ ts → AreAmong all ts
among-from all k [] h e = tt
among-from all k (t ∷ ts) h e =
    let r = drop_step all k t ts e in
    ((at-place all k t h r.0).1, among-from all (suc k) ts h r.1)

pub among-picked : (all : List TrackState) (names : List ℕ) → Numbered 0 all → AreAmong all (picked all names)
among-picked all [] h = tt
among-picked all (n ∷ ns) h = by (slice_get all n) refl (among-picked all ns h) where
  by : (o : Option TrackState) → slice_get all n ≡ o → AreAmong all (picked all ns) → AreAmong all (with_picked o (picked all ns))
  by None e rest = rest
  by (Some t) e rest = ((at-place all n t h e).1, rest)

pub none-within : (ts : List TrackState) (n : ℕ) → slice_get ts n ≡ None → n < length ts → ⊥
none-within [] n e lt = omega (arith, lt)
none-within (t ∷ ts) zero e lt = cc
none-within (t ∷ ts) (suc n) e lt = none-within ts n e (omega (arith, lt))

pub ascend-picked : (all : List TrackState) (least : ℕ) (names : List ℕ) → Numbered 0 all → AscendBetween least (length all) names → Ascend least (picked all names)
ascend-picked all least [] h a = tt
ascend-picked all least (n ∷ ns) h a = by (slice_get all n) refl (ascend-picked all (n + 1) ns h a.2) where
  by : (o : Option TrackState) → slice_get all n ≡ o → Ascend (n + 1) (picked all ns) → Ascend least (with_picked o (picked all ns))
  by None e rest = absurd (none-within all n e a.1)
  by (Some t) e rest =
      let is : t.number ≡ n = (at-place all n t h e).0 in
      (omega (arith, is, a.0), subst (λ (m : ℕ). Ascend (m + 1) (picked all ns)) (sym is) rest)

-- what is put back stands at the numbers

above_of : (least count : ℕ) (ts : List TrackState) → AscendBetween least count (numbers_of ts) → (m : ℕ) → m < least → track_numbered m ts ≡ None
above_of least count [] a m lt = refl
above_of least count (t ∷ ts) a m lt =
    let apart : t.number ≡ m → ⊥ = λ e. omega (arith, e, a.0, lt) in
    ap (λ (b : Bool). cond b (Some t) (track_numbered m ts)) (ne_eqb t.number m apart) ∙ above_of (t.number + 1) count ts a.2 m (omega (arith, a.0, lt))

left_past : (p : TrackState) (ps : List TrackState) (t : TrackState) → (p.number ≡ t.number → ⊥) → as_left (p ∷ ps) t ≡ as_left ps t
left_past p ps t apart = ap (λ (b : Bool). unwrap_or (cond b (Some p) (track_numbered t.number ps)) t) (ne_eqb p.number t.number apart)

left_here : (p : TrackState) (ps : List TrackState) (t : TrackState) → p.number ≡ t.number → as_left (p ∷ ps) t ≡ p
left_here p ps t e =
    ap (λ (m : ℕ). unwrap_or (cond (eqb p.number m) (Some p) (track_numbered t.number ps)) t) (sym e)
    ∙ ap (λ (b : Bool). unwrap_or (cond b (Some p) (track_numbered t.number ps)) t) (eqb-refl p.number)

lefts_past : (from : ℕ) (p : TrackState) (ps ts : List TrackState) → Numbered from ts → p.number < from → with_tracks ts ps ≡ with_tracks ts (p ∷ ps)
lefts_past from p ps [] h lt = refl
lefts_past from p ps (t ∷ ts) h lt =
    let apart : p.number ≡ t.number → ⊥ = λ e. omega (arith, e, h.0, lt) in
    ap (λ (u : TrackState). u ∷ with_tracks ts ps) (sym (left_past p ps t apart))
    ∙ ap (λ (us : List TrackState). as_left (p ∷ ps) t ∷ us) (lefts_past (from + 1) p ps ts h.1 (omega (arith, lt)))

set_left : (from k : ℕ) (p : TrackState) (ps ts : List TrackState) → Numbered from ts → k < length ts → p.number ≡ from + k → track_numbered p.number ps ≡ None
    → with_tracks (slice_set ts k p) ps ≡ with_tracks ts (p ∷ ps)
set_left from k p ps [] h lt e none = absurd (omega (arith, lt))
set_left from zero p ps (t ∷ ts) h lt e none =
    let here : p.number ≡ t.number = omega (arith, e, h.0) in
    let same : as_left ps p ≡ p = ap (λ (o : Option TrackState). unwrap_or o p) none in
    ap (λ (u : TrackState). u ∷ with_tracks ts ps) (same ∙ sym (left_here p ps t here))
    ∙ ap (λ (us : List TrackState). as_left (p ∷ ps) t ∷ us) (lefts_past (from + 1) p ps ts h.1 (omega (arith, e)))
set_left from (suc k) p ps (t ∷ ts) h lt e none =
    let apart : p.number ≡ t.number → ⊥ = λ n. omega (arith, n, e, h.0) in
    ap (λ (u : TrackState). u ∷ with_tracks (slice_set ts k p) ps) (sym (left_past p ps t apart))
    ∙ ap (λ (us : List TrackState). as_left (p ∷ ps) t ∷ us) (set_left (from + 1) k p ps ts h.1 (omega (arith, lt)) (omega (arith, e)) none)

pub set-numbered : (from k : ℕ) (p : TrackState) (ts : List TrackState) → Numbered from ts → p.number ≡ from + k → Numbered from (slice_set ts k p)
set-numbered from k p [] h e = h
set-numbered from zero p (t ∷ ts) h e = (omega (arith, e), h.1)
set-numbered from (suc k) p (t ∷ ts) h e = (h.0, set-numbered (from + 1) k p ts h.1 (omega (arith, e)))

pub set-length : (k : ℕ) (p : TrackState) (ts : List TrackState) → length (slice_set ts k p) ≡ length ts
set-length k p [] = refl
set-length zero p (t ∷ ts) = refl
set-length (suc k) p (t ∷ ts) = ap suc (set-length k p ts)

none_left : (ts : List TrackState) → with_tracks ts [] ≡ ts
none_left [] = refl
none_left (t ∷ ts) = ap (λ (us : List TrackState). t ∷ us) (none_left ts)

pub put-back : (least : ℕ) (all us : List TrackState) → Numbered 0 all → AscendBetween least (length all) (numbers_of us) → put_back all (numbers_of us) us ≡ with_tracks all us
put-back least all [] h a = sym (none_left all)
put-back least all (u ∷ us) h a =
    let set : List TrackState = slice_set all u.number u in
    let z : u.number ≡ 0 + u.number = omega arith in
    put-back (u.number + 1) set us (set-numbered 0 u.number u all h z) (subst (λ (n : ℕ). AscendBetween (u.number + 1) n (numbers_of us)) (sym (set-length u.number u all)) a.2)
    ∙ set_left 0 u.number u us all h a.1 z (above_of (u.number + 1) (length all) us a.2 u.number (omega arith))

-- a call on all tracks

pub ascend-of : (from : ℕ) (ts : List TrackState) → Numbered from ts → Ascend from ts
ascend-of from [] h = tt
ascend-of from (t ∷ ts) h = (omega (arith, h.0), subst (λ (n : ℕ). Ascend (n + 1) ts) (sym h.0) (ascend-of (from + 1) ts h.1))

pub wholes-keep : WholesKeepTogether
wholes-keep table meant all names keeps order tracks ascend numbers g = by (meant (picked all names)) numbers (keeps all (picked all names) room named g) where
  room : IsRoom table all
  room = record { apart = among-from all 0 all order refl; ascend = ascend-of 0 all order; tracks = tracks }

  named : AreNamed all (picked all names)
  named = record { among = among-picked all names order; ascend = ascend-picked all 0 names order ascend }

  by : (r : Applied) → KeepsNumbers names r → LeavesTogether all r → StayTogether all (on_whole all names r)
  by (Ok (us, d)) n l =
      let asc : AscendBetween 0 (length all) (numbers_of us) = subst (AscendBetween 0 (length all)) (sym n) ascend in
      let same : put_back all names us ≡ with_tracks all us = ap (λ (ns : List ℕ). put_back all ns us) (sym n) ∙ put-back 0 all us order asc in
      subst (StaysTogether all) (sym same) l
  by (Err why) n l = tt

-- tracks without links

pub sees-none : (table : Table) (ts : List TrackState) (l : Link) (o : Option ℤ) → AreBare table ts → Sees ts l o → ⊥
sees-none table [] l o a h = h
sees-none table (t ∷ ts) l o a (inl h) =
    shows-none 0 (items_of t.cells) l o a.1 (subst (λ (cs : List Cell). Shows 0 cs l o) (sym a.0.kept.whole) h)
sees-none table (t ∷ ts) l o a (inr h) = sees-none table ts l o a.2 h

pub unlinked-together : UnlinkedAreTogether
unlinked-together table all bare =
    together-of all (record {
      one = λ k l a b s t h n. absurd (sees-none table all k a bare s);
      below = λ l a s. absurd (sees-none table all l a bare s);
    })
