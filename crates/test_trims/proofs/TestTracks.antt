-- Lists of the one, two or three tracks of a test, and the calls that name them.
use Rattle.std.proofs.Common.{◌≡◌, ℕ, true, List, [], ◌∷◌, ◌++◌, All, nat_eq, sym, ap, ◌∙◌, refl, arith, subst}
use Rattle.std.specs.List.{list_any}
use Rattle.std.proofs.lemmas.List.Elements.{All-append, All-cons}
use Rattle.composables.specs.OwnTracks.{numbers_of}
use Rattle.composables.specs.TrackSets.{tracks_in}
use Rattle.composables.specs.TrackState.{TrackState}

-- the first track alone
pub one-numbers : (us vs : List TrackState) (t : TrackState) → us ≡ [] → vs ≡ us ++ t ∷ [] → t.number ≡ 0 → numbers_of vs ≡ tracks_in 1
unfolding tracks_in
one-numbers us vs t e f is = ap numbers_of (f ∙ ap (λ (l : List TrackState). l ++ t ∷ []) e) ∙ ap (λ (n : ℕ). n ∷ []) is

pub one-own : list_any (nat_eq 0) (tracks_in 1) ≡ true
unfolding tracks_in
one-own = refl

-- two tracks
pub two-own : (own tracks : ℕ) → own ≡ 0 → tracks ≡ 3 → list_any (nat_eq own) (tracks_in tracks) ≡ true
unfolding tracks_in
two-own own tracks e f = ap (λ (k : ℕ). list_any (nat_eq k) (tracks_in tracks)) e ∙ ap (λ (k : ℕ). list_any (nat_eq 0) (tracks_in k)) f

-- a set that names them
pub named-two : (ns : List ℕ) (tracks : ℕ) → ns ≡ 0 ∷ 1 ∷ [] → tracks ≡ 3 → ns ≡ tracks_in tracks
unfolding tracks_in
named-two ns tracks e f = e ∙ ap tracks_in (sym f)

pub named-three : (ns : List ℕ) (tracks : ℕ) → ns ≡ 0 ∷ 1 ∷ 2 ∷ [] → tracks ≡ 7 → ns ≡ tracks_in tracks
unfolding tracks_in
named-three ns tracks e f = e ∙ ap tracks_in (sym f)

pub third-own : list_any (nat_eq 2) (tracks_in 7) ≡ true
unfolding tracks_in
third-own = refl

-- one track more
pub all-more : (P : TrackState → Type 0) (us vs : List TrackState) (t : TrackState) → All P us → vs ≡ us ++ t ∷ [] → P t → All P vs
all-more P us vs t h f p = subst (λ (l : List TrackState). All P l) (sym f) (All-append P us (t ∷ []) h (All-cons P t [] p none)) where
  none : All P []
  none k d lt = absurd (omega (arith, lt))
