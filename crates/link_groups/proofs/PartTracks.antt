-- Tracks changed one after another.
use Rattle.std.proofs.Common.{◌≡◌, ℕ, zero, suc, ◌+◌, ◌<◌, ◌≤◌, List, [], ◌∷◌, length, map, get_or, refl, ap, ◌∙◌, arith}
use Rattle.std.proofs.Math.ListN.{set}
use Rattle.composables.specs.TrackState.{TrackState}

-- the first of these tracks changed, the others as they were
abbrev pub part_changed : (TrackState → TrackState) → ℕ → List TrackState → List TrackState
part_changed f zero ts = ts
part_changed f (suc n) [] = []
part_changed f (suc n) (t ∷ ts) = f t ∷ part_changed f n ts

pub part-read : (f : TrackState → TrackState) (n : ℕ) (ts : List TrackState) (d : TrackState) → get_or (part_changed f n ts) n d ≡ get_or ts n d
part-read f zero ts d = refl
part-read f (suc n) [] d = refl
part-read f (suc n) (t ∷ ts) d = part-read f n ts d

pub part-length : (f : TrackState → TrackState) (n : ℕ) (ts : List TrackState) → length (part_changed f n ts) ≡ length ts
part-length f zero ts = refl
part-length f (suc n) [] = refl
part-length f (suc n) (t ∷ ts) = ap suc (part-length f n ts)

pub part_set : (f : TrackState → TrackState) (n : ℕ) (ts : List TrackState) (d : TrackState) → n < length ts → set (part_changed f n ts) n (f (get_or ts n d)) ≡ part_changed f (suc n) ts
part_set f n [] d h = absurd (omega (arith, h))
part_set f zero (t ∷ ts) d h = refl
part_set f (suc n) (t ∷ ts) d h = ap (λ (us : List TrackState). f t ∷ us) (part_set f n ts d (omega (arith, h)))

-- the track at the index is as it was
pub part-here : (f : TrackState → TrackState) (n : ℕ) (ts us : List TrackState) (t : TrackState) → us ≡ part_changed f n ts → t ≡ get_or us n t → t ≡ get_or ts n t
part-here f n ts us t e g = g ∙ (ap (λ (l : List TrackState). get_or l n t) e ∙ part-read f n ts t)

pub part-more : (f : TrackState → TrackState) (n : ℕ) (ts us : List TrackState) (t u : TrackState) → n < length ts → us ≡ part_changed f n ts → t ≡ get_or us n t → u ≡ f t
    → set us n u ≡ part_changed f (n + 1) ts
part-more f n ts us t u h e g is_new =
    let more : suc n ≡ n + 1 = omega arith in
    ap (λ (l : List TrackState). set l n u) e
    ∙ (ap (set (part_changed f n ts) n) (is_new ∙ ap f (part-here f n ts us t e g))
    ∙ (part_set f n ts t h ∙ ap (λ (m : ℕ). part_changed f m ts) more))

pub part-all : (f : TrackState → TrackState) (n : ℕ) (ts : List TrackState) → length ts ≤ n → part_changed f n ts ≡ map f ts
part-all f zero [] h = refl
part-all f zero (t ∷ ts) h = absurd (omega (arith, h))
part-all f (suc n) [] h = refl
part-all f (suc n) (t ∷ ts) h = ap (λ (us : List TrackState). f t ∷ us) (part-all f n ts (omega (arith, h)))
