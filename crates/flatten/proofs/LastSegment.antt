-- A segment that goes into the last of some segments, or behind it.
use Rattle.std.proofs.Common.{◌≡◌, ℕ, zero, suc, ◌+◌, ◌<◌, ◌≤◌, Bool, true, false, cond, List, [], ◌∷◌, ◌++◌, length, get_or, refl, sym, ap, ◌∙◌, arith}
use Rattle.std.proofs.Math.ListN.{set}
use Rattle.flatten.specs.declared.cutting.Segment.{Segment}
use Rattle.flatten.specs.Joined.{joined, lens_of}
use Rattle.flatten.specs.Segments.{goes_on_in}

pub len_below : (ss : List Segment) (i : ℕ) (d : Segment) → i < length ss → (get_or ss i d).len ≤ lens_of ss
len_below [] i d h = absurd (omega arith)
len_below (s ∷ ss) zero d h = omega arith
len_below (s ∷ ss) (suc i) d h = omega (arith, len_below ss i d (omega arith))

pub read_same : (ss : List Segment) (i : ℕ) (u w : Segment) → i < length ss → u ≡ get_or ss i u → w ≡ get_or ss i w → u ≡ w
read_same [] i u w h e f = absurd (omega arith)
read_same (s ∷ ss) zero u w h e f = e ∙ sym f
read_same (s ∷ ss) (suc i) u w h e f = read_same ss i u w (omega arith) e f

last_joined_at : (s : Segment) (ss : List Segment) (t d : Segment) → goes_on_in (get_or (s ∷ ss) (length ss) d) t ≡ true
    → set (s ∷ ss) (length ss) (record (get_or (s ∷ ss) (length ss) d) { len = (get_or (s ∷ ss) (length ss) d).len + t.len }) ≡ joined (s ∷ ss) t
last_joined_at s [] t d h = sym (ap (λ (b : Bool). cond b (record s { len = s.len + t.len } ∷ []) (s ∷ t ∷ [])) h)
last_joined_at s (u ∷ us) t d h = ap (λ zs. s ∷ zs) (last_joined_at u us t d h)

pub last_joined : (ss : List Segment) (t w : Segment) (i : ℕ) → suc i ≡ length ss → w ≡ get_or ss i w → goes_on_in w t ≡ true
    → set ss i (record w { len = w.len + t.len }) ≡ joined ss t
last_joined [] t w i e is h = absurd (omega arith)
last_joined (s ∷ ss) t w i e is h =
    let n : i ≡ length ss = omega arith in
    let at : w ≡ get_or (s ∷ ss) (length ss) w = is ∙ ap (λ (k : ℕ). get_or (s ∷ ss) k w) n in
    ap (λ (k : ℕ). set (s ∷ ss) k (record w { len = w.len + t.len })) n
    ∙ (ap (λ (u : Segment). set (s ∷ ss) (length ss) (record u { len = u.len + t.len })) at
    ∙ last_joined_at s ss t w (sym (ap (λ (u : Segment). goes_on_in u t) at) ∙ h))

last_apart_at : (s : Segment) (ss : List Segment) (t d : Segment) → goes_on_in (get_or (s ∷ ss) (length ss) d) t ≡ false
    → (s ∷ ss) ++ t ∷ [] ≡ joined (s ∷ ss) t
last_apart_at s [] t d h = sym (ap (λ (b : Bool). cond b (record s { len = s.len + t.len } ∷ []) (s ∷ t ∷ [])) h)
last_apart_at s (u ∷ us) t d h = ap (λ zs. s ∷ zs) (last_apart_at u us t d h)

pub last_apart : (ss : List Segment) (t w : Segment) (i : ℕ) → suc i ≡ length ss → w ≡ get_or ss i w → goes_on_in w t ≡ false
    → ss ++ t ∷ [] ≡ joined ss t
last_apart [] t w i e is h = absurd (omega arith)
last_apart (s ∷ ss) t w i e is h =
    let n : i ≡ length ss = omega arith in
    let at : w ≡ get_or (s ∷ ss) (length ss) w = is ∙ ap (λ (k : ℕ). get_or (s ∷ ss) k w) n in
    last_apart_at s ss t w (sym (ap (λ (u : Segment). goes_on_in u t) at) ∙ h)

pub first_joined : (ss : List Segment) (t : Segment) → length ss ≡ 0 → ss ++ t ∷ [] ≡ joined ss t
first_joined [] t h = refl
first_joined (s ∷ ss) t h = absurd (omega arith)
