-- A run that goes into the last of some runs, or behind it.
use Rattle.std.proofs.Common.{◌≡◌, ℕ, zero, suc, ◌+◌, ◌<◌, ◌≤◌, Bool, true, false, cond, List, [], ◌∷◌, ◌++◌, length, get_or, refl, sym, ap, ◌∙◌, arith}
use Rattle.std.proofs.Math.ListN.{set}
use Rattle.frame_meaning.specs.declared.cells.What.{What}
use Rattle.frame_meaning.specs.declared.frames.Run.{Run}
use Rattle.frame_meaning.specs.Going.{same_what, frame_goes_on}
use Rattle.dissolves.specs.Pieces.{last_frame, push_run, len_of}

pub len_below : (rs : List (Run What)) (i : ℕ) (d : Run What) → i < length rs → (get_or rs i d).len ≤ len_of rs
len_below [] i d h = absurd (omega arith)
len_below (r ∷ rs) zero d h = omega arith
len_below (r ∷ rs) (suc i) d h = omega (arith, len_below rs i d (omega arith))

pub read_same : (rs : List (Run What)) (i : ℕ) (u w : Run What) → i < length rs → u ≡ get_or rs i u → w ≡ get_or rs i w → u ≡ w
read_same [] i u w h e f = absurd (omega arith)
read_same (r ∷ rs) zero u w h e f = e ∙ sym f
read_same (r ∷ rs) (suc i) u w h e f = read_same rs i u w (omega arith) e f

last_joined_at : (s : Run What) (rs : List (Run What)) (r d : Run What) → frame_goes_on same_what (last_frame (get_or (s ∷ rs) (length rs) d)) r.frame ≡ true
    → set (s ∷ rs) (length rs) (record (get_or (s ∷ rs) (length rs) d) { len = (get_or (s ∷ rs) (length rs) d).len + r.len }) ≡ push_run same_what (s ∷ rs) r
last_joined_at s [] r d h = sym (ap (λ (b : Bool). cond b (record s { len = s.len + r.len } ∷ []) (s ∷ r ∷ [])) h)
last_joined_at s (t ∷ ts) r d h = ap (λ zs. s ∷ zs) (last_joined_at t ts r d h)

pub last_joined : (rs : List (Run What)) (r w : Run What) (i : ℕ) → suc i ≡ length rs → w ≡ get_or rs i w → frame_goes_on same_what (last_frame w) r.frame ≡ true
    → set rs i (record w { len = w.len + r.len }) ≡ push_run same_what rs r
last_joined [] r w i e is h = absurd (omega arith)
last_joined (s ∷ rs) r w i e is h =
    let n : i ≡ length rs = omega arith in
    let at : w ≡ get_or (s ∷ rs) (length rs) w = is ∙ ap (λ (k : ℕ). get_or (s ∷ rs) k w) n in
    ap (λ (k : ℕ). set (s ∷ rs) k (record w { len = w.len + r.len })) n
    ∙ (ap (λ (u : Run What). set (s ∷ rs) (length rs) (record u { len = u.len + r.len })) at
    ∙ last_joined_at s rs r w (sym (ap (λ (u : Run What). frame_goes_on same_what (last_frame u) r.frame) at) ∙ h))

last_apart_at : (s : Run What) (rs : List (Run What)) (r d : Run What) → frame_goes_on same_what (last_frame (get_or (s ∷ rs) (length rs) d)) r.frame ≡ false
    → (s ∷ rs) ++ r ∷ [] ≡ push_run same_what (s ∷ rs) r
last_apart_at s [] r d h = sym (ap (λ (b : Bool). cond b (record s { len = s.len + r.len } ∷ []) (s ∷ r ∷ [])) h)
last_apart_at s (t ∷ ts) r d h = ap (λ zs. s ∷ zs) (last_apart_at t ts r d h)

pub last_apart : (rs : List (Run What)) (r w : Run What) (i : ℕ) → suc i ≡ length rs → w ≡ get_or rs i w → frame_goes_on same_what (last_frame w) r.frame ≡ false
    → rs ++ r ∷ [] ≡ push_run same_what rs r
last_apart [] r w i e is h = absurd (omega arith)
last_apart (s ∷ rs) r w i e is h =
    let n : i ≡ length rs = omega arith in
    let at : w ≡ get_or (s ∷ rs) (length rs) w = is ∙ ap (λ (k : ℕ). get_or (s ∷ rs) k w) n in
    last_apart_at s rs r w (sym (ap (λ (u : Run What). frame_goes_on same_what (last_frame u) r.frame) at) ∙ h)

pub first_pushed : (rs : List (Run What)) (r : Run What) → length rs ≡ 0 → rs ++ r ∷ [] ≡ push_run same_what rs r
first_pushed [] r h = refl
first_pushed (s ∷ rs) r h = absurd (omega arith)
