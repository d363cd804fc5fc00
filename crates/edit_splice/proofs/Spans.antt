-- The first cells of an item or gap, and all but the first.
use Rattle.std.proofs.Common.{◌≡◌, ℕ, zero, suc, ◌+◌, ◌-◌, ◌≤◌, List, [], ◌∷◌, ◌++◌, ◌<◌, length, Option, None, min, refl, sym, ap, ◌∙◌, arith, take, drop, append_assoc}
use Rattle.std.proofs.lemmas.List.{append-nil, take_all, drop_all}
use Rattle.frame_meaning.specs.declared.cells.What.{What}
use Rattle.frame_meaning.specs.declared.cells.Mark.{Mark}
use Rattle.frame_meaning.specs.declared.cells.Link.{Link}
use Rattle.frame_meaning.specs.declared.frames.Side.{Side}
use Rattle.frame_meaning.specs.declared.frames.Side.TheVariants.{Dark, Pic}
use Rattle.frame_meaning.specs.Cells.{span, next_side, later_side}
use Rattle.composables.specs.declared.items.ItemView.{ItemView}
use Rattle.frame_meaning.specs.declared.cells.Cell.{Cell}
use Rattle.composables.specs.Items.{marked, view_cells, cells_of}
use Rattle.composables.specs.Joined.{frames_in}
use Rattle.composables.proofs.Joining.{length-view_cells}

-- the first cells of two lists in a row, and all but the first
pub take_through : {A : Type 0} (n : ℕ) (xs ys : List A) → take n (xs ++ ys) ≡ take n xs ++ take (n - length xs) ys
take_through zero xs ys = let e : 0 - length xs ≡ 0 = omega arith in sym (ap (λ (k : ℕ). take k ys) e)
take_through (suc n) [] ys = let e : suc n - 0 ≡ suc n = omega arith in sym (ap (λ (k : ℕ). take k ys) e)
take_through (suc n) (x ∷ xs) ys =
    let e : n - length xs ≡ suc n - suc (length xs) = omega arith in
    ap (λ zs. x ∷ zs) (take_through n xs ys ∙ ap (λ (k : ℕ). take n xs ++ take k ys) e)

pub drop_through : {A : Type 0} (n : ℕ) (xs ys : List A) → drop n (xs ++ ys) ≡ drop n xs ++ drop (n - length xs) ys
drop_through zero xs ys = let e : 0 - length xs ≡ 0 = omega arith in sym (ap (λ (k : ℕ). xs ++ drop k ys) e)
drop_through (suc n) [] ys = let e : suc n - 0 ≡ suc n = omega arith in sym (ap (λ (k : ℕ). drop k ys) e)
drop_through (suc n) (x ∷ xs) ys =
    let e : n - length xs ≡ suc n - suc (length xs) = omega arith in
    drop_through n xs ys ∙ ap (λ (k : ℕ). drop n xs ++ drop k ys) e

pub later_next : (s : Side What) (n : ℕ) → later_side (next_side s) n ≡ later_side s (suc n)
later_next Dark n = refl
later_next (Pic w s) n = let e : s + 1 + n ≡ s + suc n = omega arith in ap (λ (k : ℕ). Pic w k) e

later_zero : (s : Side What) → later_side s 0 ≡ s
later_zero Dark = refl
later_zero (Pic w s) = let e : s + 0 ≡ s = omega arith in ap (λ (k : ℕ). Pic w k) e

pub length-span : (i : Option ℕ) (s : Side What) (l : Option Link) (n : ℕ) → length (span i s l n) ≡ n
length-span i s l zero = refl
length-span i s l (suc n) = ap suc (length-span i (next_side s) l n)

pub take-span : (i : Option ℕ) (s : Side What) (l : Option Link) (k n : ℕ) → take k (span i s l n) ≡ span i s l (min n k)
take-span i s l zero n = let e : min n 0 ≡ 0 = omega arith in sym (ap (span i s l) e)
take-span i s l (suc k) zero = let e : min 0 (suc k) ≡ 0 = omega arith in sym (ap (span i s l) e)
take-span i s l (suc k) (suc n) =
    let e : suc (min n k) ≡ min (suc n) (suc k) = omega arith in
    ap (λ cs. record { item = i; side = s; mark = None; link = l } ∷ cs) (take-span i (next_side s) l k n) ∙ ap (span i s l) e

pub drop-span : (i : Option ℕ) (s : Side What) (l : Option Link) (k n : ℕ) → k ≤ n → drop k (span i s l n) ≡ span i (later_side s k) l (n - k)
drop-span i s l zero n h = let e : n - 0 ≡ n = omega arith in rw (later_zero s, e) refl
drop-span i s l (suc k) zero h = absurd (omega arith)
drop-span i s l (suc k) (suc n) h =
    let e : suc n - suc k ≡ n - k = omega arith in
    drop-span i (next_side s) l k n (omega arith) ∙ rw (later_next s k, e) refl

pub marked-none : (i : Option ℕ) (s : Side What) (l : Option Link) (n : ℕ) → marked None (span i s l n) ≡ span i s l n
marked-none i s l zero = refl
marked-none i s l (suc n) = refl

-- an item or gap from a frame on, with its dissolve if that is its first
abbrev pub mark_from : ℕ → Option Mark → Option Mark
mark_from zero m = m
mark_from (suc k) m = None

abbrev pub view_from : ItemView → ℕ → ItemView
view_from v k = record v { first = later_side v.first k; len = v.len - k; mark = mark_from k v.mark }

take-marked : (m : Option Mark) (k : ℕ) (cs : List Cell) → take k (marked m cs) ≡ marked m (take k cs)
take-marked m zero cs = refl
take-marked m (suc k) [] = refl
take-marked m (suc k) (c ∷ cs) = refl

drop-marked : (m : Option Mark) (k : ℕ) (cs : List Cell) → drop (suc k) (marked m cs) ≡ drop (suc k) cs
drop-marked m k [] = refl
drop-marked m k (c ∷ cs) = refl

pub take-view : (v : ItemView) (n : ℕ) → n ≤ v.len → take n (view_cells v) ≡ view_cells (record v { len = n })
take-view v n h =
    let e : min v.len n ≡ n = omega (arith, h) in
    take-marked v.mark n (span v.item v.first v.link v.len)
    ∙ (ap (marked v.mark) (take-span v.item v.first v.link n v.len)
    ∙ ap (λ (k : ℕ). marked v.mark (span v.item v.first v.link k)) e)

pub drop-view : (v : ItemView) (k : ℕ) → k ≤ v.len → drop k (view_cells v) ≡ view_cells (view_from v k)
drop-view v zero h =
    let e : v.len - 0 ≡ v.len = omega arith in
    sym (ap (λ (s : Side What). marked v.mark (span v.item s v.link (v.len - 0))) (later_zero v.first)
    ∙ ap (λ (n : ℕ). marked v.mark (span v.item v.first v.link n)) e)
drop-view v (suc k) h =
    drop-marked v.mark k (span v.item v.first v.link v.len)
    ∙ (drop-span v.item v.first v.link (suc k) v.len h
    ∙ sym (marked-none v.item (later_side v.first (suc k)) v.link (v.len - suc k)))

-- the first cells of items and gaps, up to a place in one of them
pub take-cells : (us : List ItemView) (v : ItemView) (ws : List ItemView) (x : ℕ) → frames_in us ≤ x → x ≤ frames_in us + v.len
    → take x (cells_of (us ++ v ∷ ws)) ≡ cells_of us ++ view_cells (record v { len = x - frames_in us })
take-cells [] v ws x lo hi =
    let none : x - length (view_cells v) ≡ 0 = omega (arith, length-view_cells v, hi) in
    let same : x ≡ x - 0 = omega arith in
    take_through x (view_cells v) (cells_of ws)
    ∙ (ap (λ (k : ℕ). take x (view_cells v) ++ take k (cells_of ws)) none
    ∙ (append-nil (take x (view_cells v))
    ∙ (take-view v x (omega (arith, hi)) ∙ ap (λ (k : ℕ). view_cells (record v { len = k })) same)))
take-cells (u ∷ us) v ws x lo hi =
    let past : x - length (view_cells u) ≡ x - u.len = omega (arith, length-view_cells u) in
    let rest : x - u.len - frames_in us ≡ x - (u.len + frames_in us) = omega arith in
    take_through x (view_cells u) (cells_of (us ++ v ∷ ws))
    ∙ (ap (λ cs. cs ++ take (x - length (view_cells u)) (cells_of (us ++ v ∷ ws))) (take_all x (view_cells u) (omega (arith, length-view_cells u, lo)))
    ∙ (ap (λ (k : ℕ). view_cells u ++ take k (cells_of (us ++ v ∷ ws))) past
    ∙ (ap (λ cs. view_cells u ++ cs) (take-cells us v ws (x - u.len) (omega (arith, lo)) (omega (arith, lo, hi)))
    ∙ (ap (λ (k : ℕ). view_cells u ++ (cells_of us ++ view_cells (record v { len = k }))) rest
    ∙ sym (append_assoc (view_cells u) (cells_of us) (view_cells (record v { len = x - (u.len + frames_in us) })))))))

-- and the others
pub drop-cells : (us : List ItemView) (v : ItemView) (ws : List ItemView) (y : ℕ) → frames_in us ≤ y → y < frames_in us + v.len
    → drop y (cells_of (us ++ v ∷ ws)) ≡ view_cells (view_from v (y - frames_in us)) ++ cells_of ws
drop-cells [] v ws y lo hi =
    let none : y - length (view_cells v) ≡ 0 = omega (arith, length-view_cells v, hi) in
    let same : y ≡ y - 0 = omega arith in
    drop_through y (view_cells v) (cells_of ws)
    ∙ (ap (λ (k : ℕ). drop y (view_cells v) ++ drop k (cells_of ws)) none
    ∙ (ap (λ cs. cs ++ cells_of ws) (drop-view v y (omega (arith, hi)))
    ∙ ap (λ (k : ℕ). view_cells (view_from v k) ++ cells_of ws) same))
drop-cells (u ∷ us) v ws y lo hi =
    let past : y - length (view_cells u) ≡ y - u.len = omega (arith, length-view_cells u) in
    let rest : y - u.len - frames_in us ≡ y - (u.len + frames_in us) = omega arith in
    drop_through y (view_cells u) (cells_of (us ++ v ∷ ws))
    ∙ (ap (λ cs. cs ++ drop (y - length (view_cells u)) (cells_of (us ++ v ∷ ws))) (drop_all y (view_cells u) (omega (arith, length-view_cells u, lo)))
    ∙ (ap (λ (k : ℕ). drop k (cells_of (us ++ v ∷ ws))) past
    ∙ (drop-cells us v ws (y - u.len) (omega (arith, lo)) (omega (arith, lo, hi))
    ∙ ap (λ (k : ℕ). view_cells (view_from v k) ++ cells_of ws) rest)))
