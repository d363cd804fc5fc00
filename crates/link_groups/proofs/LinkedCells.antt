-- The links of what stands in a range of record frames, item by item and track by track.
use Rattle.std.proofs.Common.{◌≡◌, ℕ, zero, suc, ◌+◌, ◌-◌, ◌<◌, ◌≤◌, min, Bool, true, false, ◌&&◌, ◌||◌, List, [], ◌∷◌, ◌++◌, length, take, drop, Option, Some, slice_get, refl, sym, ap, ◌∙◌, arith, ⊎_elim}
use Rattle.std.specs.List.{list_any}
use Rattle.std.proofs.lemmas.Bool.{cases_lt}
use Rattle.std.proofs.lemmas.List.{append-nil, take-append-drop, take-append-le, take_all, take_more}
use Rattle.std.proofs.lemmas.List.Folds.{list_any-append}
use Rattle.std.proofs.lemmas.Option.{get_or_from_slice_get, slice_get_within}
use Rattle.std.proofs.Math.Seq.{take-append-add}
use Rattle.frame_meaning.specs.declared.cells.Cell.{Cell}
use Rattle.frame_meaning.specs.declared.cells.Link.{Link}
use Rattle.frame_meaning.specs.declared.cells.Mark.{Mark}
use Rattle.frame_meaning.specs.declared.cells.What.{What}
use Rattle.frame_meaning.specs.declared.frames.Side.{Side}
use Rattle.frame_meaning.specs.Cells.{next_side, span}
use Rattle.composables.specs.declared.items.ItemView.{ItemView}
use Rattle.composables.specs.Items.{cells_of, items_of, marked, view_cells}
use Rattle.composables.specs.Joined.{frames_in}
use Rattle.composables.specs.TrackFacts.{IsKept}
use Rattle.composables.specs.TrackState.{TrackState}
use Rattle.composables.proofs.Frames.{no_view}
use Rattle.composables.proofs.Joining.{cells_of-append, length-cells_of, length-view_cells}
use Rattle.link_groups.specs.Splits.{has_key, is_key_of}
use Rattle.link_groups.proofs.Bare.{AreBare, bare-drop, bare-keys}
use Rattle.link_groups.proofs.LeastLinks.{drop_over}

-- cells that all have one link

abbrev AllSame : ℕ × ℕ → Bool → List Cell → Type 0
AllSame q b [] = Unit {0}
AllSame q b (c ∷ cs) = (has_key q c ≡ b) × AllSame q b cs

same_take : (q : ℕ × ℕ) (b : Bool) (n : ℕ) (cs : List Cell) → AllSame q b cs → AllSame q b (take n cs)
same_take q b zero cs h = tt
same_take q b (suc n) [] h = tt
same_take q b (suc n) (c ∷ cs) h = (h.0, same_take q b n cs h.1)

same_drop : (q : ℕ × ℕ) (b : Bool) (n : ℕ) (cs : List Cell) → AllSame q b cs → AllSame q b (drop n cs)
same_drop q b zero cs h = h
same_drop q b (suc n) [] h = tt
same_drop q b (suc n) (c ∷ cs) h = same_drop q b n cs h.1

same_span : (q : ℕ × ℕ) (o : Option ℕ) (d : Side What) (l : Option Link) (n : ℕ) → AllSame q (is_key_of q l) (span o d l n)
same_span q o d l zero = tt
same_span q o d l (suc n) = (refl, same_span q o (next_side d) l n)

same_marked : (q : ℕ × ℕ) (b : Bool) (m : Option Mark) (cs : List Cell) → AllSame q b cs → AllSame q b (marked m cs)
same_marked q b m [] h = h
same_marked q b m (c ∷ cs) h = h

same_view : (q : ℕ × ℕ) (v : ItemView) → AllSame q (is_key_of q v.link) (view_cells v)
same_view q v = same_marked q (is_key_of q v.link) v.mark (span v.item v.first v.link v.len) (same_span q v.item v.first v.link v.len)

or_twice : (a b c : Bool) → a ≡ b → c ≡ b → (a || c) ≡ b
or_twice true b c e f = e
or_twice false b c e f = f

any_some : (q : ℕ × ℕ) (b : Bool) (cs : List Cell) → AllSame q b cs → 0 < length cs → list_any (has_key q) cs ≡ b
any_some q b [] h some = absurd (omega (arith, some))
any_some q b (c ∷ []) h some = or_false (has_key q c) ∙ h.0 where
  or_false : (x : Bool) → (x || false) ≡ x
  or_false true = refl
  or_false false = refl
any_some q b (c ∷ d ∷ ds) h some = or_twice (has_key q c) b (list_any (has_key q) (d ∷ ds)) h.0 (any_some q b (d ∷ ds) h.1 (omega arith))

any_none : (q : ℕ × ℕ) (cs : List Cell) → length cs ≡ 0 → list_any (has_key q) cs ≡ false
any_none q [] e = refl
any_none q (c ∷ cs) e = absurd (omega (arith, e))

-- ranges of cells one after another

pub take-over : (y : ℕ) (cs ds : List Cell) → take y (cs ++ ds) ≡ take y cs ++ take (y - length cs) ds
take-over y cs ds = ⊎_elim before behind (cases_lt (length cs) y) where
  before : length cs < y → take y (cs ++ ds) ≡ take y cs ++ take (y - length cs) ds
  before less =
      let e : y ≡ length cs + (y - length cs) = omega (arith, less) in
      ap (λ (n : ℕ). take n (cs ++ ds)) e
      ∙ (take-append-add cs ds (y - length cs) ∙ ap (λ (l : List Cell). l ++ take (y - length cs) ds) (sym (take_all y cs (omega (arith, less)))))

  behind : y ≤ length cs → take y (cs ++ ds) ≡ take y cs ++ take (y - length cs) ds
  behind le =
      let z : y - length cs ≡ 0 = omega (arith, le) in
      take-append-le y cs ds le ∙ (sym (append-nil (take y cs)) ∙ ap (λ (n : ℕ). take y cs ++ take n ds) (sym z))

length_take : (n : ℕ) (cs : List Cell) → length (take n cs) ≡ min n (length cs)
length_take zero cs = omega arith
length_take (suc n) [] = omega arith
length_take (suc n) (c ∷ cs) = omega (arith, length_take n cs)

length_drop : (n : ℕ) (cs : List Cell) → length (drop n cs) ≡ length cs - n
length_drop zero cs = omega arith
length_drop (suc n) [] = omega arith
length_drop (suc n) (c ∷ cs) = omega (arith, length_drop n cs)

more_cells : (vs : List ItemView) (i : ℕ) (v : ItemView) → slice_get vs i ≡ Some v → cells_of (take (i + 1) vs) ≡ cells_of (take i vs) ++ view_cells v
more_cells vs i v e =
    let lt = slice_get_within vs i v e in
    ap cells_of (take_more vs i no_view lt ∙ ap (λ (u : ItemView). take i vs ++ u ∷ []) (get_or_from_slice_get vs i v no_view e))
    ∙ (cells_of-append (take i vs) (v ∷ []) ∙ ap (λ (cs : List Cell). cells_of (take i vs) ++ cs) (append-nil (view_cells v)))

or_assoc : (a b c : Bool) → ((a || b) || c) ≡ (a || (b || c))
or_assoc true b c = refl
or_assoc false b c = refl

or_none : (b : Bool) → (b || false) ≡ b
or_none true = refl
or_none false = refl

-- an item that begins before a place is before it with its first frame
front_more : (q : ℕ × ℕ) (x i : ℕ) (vs : List ItemView) (v : ItemView) → slice_get vs i ≡ Some v → frames_in (take i vs) < x → 0 < v.len
    → list_any (has_key q) (take x (cells_of (take (i + 1) vs))) ≡ (list_any (has_key q) (take x (cells_of (take i vs))) || is_key_of q v.link)
front_more q x i vs v e less some =
    let long : length (cells_of (take i vs)) ≡ frames_in (take i vs) = length-cells_of (take i vs) in
    let part : length (take (x - length (cells_of (take i vs))) (view_cells v)) ≡ min (x - length (cells_of (take i vs))) (length (view_cells v)) = length_take (x - length (cells_of (take i vs))) (view_cells v) in
    ap (λ (cs : List Cell). list_any (has_key q) (take x cs)) (more_cells vs i v e)
    ∙ (ap (list_any (has_key q)) (take-over x (cells_of (take i vs)) (view_cells v))
    ∙ (list_any-append (has_key q) (take x (cells_of (take i vs))) (take (x - length (cells_of (take i vs))) (view_cells v))
    ∙ ap (λ (b : Bool). list_any (has_key q) (take x (cells_of (take i vs))) || b)
    (any_some q (is_key_of q v.link) (take (x - length (cells_of (take i vs))) (view_cells v))
    (same_take q (is_key_of q v.link) (x - length (cells_of (take i vs))) (view_cells v) (same_view q v))
    (omega (arith, part, long, length-view_cells v, less, some)))))

-- beside what was there before
pub front-again : (q : ℕ × ℕ) (x i : ℕ) (vs : List ItemView) (v : ItemView) (old : Bool) → slice_get vs i ≡ Some v → frames_in (take i vs) < x → 0 < v.len
    → ((old || list_any (has_key q) (take x (cells_of (take i vs)))) || is_key_of q v.link) ≡ (old || list_any (has_key q) (take x (cells_of (take (i + 1) vs))))
front-again q x i vs v old e less some =
    or_assoc old (list_any (has_key q) (take x (cells_of (take i vs)))) (is_key_of q v.link)
    ∙ ap (λ (b : Bool). old || b) (sym (front_more q x i vs v e less some))

-- items that reach a place have all that stands before it
pub front-whole : (q : ℕ × ℕ) (x i : ℕ) (t : TrackState) → IsKept t → x ≤ frames_in (take i (items_of t.cells))
    → list_any (has_key q) (take x (cells_of (take i (items_of t.cells)))) ≡ list_any (has_key q) (take x t.cells)
front-whole q x i t kept le =
    let long : length (cells_of (take i (items_of t.cells))) ≡ frames_in (take i (items_of t.cells)) = length-cells_of (take i (items_of t.cells)) in
    ap (list_any (has_key q))
    (sym (take-append-le x (cells_of (take i (items_of t.cells))) (cells_of (drop i (items_of t.cells))) (omega (arith, long, le)))
    ∙ ap (take x) (sym (cells_of-append (take i (items_of t.cells)) (drop i (items_of t.cells))) ∙ (ap cells_of (take-append-drop i (items_of t.cells)) ∙ kept.whole)))

behind_more : (q : ℕ × ℕ) (y i : ℕ) (vs : List ItemView) (v : ItemView) → slice_get vs i ≡ Some v
    → list_any (has_key q) (drop y (cells_of (take (i + 1) vs))) ≡ (list_any (has_key q) (drop y (cells_of (take i vs))) || list_any (has_key q) (drop (y - length (cells_of (take i vs))) (view_cells v)))
behind_more q y i vs v e =
    ap (λ (cs : List Cell). list_any (has_key q) (drop y cs)) (more_cells vs i v e)
    ∙ (ap (list_any (has_key q)) (drop_over y (cells_of (take i vs)) (view_cells v))
    ∙ list_any-append (has_key q) (drop y (cells_of (take i vs))) (drop (y - length (cells_of (take i vs))) (view_cells v)))

behind_met : (q : ℕ × ℕ) (y i : ℕ) (vs : List ItemView) (v : ItemView) → slice_get vs i ≡ Some v → y < frames_in (take i vs) + v.len → 0 < v.len
    → list_any (has_key q) (drop y (cells_of (take (i + 1) vs))) ≡ (list_any (has_key q) (drop y (cells_of (take i vs))) || is_key_of q v.link)
behind_met q y i vs v e less some =
    let long : length (cells_of (take i vs)) ≡ frames_in (take i vs) = length-cells_of (take i vs) in
    let part : length (drop (y - length (cells_of (take i vs))) (view_cells v)) ≡ length (view_cells v) - (y - length (cells_of (take i vs))) = length_drop (y - length (cells_of (take i vs))) (view_cells v) in
    behind_more q y i vs v e
    ∙ ap (λ (b : Bool). list_any (has_key q) (drop y (cells_of (take i vs))) || b)
    (any_some q (is_key_of q v.link) (drop (y - length (cells_of (take i vs))) (view_cells v))
    (same_drop q (is_key_of q v.link) (y - length (cells_of (take i vs))) (view_cells v) (same_view q v))
    (omega (arith, part, long, length-view_cells v, less, some)))

and_or : (old m d k : Bool) → ((old || (m && d)) || (m && k)) ≡ (old || (m && (d || k)))
and_or true m d k = refl
and_or false true d k = refl
and_or false false d k = refl

-- an item that ends past a place, beside what was there before; what is wanted of it is m
pub behind-again : (q : ℕ × ℕ) (y i : ℕ) (vs : List ItemView) (v : ItemView) (old m : Bool) → slice_get vs i ≡ Some v → y < frames_in (take i vs) + v.len → 0 < v.len
    → ((old || (m && list_any (has_key q) (drop y (cells_of (take i vs))))) || (m && is_key_of q v.link)) ≡ (old || (m && list_any (has_key q) (drop y (cells_of (take (i + 1) vs)))))
behind-again q y i vs v old m e less some =
    and_or old m (list_any (has_key q) (drop y (cells_of (take i vs)))) (is_key_of q v.link)
    ∙ ap (λ (b : Bool). old || (m && b)) (sym (behind_met q y i vs v e less some))

-- and one that ends there or before
pub behind-passed : (q : ℕ × ℕ) (y i : ℕ) (vs : List ItemView) (v : ItemView) → slice_get vs i ≡ Some v → frames_in (take i vs) + v.len ≤ y
    → list_any (has_key q) (drop y (cells_of (take (i + 1) vs))) ≡ list_any (has_key q) (drop y (cells_of (take i vs)))
behind-passed q y i vs v e passed =
    let long : length (cells_of (take i vs)) ≡ frames_in (take i vs) = length-cells_of (take i vs) in
    let part : length (drop (y - length (cells_of (take i vs))) (view_cells v)) ≡ length (view_cells v) - (y - length (cells_of (take i vs))) = length_drop (y - length (cells_of (take i vs))) (view_cells v) in
    behind_more q y i vs v e
    ∙ (ap (λ (b : Bool). list_any (has_key q) (drop y (cells_of (take i vs))) || b)
    (any_none q (drop (y - length (cells_of (take i vs))) (view_cells v)) (omega (arith, part, long, length-view_cells v, passed)))
    ∙ or_none (list_any (has_key q) (drop y (cells_of (take i vs)))))

or_and_none : (old m b : Bool) → b ≡ false → old ≡ (old || (m && b))
or_and_none true m b e = refl
or_and_none false true b e = sym e
or_and_none false false b e = refl

-- a track that ends at a place or before it has nothing behind it
pub behind-none : (q : ℕ × ℕ) (y : ℕ) (cs : List Cell) (old m : Bool) → length cs ≤ y → old ≡ (old || (m && list_any (has_key q) (drop y cs)))
behind-none q y cs old m le = or_and_none old m (list_any (has_key q) (drop y cs)) (any_none q (drop y cs) (omega (arith, length_drop y cs, le)))

-- nor one without links
pub behind-bare : (q : ℕ × ℕ) (y : ℕ) (cs : List Cell) (old m : Bool) → AreBare cs → old ≡ (old || (m && list_any (has_key q) (drop y cs)))
behind-bare q y cs old m bare = or_and_none old m (list_any (has_key q) (drop y cs)) (bare-keys q (drop y cs) (bare-drop y cs bare))
