-- What a track keeps once its items and gaps are joined.
use Rattle.std.proofs.Common.{◌≡◌, ℕ, ◌+◌, ◌-◌, ◌<◌, ◌≤◌, ◌^◌, ◌↔◌, List, [], ◌∷◌, ◌++◌, Option, IsNone, length, min, take, drop, refl, sym, ap, ◌∙◌, arith, subst}
use Rattle.std.specs.Option.{option_to_list}
use Rattle.std.proofs.lemmas.List.{append-nil, drop_all, drop_min}
use Rattle.item_pages.specs.Items.{Fits}
use Rattle.frame_meaning.specs.declared.cells.Cell.{Cell}
use Rattle.composables.specs.declared.items.ItemView.{ItemView}
use Rattle.composables.specs.Items.{view_cells, cells_of, items_of}
use Rattle.composables.specs.Joined.{joined, push_view, IsTight, AllFilled, frames_in}
use Rattle.composables.specs.TrackState.{TrackState}
use Rattle.composables.specs.TrackFacts.{IsKept}
use Rattle.composables.proofs.Frames.{frames_in-joined, frames_in-sum}
use Rattle.composables.proofs.Joining.{items_of-cells_of, items_of-tight, length-cells_of, length-items_of, cells_of-append, tight-joined, tight-take, tight-drop, filled-joined, filled-append, filled-take, filled-drop, joined_between, push-tight}

pub same_state : (number link m n : ℕ) (cs ds : List Cell) → cs ≡ ds → m ≡ n
    → ◌≡◌ {A = TrackState} (record { number = number; cells = cs; next_item = m; next_link = link }) (record { number = number; cells = ds; next_item = n; next_link = link })
same_state number link m n cs ds e f =
    ap (λ (xs : List Cell). record { number = number; cells = xs; next_item = m; next_link = link }) e
    ∙ ap (λ (k : ℕ). record { number = number; cells = ds; next_item = k; next_link = link }) f

-- the cells of items and gaps that are joined
pub cells_of-joined : (ys : List ItemView) → AllFilled ys → cells_of (items_of (cells_of ys)) ≡ cells_of ys → cells_of (joined ys) ≡ cells_of ys
cells_of-joined ys f whole = ap cells_of (sym (items_of-cells_of ys f)) ∙ whole

-- the fields of a track whose items and gaps are these, joined, and whose state is to be s
pub record Keeps (zs : List ItemView) (s : TrackState) : Type 0 where
  pub tight : IsTight zs
  pub filled : AllFilled zs
  pub cells : cells_of zs ≡ s.cells

pub joined_keeps : (ys zs : List ItemView) (s : TrackState) → AllFilled ys → zs ≡ joined ys → cells_of ys ≡ s.cells → IsKept s → Keeps zs s
joined_keeps ys zs s f is cells kept =
    let whole : cells_of (items_of (cells_of ys)) ≡ cells_of ys = rw cells kept.whole in
    let P : List ItemView → Type 0 = λ vs. IsTight vs in
    let Q : List ItemView → Type 0 = λ vs. AllFilled vs in
    record {
      tight = subst P (sym is) (tight-joined ys);
      filled = subst Q (sym is) (filled-joined ys f);
      cells = ap cells_of is ∙ (cells_of-joined ys f whole ∙ cells);
    }

pub push_keeps : (xs zs : List ItemView) (v : ItemView) (s : TrackState) → AllFilled xs → IsTight xs → 0 < v.len
    → zs ≡ push_view xs v → s.cells ≡ cells_of xs ++ view_cells v → IsKept s → Keeps zs s
push_keeps xs zs v s f t h is cells kept =
    joined_keeps (xs ++ v ∷ []) zs s (filled-append xs (v ∷ []) f (h, tt)) (is ∙ push-tight xs v t)
    (cells_of-append xs (v ∷ []) ∙ (ap (λ ds. cells_of xs ++ ds) (append-nil (view_cells v)) ∙ sym cells))
    kept

-- the cells of a replaced track, by its items and gaps
cells_replaced : (xs ws : List ItemView) (from to : ℕ) → AllFilled xs → IsTight xs
    → (cells_of (take from (items_of (cells_of xs))) ++ cells_of ws) ++ cells_of (drop to (items_of (cells_of xs))) ≡ cells_of (take from xs ++ ws ++ drop to xs)
cells_replaced xs ws from to f t =
    ap (λ (zs : List ItemView). (cells_of (take from zs) ++ cells_of ws) ++ cells_of (drop to zs)) (items_of-tight xs f t)
    ∙ (ap (λ cs. cs ++ cells_of (drop to xs)) (sym (cells_of-append (take from xs) ws)) ∙ sym (cells_of-append (take from xs ++ ws) (drop to xs)))

pub replace_keeps : (xs zs ws : List ItemView) (from to : ℕ) (s : TrackState) → AllFilled xs → IsTight xs → AllFilled ws
    → zs ≡ joined (take from xs ++ ws ++ drop to xs)
    → s.cells ≡ (cells_of (take from (items_of (cells_of xs))) ++ cells_of ws) ++ cells_of (drop to (items_of (cells_of xs)))
    → IsKept s → Keeps zs s
replace_keeps xs zs ws from to s f t g is cells kept =
    joined_keeps (take from xs ++ ws ++ drop to xs) zs s
    (filled-append (take from xs ++ ws) (drop to xs) (filled-append (take from xs) ws (filled-take from xs f) g) (filled-drop to xs f))
    is (sym (cells ∙ cells_replaced xs ws from to f t)) kept

-- the frames of all parts
pub replace_frames : (xs ws : List ItemView) (from to : ℕ) (cs : List Cell) → AllFilled xs → IsTight xs
    → cs ≡ (cells_of (take from (items_of (cells_of xs))) ++ cells_of ws) ++ cells_of (drop to (items_of (cells_of xs)))
    → frames_in (take from xs ++ ws ++ drop to xs) ≡ length cs
replace_frames xs ws from to cs f t e =
    omega (arith, ap length (e ∙ cells_replaced xs ws from to f t), length-cells_of (take from xs ++ ws ++ drop to xs))

-- what is put between others, with those beside it, is the whole with it joined
pub put_is : (xs ws laid : List ItemView) (from to first last : ℕ) (l r : Option ItemView) → IsTight xs
    → first ≡ from - 1 → last ≡ min (to + 1) (length xs)
    → take from xs ≡ take (from - 1) xs ++ option_to_list l → (IsNone l → from ≡ 0)
    → drop to xs ≡ option_to_list r ++ drop (to + 1) xs → IsNone r ↔ length xs ≤ to
    → laid ≡ joined (option_to_list l ++ ws ++ option_to_list r)
    → take first xs ++ (laid ++ drop last xs) ≡ joined (take from xs ++ ws ++ drop to xs)
put_is xs ws laid from to first last l r t before behind front none back past is =
    let cs = drop (to + 1) xs in
    let kept : drop last xs ≡ cs = ap (λ (n : ℕ). drop n xs) behind ∙ drop_min (to + 1) xs in
    let none_before : IsNone l → take (from - 1) xs ≡ [] =
    λ h. let zero : from - 1 ≡ 0 = omega (arith, none h) in rw zero refl in
    let none_behind : IsNone r → cs ≡ [] =
    λ h. drop_all (to + 1) xs (omega (arith, past.0 h)) in
    rw (before, kept, is) (sym (joined_between (take (from - 1) xs) cs ws (take from xs) (drop to xs) l r front back (tight-take from xs t) (tight-drop to xs t) none_before none_behind))

-- and it fits
pub joined_fits : (ys : List ItemView) → AllFilled ys → frames_in ys < 2 ^ 32 → Fits (λ (v : ItemView). v.len) (joined ys)
joined_fits ys f short =
    let zs = joined ys in
    let whole = ap length (items_of-tight zs (filled-joined ys f) (tight-joined ys)) in (
      omega (arith, short, whole, length-items_of (cells_of zs), length-cells_of zs, frames_in-joined ys),
      omega (arith, short, frames_in-sum zs, frames_in-joined ys),
    )
