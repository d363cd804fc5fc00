-- Items and gaps of which no two items have one number, joined: only gaps become one, where no dissolve is between
-- them, and nothing of what they are changes.
use Rattle.std.proofs.Common.{◌≡◌, ◌≢◌, ℕ, zero, suc, ◌+◌, ◌<◌, Bool, true, false, cond, List, [], ◌∷◌, ◌++◌, Option, Some, None, IfSome, refl, sym, ap, ◌∙◌, arith, append_assoc, subst}
use Rattle.frame_meaning.specs.declared.cells.What.{What}
use Rattle.frame_meaning.specs.declared.cells.Mark.{Mark}
use Rattle.frame_meaning.specs.declared.cells.Link.{Link}
use Rattle.frame_meaning.specs.declared.frames.Side.{Side}
use Rattle.frame_meaning.specs.declared.frames.Side.TheVariants.{Dark, Pic}
use Rattle.frame_meaning.specs.Cells.{same_number, span}
use Rattle.composables.specs.declared.items.ItemView.{ItemView}
use Rattle.composables.specs.Items.{marked, view_cells, cells_of}
use Rattle.composables.specs.Joined.{with_view, joined, AllFilled}
use Rattle.composables.specs.TrackFacts.{ShowsAsItem, Holds, EachHolds, Lacks, Apart, NumbersBelow, IsNoNest, first_mark}
use Rattle.composables.proofs.Joining.{same-is}
use Rattle.edit_splice.specs.NewItems.{MeetsFirst, Meet}
use Rattle.edit_splice.proofs.Spans.{marked-none}

-- no item of theirs has this number
lacks-with_view : (i : ℕ) (r : ItemView) (zs : List ItemView) → r.item ≢ Some i → Lacks i zs → Lacks i (with_view r zs)
lacks-with_view i r [] ne l = (ne, tt)
lacks-with_view i r (v ∷ vs) ne l = by_test (same_number r.item v.item) where
  by_test : (b : Bool) → Lacks i (cond b (record r { len = r.len + v.len } ∷ vs) (r ∷ v ∷ vs))
  by_test true = (ne, l.1)
  by_test false = (ne, l)

pub lacks-joined : (i : ℕ) (vs : List ItemView) → Lacks i vs → Lacks i (joined vs)
lacks-joined i [] l = tt
lacks-joined i (v ∷ vs) l = lacks-with_view i v (joined vs) l.0 (lacks-joined i vs l.1)

pub if-lacks : (o : Option ℕ) (xs ys : List ItemView) → ((i : ℕ) → Lacks i xs → Lacks i ys) → IfSome o (λ i. Lacks i xs) → IfSome o (λ i. Lacks i ys)
if-lacks None xs ys f h = tt
if-lacks (Some i) xs ys f h = f i h

apart-with_view : (r : ItemView) (zs : List ItemView) → IfSome r.item (λ i. Lacks i zs) → Apart zs → Apart (with_view r zs)
apart-with_view r [] a d = (a, tt)
apart-with_view r (v ∷ vs) a d = by_test (same_number r.item v.item) where
  by_test : (b : Bool) → Apart (cond b (record r { len = r.len + v.len } ∷ vs) (r ∷ v ∷ vs))
  by_test true = (if-lacks r.item (v ∷ vs) vs (λ i l. l.1) a, d.1)
  by_test false = (a, d)

pub apart-joined : (vs : List ItemView) → Apart vs → Apart (joined vs)
apart-joined [] a = tt
apart-joined (v ∷ vs) a = apart-with_view v (joined vs) (if-lacks v.item vs (joined vs) (λ i. lacks-joined i vs) a.0) (apart-joined vs a.1)

below-with_view : (n : ℕ) (r : ItemView) (zs : List ItemView) → IfSome r.item (λ i. i < n) → NumbersBelow n zs → NumbersBelow n (with_view r zs)
below-with_view n r [] b l = (b, tt)
below-with_view n r (v ∷ vs) b l = by_test (same_number r.item v.item) where
  by_test : (t : Bool) → NumbersBelow n (cond t (record r { len = r.len + v.len } ∷ vs) (r ∷ v ∷ vs))
  by_test true = (b, l.1)
  by_test false = (b, l)

pub below-joined : (n : ℕ) (vs : List ItemView) → NumbersBelow n vs → NumbersBelow n (joined vs)
below-joined n [] b = tt
below-joined n (v ∷ vs) b = below-with_view n v (joined vs) b.0 (below-joined n vs b.1)

-- the first keeps its number and its dissolve
mark-with_view : (r : ItemView) (zs : List ItemView) → first_mark (with_view r zs) ≡ r.mark
mark-with_view r [] = refl
mark-with_view r (v ∷ vs) = by_test (same_number r.item v.item) where
  by_test : (b : Bool) → first_mark (cond b (record r { len = r.len + v.len } ∷ vs) (r ∷ v ∷ vs)) ≡ r.mark
  by_test true = refl
  by_test false = refl

pub mark-joined : (vs : List ItemView) → first_mark (joined vs) ≡ first_mark vs
mark-joined [] = refl
mark-joined (v ∷ vs) = mark-with_view v (joined vs)

meets-with_view : (r v : ItemView) (zs vs : List ItemView) → MeetsFirst r (v ∷ vs) → MeetsFirst r (with_view v zs)
meets-with_view r v [] vs m = m
meets-with_view r v (w ∷ ws) vs m = by_test (same_number v.item w.item) where
  by_test : (b : Bool) → MeetsFirst r (cond b (record v { len = v.len + w.len } ∷ ws) (v ∷ w ∷ ws))
  by_test true = m
  by_test false = m

meets-joined : (r : ItemView) (vs : List ItemView) → MeetsFirst r vs → MeetsFirst r (joined vs)
meets-joined r [] m = tt
meets-joined r (v ∷ vs) m = meets-with_view r v (joined vs) vs m

-- what meets and belongs together is no item
pub never_some : (o : Option ℕ) (v : ItemView) (vs : List ItemView) → IfSome o (λ i. Lacks i (v ∷ vs)) → v.item ≡ o → o ≡ None
never_some None v vs h e = refl
never_some (Some i) v vs h e = absurd (h.0 e)

pub gap_shows : (o : Option ℕ) (s : Side What) (l : Option Link) → o ≡ None → ShowsAsItem o s l → (s ≡ Dark) × (l ≡ None)
gap_shows None Dark None e h = (refl, refl)
gap_shows None Dark (Some k) e h = absurd h
gap_shows None (Pic w s) l e h = absurd h
gap_shows (Some i) s l e h = absurd cc

dark_more : (m n : ℕ) → span None Dark None (m + n) ≡ span None Dark None m ++ span None Dark None n
dark_more zero n = let e : 0 + n ≡ n = omega arith in ap (span None Dark None) e
dark_more (suc m) n =
    let e : suc m + n ≡ suc (m + n) = omega arith in
    ap (span None Dark None) e ∙ ap (λ cs. record { item = None; side = Dark; mark = None; link = None } ∷ cs) (dark_more m n)

marked_more : (k : Option Mark) (m n : ℕ) → 0 < m → marked k (span None Dark None (m + n)) ≡ marked k (span None Dark None m) ++ span None Dark None n
marked_more k zero n h = absurd (omega (arith, h))
marked_more k (suc m) n h =
    let e : suc m + n ≡ suc (m + n) = omega arith in
    ap (λ (j : ℕ). marked k (span None Dark None j)) e ∙ ap (λ cs. record { item = None; side = Dark; mark = k; link = None } ∷ cs) (dark_more m n)

gap_cells : (v : ItemView) → ShowsAsItem v.item v.first v.link → v.item ≡ None → view_cells v ≡ marked v.mark (span None Dark None v.len)
gap_cells v p e =
    let g = gap_shows v.item v.first v.link e p in
    ap (λ (o : Option ℕ). marked v.mark (span o v.first v.link v.len)) e
    ∙ (ap (λ (s : Side What). marked v.mark (span None s v.link v.len)) g.0
    ∙ ap (λ (l : Option Link). marked v.mark (span None Dark l v.len)) g.1)

dark_no_nest : (s : Side What) (m : Option Mark) → s ≡ Dark → IsNoNest s m
dark_no_nest Dark None e = tt
dark_no_nest Dark (Some m) e = tt
dark_no_nest (Pic w s) m e = absurd cc

longer_gap : (r v : ItemView) (tail : Option Mark) → Holds r v.mark → Holds v tail → v.mark ≡ None → r.item ≡ None → Holds (record r { len = r.len + v.len }) tail
longer_gap r v tail p q none e =
    let dark = (gap_shows r.item r.first r.link e p.shows).0 in
    record {
      filled = omega (arith, p.filled);
      shows = p.shows;
      mark_filled = p.mark_filled;
      room = omega (arith, p.room, q.room);
      source = rw dark tt;
      head_no_nest = p.head_no_nest;
      tail_no_nest = dark_no_nest r.first tail dark;
    }

each-with_view : (r : ItemView) (zs : List ItemView) → Holds r (first_mark zs) → EachHolds zs → IfSome r.item (λ i. Lacks i zs) → MeetsFirst r zs → EachHolds (with_view r zs)
each-with_view r [] p q a m = (p, tt)
each-with_view r (v ∷ vs) p q a m = by_test (same_number r.item v.item) refl where
  by_test : (b : Bool) → same_number r.item v.item ≡ b → EachHolds (cond b (record r { len = r.len + v.len } ∷ vs) (r ∷ v ∷ vs))
  by_test true e =
      let same = same-is r.item v.item e in
      let none = never_some r.item v vs a (sym same) in
      (longer_gap r v (first_mark vs) p q.0 (m none (sym same ∙ none)) none, q.1)
  by_test false e = (p, q)

cells-with_view : (r : ItemView) (zs : List ItemView) → Holds r (first_mark zs) → EachHolds zs → IfSome r.item (λ i. Lacks i zs) → MeetsFirst r zs → cells_of (with_view r zs) ≡ view_cells r ++ cells_of zs
cells-with_view r [] p q a m = refl
cells-with_view r (v ∷ vs) p q a m = by_test (same_number r.item v.item) refl where
  by_test : (b : Bool) → same_number r.item v.item ≡ b → cells_of (cond b (record r { len = r.len + v.len } ∷ vs) (r ∷ v ∷ vs)) ≡ view_cells r ++ (view_cells v ++ cells_of vs)
  by_test true e =
      let same = same-is r.item v.item e in
      let none = never_some r.item v vs a (sym same) in
      let gap = sym same ∙ none in
      let bare : view_cells v ≡ span None Dark None v.len =
      gap_cells v q.0.shows gap ∙ (ap (λ (k : Option Mark). marked k (span None Dark None v.len)) (m none gap) ∙ marked-none None Dark None v.len) in
      ap (λ cs. cs ++ cells_of vs) (gap_cells (record r { len = r.len + v.len }) p.shows none
      ∙ (marked_more r.mark r.len v.len p.filled
      ∙ (ap (λ cs. cs ++ span None Dark None v.len) (sym (gap_cells r p.shows none))
      ∙ ap (λ cs. view_cells r ++ cs) (sym bare))))
      ∙ append_assoc (view_cells r) (view_cells v) (cells_of vs)
  by_test false e = refl

holds_joined : (v : ItemView) (vs : List ItemView) → Holds v (first_mark vs) → Holds v (first_mark (joined vs))
holds_joined v vs p = let P : Option Mark → Type 0 = λ k. Holds v k in subst P (sym (mark-joined vs)) p

pub each-joined : (vs : List ItemView) → EachHolds vs → Apart vs → Meet vs → EachHolds (joined vs)
each-joined [] p a m = tt
each-joined (v ∷ vs) p a m =
    each-with_view v (joined vs) (holds_joined v vs p.0) (each-joined vs p.1 a.1 m.1) (if-lacks v.item vs (joined vs) (λ i. lacks-joined i vs) a.0) (meets-joined v vs m.0)

pub cells-joined : (vs : List ItemView) → EachHolds vs → Apart vs → Meet vs → cells_of (joined vs) ≡ cells_of vs
cells-joined [] p a m = refl
cells-joined (v ∷ vs) p a m =
    cells-with_view v (joined vs) (holds_joined v vs p.0) (each-joined vs p.1 a.1 m.1) (if-lacks v.item vs (joined vs) (λ i. lacks-joined i vs) a.0) (meets-joined v vs m.0)
    ∙ ap (λ cs. view_cells v ++ cs) (cells-joined vs p.1 a.1 m.1)

pub filled-each : (vs : List ItemView) → EachHolds vs → AllFilled vs
filled-each [] p = tt
filled-each (v ∷ vs) p = (p.0.filled, filled-each vs p.1)
