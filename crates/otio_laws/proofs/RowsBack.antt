-- The items, gaps and dissolves of a track that was written are read again, one after another.
use Rattle.std.proofs.Common.{◌≡◌, ℕ, ◌+◌, ◌<◌, ◌≤◌, nat_eq, Bool, true, false, ◌&&◌, ◌||◌, List, [], ◌∷◌, ◌++◌, length, Option, Some, None, Result, Ok, refl, sym, ap, subst, ◌∙◌, append_assoc, arith, if◌then◌else◌}
use Rattle.std.specs.Prelude.{nat_le, nat_lt}
use Rattle.std.proofs.lemmas.Bool.{le-leb, lt-ltb, ne_eqb}
use Rattle.std.proofs.lemmas.List.{append-nil}
use Rattle.timecode12.specs.declared.rate.SequenceRate.{SequenceRate}
use Rattle.frame_meaning.specs.declared.cells.Mark.{Mark}
use Rattle.frame_meaning.specs.declared.cells.Link.{Link}
use Rattle.frame_meaning.specs.declared.cells.What.{What}
use Rattle.frame_meaning.specs.declared.cells.What.TheVariants.{Media as MediaOf, Nest as NestOf}
use Rattle.frame_meaning.specs.declared.frames.Side.{Side}
use Rattle.frame_meaning.specs.declared.frames.Side.TheVariants.{Dark, Pic}
use Rattle.frame_meaning.specs.Cells.{same_number}
use Rattle.composables.specs.declared.media.Table.{Table}
use Rattle.composables.specs.declared.items.ItemView.{ItemView}
use Rattle.composables.specs.Bounds.{bounds_of}
use Rattle.composables.specs.Good.{LiesIn, SideLiesIn}
use Rattle.composables.specs.Joined.{IsTight}
use Rattle.composables.specs.TrackFacts.{left_reach, right_reach, first_mark, IsFilled, IsNoNest, ShowsAsItem}
use Rattle.json_tokens.specs.Reading.{◌>>=◌}
use Rattle.json_tree.specs.Tree.{Tree, trees, in_trees}
use Rattle.json_tree.specs.Parts.{place_of}
use Rattle.json_tree.proofs.WriteLaws.{placed, placed_trees}
use Rattle.json_tree.specs.Writing.{tree_text}
use Rattle.otio_tracks.specs.declared.faults.DocCode.{DocCode}
use Rattle.otio_tracks.specs.declared.faults.DocCode.TheVariants.{O8, O9, O15}
use Rattle.otio_tracks.specs.declared.values.Schema.TheVariants.{Transition}
use Rattle.otio_tracks.specs.declared.parts.Part.{Part}
use Rattle.otio_tracks.specs.declared.transitions.Waiting.{Waiting}
use Rattle.otio_tracks.specs.Reading.{Read, refuse, each}
use Rattle.otio_tracks.specs.Values.{schema_read}
use Rattle.otio_tracks.specs.Parts.{is_dark, shows_nest, is_gap, is_nest}
use Rattle.otio_tracks.specs.Transitions.{right_reach as reach_of, side_reaches_back, side_reaches_on, reaches_back, reaches_on, has_room, joins, mark_between, dissolve_behind, dissolve_between}
use Rattle.otio_tracks.specs.Rows.{RowState, empty_row, dissolve_if, dissolve_before, longer, all_kept, row_with}
use Rattle.otio_json.specs.Nests.{Inner, child_in}
use Rattle.otio_json.proofs.Growth.{HasBounds}
use Rattle.otio_laws.specs.CutTrees.{transition_tree, mark_trees, item_tree, later_item_trees, item_trees}
use Rattle.otio_laws.specs.SameCut.{SameSide, SameThing}
use Rattle.otio_laws.proofs.Facts.{IsShown, EachIsShown}
use Rattle.otio_laws.proofs.Walk.{goes}
use Rattle.otio_laws.proofs.TimesBack.{pair_of}
use Rattle.otio_laws.proofs.Extends.{Extends, extends_self, extends_on, side_on, thing_on}
use Rattle.otio_laws.proofs.ItemsBack.{IsPartOf, ChildBack, transition_back, transition_schema}

-- ---- what a part shows is as what its item shows

pub same_dark : (Same : What → What → Type 0) (a b : Side What) → SameSide Same a b → is_dark b ≡ is_dark a
same_dark Same Dark Dark h = refl
same_dark Same Dark (Pic x r) h = absurd h
same_dark Same (Pic w s) Dark h = absurd h
same_dark Same (Pic w s) (Pic x r) h = refl

same_nest : (t u : Table) (levels : ℕ) (a b : Side What) → SameSide (SameThing t u levels) a b → shows_nest b ≡ shows_nest a
same_nest t u levels Dark Dark h = refl
same_nest t u levels Dark (Pic x r) h = absurd h
same_nest t u levels (Pic w s) Dark h = absurd h
same_nest t u levels (Pic (MediaOf i) s) (Pic (MediaOf j) r) h = refl
same_nest t u levels (Pic (MediaOf i) s) (Pic (NestOf j) r) h = absurd h.0
same_nest t u levels (Pic (NestOf i) s) (Pic (MediaOf j) r) h = absurd h.0
same_nest t u levels (Pic (NestOf i) s) (Pic (NestOf j) r) h = refl

no_nest : (side : Side What) (m : Mark) → IsNoNest side (Some m) → shows_nest side ≡ false
no_nest Dark m h = refl
no_nest (Pic (MediaOf i) s) m h = refl
no_nest (Pic (NestOf j) s) m h = absurd h

-- of two items and gaps that do not belong together one is no gap
one_shows : (a b : Option ℕ) (x y : Side What) (k l : Option Link) → same_number a b ≡ false → ShowsAsItem a x k → ShowsAsItem b y l → is_dark x && is_dark y ≡ false
one_shows None None x y k l e h g = cc
one_shows (Some i) b Dark y k l e h g = absurd h
one_shows (Some i) b (Pic w s) y k l e h g = refl
one_shows None (Some j) Dark Dark k l e h g = absurd g
one_shows None (Some j) Dark (Pic w s) k l e h g = refl
one_shows None (Some j) (Pic w s) y None l e h g = absurd h
one_shows None (Some j) (Pic w s) y (Some k) l e h g = absurd h

-- ---- room for a dissolve

lies_by : (o : Option (ℕ × ℕ)) (from to s len before after : ℕ) → o ≡ Some (from, to) → LiesIn o s len before after → (from + before ≤ s) × (s + len + after ≤ to)
lies_by None from to s len before after e h = absurd h
lies_by (Some b) from to s len before after e h = subst (λ (c : ℕ × ℕ). (c.0 + before ≤ s) × (s + len + after ≤ c.1)) (some_same e) h
  where
    some_same : Some b ≡ Some (from, to) → b ≡ (from, to)
    some_same f = cc

on_back : (Same : What → What → Type 0) (t : Table) (a b : Side What) (from to len before after : ℕ) → SameSide Same a b → HasBounds t a from to → SideLiesIn t a len before after
    → (side_reaches_on b len to after ≡ true) × (side_reaches_back b from before ≡ true)
on_back Same t Dark Dark from to len before after h g l = (refl, refl)
on_back Same t Dark (Pic x r) from to len before after h g l = absurd h
on_back Same t (Pic w s) Dark from to len before after h g l = absurd h
on_back Same t (Pic w s) (Pic x r) from to len before after h g l =
    let k = lies_by (bounds_of t w) from to s len before after g l in
    (le-leb (r + len + after) to (omega (arith, h.1, k.1)), le-leb (from + before) r (omega (arith, h.1, k.0)))

reach_same : (mark : Option Mark) → reach_of mark ≡ right_reach mark
reach_same None = refl
reach_same (Some m) = refl

-- ---- a row whose last item is known

-- the item kept last and the one that was read last are v
pub record IsBehind (t u : Table) (levels : ℕ) (v : ItemView) (last before : Part) : Type 0 where
  pub kept_last : IsPartOf t u levels v last
  pub mark : last.mark ≡ v.mark
  pub read_last : IsPartOf t u levels v before

part_on : (t a b : Table) (levels : ℕ) → Extends a b → (v : ItemView) (p : Part) → IsPartOf t a levels v p → IsPartOf t b levels v p
part_on t a b levels h v p k = record {
  side = side_on (SameThing t a levels) (SameThing t b levels) (thing_on t a b h levels) v.first p.first k.side;
  len = k.len;
  bounds = k.bounds;
}

and_all : (a b c d : Bool) → a ≡ true → b ≡ true → c ≡ true → d ≡ true → (a && (b && (c && d))) ≡ true
and_all a b c d e f g h = λ i. e i && (f i && (g i && h i))

room_back : (t u w : Table) (levels : ℕ) (v next : ItemView) (m : Mark) (tail : Option Mark) (last before part : Part) → next.mark ≡ Some m → IsShown t v (Some m) → IsShown t next tail
    → IsBehind t u levels v last before → IsPartOf t w levels next part → has_room last part m ≡ true
room_back t u w levels v next m tail last before part mark hv hn k p =
    let on = on_back (SameThing t u levels) t v.first last.first last.from last.to v.len (left_reach v.mark) m.b k.kept_last.side k.kept_last.bounds hv.lies in
    let lies : SideLiesIn t next.first next.len m.a (right_reach tail) = subst (λ (o : Option Mark). SideLiesIn t next.first next.len (left_reach o) (right_reach tail)) mark hn.lies in
    let back = on_back (SameThing t w levels) t next.first part.first part.from part.to next.len m.a (right_reach tail) p.side p.bounds lies in
    let left : reach_of last.mark + m.a ≤ last.len = omega (arith, hv.holds.room, ap reach_of k.mark ∙ reach_same v.mark, k.kept_last.len) in
    let right : m.b ≤ part.len = omega (arith, hn.holds.room, ap right_reach mark, p.len) in
    and_all (nat_le (reach_of last.mark + m.a) last.len) (nat_le m.b part.len) (reaches_on last m.b) (reaches_back part m.a)
    (le-leb (reach_of last.mark + m.a) last.len left) (le-leb m.b part.len right)
    (ap (λ (n : ℕ). side_reaches_on last.first n last.to m.b) k.kept_last.len ∙ on.0) back.1

-- ---- a dissolve

not_empty_mark : (a b : Bool) (m : Mark) → nat_eq m.a 0 ≡ a → nat_eq m.b 0 ≡ b → 0 < m.a + m.b → (a && b) ≡ false
not_empty_mark false b m e f h = refl
not_empty_mark true false m e f h = refl
not_empty_mark true true m e f h = absurd (omega (arith, zero_of m.a e, zero_of m.b f))
  where
    zero_of : (n : ℕ) → nat_eq n 0 ≡ true → n ≡ 0
    zero_of n g = grind arith

mark_known : (last before part : Part) (m : Mark) (at : ℕ) → 0 < m.a + m.b → 0 < before.len → 0 < part.len → has_room last part m ≡ true → mark_between (Some last) before part m at ≡ Ok (Some m)
mark_known last before part m at some b p room =
    ap (λ (t : Bool). if t then Ok None else if ((nat_lt 0 before.len || joins (Some last) before) && nat_lt 0 part.len) && has_room last part m then Ok (Some m) else refuse O9 at)
    (not_empty_mark (nat_eq m.a 0) (nat_eq m.b 0) m refl refl some)
    ∙ (λ i. if ((lt-ltb 0 before.len b i || joins (Some last) before) && lt-ltb 0 part.len p i) && room i then Ok (Some m) else refuse O9 at)

behind_known : (last before part : Part) (m : Mark) (at : ℕ) → (is_gap before && is_gap part) ≡ false → is_nest before ≡ false → is_nest part ≡ false
    → mark_between (Some last) before part m at ≡ Ok (Some m) → dissolve_behind (Some last) before (record { at = at; offsets = Ok m; crowded = false }) part ≡ Ok (Some m)
behind_known last before part m at gaps left right known =
    (λ i. if gaps i then refuse O8 at else if left i || right i then refuse O15 at else mark_between (Some last) before part m at) ∙ known

-- the row that waits for the item behind a transition
abbrev waiting_of : SequenceRate → Option Mark → ℕ → Option Waiting
waiting_of r None at = None
waiting_of r (Some m) at = Some (record { at = at; offsets = Ok m; crowded = false })

dissolve_known : (r : SequenceRate) (t u w : Table) (levels : ℕ) (v next : ItemView) (mark tail : Option Mark) (last before part : Part) (at : ℕ) → next.mark ≡ mark → same_number v.item next.item ≡ false
    → IsShown t v mark → IsShown t next tail → IsBehind t u levels v last before → IsPartOf t w levels next part
    → dissolve_if (waiting_of r mark at) (Some last) (Some before) part ≡ Ok mark
unfolding dissolve_between
dissolve_known r t u w levels v next None tail last before part at mark apart hv hn k p = refl
dissolve_known r t u w levels v next (Some m) tail last before part at mark apart hv hn k p =
    let some : IsFilled (Some m) = subst IsFilled mark hn.holds.mark_filled in
    let head : IsNoNest next.first (Some m) = subst (IsNoNest next.first) mark hn.holds.head_no_nest in
    let dark = one_shows v.item next.item v.first next.first v.link next.link apart hv.holds.shows hn.holds.shows in
    let gaps : is_gap before && is_gap part ≡ false = (λ i. same_dark (SameThing t u levels) v.first before.first k.read_last.side i && same_dark (SameThing t w levels) next.first part.first p.side i) ∙ dark in
    let left : is_nest before ≡ false = same_nest t u levels v.first before.first k.read_last.side ∙ no_nest v.first m hv.holds.tail_no_nest in
    let right : is_nest part ≡ false = same_nest t w levels next.first part.first p.side ∙ no_nest next.first m head in
    behind_known last before part m at gaps left right
    (mark_known last before part m at some (omega (arith, k.read_last.len, hv.holds.filled)) (omega (arith, p.len, hn.holds.filled)) (room_back t u w levels v next m tail last before part mark hv hn k p))

-- ---- one item more

abbrev row_of : List Part → Part → Part → RowState
row_of done last before = record { done = done; last = Some last; before = Some before; waiting = None }

abbrev with_mark : Part → Option Mark → Part
with_mark p mark = record p { mark = mark }

kept_first : (part : Part) → 0 < part.len → row_with empty_row part ≡ Ok (row_of [] (with_mark part None) part)
kept_first part some = ap (λ (b : Bool). Ok (if b then record empty_row { before = Some part; waiting = None } else row_of [] (with_mark part None) part)) (ne_eqb part.len 0 (λ e. omega arith))

kept_next : (done : List Part) (last before part : Part) (waiting : Option Waiting) (mark : Option Mark) → 0 < part.len → (is_gap last && is_gap part) ≡ false → dissolve_if waiting (Some last) (Some before) part ≡ Ok mark
    → row_with (record { done = done; last = Some last; before = Some before; waiting = waiting }) part ≡ Ok (row_of (done ++ last ∷ []) (with_mark part mark) part)
kept_next done last before part waiting mark some apart known =
    let row : RowState = record { done = done; last = Some last; before = Some before; waiting = waiting } in
    goes (dissolve_before row part) _ mark _ known
    ((λ i. Ok (if ne_eqb part.len 0 (λ e. omega arith) i then record row { before = Some part; waiting = None }
    else if apart i then record row { last = longer (Some last) part.len; before = Some part; waiting = None }
    else row_of (done ++ last ∷ []) (with_mark part mark) part)))

-- ---- all items behind one

-- items and gaps, and what was read of them
abbrev pub AreParts : Table → Table → ℕ → List ItemView → List Part → Type 0
AreParts t u levels [] [] = Unit {0}
AreParts t u levels [] (p ∷ ps) = ⊥
AreParts t u levels (v ∷ vs) [] = ⊥
AreParts t u levels (v ∷ vs) (p ∷ ps) = IsPartOf t u levels v p × (p.mark ≡ v.mark) × AreParts t u levels vs ps

-- each of them can be read
abbrev pub AllCan : (ItemView → Type 0) → List ItemView → Type 0
AllCan Can [] = Unit {0}
AllCan Can (v ∷ vs) = Can v × AllCan Can vs

-- The rest of the children is read behind a row.
pub record RestBack (r : SequenceRate) (inner : Result Inner DocCode) (t : Table) (levels : ℕ) (done : List Part) (last : Part) (row : RowState) (u : Table) (vs : List ItemView) (children : List Tree) : Type 0 where
  pub next : RowState
  pub table : Table
  pub parts : List Part
  pub read : each (child_in (pair_of r) inner) (row, u) children ≡ Ok (next, table)
  pub extends : Extends u table
  pub all : all_kept next.done next.last ≡ (done ++ last ∷ []) ++ parts
  pub are : AreParts t table levels vs parts
  pub no_more : next.waiting ≡ None

-- The children of a track are read as a row.
pub record RowBack (r : SequenceRate) (inner : Result Inner DocCode) (t : Table) (levels : ℕ) (u : Table) (vs : List ItemView) (children : List Tree) : Type 0 where
  pub next : RowState
  pub table : Table
  pub parts : List Part
  pub read : each (child_in (pair_of r) inner) (empty_row, u) children ≡ Ok (next, table)
  pub extends : Extends u table
  pub all : all_kept next.done next.last ≡ parts
  pub are : AreParts t table levels vs parts
  pub no_more : next.waiting ≡ None

module _ (r : SequenceRate) (inner : Result Inner DocCode) (t : Table) (levels : ℕ) (tree : ℕ → List Tree) (Can : ItemView → Type 0)
    (child : (v : ItemView) (tail : Option Mark) (u : Table) (at : ℕ) → IsShown t v tail → Can v → ChildBack (pair_of r) inner t u levels v (placed at (item_tree t r tree v))) where
  marked_part : (u : Table) (v : ItemView) (p : Part) (mark : Option Mark) → IsPartOf t u levels v p → IsPartOf t u levels v (with_mark p mark)
  marked_part u v p mark k = record { side = k.side; len = k.len; bounds = k.bounds }

  -- an item is put behind, and then the rest
  item_then : (v next : ItemView) (mark tail : Option Mark) (vs : List ItemView) (done : List Part) (last before : Part) (u : Table) (q place : ℕ) → next.mark ≡ mark → same_number v.item next.item ≡ false
      → IsShown t v mark → IsShown t next tail → IsBehind t u levels v last before
      → (c : ChildBack (pair_of r) inner t u levels next (placed q (item_tree t r tree next))) (children : List Tree)
      → RestBack r inner t levels (done ++ last ∷ []) (with_mark c.part mark) (row_of (done ++ last ∷ []) (with_mark c.part mark) c.part) c.table vs children
      → RestBack r inner t levels done last (record { done = done; last = Some last; before = Some before; waiting = waiting_of r mark place }) u (next ∷ vs) (placed q (item_tree t r tree next) ∷ children)
  item_then v next mark tail vs done last before u q place e apart hv hn k c children rest =
      let row : RowState = record { done = done; last = Some last; before = Some before; waiting = waiting_of r mark place } in
      let after = row_of (done ++ last ∷ []) (with_mark c.part mark) c.part in
      let dark = one_shows v.item next.item v.first next.first v.link next.link apart hv.holds.shows hn.holds.shows in
      let gaps : is_gap last && is_gap c.part ≡ false = (λ i. same_dark (SameThing t u levels) v.first last.first k.kept_last.side i && same_dark (SameThing t c.table levels) next.first c.part.first c.is.side i) ∙ dark in
      let known = dissolve_known r t u c.table levels v next mark tail last before c.part place e apart hv hn k c.is in
      let put : row_with row c.part ≡ Ok after = kept_next done last before c.part (waiting_of r mark place) mark (omega (arith, c.is.len, hn.holds.filled)) gaps known in
      let one : child_in (pair_of r) inner (row, u) (placed q (item_tree t r tree next)) ≡ Ok (after, c.table) = c.read row ∙ ap (λ (x : Read RowState). x >>= λ n. Ok (n, c.table)) put in
      record {
        next = rest.next;
        table = rest.table;
        parts = with_mark c.part mark ∷ rest.parts;
        read = goes (child_in (pair_of r) inner (row, u) (placed q (item_tree t r tree next))) _ (after, c.table) _ one rest.read;
        extends = extends_on u c.table rest.table c.extends rest.extends;
        all = rest.all ∙ append_assoc (done ++ last ∷ []) (with_mark c.part mark ∷ []) rest.parts;
        are = (part_on t c.table rest.table levels rest.extends next (with_mark c.part mark) (marked_part c.table next c.part mark c.is), sym e, rest.are);
        no_more = rest.no_more;
      }

  -- the row waits for the item behind a transition
  waits_back : (m : Mark) (done : List Part) (last before : Part) (u : Table) (at : ℕ) → m.a ≤ 2592000 → m.b ≤ 2592000
      → (place : ℕ) × (child_in (pair_of r) inner (row_of done last before, u) (placed at (transition_tree r m)) ≡ Ok (record { done = done; last = Some last; before = Some before; waiting = waiting_of r (Some m) place }, u))
  waits_back m done last before u at a b =
      let tt_at = placed at (transition_tree r m) in
      let s = transition_schema r m at in (
        place_of tt_at,
        goes (schema_read tt_at) _ (Transition, s.0) _ s.1
            (ap (λ (x : Read Mark). Ok (record { done = done; last = Some last; before = Some before; waiting = Some (record { at = place_of tt_at; offsets = x; crowded = false }) }, u))
            (transition_back r m at (omega arith) (omega arith))),
      )

  -- a transition, if there is one, and the item behind it
  item_step : (v next : ItemView) (mark tail : Option Mark) (vs : List ItemView) (done : List Part) (last before : Part) (u : Table) (at : ℕ) → next.mark ≡ mark → same_number v.item next.item ≡ false
      → IsShown t v mark → IsShown t next tail → IsBehind t u levels v last before → Can next
      → ((q : ℕ) (c : ChildBack (pair_of r) inner t u levels next (placed q (item_tree t r tree next))) (place : ℕ)
      → RestBack r inner t levels (done ++ last ∷ []) (with_mark c.part mark) (row_of (done ++ last ∷ []) (with_mark c.part mark) c.part) c.table vs (in_trees (placed_trees place (trees (later_item_trees t r tree vs)))))
      → RestBack r inner t levels done last (row_of done last before) u (next ∷ vs) (in_trees (placed_trees at (trees (mark_trees r mark (item_tree t r tree next ∷ later_item_trees t r tree vs)))))
  item_step v next None tail vs done last before u at e apart hv hn k can rest =
      let item = item_tree t r tree next in
      let c = child next tail u at hn can in
      let place = at + length (tree_text item) + 1 in
      item_then v next None tail vs done last before u at 0 e apart hv hn k c (in_trees (placed_trees place (trees (later_item_trees t r tree vs)))) (rest at c place)
  item_step v next (Some m) tail vs done last before u at e apart hv hn k can rest =
      let item = item_tree t r tree next in
      let q = at + length (tree_text (transition_tree r m)) + 1 in
      let c = child next tail u q hn can in
      let place = q + length (tree_text item) + 1 in
      let later = in_trees (placed_trees place (trees (later_item_trees t r tree vs))) in
      let left : m.a ≤ 2592000 = omega (arith, hv.holds.room, hv.short) in
      let right : m.b ≤ 2592000 = omega (arith, hn.holds.room, hn.short, ap right_reach e) in
      let w = waits_back m done last before u at left right in
      let b = item_then v next (Some m) tail vs done last before u q w.0 e apart hv hn k c later (rest q c place) in
      record {
        next = b.next;
        table = b.table;
        parts = b.parts;
        read = goes (child_in (pair_of r) inner (row_of done last before, u) (placed at (transition_tree r m))) _ (record { done = done; last = Some last; before = Some before; waiting = waiting_of r (Some m) w.0 }, u) _ w.1 b.read;
        extends = b.extends;
        all = b.all;
        are = b.are;
        no_more = b.no_more;
      }

  later_back : (vs : List ItemView) (v : ItemView) (done : List Part) (last before : Part) (u : Table) (at : ℕ) → IsShown t v (first_mark vs) → EachIsShown t vs → AllCan Can vs → IsTight (v ∷ vs) → IsBehind t u levels v last before
      → RestBack r inner t levels done last (row_of done last before) u vs (in_trees (placed_trees at (trees (later_item_trees t r tree vs))))
  later_back [] v done last before u at hv hs can tight k = record {
    next = row_of done last before;
    table = u;
    parts = [];
    read = refl;
    extends = extends_self u;
    all = sym (append-nil (done ++ last ∷ []));
    are = tt;
    no_more = refl;
  }
  later_back (next ∷ vs) v done last before u at hv hs can tight k =
      item_step v next next.mark (first_mark vs) vs done last before u at refl tight.0 hv hs.0 k can.0
      (λ q c place. later_back vs next (done ++ last ∷ []) (with_mark c.part next.mark) c.part c.table place hs.0 hs.1 can.1 tight.1
      (record { kept_last = marked_part c.table next c.part next.mark c.is; mark = refl; read_last = c.is }))

  pub row_back : (vs : List ItemView) (u : Table) (at : ℕ) → first_mark vs ≡ None → EachIsShown t vs → AllCan Can vs → IsTight vs → RowBack r inner t levels u vs (in_trees (placed_trees at (trees (item_trees t r tree vs))))
  row_back [] u at none hs can tight = record { next = empty_row; table = u; parts = []; read = refl; extends = extends_self u; all = refl; are = tt; no_more = refl }
  row_back (v ∷ vs) u at none hs can tight =
      let item = placed at (item_tree t r tree v) in
      let c = child v (first_mark vs) u at hs.0 can.0 in
      let first = with_mark c.part None in
      let row = row_of [] first c.part in
      let one : child_in (pair_of r) inner (empty_row, u) item ≡ Ok (row, c.table) =
      c.read empty_row ∙ ap (λ (x : Read RowState). x >>= λ n. Ok (n, c.table)) (kept_first c.part (omega (arith, c.is.len, hs.0.holds.filled))) in
      let b = later_back vs v [] first c.part c.table (at + length (tree_text (item_tree t r tree v)) + 1) hs.0 hs.1 can.1 tight
      (record { kept_last = marked_part c.table v c.part None c.is; mark = sym none; read_last = c.is }) in
      record {
        next = b.next;
        table = b.table;
        parts = first ∷ b.parts;
        read = goes (child_in (pair_of r) inner (empty_row, u) item) _ (row, c.table) _ one b.read;
        extends = extends_on u c.table b.table c.extends b.extends;
        all = b.all;
        are = (part_on t c.table b.table levels b.extends v first (marked_part c.table v c.part None c.is), sym none, b.are);
        no_more = b.no_more;
      }
