-- A track that was written is read again as the same track.
use Rattle.std.proofs.Common.{◌≡◌, ℕ, zero, suc, ◌+◌, ◌≤◌, nat_eq, Bool, true, false, ◌&&◌, List, [], ◌∷◌, ◌++◌, length, replicate, Option, Some, None, Result, Ok, refl, sym, ap, subst, ◌∙◌, arith, if◌then◌else◌}
use Rattle.std.specs.List.{list_any}
use Rattle.std.proofs.lemmas.Bool.{le-leb}
use Rattle.timecode12.specs.declared.rate.SequenceRate.{SequenceRate}
use Rattle.frame_meaning.specs.declared.cells.Cell.{Cell}
use Rattle.frame_meaning.specs.declared.cells.Mark.{Mark}
use Rattle.frame_meaning.specs.declared.cells.Link.{Link}
use Rattle.frame_meaning.specs.declared.cells.What.{What}
use Rattle.frame_meaning.specs.declared.frames.Side.{Side}
use Rattle.frame_meaning.specs.declared.frames.Side.TheVariants.{Dark, Pic}
use Rattle.frame_meaning.specs.Cells.{next_side, span}
use Rattle.composables.specs.declared.media.Table.{Table}
use Rattle.composables.specs.declared.items.ItemView.{ItemView}
use Rattle.composables.specs.Good.{IsGood}
use Rattle.composables.specs.Items.{marked, view_cells, cells_of, items_of}
use Rattle.composables.specs.Joined.{IsTight, AllFilled, joined, frames_in}
use Rattle.composables.specs.TrackFacts.{EachHolds, ShowsAsItem}
use Rattle.composables.specs.TrackState.{TrackState}
use Rattle.composables.proofs.Joining.{length-cells_of, items_of-cells_of, tight-joined}
use Rattle.json_tree.specs.Tree.{Tree, trees, in_trees}
use Rattle.json_tree.proofs.WriteLaws.{placed, placed_trees}
use Rattle.otio_tracks.specs.declared.faults.DocCode.{DocCode}
use Rattle.otio_tracks.specs.declared.faults.DocCode.TheVariants.{O11}
use Rattle.otio_tracks.specs.declared.parts.Part.{Part}
use Rattle.otio_tracks.specs.Reading.{refuse}
use Rattle.otio_tracks.specs.Parts.{is_dark, is_gap}
use Rattle.otio_tracks.specs.Rows.{ended, row_end, frames_in_all}
use Rattle.otio_tracks.specs.Building.{view_of, number_after, views_of, track_made, track_fit}
use Rattle.otio_json.specs.Nests.{Inner, row_in, track_in}
use Rattle.otio_laws.specs.CutTrees.{item_tree, item_trees}
use Rattle.otio_laws.specs.SameCut.{SameSide, SameFrames, SameCells, SameThing}
use Rattle.otio_laws.proofs.Facts.{IsShown, EachIsShown, track_shown, track_frames}
use Rattle.otio_laws.proofs.Walk.{goes}
use Rattle.otio_laws.proofs.TimesBack.{pair_of}
use Rattle.otio_laws.proofs.Extends.{Extends}
use Rattle.otio_laws.proofs.RanksBack.{IsNew, added, AreNew, rank_at, rank_past, view_ranks, ranks_are, none_seen, not_in_more, EachFilled, apart_new}
use Rattle.otio_laws.proofs.ItemsBack.{ChildBack}
use Rattle.otio_laws.proofs.RowsBack.{same_dark, AllCan, AreParts, RowBack, row_back}

-- ---- frames

next_same : (Same : What → What → Type 0) (a b : Side What) → SameSide Same a b → SameSide Same (next_side a) (next_side b)
next_same Same Dark Dark h = tt
next_same Same Dark (Pic x r) h = absurd h
next_same Same (Pic w s) Dark h = absurd h
next_same Same (Pic w s) (Pic x r) h = (h.0, ap (λ (n : ℕ). n + 1) h.1)

span_same : (Same : What → What → Type 0) (n : ℕ) (a b : Side What) (i j : Option ℕ) (k l : Option Link) (cs ds : List Cell) → SameSide Same a b → SameFrames Same cs ds
    → SameFrames Same (span i a k n ++ cs) (span j b l n ++ ds)
span_same Same zero a b i j k l cs ds h f = f
span_same Same (suc n) a b i j k l cs ds h f = (h, refl, span_same Same n (next_side a) (next_side b) i j k l cs ds (next_same Same a b h) f)

view_same : (Same : What → What → Type 0) (n : ℕ) (a b : Side What) (i j : Option ℕ) (k l : Option Link) (mark : Option Mark) (cs ds : List Cell) → SameSide Same a b → SameFrames Same cs ds
    → SameFrames Same (marked mark (span i a k n) ++ cs) (marked mark (span j b l n) ++ ds)
view_same Same zero a b i j k l mark cs ds h f = f
view_same Same (suc n) a b i j k l mark cs ds h f = (h, refl, span_same Same n (next_side a) (next_side b) i j k l cs ds (next_same Same a b h) f)

module _ (t u : Table) (levels : ℕ) where
  frames_made : (vs : List ItemView) (ps : List Part) (n : ℕ) → AreParts t u levels vs ps → SameFrames (SameThing t u levels) (cells_of vs) (cells_of (views_of n ps))
  frames_made [] [] n h = tt
  frames_made [] (p ∷ ps) n h = absurd h
  frames_made (v ∷ vs) [] n h = absurd h
  frames_made (v ∷ vs) (p ∷ ps) n h =
      let rest = frames_made vs ps (number_after n p) h.2 in
      let item = (view_of n p).item in
      let later = cells_of (views_of (number_after n p) ps) in
      subst (λ (len : ℕ). SameFrames (SameThing t u levels) (view_cells v ++ cells_of vs) (marked p.mark (span item p.first None len) ++ later)) (sym h.0.len)
      (subst (λ (mark : Option Mark). SameFrames (SameThing t u levels) (view_cells v ++ cells_of vs) (marked mark (span item p.first None v.len) ++ later)) (sym h.1)
      (view_same (SameThing t u levels) v.len v.first p.first v.item item v.link None v.mark (cells_of vs) later h.0.side rest))

  count_made : (vs : List ItemView) (ps : List Part) → AreParts t u levels vs ps → length ps ≡ length vs
  count_made [] [] h = refl
  count_made [] (p ∷ ps) h = absurd h
  count_made (v ∷ vs) [] h = absurd h
  count_made (v ∷ vs) (p ∷ ps) h = ap suc (count_made vs ps h.2)

  length_made : (vs : List ItemView) (ps : List Part) → AreParts t u levels vs ps → frames_in_all ps ≡ frames_in vs
  length_made [] [] h = refl
  length_made [] (p ∷ ps) h = absurd h
  length_made (v ∷ vs) [] h = absurd h
  length_made (v ∷ vs) (p ∷ ps) h = λ i. h.0.len i + length_made vs ps h.2 i

views_length : (n : ℕ) (ps : List Part) → frames_in (views_of n ps) ≡ frames_in_all ps
views_length n [] = refl
views_length n (p ∷ ps) = ap (λ (k : ℕ). p.len + k) (views_length (number_after n p) ps)

-- ---- the ranks of items

item_rank : (item : Option ℕ) (side : Side What) (link : Option Link) (k n : ℕ) → ShowsAsItem item side link → rank_at k item ≡ rank_at k (if is_dark side then None else Some n)
item_rank None Dark link k n h = refl
item_rank None (Pic w s) None k n h = absurd h
item_rank None (Pic w s) (Some l) k n h = absurd h
item_rank (Some i) Dark link k n h = absurd h
item_rank (Some i) (Pic w s) link k n h = refl

item_past : (item : Option ℕ) (side : Side What) (link : Option Link) (k n : ℕ) → ShowsAsItem item side link → rank_past k item ≡ rank_past k (if is_dark side then None else Some n)
item_past None Dark link k n h = refl
item_past None (Pic w s) None k n h = absurd h
item_past None (Pic w s) (Some l) k n h = absurd h
item_past (Some i) Dark link k n h = absurd h
item_past (Some i) (Pic w s) link k n h = refl

ranks_made : (t u : Table) (levels : ℕ) (vs : List ItemView) (ps : List Part) (k n : ℕ) → AreParts t u levels vs ps → EachIsShown t vs → view_ranks k vs ≡ view_ranks k (views_of n ps)
ranks_made t u levels [] [] k n h s = refl
ranks_made t u levels [] (p ∷ ps) k n h s = absurd h
ranks_made t u levels (v ∷ vs) [] k n h s = absurd h
ranks_made t u levels (v ∷ vs) (p ∷ ps) k n h s =
    let dark : is_dark v.first ≡ is_gap p = sym (same_dark (SameThing t u levels) v.first p.first h.0.side) in
    let one : rank_at k v.item ≡ rank_at k (view_of n p).item = item_rank v.item v.first v.link k n s.0.holds.shows ∙ ap (λ (b : Bool). rank_at k (if b then None else Some n)) dark in
    let past : rank_past k v.item ≡ rank_past k (view_of n p).item = item_past v.item v.first v.link k n s.0.holds.shows ∙ ap (λ (b : Bool). rank_past k (if b then None else Some n)) dark in
    (λ i. replicate (sym h.0.len i) (one i) ++ view_ranks (past i) vs)
    ∙ ap (λ (l : List (Option ℕ)). replicate p.len (rank_at k (view_of n p).item) ++ l) (ranks_made t u levels vs ps (rank_past k (view_of n p).item) (number_after n p) h.2 s.1)

-- no number from n on was seen
abbrev AllBelow : List ℕ → ℕ → Type 0
AllBelow seen n = (j : ℕ) → n ≤ j → list_any (nat_eq j) seen ≡ false

below_more : (seen : List ℕ) (n : ℕ) → AllBelow seen n → AllBelow (seen ++ n ∷ []) (n + 1)
below_more seen n b j le = not_in_more seen n j (b j (omega arith)) (λ e. omega arith)

-- the numbers of the items behind one that is a gap, or is none
made_by : (gap : Bool) (seen : List ℕ) (n : ℕ) (ps : List Part) → AllBelow seen n → ((next : ℕ) (more : List ℕ) → AllBelow more next → AreNew more (views_of next ps))
    → IsNew seen (if gap then None else Some n) × AreNew (added seen (if gap then None else Some n)) (views_of (if gap then n else n + 1) ps)
made_by true seen n ps b rest = (tt, rest n seen b)
made_by false seen n ps b rest = (b n (omega arith), rest (n + 1) (seen ++ n ∷ []) (below_more seen n b))

new_made : (t u : Table) (levels : ℕ) (vs : List ItemView) (ps : List Part) (n : ℕ) (seen : List ℕ) → AreParts t u levels vs ps → EachFilled vs → AllBelow seen n → AreNew seen (views_of n ps)
new_made t u levels [] [] n seen h f b = tt
new_made t u levels [] (p ∷ ps) n seen h f b = absurd h
new_made t u levels (v ∷ vs) [] n seen h f b = absurd h
new_made t u levels (v ∷ vs) (p ∷ ps) n seen h f b =
    let rest = made_by (is_gap p) seen n ps b (λ next more below. new_made t u levels vs ps next more h.2 f.1 below) in
    (omega (arith, h.0.len, f.0), rest.0, rest.1)

each_filled : (vs : List ItemView) → EachHolds vs → EachFilled vs
each_filled [] h = tt
each_filled (v ∷ vs) h = (h.0.filled, each_filled vs h.1)

all_filled : (vs : List ItemView) → EachHolds vs → AllFilled vs
all_filled [] h = tt
all_filled (v ∷ vs) h = (h.0.filled, all_filled vs h.1)

-- ---- the track

tight_items : (cells : List Cell) (vs : List ItemView) → items_of cells ≡ vs → cells_of vs ≡ cells → EachHolds vs → IsTight vs
tight_items cells vs e whole h =
    let same : joined vs ≡ vs = sym (items_of-cells_of vs (all_filled vs h)) ∙ ap items_of whole ∙ e in
    subst IsTight same (tight-joined vs)

cells_made : (t u : Table) (levels : ℕ) (track : TrackState) (ps : List Part) → IsGood t track → AreParts t u levels (items_of track.cells) ps
    → SameCells (SameThing t u levels) track.cells (cells_of (views_of 0 ps))
cells_made t u levels track ps g h =
    let vs = items_of track.cells in
    let filled = each_filled vs g.kept.each in
    let of_cut = ranks_are vs [] (apart_new vs [] filled (none_seen vs) g.kept.apart) in
    let of_parts = ranks_are (views_of 0 ps) [] (new_made t u levels vs ps 0 [] h filled (λ j le. refl)) in
    subst (λ (cs : List Cell). SameCells (SameThing t u levels) cs (cells_of (views_of 0 ps))) g.kept.whole
    (record {
      frames = frames_made t u levels vs ps 0 h;
      items = of_cut ∙ ranks_made t u levels vs ps 0 0 h (track_shown t track g) ∙ sym of_parts;
    })

fit_back : (number : ℕ) (ps : List Part) (at : ℕ) → frames_in_all ps ≤ 2592000 → length ps ≤ 65536 → track_fit number ps at ≡ Ok (track_made number ps)
unfolding track_fit
fit_back number ps at f c = λ i. if le-leb (frames_in_all ps) 2592000 f i && le-leb (length ps) 65536 c i then Ok (track_made number ps) else refuse O11 at

-- The children of a track are read as the same track.
pub record TrackBack (rate : ℕ × ℕ) (inner : Result Inner DocCode) (t u : Table) (levels : ℕ) (track : TrackState) (number : ℕ) (children : List Tree) (at : ℕ) : Type 0 where
  pub made : TrackState
  pub table : Table
  pub read : track_in rate inner number u children at ≡ Ok (made, table)
  pub extends : Extends u table
  pub number_is : made.number ≡ number
  pub same : SameCells (SameThing t table levels) track.cells made.cells
  pub long : length made.cells ≡ length track.cells

pub track_from : (r : SequenceRate) (inner : Result Inner DocCode) (t u : Table) (levels : ℕ) (track : TrackState) (number : ℕ) (children : List Tree) (at : ℕ) → IsGood t track → RowBack r inner t levels u (items_of track.cells) children
    → TrackBack (pair_of r) inner t u levels track number children at
track_from r inner t u levels track number children at g row =
    let vs = items_of track.cells in
    let length_is = length_made t row.table levels vs row.parts row.are in
    let frames = track_frames t track g in
    let fit = fit_back number row.parts at (omega (arith, length_is, frames, g.frames)) (omega (arith, count_made t row.table levels vs row.parts row.are, g.items)) in
    let end : row_end row.next ≡ Ok row.parts = λ i. ended (row.no_more i) (row.all i) in
    record {
      made = track_made number row.parts;
      table = row.table;
      read = goes (row_in (pair_of r) inner u children) _ (row.next, row.table) _ row.read
          (goes (row_end row.next) _ row.parts _ end
          (goes (track_fit number row.parts at) _ (track_made number row.parts) _ fit refl));
      extends = row.extends;
      number_is = refl;
      same = cells_made t row.table levels track row.parts g row.are;
      long = length-cells_of (views_of 0 row.parts) ∙ views_length 0 row.parts ∙ length_is ∙ frames;
    }

pub track_back : (r : SequenceRate) (inner : Result Inner DocCode) (t : Table) (levels : ℕ) (tree : ℕ → List Tree) (Can : ItemView → Type 0)
    → ((v : ItemView) (tail : Option Mark) (u : Table) (at : ℕ) → IsShown t v tail → Can v → ChildBack (pair_of r) inner t u levels v (placed at (item_tree t r tree v)))
    → (u : Table) (track : TrackState) (number q at : ℕ) → IsGood t track → AllCan Can (items_of track.cells)
    → TrackBack (pair_of r) inner t u levels track number (in_trees (placed_trees q (trees (item_trees t r tree (items_of track.cells))))) at
track_back r inner t levels tree Can child u track number q at g can =
    let vs = items_of track.cells in
    track_from r inner t u levels track number (in_trees (placed_trees q (trees (item_trees t r tree vs)))) at g
    (row_back r inner t levels tree Can child vs u q g.kept.not_before (track_shown t track g) can (tight_items track.cells vs refl g.kept.whole g.kept.each))
