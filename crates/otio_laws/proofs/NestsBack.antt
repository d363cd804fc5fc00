-- Items of each kind that were written are read again, with the nests in one another.
use Rattle.std.proofs.Common.{◌≡◌, ℕ, zero, suc, ◌+◌, ◌-◌, ◌≤◌, max, nat_eq, Bool, true, false, ◌&&◌, List, [], ◌∷◌, ◌++◌, length, slice_get, Option, Some, None, option_map, Result, Ok, refl, sym, ap, subst, ◌∙◌, append_assoc, arith, if◌then◌else◌}
use Rattle.std.specs.Prelude.{codes}
use Rattle.std.specs.List.{All}
use Rattle.std.proofs.lemmas.Bool.{eqb-true, and_parts}
use Rattle.std.proofs.lemmas.List.{append-nil}
use Rattle.std.proofs.lemmas.List.Elements.{All-head, All-tail}
use Rattle.timecode12.specs.declared.rate.SequenceRate.{SequenceRate}
use Rattle.frame_meaning.specs.declared.cells.Mark.{Mark}
use Rattle.frame_meaning.specs.declared.cells.What.{What}
use Rattle.frame_meaning.specs.declared.cells.What.TheVariants.{Media as MediaOf, Nest as NestOf}
use Rattle.frame_meaning.specs.declared.frames.Side.{Side}
use Rattle.frame_meaning.specs.declared.frames.Side.TheVariants.{Dark, Pic}
use Rattle.composables.specs.declared.media.Table.{Table}
use Rattle.composables.specs.declared.media.Media.{Media}
use Rattle.composables.specs.declared.media.Layer.{Layer}
use Rattle.composables.specs.declared.media.Nest.{Nest}
use Rattle.composables.specs.declared.items.ItemView.{ItemView}
use Rattle.composables.specs.Good.{SideLiesIn}
use Rattle.composables.specs.Items.{items_of}
use Rattle.composables.specs.TrackFacts.{left_reach, right_reach}
use Rattle.composables.specs.TrackState.{TrackState}
use Rattle.json_tokens.specs.Reading.{◌>>=◌}
use Rattle.json_tree.specs.Tree.{Tree, At, Null, trees, in_trees}
use Rattle.json_tree.specs.Parts.{place_of}
use Rattle.json_tree.specs.Writing.{tree_text}
use Rattle.json_tree.proofs.WriteLaws.{placed, placed_trees}
use Rattle.otio_tracks.specs.declared.faults.DocCode.{DocCode}
use Rattle.otio_tracks.specs.declared.faults.DocCode.TheVariants.{O14}
use Rattle.otio_tracks.specs.declared.values.Schema.TheVariants.{Stack, Track}
use Rattle.otio_tracks.specs.declared.times.Span.{Span}
use Rattle.otio_tracks.specs.Reading.{Read, or_refuse, each}
use Rattle.otio_tracks.specs.Values.{needed, schema_read}
use Rattle.otio_tracks.specs.Parts.{head_read, trim_read}
use Rattle.otio_json.specs.Nests.{Inner, nest_frames, trimmed_layer, longest_from, nest_of, nest_part, item_in, track_in, track_layer_in, layer_in, next_layer, nest_in, levels_in}
use Rattle.otio_json.specs.Soundness.{SideHas, EachHas, IsDeep}
use Rattle.otio_laws.specs.SoundCuts.{IsCutLayer, IsCutNest, IsCutTable}
use Rattle.otio_json.proofs.Growth.{get_last, HasBounds}
use Rattle.otio_laws.specs.CutTrees.{list_tree, range_tree, clip_tree_of, nest_of_layers, layer_of_items, layer_range_tree, side_tree, item_tree, item_trees, layer_tree, layer_trees, layer_trees_if, nest_trees}
use Rattle.otio_laws.specs.SameCut.{SameSide, SameLayer, SameLayers, SameNest, SameThing}
use Rattle.otio_laws.proofs.Facts.{IsShown, shows_media, ShowsNest, shows_nest}
use Rattle.otio_laws.proofs.Walk.{goes, Has, IsOf, needed_back, schema_back}
use Rattle.otio_laws.proofs.TimesBack.{pair_of}
use Rattle.otio_laws.proofs.Extends.{Extends, extends_self, extends_on, nest_extends, thing_on, cells_on, layers_on}
use Rattle.otio_laws.proofs.ItemsBack.{IsItemTree, head_back, span_at, trim_back, untrimmed_back, within_back, ChildBack, child_from, gap_child, clip_child}
use Rattle.otio_laws.proofs.RowsBack.{AllCan}
use Rattle.otio_laws.proofs.TracksBack.{track_back}

-- ---- an item of each kind, where nests are read

-- a nest of this depth is read
abbrev pub NestReads : SequenceRate → Result Inner DocCode → Table → ℕ → (ℕ → List Tree) → ℕ → Type 0
NestReads r inner t levels tree n =
    (j s : ℕ) (v : ItemView) (tail : Option Mark) (u : Table) (at : ℕ) → IsShown t v tail → v.first ≡ Pic (NestOf j) s → IsDeep t.nests n (NestOf j)
    → ChildBack (pair_of r) inner t u levels v (placed at (nest_of_layers (range_tree r s v.len) (tree j)))

-- what the item shows has at most so many nests in one another
abbrev pub Deep : Table → ℕ → ItemView → Type 0
Deep t n v = SideHas (IsDeep t.nests n) v.first

pub item_child : (r : SequenceRate) (inner : Result Inner DocCode) (t : Table) (levels : ℕ) (tree : ℕ → List Tree) (n : ℕ) → IsCutTable t → NestReads r inner t levels tree n
    → (v : ItemView) (tail : Option Mark) (u : Table) (at : ℕ) → IsShown t v tail → Deep t n v → ChildBack (pair_of r) inner t u levels v (placed at (item_tree t r tree v))
item_child r inner t levels tree n sound nests v tail u at h d = by_side v.first refl d
  where
    by_side : (side : Side What) → v.first ≡ side → SideHas (IsDeep t.nests n) side → ChildBack (pair_of r) inner t u levels v (placed at (side_tree t r tree side v.len))
    by_side Dark e k = gap_child r inner t u levels v at e h.short
    by_side (Pic (MediaOf m) s) e k =
        let lies : SideLiesIn t (Pic (MediaOf m) s) v.len (left_reach v.mark) (right_reach tail) = subst (λ (x : Side What). SideLiesIn t x v.len (left_reach v.mark) (right_reach tail)) e h.lies in
        let shown = shows_media t sound m s v.len (left_reach v.mark) (right_reach tail) lies in
        subst (λ (o : Option Media). ChildBack (pair_of r) inner t u levels v (placed at (clip_tree_of t.reels r o s v.len))) (sym shown.there)
        (clip_child r inner t u levels v m s (left_reach v.mark) (right_reach tail) at shown e h.holds.filled)
    by_side (Pic (NestOf j) s) e k = nests j s v tail u at h e k

pub all_deep : (t : Table) (n : ℕ) (vs : List ItemView) → EachHas (IsDeep t.nests n) vs → AllCan (Deep t n) vs
all_deep t n [] h = tt
all_deep t n (v ∷ vs) h = (h.0, all_deep t n vs h.1)

-- ---- layers

pub record LayerBack (rate : ℕ × ℕ) (inner : Result Inner DocCode) (t u : Table) (levels : ℕ) (l : Layer) (number : ℕ) (tree : Tree) : Type 0 where
  pub made : Layer
  pub table : Table
  pub read : layer_in rate inner number u tree ≡ Ok (made, table)
  pub extends : Extends u table
  pub same : SameLayer (SameThing t table levels) l made

layer_is : (range : Tree) (items : List Tree) → IsOf (codes "Track.1") (layer_of_items range items)
unfolding layer_of_items
layer_is range items = record { object = refl; schema = refl }

layer_has : (range : Tree) (items : List Tree) → IsItemTree (layer_of_items range items) range
unfolding layer_of_items
layer_has range items = record { enabled = refl; effects = refl; ranged = refl }

layer_children : (range : Tree) (items : List Tree) → Has (codes "children") (layer_of_items range items) (list_tree items)
unfolding layer_of_items
layer_children range items = refl

-- how a layer is trimmed: as it was, whatever track is read that is as long
record TrimBack (r : SequenceRate) (l : Layer) (tree : Tree) : Type 0 where
  pub trim : Option Span
  pub read : trim_read (pair_of r) tree ≡ Ok trim
  pub frames : (track : TrackState) → length track.cells ≡ length l.track.cells → (from to : ℕ) × (trimmed_layer track trim ≡ Ok (record { track = track; from = from; to = to })) × (l.from ≡ from) × (l.to ≡ to)

same_number_as : (a b : ℕ) → nat_eq a b ≡ true → a ≡ b
same_number_as a b e = eqb-true a b e

trim_of : (r : SequenceRate) (l : Layer) (items : List Tree) (at : ℕ) (whole : Bool) → (nat_eq l.from 0 && nat_eq l.to (length l.track.cells)) ≡ whole → l.from ≤ l.to → l.to ≤ length l.track.cells → length l.track.cells ≤ 2592000
    → TrimBack r l (placed at (layer_of_items (if whole then At 0 Null else range_tree r l.from (l.to - l.from)) items))
trim_of r l items at true e ordered within short =
    let bare = layer_of_items (At 0 Null) items in
    let p = and_parts (nat_eq l.from 0) (nat_eq l.to (length l.track.cells)) e in
    record {
      trim = None;
      read = untrimmed_back (pair_of r) bare at (layer_has (At 0 Null) items);
      frames = λ track long. (0, 0 + length track.cells, refl, same_number_as l.from 0 p.0, same_number_as l.to (length l.track.cells) p.1 ∙ omega arith);
    }
trim_of r l items at false e ordered within short =
    let range = range_tree r l.from (l.to - l.from) in
    let bare = layer_of_items range items in
    let b = trim_back r bare l.from (l.to - l.from) at (layer_has range items) (omega arith) (omega arith) in
    record {
      trim = Some (span_at b.0 l.from (l.to - l.from));
      read = b.1;
      frames = λ track long. (
        l.from,
        l.from + (l.to - l.from),
        ap (λ (o : Option (ℕ × ℕ)). or_refuse o O14 b.0 >>= λ frames. Ok (record { track = track; from = frames.0; to = frames.0 + frames.1 })) (within_back (length track.cells) l.from (l.to - l.from) b.0 (omega arith)),
        refl,
        omega arith,
      );
    }

pub layer_back : (r : SequenceRate) (inner : Result Inner DocCode) (t : Table) (levels : ℕ) (tree : ℕ → List Tree) (n : ℕ) → IsCutTable t → NestReads r inner t levels tree n
    → (l : Layer) (u : Table) (number at : ℕ) → IsCutLayer t 7 l → EachHas (IsDeep t.nests n) (items_of l.track.cells)
    → LayerBack (pair_of r) inner t u levels l number (placed at (layer_tree t r tree l))
layer_back r inner t levels tree n sound nests l u number at h d =
    let vs = items_of l.track.cells in
    let range = layer_range_tree r l in
    let items = item_trees t r tree vs in
    let bare = layer_of_items range items in
    let text = placed at bare in
    let s = schema_back (codes "Track.1") bare Track at (layer_is range items) refl in
    let c = needed_back (codes "children") bare (list_tree items) at (layer_children range items) in
    let trim = trim_of r l items at (nat_eq l.from 0 && nat_eq l.to (length l.track.cells)) refl h.ordered h.within h.track.good.frames in
    let track = track_back r inner t levels tree (Deep t n) (item_child r inner t levels tree n sound nests) u l.track number (c.0 + 1) (place_of text) h.track.good (all_deep t n vs d) in
    let f = trim.frames track.made track.long in
    let whole : track_layer_in (pair_of r) inner number u text ≡ Ok (record { track = track.made; from = f.0; to = f.1 }, track.table) =
    goes (head_read text) _ tt _ (head_back bare range at (layer_has range items))
    (goes (trim_read (pair_of r) text) _ trim.trim _ trim.read
    (goes (needed (codes "children") text) _ (placed c.0 (list_tree items)) _ c.1
    (goes (track_in (pair_of r) inner number u (in_trees (placed_trees (c.0 + 1) (trees items))) (place_of text)) _ (track.made, track.table) _ track.read
    (goes (trimmed_layer track.made trim.trim) _ (record { track = track.made; from = f.0; to = f.1 }) _ f.2 refl)))) in
    record {
      made = record { track = track.made; from = f.0; to = f.1 };
      table = track.table;
      read = goes (schema_read text) _ (Track, s.0) _ s.1 whole;
      extends = track.extends;
      same = record { from = f.3; to = f.4; cells = track.same };
    }

pub record LayersBack (rate : ℕ × ℕ) (inner : Result Inner DocCode) (t u : Table) (levels : ℕ) (ls before : List Layer) (children : List Tree) : Type 0 where
  pub made : List Layer
  pub table : Table
  pub read : each (next_layer rate inner) (before, u) children ≡ Ok (before ++ made, table)
  pub extends : Extends u table
  pub same : SameLayers (SameThing t table levels) ls made

layer_on : (t a b : Table) (levels : ℕ) → Extends a b → (l k : Layer) → SameLayer (SameThing t a levels) l k → SameLayer (SameThing t b levels) l k
layer_on t a b levels h l k s = record { from = s.from; to = s.to; cells = cells_on (SameThing t a levels) (SameThing t b levels) (thing_on t a b h levels) l.track.cells k.track.cells s.cells }

layers_back : (r : SequenceRate) (inner : Result Inner DocCode) (t : Table) (levels : ℕ) (tree : ℕ → List Tree) (n : ℕ) → IsCutTable t → NestReads r inner t levels tree n
    → (ls : List Layer) (before : List Layer) (u : Table) (q : ℕ) → All (IsCutLayer t 7) ls → All (λ (l : Layer). EachHas (IsDeep t.nests n) (items_of l.track.cells)) ls
    → LayersBack (pair_of r) inner t u levels ls before (in_trees (placed_trees q (trees (layer_trees t r tree ls))))
layers_back r inner t levels tree n sound nests [] before u q h d = record {
  made = [];
  table = u;
  read = ap (λ (ls : List Layer). Ok (ls, u)) (sym (append-nil before));
  extends = extends_self u;
  same = tt;
}
layers_back r inner t levels tree n sound nests (l ∷ ls) before u q h d =
    let Shallow : Layer → Type 0 = λ k. EachHas (IsDeep t.nests n) (items_of k.track.cells) in
    let one = layer_back r inner t levels tree n sound nests l u (length before) q (All-head (IsCutLayer t 7) l ls h) (All-head Shallow l ls d) in
    let rest = layers_back r inner t levels tree n sound nests ls (before ++ one.made ∷ []) one.table (q + length (tree_text (layer_tree t r tree l)) + 1) (All-tail (IsCutLayer t 7) l ls h) (All-tail Shallow l ls d) in
    let step : next_layer (pair_of r) inner (before, u) (placed q (layer_tree t r tree l)) ≡ Ok (before ++ one.made ∷ [], one.table) =
    ap (λ (x : Read (Layer × Table)). x >>= λ layer. Ok (before ++ layer.0 ∷ [], layer.1)) one.read in
    record {
      made = one.made ∷ rest.made;
      table = rest.table;
      read = goes (next_layer (pair_of r) inner (before, u) (placed q (layer_tree t r tree l))) _ (before ++ one.made ∷ [], one.table) _ step
          (rest.read ∙ ap (λ (ls : List Layer). Ok (ls, rest.table)) (append_assoc before (one.made ∷ []) rest.made));
      extends = extends_on u one.table rest.table one.extends rest.extends;
      same = (layer_on t one.table rest.table levels rest.extends l one.made one.same, rest.same);
    }

-- ---- nests

longest_same : (Same : What → What → Type 0) (ls ks : List Layer) (most : ℕ) → SameLayers Same ls ks → longest_from most ls ≡ longest_from most ks
longest_same Same [] [] most h = refl
longest_same Same [] (k ∷ ks) most h = absurd h
longest_same Same (l ∷ ls) [] most h = absurd h
longest_same Same (l ∷ ls) (k ∷ ks) most h =
    (λ i. longest_from (max most (h.0.to i - h.0.from i)) ls) ∙ longest_same Same ls ks (max most (k.to - k.from)) h.1

longest_short : (t : Table) (ls : List Layer) (most : ℕ) → All (IsCutLayer t 7) ls → most ≤ 2592000 → longest_from most ls ≤ 2592000
longest_short t [] most h le = le
longest_short t (l ∷ ls) most h le =
    let one = All-head (IsCutLayer t 7) l ls h in
    longest_short t ls (max most (l.to - l.from)) (All-tail (IsCutLayer t 7) l ls h) (omega (arith, one.within, one.track.good.frames))

nest_short : (t : Table) (nest : Nest) → IsCutNest t 7 nest → nest.length ≤ 2592000
nest_short t nest h = omega (arith, h.as_long, longest_short t nest.layers 0 h.layers (omega arith))

-- The nest's own part is read as the same nest.
record OwnBack (own : Inner) (t u : Table) (levels : ℕ) (nest : Nest) (tree : Tree) : Type 0 where
  pub made : Nest
  pub table : Table
  pub read : own Stack u tree ≡ Ok (made, table)
  pub extends : Extends u table
  pub long : nest.length ≡ made.length
  pub same : SameLayers (SameThing t table levels) nest.layers made.layers

nest_is : (range : Tree) (layers : List Tree) → IsOf (codes "Stack.1") (nest_of_layers range layers)
unfolding nest_of_layers
nest_is range layers = record { object = refl; schema = refl }

nest_has : (range : Tree) (layers : List Tree) → IsItemTree (nest_of_layers range layers) range
unfolding nest_of_layers
nest_has range layers = record { enabled = refl; effects = refl; ranged = refl }

nest_children : (range : Tree) (layers : List Tree) → Has (codes "children") (nest_of_layers range layers) (list_tree layers)
unfolding nest_of_layers
nest_children range layers = refl

own_back : (r : SequenceRate) (inner : Result Inner DocCode) (t : Table) (levels : ℕ) (tree : ℕ → List Tree) (n : ℕ) → IsCutTable t → NestReads r inner t levels tree n
    → (nest : Nest) (range : Tree) (u : Table) (at : ℕ) → IsCutNest t 7 nest → All (λ (l : Layer). EachHas (IsDeep t.nests n) (items_of l.track.cells)) nest.layers
    → OwnBack (nest_in (pair_of r) inner) t u levels nest (placed at (nest_of_layers range (layer_trees t r tree nest.layers)))
own_back r inner t levels tree n sound nests nest range u at h d =
    let layers = layer_trees t r tree nest.layers in
    let bare = nest_of_layers range layers in
    let text = placed at bare in
    let c = needed_back (codes "children") bare (list_tree layers) at (nest_children range layers) in
    let b = layers_back r inner t levels tree n sound nests nest.layers [] u (c.0 + 1) h.layers d in
    record {
      made = nest_of b.made;
      table = b.table;
      read = goes (needed (codes "children") text) _ (placed c.0 (list_tree layers)) _ c.1
          (ap (λ (x : Read (List Layer × Table)). x >>= λ ls. Ok (nest_of ls.0, ls.1)) b.read);
      extends = b.extends;
      long = h.as_long ∙ longest_same (SameThing t b.table levels) nest.layers b.made 0 b.same;
      same = b.same;
    }

nest_child : (r : SequenceRate) (own : Inner) (t u : Table) (levels j s : ℕ) (v : ItemView) (before after at : ℕ) (layers : List Tree) (k : ShowsNest t j s v.len before after) → v.first ≡ Pic (NestOf j) s → v.len ≤ 2592000 → s ≤ 2147483647
    → OwnBack own t u levels k.entry (placed at (nest_of_layers (range_tree r s v.len) layers))
    → ChildBack (pair_of r) (Ok own) t u (suc levels) v (placed at (nest_of_layers (range_tree r s v.len) layers))
nest_child r own t u levels j s v before after at layers k pic short small b =
    let range = range_tree r s v.len in
    let bare = nest_of_layers range layers in
    let text = placed at bare in
    let new : Table = record b.table { nests = b.table.nests ++ b.made ∷ [] } in
    let part = nest_part (length b.table.nests) b.made.length (s, v.len) in
    let sc = schema_back (codes "Stack.1") bare Stack at (nest_is range layers) refl in
    let trim = trim_back r bare s v.len at (nest_has range layers) small (omega arith) in
    let frames : nest_frames b.made.length (Some (span_at trim.0 s v.len)) ≡ Ok (s, v.len) =
    ap (λ (o : Option (ℕ × ℕ)). or_refuse o O14 trim.0) (within_back b.made.length s v.len trim.0 (omega (arith, k.to, b.long))) in
    let item : item_in (pair_of r) (Ok own) Stack sc.0 u text ≡ Ok (part, new) =
    goes (head_read text) _ tt _ (head_back bare range at (nest_has range layers))
    (goes (trim_read (pair_of r) text) _ (Some (span_at trim.0 s v.len)) _ trim.1
    (goes (own Stack u text) _ (b.made, b.table) _ b.read
    (goes (nest_frames b.made.length (Some (span_at trim.0 s v.len))) _ (s, v.len) _ frames refl))) in
    let more = nest_extends b.table b.made in
    let inside : SameNest (SameThing t new levels) (Some k.entry) (Some b.made) =
    (b.long, layers_on (SameThing t b.table levels) (SameThing t new levels) (thing_on t b.table new more levels) k.entry.layers b.made.layers b.same) in
    let same : SameThing t new (suc levels) (NestOf j) (NestOf (length b.table.nests)) =
    subst (λ (o : Option Nest). SameNest (SameThing t new levels) o (slice_get new.nests (length b.table.nests))) (sym k.there)
    (subst (λ (o : Option Nest). SameNest (SameThing t new levels) (Some k.entry) o) (sym (get_last b.table.nests b.made)) inside) in
    record {
      part = part;
      table = new;
      read = λ row. child_from (pair_of r) (Ok own) Stack sc.0 text u new part row sc.1 refl item;
      extends = extends_on u b.table new b.extends more;
      is = record {
        side = subst (λ (x : Side What). SameSide (SameThing t new (suc levels)) x part.first) (sym pic) (same, refl);
        len = refl;
        bounds = subst (λ (x : Side What). HasBounds t x 0 b.made.length) (sym pic) (ap (option_map (λ (e : Nest). (0, e.length))) k.there ∙ ap (λ (n : ℕ). Some (0, n)) b.long);
      };
      unmarked = refl;
    }

-- nests in one another are read, where so many may be read and were written
pub nests_read : (r : SequenceRate) (t : Table) → IsCutTable t → (n most levels fuel : ℕ) → n ≤ most → n ≤ levels → n ≤ fuel → NestReads r (levels_in (pair_of r) most) t levels (nest_trees t r fuel) n
unfolding levels_in nest_trees
nests_read r t sound zero most levels fuel a b c j s v tail u at h pic d = absurd d
nests_read r t sound (suc n) zero levels fuel a b c j s v tail u at h pic d = absurd (omega (arith, a))
nests_read r t sound (suc n) (suc most) zero fuel a b c j s v tail u at h pic d = absurd (omega (arith, b))
nests_read r t sound (suc n) (suc most) (suc levels) zero a b c j s v tail u at h pic d = absurd (omega (arith, c))
nests_read r t sound (suc n) (suc most) (suc levels) (suc fuel) a b c j s v tail u at h pic d =
    let lies : SideLiesIn t (Pic (NestOf j) s) v.len (left_reach v.mark) (right_reach tail) = subst (λ (x : Side What). SideLiesIn t x v.len (left_reach v.mark) (right_reach tail)) pic h.lies in
    let k = shows_nest t sound j s v.len (left_reach v.mark) (right_reach tail) lies in
    let same : d.0 ≡ k.entry = some_same d.0 k.entry (sym d.1 ∙ k.there) in
    let deep : All (λ (l : Layer). EachHas (IsDeep t.nests n) (items_of l.track.cells)) k.entry.layers = subst (λ (x : Nest). All (λ (l : Layer). EachHas (IsDeep t.nests n) (items_of l.track.cells)) x.layers) same d.2 in
    let inner = levels_in (pair_of r) most in
    let tree = nest_trees t r fuel in
    let reads = nests_read r t sound n most levels fuel (omega (arith, a)) (omega (arith, b)) (omega (arith, c)) in
    let own = own_back r inner t levels tree n sound reads k.entry (range_tree r s v.len) u at k.sound deep in
    subst (λ (o : Option Nest). ChildBack (pair_of r) (Ok (nest_in (pair_of r) inner)) t u (suc levels) v (placed at (nest_of_layers (range_tree r s v.len) (layer_trees_if t r tree o)))) (sym k.there)
    (nest_child r (nest_in (pair_of r) inner) t u levels j s v (left_reach v.mark) (right_reach tail) at (layer_trees t r tree k.entry.layers) k pic h.short (omega (arith, k.to, nest_short t k.entry k.sound)) own)
  where
    some_same : (x y : Nest) → Some x ≡ Some y → x ≡ y
    some_same x y e = cc
