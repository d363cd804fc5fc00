-- The tracks of a sequence that was written are read again.
use Rattle.std.proofs.Common.{◌≡◌, ℕ, suc, ◌+◌, min, List, [], ◌∷◌, ◌++◌, length, slice_get, Option, Some, Ok, refl, sym, ap, subst, ◌∙◌, append_assoc, arith}
use Rattle.std.specs.Prelude.{codes}
use Rattle.std.proofs.lemmas.List.{append-nil, length-append}
use Rattle.timecode12.specs.declared.rate.SequenceRate.{SequenceRate}
use Rattle.frame_meaning.specs.declared.cells.What.{What}
use Rattle.frame_meaning.specs.declared.cells.What.TheVariants.{Nest as NestOf}
use Rattle.frame_meaning.specs.declared.frames.Side.{Side}
use Rattle.frame_meaning.specs.declared.frames.Side.TheVariants.{Dark, Pic}
use Rattle.composables.specs.declared.media.Kind.{Kind as TrackKind}
use Rattle.composables.specs.declared.media.Kind.TheVariants.{Video, Audio}
use Rattle.composables.specs.declared.media.Table.{Table}
use Rattle.composables.specs.declared.items.ItemView.{ItemView}
use Rattle.composables.specs.Items.{items_of}
use Rattle.composables.specs.TrackState.{TrackState}
use Rattle.json_tokens.specs.Reading.{◌>>=◌}
use Rattle.json_tree.specs.Tree.{Tree, At, Null, trees, in_trees}
use Rattle.json_tree.specs.Parts.{place_of}
use Rattle.json_tree.specs.Writing.{tree_text}
use Rattle.json_tree.proofs.WriteLaws.{placed, placed_trees}
use Rattle.otio_tracks.specs.Reading.{Read, each}
use Rattle.otio_tracks.specs.Values.{given, needed, expected}
use Rattle.otio_tracks.specs.Parts.{enabled_if, enabled_read}
use Rattle.otio_text.specs.Documents.{kind_at}
use Rattle.otio_json.specs.Nests.{nests_in, track_read}
use Rattle.otio_json.specs.Soundness.{SideHas, EachHas, IsDeep, levels_of_kind}
use Rattle.otio_laws.specs.SoundCuts.{IsCutTrack, IsCutTable}
use Rattle.otio_laws.proofs.DeepTracks.{AreCutTracksFrom}
use Rattle.otio_tracks.specs.Clips.{with_kind}
use Rattle.otio_json.specs.Timelines.{untrimmed_if, untrimmed, kind_named, kind_read, nesting_of, head_of_track, next_track}
use Rattle.otio_laws.specs.CutTrees.{text_tree, list_tree, item_trees, nest_trees, kind_name, track_of_items, track_tree, track_trees}
use Rattle.otio_laws.specs.SameCut.{SameCells, SameThing, SameTracks}
use Rattle.otio_laws.proofs.Walk.{goes, Has, HasNo, IsOf, needed_back, given_null, given_none, expected_back}
use Rattle.otio_laws.proofs.TimesBack.{pair_of}
use Rattle.otio_laws.proofs.Extends.{Keeps, keeps_of, keeps_on, keeps_self, thing_keeps, cells_on}
use Rattle.otio_laws.proofs.TracksBack.{TrackBack, track_back}
use Rattle.otio_laws.proofs.NestsBack.{NestReads, Deep, item_child, all_deep, nests_read}
use Rattle.otio_laws.proofs.Depth.{deep_least}

-- ---- a track of its kind

-- so many nests may stand in one another, and were written
abbrev depth_of : TrackKind → Table → ℕ
depth_of k t = min (levels_of_kind k) (length t.nests)

least_deep : (t : Table) (n : ℕ) (vs : List ItemView) → EachHas (IsDeep t.nests n) vs → EachHas (IsDeep t.nests (min n (length t.nests))) vs
least_deep t n [] h = tt
least_deep t n (v ∷ vs) h = (by_side v.first h.0, least_deep t n vs h.1) where
  by_side : (side : Side What) → SideHas (IsDeep t.nests n) side → SideHas (IsDeep t.nests (min n (length t.nests))) side
  by_side Dark d = tt
  by_side (Pic w s) d = deep_least t.nests n w d

kind_reads : (r : SequenceRate) (t : Table) → IsCutTable t → (k : TrackKind) → NestReads r (nests_in (pair_of r) (nesting_of k)) t 8 (nest_trees t r (length t.nests)) (depth_of k t)
kind_reads r t sound Video = nests_read r t sound (min 8 (length t.nests)) 8 8 (length t.nests) (omega arith) (omega arith) (omega arith)
kind_reads r t sound Audio = λ j s v tail u at h pic d.
    let none : min 0 (length t.nests) ≡ 0 = omega arith in
    absurd (subst (λ (n : ℕ). IsDeep t.nests n (NestOf j)) none d)

kind_track : (r : SequenceRate) (t : Table) → IsCutTable t → (k : TrackKind) (u : Table) (x : TrackState) (number q at : ℕ) → IsCutTrack t (levels_of_kind k) x
    → TrackBack (pair_of r) (nests_in (pair_of r) (nesting_of k)) t u 8 x number (in_trees (placed_trees q (trees (item_trees t r (nest_trees t r (length t.nests)) (items_of x.cells))))) at
kind_track r t sound k u x number q at h =
    let inner = nests_in (pair_of r) (nesting_of k) in
    let tree = nest_trees t r (length t.nests) in
    let n = depth_of k t in
    track_back r inner t 8 tree (Deep t n) (item_child r inner t 8 tree n sound (kind_reads r t sound k)) u x number q at h.good
    (all_deep t n (items_of x.cells) (least_deep t (levels_of_kind k) (items_of x.cells) h.deep))

-- ---- the text of a track

track_is : (kind : List ℕ) (items : List Tree) → IsOf (codes "Track.1") (track_of_items kind items)
unfolding track_of_items
track_is kind items = record { object = refl; schema = refl }

track_enabled : (kind : List ℕ) (items : List Tree) → HasNo (codes "enabled") (track_of_items kind items)
unfolding track_of_items
track_enabled kind items = refl

track_range : (kind : List ℕ) (items : List Tree) → Has (codes "source_range") (track_of_items kind items) (At 0 Null)
unfolding track_of_items
track_range kind items = refl

track_kind : (kind : List ℕ) (items : List Tree) → Has (codes "kind") (track_of_items kind items) (text_tree kind)
unfolding track_of_items
track_kind kind items = refl

track_children : (kind : List ℕ) (items : List Tree) → Has (codes "children") (track_of_items kind items) (list_tree items)
unfolding track_of_items
track_children kind items = refl

pub untrimmed_back : (t : Tree) (at : ℕ) → Has (codes "source_range") t (At 0 Null) → untrimmed (placed at t) ≡ Ok tt
unfolding untrimmed
untrimmed_back t at h = ap untrimmed_if (given_null (codes "source_range") t (At 0 Null) at h refl)

named_kind : (k : TrackKind) (at : ℕ) → kind_named (kind_name (Some k)) at ≡ Ok k
named_kind Video at = refl
named_kind Audio at = refl

kind_back : (k : TrackKind) (t : Tree) (at : ℕ) → Has (codes "kind") t (text_tree (kind_name (Some k))) → kind_read (placed at t) ≡ Ok k
unfolding kind_read
kind_back k t at h =
    let p = needed_back (codes "kind") t (text_tree (kind_name (Some k))) at h in
    goes (needed (codes "kind") (placed at t)) _ (placed p.0 (text_tree (kind_name (Some k)))) _ p.1 (named_kind k p.0)

head_back : (k : TrackKind) (items : List Tree) (at : ℕ) → head_of_track (placed at (track_of_items (kind_name (Some k)) items)) ≡ Ok k
unfolding head_of_track enabled_read
head_back k items at =
    let bare = track_of_items (kind_name (Some k)) items in
    let text = placed at bare in
    goes (expected (codes "Track.1") text) _ tt _ (expected_back (codes "Track.1") bare at (track_is (kind_name (Some k)) items))
    (goes (enabled_if (given (codes "enabled") text)) _ tt _ (ap enabled_if (given_none (codes "enabled") bare at (track_enabled (kind_name (Some k)) items)))
    (goes (untrimmed text) _ tt _ (untrimmed_back bare at (track_range (kind_name (Some k)) items))
    (kind_back k bare at (track_kind (kind_name (Some k)) items))))

-- ---- one track more

record NextBack (r : SequenceRate) (t u : Table) (k : TrackKind) (x : TrackState) (before : List TrackState) (tree : Tree) : Type 0 where
  pub made : TrackState
  pub table : Table
  pub read : next_track (pair_of r) (before, u) tree ≡ Ok (before ++ made ∷ [], table)
  pub keeps : Keeps u table
  pub kinds : table.kinds ≡ u.kinds ++ k ∷ []
  pub number_is : made.number ≡ length before
  pub same : SameCells (SameThing t table 8) x.cells made.cells

next_back : (r : SequenceRate) (t : Table) → IsCutTable t → (k : TrackKind) (u : Table) (x : TrackState) (before : List TrackState) (at : ℕ) → IsCutTrack t (levels_of_kind k) x
    → NextBack r t u k x before (placed at (track_tree t r (Some k) x))
unfolding next_track track_read
next_back r t sound k u x before at h =
    let items = item_trees t r (nest_trees t r (length t.nests)) (items_of x.cells) in
    let bare = track_of_items (kind_name (Some k)) items in
    let text = placed at bare in
    let c = needed_back (codes "children") bare (list_tree items) at (track_children (kind_name (Some k)) items) in
    let b = kind_track r t sound k u x (length before) (c.0 + 1) (place_of text) h in
    let new = with_kind b.table k in
    let more : Keeps b.table new = record { reels = λ i y e. e; media = λ i y e. e; nests = λ i y e. e } in
    record {
      made = b.made;
      table = new;
      read = goes (head_of_track text) _ k _ (head_back k items at)
          (goes (needed (codes "children") text) _ (placed c.0 (list_tree items)) _ c.1
          (ap (λ (y : Read (TrackState × Table)). y >>= λ track. Ok (before ++ track.0 ∷ [], with_kind track.1 k)) b.read));
      keeps = keeps_on u b.table new (keeps_of u b.table b.extends) more;
      kinds = ap (λ (ks : List TrackKind). ks ++ k ∷ []) b.extends.kinds;
      number_is = b.number_is;
      same = cells_on (SameThing t b.table 8) (SameThing t new 8) (thing_keeps t b.table new more 8) x.cells b.made.cells b.same;
    }

-- ---- all tracks

pub record AllBack (r : SequenceRate) (t u : Table) (ks : List TrackKind) (xs before : List TrackState) (children : List Tree) : Type 0 where
  pub made : List TrackState
  pub table : Table
  pub read : each (next_track (pair_of r)) (before, u) children ≡ Ok (before ++ made, table)
  pub keeps : Keeps u table
  pub kinds : table.kinds ≡ u.kinds ++ ks
  pub same : SameTracks t table xs made

-- the kinds from number i on are these
abbrev pub AreKinds : Table → ℕ → List TrackKind → Type 0
AreKinds t i [] = Unit {0}
AreKinds t i (k ∷ ks) = (kind_at t i ≡ Some k) × AreKinds t (i + 1) ks

pub tracks_back : (r : SequenceRate) (t : Table) → IsCutTable t → (i n : ℕ) (ks : List TrackKind) (xs : List TrackState) (u : Table) (before : List TrackState) (q : ℕ) → AreKinds t i ks → AreCutTracksFrom t n ks xs → length before ≡ n
    → AllBack r t u ks xs before (in_trees (placed_trees q (trees (track_trees t r i xs))))
tracks_back r t sound i n [] [] u before q kinds h e = record {
  made = [];
  table = u;
  read = ap (λ (ts : List TrackState). Ok (ts, u)) (sym (append-nil before));
  keeps = keeps_self u;
  kinds = sym (append-nil u.kinds);
  same = tt;
}
tracks_back r t sound i n [] (x ∷ xs) u before q kinds h e = absurd h
tracks_back r t sound i n (k ∷ ks) [] u before q kinds h e = absurd h
tracks_back r t sound i n (k ∷ ks) (x ∷ xs) u before q kinds h e =
    let one : NextBack r t u k x before (placed q (track_tree t r (kind_at t i) x)) =
    subst (λ (o : Option TrackKind). NextBack r t u k x before (placed q (track_tree t r o x))) (sym kinds.0) (next_back r t sound k u x before q h.1) in
    let place = q + length (tree_text (track_tree t r (kind_at t i) x)) + 1 in
    let rest = tracks_back r t sound (i + 1) (n + 1) ks xs one.table (before ++ one.made ∷ []) place kinds.1 h.2 (omega (arith, length-append before (one.made ∷ []))) in
    record {
      made = one.made ∷ rest.made;
      table = rest.table;
      read = goes (next_track (pair_of r) (before, u) (placed q (track_tree t r (kind_at t i) x))) _ (before ++ one.made ∷ [], one.table) _ one.read
          (rest.read ∙ ap (λ (ts : List TrackState). Ok (ts, rest.table)) (append_assoc before (one.made ∷ []) rest.made));
      keeps = keeps_on u one.table rest.table one.keeps rest.keeps;
      kinds = rest.kinds ∙ ap (λ (l : List TrackKind). l ++ ks) one.kinds ∙ append_assoc u.kinds (k ∷ []) ks;
      same = (h.0 ∙ sym e ∙ sym one.number_is, cells_on (SameThing t one.table 8) (SameThing t rest.table 8) (thing_keeps t one.table rest.table rest.keeps 8) x.cells one.made.cells one.same, rest.same);
    }

pub some_kinds : (t : Table) → AreKinds t 0 t.kinds
some_kinds t = from_here t.kinds 0 (λ j k e. let here : j ≡ 0 + j = omega arith in subst (λ (m : ℕ). slice_get t.kinds m ≡ Some k) here e)
  where
    from_here : (ks : List TrackKind) (i : ℕ) → ((j : ℕ) (k : TrackKind) → slice_get ks j ≡ Some k → slice_get t.kinds (i + j) ≡ Some k) → AreKinds t i ks
    from_here [] i h = tt
    from_here (k ∷ ks) i h =
        let here : i + 0 ≡ i = omega arith in (
          subst (λ (m : ℕ). slice_get t.kinds m ≡ Some k) here (h 0 k refl),
          from_here ks (i + 1) (λ j l e. let next : i + suc j ≡ i + 1 + j = omega arith in subst (λ (m : ℕ). slice_get t.kinds m ≡ Some l) next (h (suc j) l e)),
        )
