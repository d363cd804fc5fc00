-- Gaps, clips and transitions that were written are read again.
use Rattle.std.proofs.Common.{◌≡◌, ℕ, ◌+◌, ◌-◌, ◌<◌, ◌≤◌, min, max, pos, int_le, Bool, true, false, ◌&&◌, List, [], length, slice_get, get_or, Option, Some, None, option_map, Result, Ok, refl, sym, ap, subst, ◌∙◌, arith, if◌then◌else◌}
use Rattle.std.specs.Prelude.{codes}
use Rattle.std.proofs.lemmas.Bool.{le-leb, ne_eqb}
use Rattle.std.proofs.lemmas.Option.{slice_get-get_or}
use Rattle.timecode12.specs.declared.rate.SequenceRate.{SequenceRate}
use Rattle.frame_meaning.specs.declared.cells.Mark.{Mark}
use Rattle.frame_meaning.specs.declared.cells.What.{What}
use Rattle.frame_meaning.specs.declared.cells.What.TheVariants.{Media as MediaOf}
use Rattle.frame_meaning.specs.declared.frames.Side.{Side}
use Rattle.frame_meaning.specs.declared.frames.Side.TheVariants.{Dark, Pic}
use Rattle.composables.specs.declared.media.Table.{Table}
use Rattle.composables.specs.declared.media.Media.{Media}
use Rattle.composables.specs.declared.items.ItemView.{ItemView}
use Rattle.json_tokens.specs.Reading.{◌>>=◌}
use Rattle.json_tree.specs.Tree.{Tree, At, Null}
use Rattle.json_tree.specs.Parts.{place_of, kind_in}
use Rattle.json_tree.proofs.WriteLaws.{placed}
use Rattle.otio_tracks.specs.declared.faults.DocCode.{DocCode}
use Rattle.otio_tracks.specs.declared.faults.DocCode.TheVariants.{O3, O9, O11}
use Rattle.otio_tracks.specs.declared.values.References.TheVariants.{ByKey}
use Rattle.otio_tracks.specs.declared.values.Schema.{Schema}
use Rattle.otio_tracks.specs.declared.values.Schema.TheVariants.{Clip, Gap, Transition}
use Rattle.otio_tracks.specs.declared.times.Span.{Span}
use Rattle.otio_tracks.specs.declared.parts.Part.{Part}
use Rattle.otio_tracks.specs.declared.clips.Frames.{Frames}
use Rattle.otio_tracks.specs.Reading.{Read, refuse, or_refuse}
use Rattle.otio_tracks.specs.Values.{is_null, given, needed, schema_read}
use Rattle.otio_tracks.specs.Times.{frame_read, span_read, gap_read}
use Rattle.otio_tracks.specs.Parts.{enabled_if, enabled_read, effects_if, effects_read, head_read, trim_if, trim_read, frames_within}
use Rattle.otio_tracks.specs.Clips.{source_frames, source_read, available_if, keyed_if, keyed_read, key_if, key_read, active_read, reference_if, reference_read, widened, frames_of, reel_text, entered, clip_read}
use Rattle.otio_tracks.specs.Transitions.{offsets_if, offsets_read, transition_read}
use Rattle.otio_tracks.specs.Rows.{RowState, row_with}
use Rattle.otio_text.specs.Documents.{text_or_none, reel_name}
use Rattle.otio_json.specs.Nests.{Inner, gap_part, gap_if, gap_part_read, item_in, add_item, child_by, child_in}
use Rattle.otio_json.proofs.Growth.{HasBounds}
use Rattle.otio_laws.specs.CutTrees.{list_tree, text_tree, time_tree, range_tree, gap_tree, reference_of_range, references_of_range, clip_of_ranges, clip_tree, transition_tree}
use Rattle.otio_laws.specs.SameCut.{SameSide, SameThing}
use Rattle.otio_laws.proofs.Facts.{ShowsMedia}
use Rattle.otio_laws.proofs.Walk.{goes, Has, HasNo, IsOf, needed_back, given_back, given_null, given_none, object_back, schema_back}
use Rattle.otio_laws.proofs.TimesBack.{pair_of, not_below, frame_back, span_back, gap_back, available_back}
use Rattle.otio_laws.proofs.Extends.{Extends, extends_self, entered_extends, entered_same}

-- ---- what stands in each item

pub record IsItemTree (t range : Tree) : Type 0 where
  pub enabled : HasNo (codes "enabled") t
  pub effects : Has (codes "effects") t (list_tree [])
  pub ranged : Has (codes "source_range") t range

pub head_back : (t range : Tree) (at : ℕ) → IsItemTree t range → head_read (placed at t) ≡ Ok tt
unfolding head_read enabled_read effects_read
head_back t range at h =
    let e = given_back (codes "effects") t (list_tree []) at h.effects refl in
    goes (enabled_if (given (codes "enabled") (placed at t))) _ tt _ (ap enabled_if (given_none (codes "enabled") t at h.enabled))
    (ap effects_if e.1)

range_some : (r : SequenceRate) (from len : ℕ) → is_null (kind_in (range_tree r from len)) ≡ false
unfolding range_tree
range_some r from len = refl

-- the range at some place
abbrev pub span_at : ℕ → ℕ → ℕ → Span
span_at q from len = record { at = q; start = pos from; len = len }

pub trim_back : (r : SequenceRate) (t : Tree) (from len at : ℕ) → IsItemTree t (range_tree r from len) → from ≤ 2147483647 → len ≤ 2147483647
    → (q : ℕ) × (trim_read (pair_of r) (placed at t) ≡ Ok (Some (span_at q from len)))
unfolding trim_read
trim_back r t from len at h f l =
    let g = given_back (codes "source_range") t (range_tree r from len) at h.ranged (range_some r from len) in
    let s = placed g.0 (range_tree r from len) in
    (place_of s, ap (trim_if (pair_of r)) g.1 ∙ goes (span_read (pair_of r) s) _ (span_at (place_of s) from len) _ (span_back r from len g.0 f l) refl)

pub untrimmed_back : (rate : ℕ × ℕ) (t : Tree) (at : ℕ) → IsItemTree t (At 0 Null) → trim_read rate (placed at t) ≡ Ok None
unfolding trim_read
untrimmed_back rate t at h = ap (trim_if rate) (given_null (codes "source_range") t (At 0 Null) at h.ranged refl)

zero_le : (n : ℕ) → int_le (pos 0) (pos n) ≡ true
zero_le n = le-leb 0 n (omega arith)

pub within_back : (most from len q : ℕ) → from + len ≤ most → frames_within most (span_at q from len) ≡ Some (from, len)
within_back most from len q le =
    λ i. if zero_le from i && le-leb (from + len) most le i then Some (from, len) else None

-- ---- an item or gap, and what was read of it

pub record IsPartOf (t u : Table) (levels : ℕ) (v : ItemView) (p : Part) : Type 0 where
  pub side : SameSide (SameThing t u levels) v.first p.first
  pub len : p.len ≡ v.len
  pub bounds : HasBounds t v.first p.from p.to

-- The child of a track with this text is read, behind any row, as one item.
pub record ChildBack (rate : ℕ × ℕ) (inner : Result Inner DocCode) (t u : Table) (levels : ℕ) (v : ItemView) (tree : Tree) : Type 0 where
  pub part : Part
  pub table : Table
  pub read : (row : RowState) → child_in rate inner (row, u) tree ≡ (row_with row part >>= λ next. Ok (next, table))
  pub extends : Extends u table
  pub is : IsPartOf t table levels v part
  pub unmarked : part.mark ≡ None

pub child_from : (rate : ℕ × ℕ) (inner : Result Inner DocCode) (s : Schema) (p : ℕ) (tree : Tree) (u table : Table) (part : Part) (row : RowState) → schema_read tree ≡ Ok (s, p)
    → child_by rate inner (s, p) (row, u) tree ≡ add_item rate inner (s, p) (row, u) tree → item_in rate inner s p u tree ≡ Ok (part, table)
    → child_in rate inner (row, u) tree ≡ (row_with row part >>= λ next. Ok (next, table))
child_from rate inner s p tree u table part row e k i =
    goes (schema_read tree) _ (s, p) _ e (k ∙ goes (item_in rate inner s p u tree) _ (part, table) _ i refl)

-- ---- gaps

gap_is : (r : SequenceRate) (len : ℕ) → IsOf (codes "Gap.1") (gap_tree r len)
unfolding gap_tree
gap_is r len = record { object = refl; schema = refl }

gap_has : (r : SequenceRate) (len : ℕ) → IsItemTree (gap_tree r len) (range_tree r 0 len)
unfolding gap_tree
gap_has r len = record { enabled = refl; effects = refl; ranged = refl }

gap_part_back : (r : SequenceRate) (len at : ℕ) → len ≤ 2147483647 → gap_part_read (pair_of r) (placed at (gap_tree r len)) ≡ Ok (gap_part len)
unfolding gap_part_read
gap_part_back r len at l =
    let t = placed at (gap_tree r len) in
    let g = given_back (codes "source_range") (gap_tree r len) (range_tree r 0 len) at (gap_has r len).ranged (range_some r 0 len) in
    ap (gap_if (pair_of r) (place_of t)) g.1
    ∙ goes (gap_read (pair_of r) (placed g.0 (range_tree r 0 len))) _ len _ (gap_back r 0 len g.0 l) refl

pub gap_child : (r : SequenceRate) (inner : Result Inner DocCode) (t u : Table) (levels : ℕ) (v : ItemView) (at : ℕ) → v.first ≡ Dark → v.len ≤ 2592000
    → ChildBack (pair_of r) inner t u levels v (placed at (gap_tree r v.len))
gap_child r inner t u levels v at dark short =
    let tree = placed at (gap_tree r v.len) in
    let s = schema_back (codes "Gap.1") (gap_tree r v.len) Gap at (gap_is r v.len) refl in
    let item : item_in (pair_of r) inner Gap s.0 u tree ≡ Ok (gap_part v.len, u) =
    goes (head_read tree) _ tt _ (head_back (gap_tree r v.len) (range_tree r 0 v.len) at (gap_has r v.len))
    (goes (gap_part_read (pair_of r) tree) _ (gap_part v.len) _ (gap_part_back r v.len at (omega arith)) refl) in
    record {
      part = gap_part v.len;
      table = u;
      read = λ row. child_from (pair_of r) inner Gap s.0 tree u u (gap_part v.len) row s.1 refl item;
      extends = extends_self u;
      is = record {
        side = subst (λ (x : Side What). SameSide (SameThing t u levels) x Dark) (sym dark) tt;
        len = refl;
        bounds = subst (λ (x : Side What). HasBounds t x 0 0) (sym dark) tt;
      };
      unmarked = refl;
    }

-- ---- clips

clip_is : (r : SequenceRate) (reel : List ℕ) (source len : ℕ) (m : Media) → IsOf (codes "Clip.2") (clip_tree r reel source len m)
unfolding clip_tree
clip_is r reel source len m = record { object = refl; schema = refl }

clip_has : (r : SequenceRate) (reel : List ℕ) (source len : ℕ) (m : Media) → IsItemTree (clip_tree r reel source len m) (range_tree r source len)
unfolding clip_tree
clip_has r reel source len m = record { enabled = refl; effects = refl; ranged = refl }

clip_references : (r : SequenceRate) (reel : List ℕ) (source len : ℕ) (m : Media) → Has (codes "media_references") (clip_tree r reel source len m) (references_of_range (range_tree r m.from (m.to - m.from)))
unfolding clip_tree
clip_references r reel source len m = refl

clip_key : (r : SequenceRate) (reel : List ℕ) (source len : ℕ) (m : Media) → Has (codes "active_media_reference_key") (clip_tree r reel source len m) (text_tree (codes "DEFAULT_MEDIA"))
unfolding clip_tree
clip_key r reel source len m = refl

clip_named : (reel : List ℕ) (range there : Tree) (at : ℕ) → reel_text (placed at (clip_of_ranges reel range there)) ≡ reel
clip_named reel range there at = refl

clip_reel_back : (r : SequenceRate) (reel : List ℕ) (source len : ℕ) (m : Media) (at : ℕ) → reel_text (placed at (clip_tree r reel source len m)) ≡ reel
unfolding clip_tree
clip_reel_back r reel source len m at = clip_named reel (range_tree r source len) (range_tree r m.from (m.to - m.from)) at

source_back : (r : SequenceRate) (reel : List ℕ) (source len : ℕ) (m : Media) (at : ℕ) → 0 < len → source + len ≤ 16777216
    → source_read (pair_of r) (placed at (clip_tree r reel source len m)) ≡ Ok (Some (source, len))
unfolding source_read
source_back r reel source len m at some le =
    let t = trim_back r (clip_tree r reel source len m) source len at (clip_has r reel source len m) (omega arith) (omega arith) in
    let f : source_frames (span_at t.0 source len) ≡ Some (source, len) =
    ap (λ (b : Bool). if b then Some (0, 0) else frames_within 16777216 (span_at t.0 source len)) (ne_eqb len 0 (λ e. omega arith)) ∙ within_back 16777216 source len t.0 le in
    goes (trim_read (pair_of r) (placed at (clip_tree r reel source len m))) _ (Some (span_at t.0 source len)) _ t.1
    (goes (or_refuse (source_frames (span_at t.0 source len)) O11 t.0) _ (source, len) _ (ap (λ (o : Option (ℕ × ℕ)). or_refuse o O11 t.0) f) refl)

keyed_back : (r : SequenceRate) (reel : List ℕ) (source len : ℕ) (m : Media) (at : ℕ)
    → (p : ℕ) × (keyed_read (placed at (clip_tree r reel source len m)) ≡ Ok (Some (placed p (references_of_range (range_tree r m.from (m.to - m.from))))))
unfolding keyed_read
keyed_back r reel source len m at =
    let refs = references_of_range (range_tree r m.from (m.to - m.from)) in
    let g = given_back (codes "media_references") (clip_tree r reel source len m) refs at (clip_references r reel source len m) refl in (
      g.0,
      ap keyed_if g.1
          ∙ ap (λ (b : Bool). if b then Ok (Some (placed g.0 refs)) else refuse O3 (place_of (placed g.0 refs))) (object_back refs g.0 refl),
    )

key_back : (r : SequenceRate) (reel : List ℕ) (source len : ℕ) (m : Media) (at : ℕ) → key_read (placed at (clip_tree r reel source len m)) ≡ Ok (codes "DEFAULT_MEDIA")
unfolding key_read
key_back r reel source len m at =
    let g = given_back (codes "active_media_reference_key") (clip_tree r reel source len m) (text_tree (codes "DEFAULT_MEDIA")) at (clip_key r reel source len m) refl in
    ap key_if g.1

active_back : (r : SequenceRate) (reel : List ℕ) (source len : ℕ) (m : Media) (at : ℕ)
    → (p : ℕ) × (active_read (placed at (clip_tree r reel source len m)) ≡ Ok (Some (placed p (reference_of_range (range_tree r m.from (m.to - m.from))))))
unfolding active_read
active_back r reel source len m at =
    let t = placed at (clip_tree r reel source len m) in
    let range = range_tree r m.from (m.to - m.from) in
    let ref = reference_of_range range in
    let refs = references_of_range range in
    let k = keyed_back r reel source len m at in
    let g = given_back (codes "DEFAULT_MEDIA") refs ref k.0 refl refl in (
      g.0,
      goes (keyed_read t) _ (Some (placed k.0 refs)) _ k.1
          (goes (key_read t) _ (codes "DEFAULT_MEDIA") _ (key_back r reel source len m at)
          (ap (λ (o : Option Tree). Ok o) g.1)),
    )

reference_back : (r : SequenceRate) (reel : List ℕ) (source len : ℕ) (m : Media) (at : ℕ) → m.from < m.to → m.to ≤ 16777216
    → reference_read (pair_of r) ByKey (placed at (clip_tree r reel source len m)) ≡ Ok (Some (m.from, m.to))
unfolding reference_read
reference_back r reel source len m at some le =
    let range = range_tree r m.from (m.to - m.from) in
    let ref = reference_of_range range in
    let g = active_back r reel source len m at in
    let a = given_back (codes "available_range") ref range g.0 refl (range_some r m.from (m.to - m.from)) in
    let to : m.from + (m.to - m.from) ≡ m.to = omega arith in
    ap (λ (o : Read (Option Tree)). o >>= reference_if (pair_of r)) g.1
    ∙ ap (λ (b : Bool). if b then available_if (pair_of r) (given (codes "available_range") (placed g.0 ref)) else refuse O3 (place_of (placed g.0 ref))) (object_back ref g.0 refl)
    ∙ ap (available_if (pair_of r)) a.1
    ∙ available_back r m.from (m.to - m.from) a.0 (omega arith) (omega arith)
    ∙ ap (λ (n : ℕ). Ok (Some (m.from, n))) to

widened_back : (source len from to : ℕ) → 0 < len → from ≤ source → source + len ≤ to → widened (source, len) (from, to) ≡ (from, to)
widened_back source len from to some low high =
    let a : min from source ≡ from = omega arith in
    let b : max to (source + len) ≡ to = omega arith in
    ap (λ (t : Bool). if t then (from, to) else (min from source, max to (source + len))) (ne_eqb len 0 (λ e. omega arith))
    ∙ (λ i. (a i, b i))

abbrev clip_shows : ℕ → ℕ → Media → Frames
clip_shows source len m = record { source = source; len = len; from = m.from; to = m.to }

clip_back : (r : SequenceRate) (reel : List ℕ) (source len : ℕ) (m : Media) (u : Table) (at : ℕ) → 0 < len → m.from ≤ source → source + len ≤ m.to → m.to ≤ 16777216
    → clip_read (pair_of r) ByKey u (placed at (clip_tree r reel source len m)) ≡ Ok (entered u reel (clip_shows source len m))
unfolding clip_read
clip_back r reel source len m u at some low high le =
    let t = placed at (clip_tree r reel source len m) in
    goes (source_read (pair_of r) t) _ (Some (source, len)) _ (source_back r reel source len m at some (omega arith))
    (goes (reference_read (pair_of r) ByKey t) _ (Some (m.from, m.to)) _ (reference_back r reel source len m at (omega arith) le)
    (λ i. Ok (entered u (clip_reel_back r reel source len m at i) (frames_of (source, len) (widened_back source len m.from m.to some low high i)))))

reel_there : (reels : List (List ℕ)) (n : ℕ) → n < length reels → slice_get reels n ≡ Some (reel_name reels n)
reel_there reels n lt = by_name (slice_get reels n) (slice_get-get_or reels n [] lt) where
  by_name : (o : Option (List ℕ)) → o ≡ Some (get_or reels n []) → o ≡ Some (text_or_none o)
  by_name None e = cc
  by_name (Some name) e = refl

pub clip_child : (r : SequenceRate) (inner : Result Inner DocCode) (t u : Table) (levels : ℕ) (v : ItemView) (m s before after at : ℕ) (k : ShowsMedia t m s v.len before after) → v.first ≡ Pic (MediaOf m) s → 0 < v.len
    → ChildBack (pair_of r) inner t u levels v (placed at (clip_tree r (reel_name t.reels k.entry.reel) s v.len k.entry))
clip_child r inner t u levels v m s before after at k pic some =
    let reel = reel_name t.reels k.entry.reel in
    let bare = clip_tree r reel s v.len k.entry in
    let tree = placed at bare in
    let shown = clip_shows s v.len k.entry in
    let new = entered u reel shown in
    let sc = schema_back (codes "Clip.2") bare (Clip ByKey) at (clip_is r reel s v.len k.entry) refl in
    let item : item_in (pair_of r) inner (Clip ByKey) sc.0 u tree ≡ Ok new =
    goes (head_read tree) _ tt _ (head_back bare (range_tree r s v.len) at (clip_has r reel s v.len k.entry))
    (clip_back r reel s v.len k.entry u at some (omega (arith, k.from)) (omega (arith, k.to)) k.sound.within) in
    let same = entered_same t u levels m k.entry reel shown k.there (reel_there t.reels k.entry.reel k.sound.reel) refl refl in
    record {
      part = new.0;
      table = new.1;
      read = λ row. child_from (pair_of r) inner (Clip ByKey) sc.0 tree u new.1 new.0 row sc.1 refl item;
      extends = entered_extends u reel shown;
      is = record {
        side = subst (λ (x : Side What). SameSide (SameThing t new.1 levels) x new.0.first) (sym pic) (same, refl);
        len = refl;
        bounds = subst (λ (x : Side What). HasBounds t x k.entry.from k.entry.to) (sym pic) (ap (option_map (λ (e : Media). (e.from, e.to))) k.there);
      };
      unmarked = refl;
    }

-- ---- transitions

transition_is : (r : SequenceRate) (m : Mark) → IsOf (codes "Transition.1") (transition_tree r m)
unfolding transition_tree
transition_is r m = record { object = refl; schema = refl }

transition_type : (r : SequenceRate) (m : Mark) → Has (codes "transition_type") (transition_tree r m) (text_tree (codes "SMPTE_Dissolve"))
unfolding transition_tree
transition_type r m = refl

transition_in : (r : SequenceRate) (m : Mark) → Has (codes "in_offset") (transition_tree r m) (time_tree r m.a)
unfolding transition_tree
transition_in r m = refl

transition_out : (r : SequenceRate) (m : Mark) → Has (codes "out_offset") (transition_tree r m) (time_tree r m.b)
unfolding transition_tree
transition_out r m = refl

offsets_back : (r : SequenceRate) (m : Mark) (at : ℕ) → m.a ≤ 2147483647 → m.b ≤ 2147483647 → offsets_read (pair_of r) (placed at (transition_tree r m)) ≡ Ok m
unfolding offsets_read
offsets_back r m at a b =
    let t = placed at (transition_tree r m) in
    let x = needed_back (codes "in_offset") (transition_tree r m) (time_tree r m.a) at (transition_in r m) in
    let y = needed_back (codes "out_offset") (transition_tree r m) (time_tree r m.b) at (transition_out r m) in
    goes (needed (codes "in_offset") t) _ (placed x.0 (time_tree r m.a)) _ x.1
    (goes (frame_read (pair_of r) (placed x.0 (time_tree r m.a))) _ (pos m.a) _ (frame_back r m.a x.0 a)
    (goes (needed (codes "out_offset") t) _ (placed y.0 (time_tree r m.b)) _ y.1
    (goes (frame_read (pair_of r) (placed y.0 (time_tree r m.b))) _ (pos m.b) _ (frame_back r m.b y.0 b)
    (offsets_known m (place_of (placed x.0 (time_tree r m.a))) (place_of (placed y.0 (time_tree r m.b)))))))
  where
    offsets_known : (m : Mark) (left right : ℕ) → offsets_if (pos m.a) left (pos m.b) right ≡ Ok m
    offsets_known m left right = λ i. if not_below m.a i then refuse O9 left else if not_below m.b i then refuse O9 right else Ok m

pub transition_back : (r : SequenceRate) (m : Mark) (at : ℕ) → m.a ≤ 2147483647 → m.b ≤ 2147483647 → transition_read (pair_of r) (placed at (transition_tree r m)) ≡ Ok m
unfolding transition_read
transition_back r m at a b =
    let t = placed at (transition_tree r m) in
    let k = needed_back (codes "transition_type") (transition_tree r m) (text_tree (codes "SMPTE_Dissolve")) at (transition_type r m) in
    goes (needed (codes "transition_type") t) _ (placed k.0 (text_tree (codes "SMPTE_Dissolve"))) _ k.1
    (offsets_back r m at a b)

pub transition_schema : (r : SequenceRate) (m : Mark) (at : ℕ) → (p : ℕ) × (schema_read (placed at (transition_tree r m)) ≡ Ok (Transition, p))
transition_schema r m at = schema_back (codes "Transition.1") (transition_tree r m) Transition at (transition_is r m) refl
