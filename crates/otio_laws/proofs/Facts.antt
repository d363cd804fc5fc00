-- What is known of the items and gaps of a sound cut, as writing and reading want it.
use Rattle.std.proofs.Common.{◌≡◌, ℕ, ◌+◌, ◌≤◌, List, [], ◌∷◌, length, slice_get, Option, Some, None, IfSome, option_map, refl, sym, ap, subst, ◌∙◌, arith}
use Rattle.std.specs.List.{All}
use Rattle.std.proofs.lemmas.List.Elements.{All-get_or}
use Rattle.std.proofs.lemmas.Option.{slice_get_within, get_or_from_slice_get}
use Rattle.frame_meaning.specs.declared.cells.Mark.{Mark}
use Rattle.frame_meaning.specs.declared.cells.What.TheVariants.{Media as MediaOf, Nest as NestOf}
use Rattle.composables.specs.declared.items.ItemView.{ItemView}
use Rattle.composables.specs.declared.media.Table.{Table}
use Rattle.composables.specs.declared.media.Media.{Media}
use Rattle.composables.specs.declared.media.Nest.{Nest}
use Rattle.composables.specs.Bounds.{bounds_of}
use Rattle.composables.specs.Good.{LiesIn, SideLiesIn, EachLiesIn, IsGood}
use Rattle.composables.specs.Items.{items_of}
use Rattle.composables.specs.Joined.{frames_in}
use Rattle.composables.specs.TrackFacts.{left_reach, right_reach, first_mark, Holds, EachHolds}
use Rattle.composables.specs.TrackState.{TrackState}
use Rattle.composables.proofs.Joining.{length-cells_of}
use Rattle.otio_laws.specs.SoundCuts.{IsCutMedia, IsCutNest, IsCutTable}

pub all_at : {X : Type 0} (P : X → Type 0) (xs : List X) (i : ℕ) (x : X) → All P xs → slice_get xs i ≡ Some x → P x
all_at P xs i x h e = subst P (get_or_from_slice_get xs i x x e) (All-get_or P xs i x (slice_get_within xs i x e) h)

-- an item or gap between the marks at its ends
pub record IsShown (table : Table) (v : ItemView) (tail : Option Mark) : Type 0 where
  pub holds : Holds v tail
  pub lies : SideLiesIn table v.first v.len (left_reach v.mark) (right_reach tail)
  pub short : v.len ≤ 2592000

abbrev pub EachIsShown : Table → List ItemView → Type 0
EachIsShown table [] = Unit {0}
EachIsShown table (v ∷ vs) = IsShown table v (first_mark vs) × EachIsShown table vs

each_shown : (table : Table) (vs : List ItemView) → EachHolds vs → EachLiesIn table vs → frames_in vs ≤ 2592000 → EachIsShown table vs
each_shown table [] h l s = tt
each_shown table (v ∷ vs) h l s = (record { holds = h.0; lies = l.0; short = omega arith }, each_shown table vs h.1 l.1 (omega arith))

pub track_frames : (table : Table) (t : TrackState) → IsGood table t → frames_in (items_of t.cells) ≡ length t.cells
track_frames table t g = sym (length-cells_of (items_of t.cells)) ∙ ap length g.kept.whole

pub track_shown : (table : Table) (t : TrackState) → IsGood table t → EachIsShown table (items_of t.cells)
track_shown table t g = each_shown table (items_of t.cells) g.kept.each g.ranges (omega (arith, track_frames table t g, g.frames))

-- ---- what an item shows is an entry of the table

pub record ShowsMedia (table : Table) (m s len before after : ℕ) : Type 0 where
  pub entry : Media
  pub there : slice_get table.media m ≡ Some entry
  pub sound : IsCutMedia table entry
  pub from : entry.from + before ≤ s
  pub to : s + len + after ≤ entry.to

pub shows_media : (table : Table) → IsCutTable table → (m s len before after : ℕ) → LiesIn (bounds_of table (MediaOf m)) s len before after → ShowsMedia table m s len before after
shows_media table sound m s len before after h = by_entry (slice_get table.media m) refl h where
  by_entry : (o : Option Media) → slice_get table.media m ≡ o → LiesIn (option_map (λ (e : Media). (e.from, e.to)) o) s len before after → ShowsMedia table m s len before after
  by_entry None e l = absurd l
  by_entry (Some entry) e l = record { entry = entry; there = e; sound = all_at (IsCutMedia table) table.media m entry sound.media e; from = l.0; to = l.1 }

pub record ShowsNest (table : Table) (j s len before after : ℕ) : Type 0 where
  pub entry : Nest
  pub there : slice_get table.nests j ≡ Some entry
  pub sound : IsCutNest table 7 entry
  pub from : before ≤ s
  pub to : s + len + after ≤ entry.length

pub shows_nest : (table : Table) → IsCutTable table → (j s len before after : ℕ) → LiesIn (bounds_of table (NestOf j)) s len before after → ShowsNest table j s len before after
shows_nest table sound j s len before after h = by_entry (slice_get table.nests j) refl h where
  by_entry : (o : Option Nest) → slice_get table.nests j ≡ o → LiesIn (option_map (λ (e : Nest). (0, e.length)) o) s len before after → ShowsNest table j s len before after
  by_entry None e l = absurd l
  by_entry (Some entry) e l = record { entry = entry; there = e; sound = all_at (IsCutNest table 7) table.nests j entry sound.nests e; from = omega (arith, l.0); to = l.1 }

pub nest_if : (table : Table) → IsCutTable table → (j : ℕ) → IfSome (slice_get table.nests j) (IsCutNest table 7)
nest_if table sound j = by_entry (slice_get table.nests j) refl where
  by_entry : (o : Option Nest) → slice_get table.nests j ≡ o → IfSome o (IsCutNest table 7)
  by_entry None e = tt
  by_entry (Some entry) e = all_at (IsCutNest table 7) table.nests j entry sound.nests e
