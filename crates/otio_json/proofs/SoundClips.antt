-- What is entered for a clip is sound.
use Rattle.std.proofs.Common.{◌≡◌, ℕ, suc, ◌+◌, ◌<◌, ◌≤◌, ℤ, pos, int_le, int_lt, codes, nat_eq, nat_lt, nat_le, eqb, min, max, unsigned_abs, Bool, true, false, ◌&&◌, ◌||◌, List, [], ◌∷◌, ◌++◌, length, slice_get, get_or, position, Option, Some, None, IfSome, option_map, IfOk, refl, sym, ap, ◌∙◌, arith, if◌then◌else◌}
use Rattle.std.specs.List.{All, list_any}
use Rattle.std.specs.Str.{bytes_eq}
use Rattle.std.proofs.lemmas.Bool.{eqb-true}
use Rattle.std.proofs.lemmas.List.{length-append}
use Rattle.std.proofs.lemmas.List.Elements.{All-append, All-weaker, All-cons, All-nil}
use Rattle.std.proofs.lemmas.List.Quantifiers.{position-Some}
use Rattle.std.proofs.lemmas.Option.{slice_get-get_or}
use Rattle.composables.specs.declared.media.Table.{Table}
use Rattle.composables.specs.declared.media.Media.{Media}
use Rattle.reel_table.specs.ReelNames.{with_name}
use Rattle.json_tree.specs.Tree.{Tree}
use Rattle.json_tree.specs.Parts.{kind_in, place_of}
use Rattle.otio_tracks.specs.declared.clips.Frames.{Frames}
use Rattle.otio_tracks.specs.declared.values.References.{References}
use Rattle.otio_tracks.specs.declared.times.Span.{Span}
use Rattle.otio_tracks.specs.declared.parts.Part.{Part}
use Rattle.otio_tracks.specs.declared.faults.DocCode.TheVariants.{O3, O11, O14}
use Rattle.otio_tracks.specs.Reading.{Read, refuse, or_refuse}
use Rattle.otio_tracks.specs.Values.{is_object, given, needed, expected}
use Rattle.otio_tracks.specs.Parts.{frames_within, trim_read}
use Rattle.otio_tracks.specs.Times.{moment_read}
use Rattle.otio_tracks.specs.Clips.{source_frames, source_if, source_read, clamped, media_if, available_read, available_if, reference_if, reference_of, reference_read, narrowed, frames_of, clip_frames, reel_text, name_at, same_media, number_or, entry_number, unless_there, with_entry, entry_of, part_of, entered, clip_read}
use Rattle.otio_tracks.specs.SoundParts.{IsItemPart}
use Rattle.otio_tracks.proofs.ReelLaws.{place_le}
use Rattle.otio_json.specs.Soundness.{SideHas, IsDeep, IsSoundMedia, IsSoundNest, IsSoundTable}
use Rattle.otio_json.proofs.Growth.{get_left, get_last, Keeps, HasBounds, media_kept, nest_kept, Grown}
use Rattle.otio_json.proofs.Steps.{after, past, chosen, tested, and_parts}

-- ---- the frames

abbrev InSource : ℕ × ℕ → Type 0
InSource f = f.0 + f.1 ≤ 16777216

abbrev InMedia : ℕ × ℕ → Type 0
InMedia f = (f.0 < f.1) × (f.1 ≤ 16777216)

nat_le_true : (a b : ℕ) → nat_le a b ≡ true → a ≤ b
nat_le_true a b t = grind arith

within_by : (start : ℤ) (len most : ℕ) (b : Bool) → (int_le (pos 0) start && nat_le (unsigned_abs start + len) most) ≡ b
    → IfSome (if b then Some (unsigned_abs start, len) else None) (λ (f : ℕ × ℕ). f.0 + f.1 ≤ most)
within_by start len most true e = nat_le_true (unsigned_abs start + len) most (and_parts (int_le (pos 0) start) (nat_le (unsigned_abs start + len) most) e).1
within_by start len most false e = tt

source_by : (span : Span) (b : Bool) → IfSome (if b then Some (0, 0) else frames_within 16777216 span) InSource
source_by span true = omega arith
source_by span false = within_by span.start span.len 16777216 (int_le (pos 0) span.start && nat_le (unsigned_abs span.start + span.len) 16777216) refl

source_then : (o : Option Span) → IfOk (source_if o) (λ s. IfSome s InSource)
source_then None = tt
source_then (Some span) = after (or_refuse (source_frames span) O11 span.at) _ InSource _ (chosen (source_frames span) O11 span.at InSource (source_by span (nat_eq span.len 0))) (λ f h. h)

source_in : (rate : ℕ × ℕ) (clip : Tree) → IfOk (source_read rate clip) (λ s. IfSome s InSource)
unfolding source_read
source_in rate clip = past (trim_read rate clip) _ _ (λ o. source_then o)

clamped_le : (f : ℤ) → clamped f ≤ 16777216
clamped_le f = by_test (int_le f (pos 0)) where
  by_test : (b : Bool) → (if b then 0 else min (unsigned_abs f) 16777216) ≤ 16777216
  by_test true = omega arith
  by_test false = omega arith

media_by : (a b : ℕ) (t : Bool) → nat_lt a b ≡ t → b ≤ 16777216 → IfSome (if t then Some (a, b) else None) InMedia
media_by a b true e h = (nat_lt_true a b e, h) where
  nat_lt_true : (m n : ℕ) → nat_lt m n ≡ true → m < n
  nat_lt_true m n t = grind arith
media_by a b false e h = tt

media_then : (o : Option (ℤ × ℤ)) (at : ℕ) → IfOk (media_if o at) (λ m. IfSome m InMedia)
media_then None at = tt
media_then (Some f) at = media_by (clamped f.0) (clamped f.1) (nat_lt (clamped f.0) (clamped f.1)) refl (clamped_le f.1)

-- a test that refuses where it holds
refused_by : {A : Type 0} (b : Bool) (r f : Read A) (P : A → Type 0) → IfOk f P → IfOk r P → IfOk (if b then f else r) P
refused_by true r f P g h = g
refused_by false r f P g h = h

available_in : (rate : ℕ × ℕ) (range : Tree) → IfOk (available_read rate range) (λ m. IfSome m InMedia)
unfolding available_read
available_in rate range =
    past (expected (codes "TimeRange.1") range) _ _ (λ x.
    past (needed (codes "start_time") range) _ _ (λ start_text.
    past (moment_read start_text) _ _ (λ start.
    past (needed (codes "duration") range) _ _ (λ length_text.
    past (moment_read length_text) _ _ (λ duration.
    refused_by (int_lt duration.value.0 (pos 0)) (media_if (narrowed start duration rate) (place_of range)) (refuse O14 (place_of length_text)) (λ m. IfSome m InMedia) tt (media_then (narrowed start duration rate) (place_of range)))))))

available_then : (rate : ℕ × ℕ) (o : Option Tree) → IfOk (available_if rate o) (λ m. IfSome m InMedia)
available_then rate None = tt
available_then rate (Some t) = available_in rate t

reference_then : (rate : ℕ × ℕ) (o : Option Tree) → IfOk (reference_if rate o) (λ m. IfSome m InMedia)
reference_then rate None = tt
reference_then rate (Some t) = tested (is_object (kind_in t)) (available_if rate (given (codes "available_range") t)) O3 (place_of t) (λ m. IfSome m InMedia) (λ e. available_then rate (given (codes "available_range") t))

reference_in : (rate : ℕ × ℕ) (references : References) (clip : Tree) → IfOk (reference_read rate references clip) (λ m. IfSome m InMedia)
unfolding reference_read
reference_in rate references clip = past (reference_of references clip) _ _ (λ o. reference_then rate o)

pub record AreFrames (f : Frames) : Type 0 where
  pub some : f.from < f.to
  pub most : f.to ≤ 16777216
  pub holds : 0 < f.len → (f.from ≤ f.source) × (f.source + f.len ≤ f.to)

widened_by : (s m : ℕ × ℕ) (b : Bool) → nat_eq s.1 0 ≡ b → InSource s → InMedia m → AreFrames (frames_of s (if b then m else (min m.0 s.0, max m.1 (s.0 + s.1))))
widened_by s m true e hs hm = record { some = hm.0; most = hm.1; holds = λ more. absurd (omega (arith, nat_eq_true s.1 e, more)) } where
  nat_eq_true : (n : ℕ) → nat_eq n 0 ≡ true → n ≡ 0
  nat_eq_true n t = grind arith
widened_by s m false e hs hm = record { some = omega (arith, hm.0); most = omega (arith, hs, hm.1); holds = λ more. (omega arith, omega arith) }

frames_in : (s m : Option (ℕ × ℕ)) → IfSome s InSource → IfSome m InMedia → IfSome (clip_frames s m) AreFrames
frames_in (Some s) (Some m) hs hm = widened_by s m (nat_eq s.1 0) refl hs hm
frames_in (Some s) None hs hm = record { some = omega arith; most = omega arith; holds = λ more. (omega arith, hs) }
frames_in None (Some m) hs hm = record { some = hm.0; most = hm.1; holds = λ more. (omega arith, omega (arith, hm.0)) }
frames_in None None hs hm = tt

-- ---- the entry

below_by : (b : Bool) (n m : ℕ) → (b ≡ false → n < m) → (if b then 0 else suc n) < suc m
below_by true n m h = omega arith
below_by false n m h = omega (arith, h refl)

name_there : (names : List (List ℕ)) (name : List ℕ) → list_any (bytes_eq name) names ≡ true → name_at names name < length names
name_there [] name e = cc
name_there (x ∷ xs) name e = below_by (bytes_eq name x) (name_at xs name) (length xs) (λ no. name_there xs name (other (bytes_eq name x) (list_any (bytes_eq name) xs) no e)) where
  other : (a b : Bool) → a ≡ false → (a || b) ≡ true → b ≡ true
  other true b f t = cc
  other false b f t = t

name_below : (names : List (List ℕ)) (name : List ℕ) → name_at names name < length (with_name names name)
name_below names name = by_test (list_any (bytes_eq name) names) refl where
  by_test : (b : Bool) → list_any (bytes_eq name) names ≡ b → name_at names name < length (if b then names else names ++ name ∷ [])
  by_test true e = name_there names name e
  by_test false e = omega (arith, place_le names name, length-append names (name ∷ []))

names_grow : (names : List (List ℕ)) (name : List ℕ) → length names ≤ length (with_name names name)
names_grow names name = by_test (list_any (bytes_eq name) names) where
  by_test : (b : Bool) → length names ≤ length (if b then names else names ++ name ∷ [])
  by_test true = omega arith
  by_test false = omega (arith, length-append names (name ∷ []))

entry_grows : (media : List Media) (e : Media) (i : ℕ) (m : Media) → slice_get media i ≡ Some m → slice_get (with_entry media e) i ≡ Some m
entry_grows media e i m h = by_place (position (same_media e) media) where
  by_place : (o : Option ℕ) → slice_get (unless_there o media e) i ≡ Some m
  by_place (Some j) = h
  by_place None = get_left media (e ∷ []) i m h

same_range : (e m : Media) → same_media e m ≡ true → ◌≡◌ {A = ℕ × ℕ} (m.from, m.to) (e.from, e.to)
same_range e m h =
    let p = and_parts (eqb e.reel m.reel && eqb e.from m.from) (eqb e.to m.to) h in
    let q = and_parts (eqb e.reel m.reel) (eqb e.from m.from) p.0 in
    ap (λ a. (a, m.to)) (sym (eqb-true e.from m.from q.1)) ∙ ap (λ b. (e.from, b)) (sym (eqb-true e.to m.to p.1))

entry_bounds : (media : List Media) (e : Media) → option_map {U = ℕ × ℕ} (λ (m : Media). (m.from, m.to)) (slice_get (with_entry media e) (entry_number media e)) ≡ Some (e.from, e.to)
entry_bounds media e = by_place (position (same_media e) media) refl where
  by_place : (o : Option ℕ) → position (same_media e) media ≡ o → option_map {U = ℕ × ℕ} (λ (m : Media). (m.from, m.to)) (slice_get (unless_there o media e) (number_or o (length media))) ≡ Some (e.from, e.to)
  by_place (Some i) h =
      let p = position-Some (same_media e) media i e h in
      ap (option_map {U = ℕ × ℕ} (λ (m : Media). (m.from, m.to))) (slice_get-get_or media i e p.0) ∙ ap Some (same_range e (get_or media i e) p.1)
  by_place None h = ap (option_map {U = ℕ × ℕ} (λ (m : Media). (m.from, m.to))) (get_last media e)

all_with_entry : (P : Media → Type 0) (media : List Media) (e : Media) → All P media → P e → All P (with_entry media e)
all_with_entry P media e h new = by_place (position (same_media e) media) where
  by_place : (o : Option ℕ) → All P (unless_there o media e)
  by_place (Some i) = h
  by_place None = All-append P media (e ∷ []) h (All-cons P e [] new (All-nil P))

-- ---- the clip

-- an item or gap, and what it shows
pub record IsPlaced (table : Table) (levels : ℕ) (p : Part) : Type 0 where
  pub bounds : HasBounds table p.first p.from p.to
  pub deep : SideHas (IsDeep table.nests levels) p.first

pub record IsRead (table : Table) (levels : ℕ) (p : Part) : Type 0 where
  pub item : IsItemPart p
  pub placed : IsPlaced table levels p

entered_keeps : (table : Table) (reel : List ℕ) (f : Frames) → Keeps table (entered table reel f).1
entered_keeps table reel f = record {
  reels = names_grow table.reels reel;
  media = λ i m e. entry_grows table.media (entry_of table reel f) i m e;
  nests = λ i n e. e;
}

entered_sound : (table : Table) (reel : List ℕ) (f : Frames) → AreFrames f → IsSoundTable table → IsSoundTable (entered table reel f).1
entered_sound table reel f a h =
    let new = (entered table reel f).1 in
    let k = entered_keeps table reel f in
    record {
      media = all_with_entry (IsSoundMedia new) table.media (entry_of table reel f) (All-weaker (IsSoundMedia table) (IsSoundMedia new) (media_kept table new k) table.media h.media)
          (record { reel = name_below table.reels reel; filled = a.some; within = a.most });
      nests = All-weaker (IsSoundNest table 7) (IsSoundNest new 7) (nest_kept table new k 7) table.nests h.nests;
    }

entered_item : (n : ℕ) (f : Frames) → AreFrames f → IsItemPart (part_of n f)
entered_item n f a more = let p = a.holds more in (omega (arith, p.0), omega (arith, p.1), omega (arith, a.most))

pub entered_read : (table : Table) (levels : ℕ) (reel : List ℕ) (f : Frames) → AreFrames f → IsSoundTable table
    → Grown table (entered table reel f).1 × IsRead (entered table reel f).1 levels (entered table reel f).0
entered_read table levels reel f a h = (
  record { keeps = entered_keeps table reel f; kinds = refl; sound = entered_sound table reel f a h },
  record {
    item = entered_item (entry_number table.media (entry_of table reel f)) f a;
    placed = record { bounds = entry_bounds table.media (entry_of table reel f); deep = tt };
  },
)

-- what an item gives, read further
abbrev pub ReadFrom : Table → ℕ → Part × Table → Type 0
ReadFrom table levels r = Grown table r.1 × IsRead r.1 levels r.0

pub clip_sound : (rate : ℕ × ℕ) (references : References) (table : Table) (levels : ℕ) (clip : Tree) → IsSoundTable table → IfOk (clip_read rate references table clip) (ReadFrom table levels)
unfolding clip_read
clip_sound rate references table levels clip h =
    after (source_read rate clip) _ (λ s. IfSome s InSource) (ReadFrom table levels) (source_in rate clip) (λ s hs.
    after (reference_read rate references clip) _ (λ m. IfSome m InMedia) (ReadFrom table levels) (reference_in rate references clip) (λ m hm.
    after (or_refuse (clip_frames s m) O14 (place_of clip)) _ AreFrames (ReadFrom table levels) (chosen (clip_frames s m) O14 (place_of clip) AreFrames (frames_in s m hs hm)) (λ f hf.
    entered_read table levels (reel_text clip) f hf h)))
