-- The items of a track as they are read, and what all of them have.
use Rattle.std.specs.Prelude.{ℕ, ◌+◌, pos, int_le, nat_le, unsigned_abs, Bool, true, false, ◌||◌, ◌&&◌, List, [], ◌∷◌, Option, Some, None, Ok, codes, eqb, if◌then◌else◌}
use Rattle.std.specs.List.{starts_with}
use Rattle.frame_meaning.specs.declared.cells.What.{What}
use Rattle.frame_meaning.specs.declared.cells.What.TheVariants.{Media, Nest}
use Rattle.frame_meaning.specs.declared.frames.Side.{Side}
use Rattle.frame_meaning.specs.declared.frames.Side.TheVariants.{Dark, Pic}
use Rattle.json_tokens.specs.Reading.{◌>>=◌}
use Rattle.json_tree.specs.Tree.{Tree, Kind, Bool_of}
use Rattle.json_tree.specs.Parts.{place_of, kind_in, member_in, text_in}
use Rattle.otio_tracks.specs.declared.faults.DocCode.TheVariants.{O3, O6, O7}
use Rattle.otio_tracks.specs.declared.times.Span.{Span}
use Rattle.otio_tracks.specs.declared.parts.Part.{Part}
use Rattle.otio_tracks.specs.Reading.{Read, refuse}
use Rattle.otio_tracks.specs.Values.{given, list_read}
use Rattle.otio_tracks.specs.Times.{span_read}

abbrev pub is_dark : Side What → Bool
is_dark Dark = true
is_dark (Pic what source) = false

abbrev pub shows_nest : Side What → Bool
shows_nest Dark = false
shows_nest (Pic (Media m) source) = false
shows_nest (Pic (Nest j) source) = true

abbrev pub is_gap : Part → Bool
is_gap p = is_dark p.first

abbrev pub is_nest : Part → Bool
is_nest p = shows_nest p.first

-- ---- `enabled`: missing or null means true

abbrev pub enabled_kind : ℕ → Kind → Read (Unit {0})
enabled_kind at (Bool_of true) = Ok tt
enabled_kind at (Bool_of false) = refuse O7 at
enabled_kind at _ = refuse O3 at

abbrev pub enabled_if : Option Tree → Read (Unit {0})
enabled_if None = Ok tt
enabled_if (Some t) = enabled_kind (place_of t) (kind_in t)

unfoldable pub enabled_read : Tree → Read (Unit {0})
enabled_read t = enabled_if (given (codes "enabled") t)

-- ---- `effects`: no time effect may be among them, and others are read past

abbrev pub begins : List ℕ → List ℕ → Bool
begins name front = starts_with eqb name front

abbrev pub names_time_effect : Option (List ℕ) → Bool
names_time_effect None = false
names_time_effect (Some name) = begins name (codes "LinearTimeWarp.") || begins name (codes "FreezeFrame.") || begins name (codes "TimeEffect.")

abbrev pub schema_if : Option Tree → Option (List ℕ)
schema_if None = None
schema_if (Some t) = text_in (kind_in t)

abbrev pub is_time_effect : Kind → Bool
is_time_effect kind = names_time_effect (schema_if (member_in (codes "OTIO_SCHEMA") kind))

abbrev pub no_time_effect : List Tree → Read (Unit {0})
no_time_effect [] = Ok tt
no_time_effect (t ∷ ts) = if is_time_effect (kind_in t) then refuse O6 (place_of t) else no_time_effect ts

abbrev pub effects_if : Option Tree → Read (Unit {0})
effects_if None = Ok tt
effects_if (Some t) = list_read t >>= no_time_effect

unfoldable pub effects_read : Tree → Read (Unit {0})
effects_read t = effects_if (given (codes "effects") t)

-- what is looked at first in each item
unfoldable pub head_read : Tree → Read (Unit {0})
head_read t = do
  _ ← enabled_read t
  effects_read t

-- ---- `source_range`: missing or null means that an item is not trimmed

abbrev pub trim_if : ℕ × ℕ → Option Tree → Read (Option Span)
trim_if rate None = Ok None
trim_if rate (Some t) = span_read rate t >>= λ span. Ok (Some span)

unfoldable pub trim_read : ℕ × ℕ → Tree → Read (Option Span)
trim_read rate t = trim_if rate (given (codes "source_range") t)

-- the range, where it lies within the first so many frames
abbrev pub frames_within : ℕ → Span → Option (ℕ × ℕ)
frames_within most span =
    if int_le (pos 0) span.start && nat_le (unsigned_abs span.start + span.len) most
    then Some (unsigned_abs span.start, span.len)
    else None
