-- The names that the reels of a list get: they are asked for in order of the lines.
use Rattle.std.specs.Prelude.{ℕ, List, [], ◌∷◌, ◌++◌, Option, Some, None, Result, Ok, Err, slice_index_or}
use Rattle.std.specs.List.{flat_map}
use Rattle.frame_meaning.specs.declared.frames.Side.{Side}
use Rattle.frame_meaning.specs.declared.frames.Side.TheVariants as side
use Rattle.reel_names.specs.declared.namer.ReelName.{ReelName}
use Rattle.reel_names.specs.Namers.{NamerRule, name_for, with_name}
use Rattle.edl_write.specs.declared.ordering.ChannelSegment.{ChannelSegment}

-- the reel of a side; black is asked of no namer
abbrev pub reels_of_side : Side ℕ → List ℕ
reels_of_side side.Dark = []
reels_of_side (side.Pic reel source) = reel ∷ []

abbrev pub reels_of_left : Option (Side ℕ) → List ℕ
reels_of_left None = []
reels_of_left (Some left) = reels_of_side left

-- the reels of an event's lines, in order
abbrev pub reels_of : ChannelSegment → List ℕ
reels_of e = reels_of_left e.segment.from ++ reels_of_side e.segment.side

abbrev pub reels_of_all : List ChannelSegment → List ℕ
reels_of_all es = flat_map reels_of es

-- the names that a namer has given, and those of them that the lines so far use
pub record Names : Type 0 where
  pub given : List ReelName
  pub used : List ReelName

abbrev pub no_names : List ReelName → Names
no_names given = record { given = given; used = [] }

-- once a reel has got its name, or was refused
abbrev pub with_answer : Names → ℕ → Option (List ℕ) → Result Names ℕ
with_answer names reel None = Err reel
with_answer names reel (Some name) = Ok record { given = with_name names.given reel name; used = with_name names.used reel name }

-- once one more reel was asked for; nothing is asked once one was refused
abbrev pub asked : NamerRule → List (List ℕ) → Result Names ℕ → ℕ → Result Names ℕ
asked rule texts (Err refused) reel = Err refused
asked rule texts (Ok names) reel = with_answer names reel (name_for rule names.given reel (slice_index_or texts reel []))

-- once all of these reels were asked for, with their texts in the table; or the first that was refused
abbrev pub naming : NamerRule → List (List ℕ) → Result Names ℕ → List ℕ → Result Names ℕ
naming rule texts names [] = names
naming rule texts names (reel ∷ reels) = naming rule texts (asked rule texts names reel) reels
