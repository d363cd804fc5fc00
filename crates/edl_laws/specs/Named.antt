-- What a cut shows, by the names that a list gives its reels; and those names taken back.
use Rattle.std.specs.Prelude.{ℕ, List, [], ◌∷◌, Option, Some, None, bytes_eq, if◌then◌else◌}
use Rattle.std.specs.Option.{unwrap_or}
use Rattle.frame_meaning.specs.declared.frames.Side.{Side}
use Rattle.frame_meaning.specs.declared.frames.Side.TheVariants as side
use Rattle.frame_meaning.specs.declared.frames.Frame.{Frame}
use Rattle.frame_meaning.specs.declared.frames.Frame.TheVariants as frame
use Rattle.reel_names.specs.Names.{black}
use Rattle.reel_names.specs.declared.namer.ReelName.{ReelName}
use Rattle.reel_names.specs.Namers.{name_of}

-- the name of a reel; each reel of a list has one
abbrev pub name_in : List ReelName → ℕ → List ℕ
name_in names reel = unwrap_or (name_of names reel) black

abbrev pub named_side : List ReelName → Side ℕ → Side (List ℕ)
named_side names side.Dark = side.Dark
named_side names (side.Pic reel source) = side.Pic (name_in names reel) source

-- a frame with each reel's name in place of the reel
abbrev pub named : List ReelName → Frame ℕ → Frame (List ℕ)
named names frame.Dark = frame.Dark
named names (frame.Pic reel source) = frame.Pic (name_in names reel) source
named names (frame.Mix left right num den) = frame.Mix (named_side names left) (named_side names right) num den

-- the reel that has a name, if one has
abbrev pub reel_named : List ReelName → List ℕ → Option ℕ
reel_named [] name = None
reel_named (r ∷ rs) name = if bytes_eq r.name name then Some r.reel else reel_named rs name

-- the reel of a name; each name of a list has one
abbrev pub reel_in : List ReelName → List ℕ → ℕ
reel_in names name = unwrap_or (reel_named names name) 0

abbrev pub side_back : List ReelName → Side (List ℕ) → Side ℕ
side_back names side.Dark = side.Dark
side_back names (side.Pic name source) = side.Pic (reel_in names name) source

-- a frame with the names taken back: each name's reel in place of the name
abbrev pub taken_back : List ReelName → Frame (List ℕ) → Frame ℕ
taken_back names frame.Dark = frame.Dark
taken_back names (frame.Pic name source) = frame.Pic (reel_in names name) source
taken_back names (frame.Mix left right num den) = frame.Mix (side_back names left) (side_back names right) num den
