-- Channels that lie over one another: at each place the topmost frame that is not dark.
use Rattle.std.specs.Prelude.{ℕ, List, [], ◌∷◌, map, max, length, slice_index_or}
use Rattle.std.specs.List.{range_with_len}
use Rattle.frame_meaning.specs.declared.frames.Frame.{Frame}
use Rattle.frame_meaning.specs.declared.frames.Frame.TheVariants.{Dark, Pic, Mix}

-- one frame over another; a mix is not dark, whatever its sides are
abbrev pub over : Frame ℕ → Frame ℕ → Frame ℕ
over Dark f = f
over (Pic reel source) f = Pic reel source
over (Mix left right num den) f = Mix left right num den

-- the frame of a channel at a place, which is dark past the channel's end
abbrev pub frame_at : List (Frame ℕ) → ℕ → Frame ℕ
frame_at frames q = slice_index_or frames q Dark

-- the topmost frame that is not dark at a place of these channels, the last on top, and dark where there is none
abbrev pub topmost : List (List (Frame ℕ)) → ℕ → Frame ℕ
topmost [] q = Dark
topmost (frames ∷ above) q = over (topmost above q) (frame_at frames q)

-- the first n frames of these channels, stacked
abbrev pub stacked : ℕ → List (List (Frame ℕ)) → List (Frame ℕ)
stacked n channels = map (topmost channels) (range_with_len 0 n)

-- how many frames the longest of these channels has
abbrev pub longest : List (List (Frame ℕ)) → ℕ
longest [] = 0
longest (frames ∷ others) = max (length frames) (longest others)
