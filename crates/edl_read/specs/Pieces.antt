-- Pieces of a channel: frames of which each goes on from the one before. The text of a channel is made piece by piece,
-- and the last piece is held back until it is known where its run ends.
use Rattle.std.specs.Prelude.{◌≡◌, ◌<◌, ℕ, ◌+◌, ◌-◌, List, ◌++◌, map}
use Rattle.std.specs.List.{range_with_len}
use Rattle.frame_meaning.specs.declared.frames.Frame.{Frame}
use Rattle.frame_meaning.specs.RunFrames.{frames_from, later_frame}
use Rattle.edl_events.specs.declared.channel.Channel.{Channel}
use Rattle.edl_events.specs.declared.event.Event.{Event}
use Rattle.edl_events.specs.Tape.{event_frame}
use Rattle.edl_read.specs.declared.pieces.Piece.{Piece}
use Rattle.edl_read.specs.TapeText.{frames_text}

-- a piece has its last frame, unless it is empty
abbrev pub IsPiece : Piece → Type 0
IsPiece p = 0 < p.len → p.last ≡ later_frame p.first (p.len - 1)

abbrev pub piece_frames : Piece → List (Frame (List ℕ))
piece_frames p = frames_from p.first p.len

-- the piece that is held back ends at a record frame
pub record EndsAt (p : Piece) (at : ℕ) : Type 0 where
  pub piece : IsPiece p
  pub end : p.place + p.len ≡ at

-- the text of what is held and of the frames behind it
abbrev pub text_on : Channel → Piece → List (Frame (List ℕ)) → List ℕ
text_on c held frames = frames_text c held.place (piece_frames held ++ frames)

-- the frames of an event
abbrev pub event_frames : Event → List (Frame (List ℕ))
event_frames e = map (event_frame e) (range_with_len 0 e.len)

-- the frames of an event from one to another go on
abbrev pub IsEven : Event → ℕ → ℕ → Type 0
IsEven e from to = (k : ℕ) → from + k < to → event_frame e (from + k) ≡ later_frame (event_frame e from) k
