-- How the session of a line ends, where `Answers lines Taken` says that the session answered these lines, and that their
-- replies were taken so; `Breaks lines line Taken` that it answered these, and that no reply was sent to one line more; and
-- `Unkept fault` that what keeps the room's journal failed so.
use Rattle.std.specs.Prelude.{◌≡◌, ℕ, ◌<◌, ◌≤◌, ◌+◌, ◌-◌, ◌⊎◌, List, [], ◌∷◌, ◌++◌, Some, length, take}
use Rattle.line_words.specs.Lines.{Line as InputLine, last_line}
use Rattle.line_words.specs.Pieces.{ended, pending_after}
use Rattle.station_sessions.specs.Outside.{Outside, NoFault, ReadFailed, WriteFailed, Got, AtEnd, AreSent, LastIsCut, most_input, most_read}
use Rattle.station_sessions.specs.declared.serve.End.{End}
use Rattle.station_sessions.specs.declared.serve.End.TheVariants.{Ended, ReadFault, WriteFault, TooMuchInput, DiskFault, KeepMemory}
use Rattle.room_keepers.specs.declared.fault.KeepFault.{KeepFault}
use Rattle.room_keepers.specs.declared.fault.KeepFault.TheVariants.{Disk, Memory}

-- these lines and one more are among those that a piece ends, up to and with that one
abbrev pub StopsWithin : InputLine → List ℕ → List InputLine → InputLine → Type 0
StopsWithin pending piece before line = (behind : List InputLine) × (ended pending piece ≡ before ++ line ∷ behind)

-- where a session stopped at a line, of which and of those before it this holds
module _ (Holds : List InputLine → InputLine → Type 0) where
  -- It stopped while a piece was answered: the lines before the last piece read are answered, and those that end in it up
  -- to the one where it stopped. Nothing was read after that piece.
  pub record StopsInPiece (got : List ℕ) : Type 0 where
    pub answered : List ℕ
    pub piece : List ℕ
    pub got_is : got ≡ answered ++ piece
    pub one_read : length piece ≤ most_read
    pub within : length answered ≤ most_input
    pub before : List InputLine
    pub line : InputLine
    pub stops : StopsWithin (pending_after (Some []) answered) (take (most_input - length answered) piece) before line
    pub holds : Holds (ended (Some []) answered ++ before) line

  -- It stopped at the input's end, at a last line without a line feed.
  pub record StopsAtEnd (got left : List ℕ) : Type 0 where
    pub none_left : left ≡ []
    pub within : length got ≤ most_input
    pub line : InputLine
    pub last : last_line (pending_after (Some []) got) ≡ line ∷ []
    pub holds : Holds (ended (Some []) got) line

  abbrev pub StopsAt : List ℕ → List ℕ → Type 0
  StopsAt got left = StopsInPiece got ⊎ StopsAtEnd got left

module _ (Answers : List InputLine → (List (List ℕ) → Type 0) → Type 0)
    (Breaks : List InputLine → InputLine → (List (List ℕ) → Type 0) → Type 0) (Unkept : KeepFault → Type 0) (old new : Outside) where
  -- the reply to the line is cut
  abbrev pub IsCutOff : List InputLine → InputLine → Type 0
  IsCutOff before line = Answers (before ++ line ∷ []) (LastIsCut old.taken new.taken)

  -- no byte of a reply to the line was taken
  abbrev pub IsUnsent : List InputLine → InputLine → Type 0
  IsUnsent before line = Breaks before line (AreSent old.taken new.taken)

  abbrev pub SessionEnds : End → Type 0
  SessionEnds Ended = NoFault old new × AtEnd old new (λ lines. Answers lines (AreSent old.taken new.taken))
  -- the lines that ended among the bytes got
  SessionEnds ReadFault = ReadFailed old new
      × Got old new (λ got left. (length got ≤ most_input) × Answers (ended (Some []) got) (AreSent old.taken new.taken))
  -- a write failed, at the reply to a line
  SessionEnds WriteFault = WriteFailed old new × Got old new (StopsAt IsCutOff)
  -- the lines that ended among the first 64 MiB; the read that passed them was the last
  SessionEnds TooMuchInput = NoFault old new
      × Got old new (λ got left. (most_input < length got) × (length got ≤ most_input + most_read)
      × Answers (ended (Some []) (take most_input got)) (AreSent old.taken new.taken))
  -- the entries that the reply to a line tells of could not be kept
  SessionEnds DiskFault = Unkept Disk × NoFault old new × Got old new (StopsAt IsUnsent)
  SessionEnds KeepMemory = Unkept Memory × NoFault old new × Got old new (StopsAt IsUnsent)
