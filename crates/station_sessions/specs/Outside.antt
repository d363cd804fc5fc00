-- What an input and an output tell, before a call and after it, and what was read and taken between.
use Rattle.std.specs.Prelude.{◌≡◌, ℕ, ◌≤◌, List, [], ◌∷◌, ◌++◌, Option, IfSome, length, take}
use Rattle.std.specs.Option.{IsSomeAnd}
use Rattle.room_ports.specs.Bytes.{Takes}
use Rattle.room_ports.specs.Counts.{HasRisen}
use Rattle.line_words.specs.Lines.{Line as InputLine, lines_of}
use Rattle.station_sessions.specs.Transcript.{reply_line, sent}

-- the bytes left to read and the bytes taken, each where it is told, and how often a read and a write have failed
pub record Outside : Type 0 where
  pub left : Option (List ℕ)
  pub reads : ℕ
  pub taken : Option (List ℕ)
  pub writes : ℕ

abbrev pub outside : Option (List ℕ) → ℕ → Option (List ℕ) → ℕ → Outside
outside left reads taken writes = record { left = left; reads = reads; taken = taken; writes = writes }

-- no read and no write failed
abbrev pub NoFault : Outside → Outside → Type 0
NoFault old new = (new.reads ≡ old.reads) × (new.writes ≡ old.writes)

-- a read failed, and no write
abbrev pub ReadFailed : Outside → Outside → Type 0
ReadFailed old new = HasRisen old.reads new.reads × (new.writes ≡ old.writes)

-- a write failed, and no read
abbrev pub WriteFailed : Outside → Outside → Type 0
WriteFailed old new = HasRisen old.writes new.writes × (new.reads ≡ old.reads)

-- where the input tells its bytes, they are those got, of which this holds, and those left
abbrev pub Got : Outside → Outside → (List ℕ → List ℕ → Type 0) → Type 0
Got old new Holds = IfSome old.left (λ bytes. IsSomeAnd new.left (λ left. (got : List ℕ) × (bytes ≡ got ++ left) × Holds got left))

-- the most bytes of one input: 64 MiB
abbrev pub most_input : ℕ
most_input = 67108864

-- the most bytes of one read
abbrev pub most_read : ℕ
most_read = 8192

-- the input was read to its end, and of its lines this holds
abbrev pub AtEnd : Outside → Outside → (List InputLine → Type 0) → Type 0
AtEnd old new Holds = Got old new (λ got left. (left ≡ []) × (length got ≤ most_input) × Holds (lines_of got))

-- these replies were taken whole
abbrev pub AreSent : Option (List ℕ) → Option (List ℕ) → List (List ℕ) → Type 0
AreSent before after replies = Takes before after (sent replies)

-- these bytes were taken, and then a front of a piece
abbrev pub TakesThenFront : Option (List ℕ) → Option (List ℕ) → List ℕ → List ℕ → Type 0
TakesThenFront before after bytes piece =
    IfSome after (λ now. IsSomeAnd before (λ old. (n : ℕ) × (now ≡ old ++ (bytes ++ take n piece))))

-- all of these replies but the last were taken whole, and then a front of the last
abbrev pub LastIsCut : Option (List ℕ) → Option (List ℕ) → List (List ℕ) → Type 0
LastIsCut before after replies =
    (whole : List (List ℕ)) × (cut : List ℕ) × (replies ≡ whole ++ cut ∷ []) × TakesThenFront before after (sent whole) (reply_line cut)
