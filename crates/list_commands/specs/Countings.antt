-- How the events of a list are counted, with drop-frame or without it, beside a counting that is wanted.
use Rattle.std.specs.Prelude.{◌≡◌, ℕ, ◌+◌, Bool, false, not, List, [], ◌∷◌, Option, Some, None, Result, Ok, Err, if◌then◌else◌}
use Rattle.timecode12.specs.Numbers.{Counted}
use Rattle.room_files.specs.Files.{Content, IsWhole}
use Rattle.edl_lines.specs.declared.code.LineCode.{LineCode}
use Rattle.edl_lines.specs.declared.said.Said.{Said}
use Rattle.edl_lines.specs.declared.said.Said.TheVariants.{Skipped, Counts, Tells}
use Rattle.edl_lines.specs.ListLines.{ListLine, list_lines}
use Rattle.edl_lines.specs.EventLines.{line_says}

-- whether both are with drop-frame, or both without it
abbrev pub counts_as : Counted → Counted → Bool
counts_as one other = if one.drop_frame then other.drop_frame else not other.drop_frame

-- the counting that holds after a line that says this, where this one held before it; none where the line is of an event that
-- is counted otherwise than is wanted
abbrev pub counting_after : Counted → Counted → Result Said LineCode → Option Counted
counting_after wanted holds (Ok Skipped) = Some holds
counting_after wanted holds (Ok (Counts set)) = Some set
counting_after wanted holds (Ok (Tells event)) = if counts_as holds wanted then Some holds else None
counting_after wanted holds (Err code) = Some holds

-- line n itself where that is none, or what comes after it with that counting
abbrev pub otherwise_after : ℕ → Option Counted → (Counted → Option ℕ) → Option ℕ
otherwise_after n None more = Some n
otherwise_after n (Some next) more = more next

-- the line of the first event that is counted otherwise, where these are the lines from line n on
abbrev pub otherwise_from : Counted → ℕ → Counted → List ListLine → Option ℕ
otherwise_from wanted n holds [] = None
otherwise_from wanted n holds (line ∷ lines) =
    otherwise_after n (counting_after wanted holds (line_says wanted.rate holds line)) (λ next. otherwise_from wanted (n + 1) next lines)

-- of the list that these bytes are, which begins without drop-frame
abbrev pub counted_otherwise : Counted → List ℕ → Option ℕ
counted_otherwise wanted bytes = otherwise_from wanted 1 (record { rate = wanted.rate; drop_frame = false }) (list_lines bytes)

-- this is that line of the list in a file of these contents
pub record IsCountedOtherwise (wanted : Counted) (content : Content) (line : ℕ) : Type 0 where
  pub bytes : List ℕ
  pub whole : IsWhole content bytes
  pub first : counted_otherwise wanted bytes ≡ Some line
