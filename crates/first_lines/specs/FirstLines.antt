-- What came of a connection so far.
use Rattle.std.specs.Prelude.{◌≡◌, ℕ, ◌<◌, List, ◌++◌, Option, Some, None, Vec, length, position, take, nat_le, if◌then◌else◌}
use Rattle.std.specs.Global.{Global}
use Rattle.httparse.specs.Grammar.{HasNoRequest, MayBecomeRequest}
use Rattle.line_words.specs.Lines.{is_lf}
use Rattle.web_lines.specs.FirstBytes.{talk_of}
use Rattle.web_lines.specs.Heads.{HearsAnswer}
use Rattle.web_lines.specs.declared.first_bytes.Talk.TheVariants.{Http}
use Rattle.web_lines.specs.declared.request.TheConstants.{MOST_HEAD}
use Rattle.first_lines.specs.declared.heard.Heard.{Heard}
use Rattle.first_lines.specs.declared.heard.Heard.TheVariants.{More, Line, Request, TooLong, Gone}
use Rattle.first_lines.specs.declared.heard.TheConstants.{LONGEST_LINE}

-- of a text of so many bytes in which no line ends more is waited for, or it is too long
abbrev pub unended : ℕ → Heard
unended length = if nat_le LONGEST_LINE length then TooLong else More

-- a line has ended before the first line feed
abbrev pub ends_at : ℕ → Option ℕ → Heard
ends_at length None = unended length
ends_at length (Some at) = Line at

abbrev pub line_heard : List ℕ → Heard
line_heard text = ends_at (length text) (position is_lf text)

-- what a front of HTTP gets: an answer, or more is waited for, where no head has ended in it and one may still
abbrev pub HearsRequest : List ℕ → Heard → Type 0
HearsRequest front More = HasNoRequest front × MayBecomeRequest front × (length front < MOST_HEAD)
HearsRequest front (Line at) = ⊥
HearsRequest front (Request heard) = HearsAnswer front heard
HearsRequest front TooLong = ⊥
HearsRequest front Gone = ⊥

-- what is heard of a connection is in what came of it: its first line, or a request with its answer
abbrev pub IsHeardIn : List ℕ → Heard → Type 0
IsHeardIn text More = Unit {0}
IsHeardIn text (Line at) = position is_lf text ≡ Some at
IsHeardIn text (Request heard) = (talk_of text ≡ Some Http) × HearsAnswer (take MOST_HEAD text) heard
IsHeardIn text TooLong = Unit {0}
IsHeardIn text Gone = Unit {0}

-- nothing of what came is lost
abbrev pub IsLonger : List ℕ → List ℕ → Type 0
IsLonger old new = (more : List ℕ) × (new ≡ old ++ more)

-- these bytes came after the first line, and are handed on
abbrev pub CameAfter : List ℕ → Option (Vec ℕ Global) → Type 0
CameAfter bytes None = ⊥
CameAfter bytes (Some ahead) = ahead.items ≡ bytes
