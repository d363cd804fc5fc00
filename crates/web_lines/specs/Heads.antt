-- What bytes of a request are answered, as they come.
use Rattle.std.specs.Prelude.{◌≡◌, ◌⊎◌, ◌≤◌, ℕ, List, Option, length}
use Rattle.std.specs.Option.{IsSomeAnd}
use Rattle.httparse.specs.Grammar.{RequestHead, print_request, ReadsRequest, HasNoRequest, NeverHasRequest}
use Rattle.httparse.specs.Spans.{RequestExceeds}
use Rattle.web_lines.specs.declared.request.TheConstants.{MOST_HEAD, MOST_FIELDS}
use Rattle.web_lines.specs.declared.request.Heard.{Heard}
use Rattle.web_lines.specs.declared.answer.Answer.TheVariants.{Bad, TooLong}
use Rattle.web_lines.specs.Requests.{Answers, request_of}

-- a head gets its answer, and ends where it is told to
abbrev pub AnswersHead : RequestHead → Heard → Type 0
AnswersHead h heard = (heard.len ≡ length (print_request h)) × Answers (request_of h) heard.answer

-- the same, and it is told
abbrev pub GivesHead : RequestHead → Option Heard → Type 0
GivesHead h told = IsSomeAnd told (AnswersHead h)

-- the head is longer than one may be, or has more fields than one may have
abbrev pub IsTooLong : List ℕ → Type 0
IsTooLong bytes = (HasNoRequest bytes × (MOST_HEAD ≤ length bytes)) ⊎ RequestExceeds MOST_FIELDS bytes

-- What is told is the answer to a head in front, or that no head will ever be in front, or that it is too long.
abbrev pub HearsAnswer : List ℕ → Heard → Type 0
HearsAnswer bytes heard =
    ((h : RequestHead) × (rest : List ℕ) × ReadsRequest bytes h rest × AnswersHead h heard)
    ⊎ ((heard.answer ≡ Bad) × NeverHasRequest bytes)
    ⊎ ((heard.answer ≡ TooLong) × IsTooLong bytes)
