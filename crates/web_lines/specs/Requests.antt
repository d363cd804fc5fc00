-- Which answer a request gets, by its method, its target, its version and its fields (RFC 9110, 9112 and 6455).
use Rattle.std.specs.Prelude.{◌≡◌, ℕ, List, Option, Some, None, Bool, true, false, ◌&&◌, ◌||◌, ◌==◌, nat_le, take, map, Result, Ok, Err, is_ok, bytes_eq, codes, if◌then◌else◌}
use Rattle.httparse.specs.Grammar.{RequestHead}
use Rattle.httparse.specs.Spans.{span_bytes, name_and_value}
use Rattle.httparse.specs.declared.spans.HeaderSpan.{HeaderSpan}
use Rattle.httparse.specs.declared.spans.RequestSpans.{RequestSpans}
use Rattle.http1.specs.Fields.{known_fields}
use Rattle.http1.specs.Framing.{request_framing, method_kind}
use Rattle.http1.specs.declared.fields.KnownFields.{KnownFields}
use Rattle.http1.specs.declared.framing.Framing.{Framing}
use Rattle.http1.specs.declared.framing.Framing.TheVariants.{NoBody, Length, Chunked, UntilClose}
use Rattle.http1.specs.declared.framing.FramingError.{FramingError}
use Rattle.websocket.specs.Headers.{Fields, fields_of}
use Rattle.websocket.specs.Handshake.{requested_key}
use Rattle.websocket.specs.Handshake as Shake
use Rattle.websocket.specs.declared.handshake.failure.HandshakeError.{HandshakeError}
use Rattle.websocket.specs.declared.handshake.failure.HandshakeError.TheVariants as Why
use Rattle.web_lines.specs.declared.answer.Answer.{Answer}
use Rattle.web_lines.specs.declared.answer.Answer.TheVariants as Told
use Rattle.web_lines.specs.declared.deciding.Path.{Path}
use Rattle.web_lines.specs.declared.deciding.Path.TheVariants as At
use Rattle.web_lines.specs.declared.deciding.Method.{Method}
use Rattle.web_lines.specs.declared.deciding.Method.TheVariants as By

-- what a head says; each field is a name and a value
pub record Request : Type 0 where
  pub method : List ℕ
  pub target : List ℕ
  pub minor : ℕ
  pub fields : Fields

-- of a head of the grammar
abbrev pub request_of : RequestHead → Request
request_of h = record { method = h.method; target = h.target; minor = h.minor; fields = map name_and_value h.fields }

-- of a head that was found in these bytes
abbrev pub request_in : List ℕ → List HeaderSpan → RequestSpans → Request
request_in bytes spans head = record {
  method = span_bytes bytes head.method;
  target = span_bytes bytes head.path;
  minor = head.version;
  fields = fields_of bytes (take head.headers spans);
}

-- ---- whether its fields are in order

-- HTTP/1.1 names one host, HTTP/1.0 one or none
abbrev pub has_one_host : ℕ → ℕ → Bool
has_one_host minor hosts = hosts == 1 || (minor == 0 && hosts == 0)

-- One host is named, what follows the head has one length or one coding, and that is said once. `request_framing`
-- refuses two lengths, a length and a coding, and codings that do not end in `chunked`.
abbrev pub is_sound : ℕ → KnownFields → Result Framing FramingError → Bool
is_sound minor known framing = has_one_host minor known.hosts && (is_ok framing && nat_le known.framing_fields 1)

-- no body follows
abbrev pub is_bare : Result Framing FramingError → Bool
is_bare (Ok NoBody) = true
is_bare (Ok (Length count)) = count == 0
is_bare (Ok Chunked) = false
is_bare (Ok UntilClose) = false
is_bare (Err _) = false

-- ---- by address and method

-- the address has to be spelled exactly, so there is none with a question mark
abbrev pub path_of : List ℕ → Option Path
path_of target =
    if bytes_eq target (codes "/") then Some At.Page
    else (if bytes_eq target (codes "/health") then Some At.Health
    else (if bytes_eq target (codes "/station") then Some At.Station else None))

abbrev pub method_of : List ℕ → Option Method
method_of method =
    if bytes_eq method (codes "GET") then Some By.Get
    else (if bytes_eq method (codes "HEAD") then Some By.Head else None)

-- None is where a WebSocket may be asked for
abbrev pub by_method : Path → Method → Bool → Option Answer
by_method path method false = Some Told.Bad
by_method At.Page By.Get true = Some Told.Page
by_method At.Page By.Head true = Some Told.PageHead
by_method At.Health By.Get true = Some Told.Health
by_method At.Health By.Head true = Some Told.Health
by_method At.Station By.Get true = None
by_method At.Station By.Head true = Some Told.NeedsUpgrade

abbrev pub at_path : Option Path → Option Method → Bool → Option Answer
at_path None method bare = Some Told.Missing
at_path (Some path) None bare = Some Told.WrongMethod
at_path (Some path) (Some method) bare = by_method path method bare

abbrev pub answer_by : Request → KnownFields → Result Framing FramingError → Option Answer
answer_by r known framing =
    if is_sound r.minor known framing then at_path (path_of r.target) (method_of r.method) (is_bare framing)
    else Some Told.Bad

-- the answer, but for what a request for a WebSocket is answered
abbrev pub plain_answer : Request → Option Answer
plain_answer r =
    answer_by r (known_fields r.fields) (request_framing (method_kind r.method) r.minor (known_fields r.fields))

-- ---- a WebSocket

-- a request for none is told that it needs one; one whose key is none is bad
abbrev pub refused_upgrade : HandshakeError → Answer
refused_upgrade Why.WrongHttpMethod = Told.NeedsUpgrade
refused_upgrade Why.WrongHttpVersion = Told.NeedsUpgrade
refused_upgrade Why.MissingConnectionUpgradeHeader = Told.NeedsUpgrade
refused_upgrade Why.MissingUpgradeWebSocketHeader = Told.NeedsUpgrade
refused_upgrade Why.MissingSecWebSocketVersionHeader = Told.NeedsUpgrade
refused_upgrade Why.MissingSecWebSocketKey = Told.Bad
refused_upgrade Why.InvalidSecWebSocketKey = Told.Bad
refused_upgrade Why.SecWebSocketAcceptKeyMismatch = Told.Bad
refused_upgrade (Why.SecWebSocketSubProtocolError _) = Told.Bad
refused_upgrade Why.UnexpectedExtension = Told.Bad
refused_upgrade (Why.Http _) = Told.Bad
refused_upgrade Why.InvalidHeader = Told.Bad
refused_upgrade Why.OutOfMemory = Told.Bad

abbrev pub upgrade_of : Result (List ℕ) HandshakeError → Answer
upgrade_of (Ok key) = Told.Station key
upgrade_of (Err why) = refused_upgrade why

-- A valid key is answered by the key that accepts it, and any other request is refused: `Shake.Answers` and
-- `requested_key` say which is which.
abbrev pub AnswersBy : Option Answer → Request → Answer → Type 0
AnswersBy (Some told) r answer = answer ≡ told
AnswersBy None r answer =
    (shaken : Result (List ℕ) HandshakeError) × Shake.Answers shaken (requested_key r.method r.minor r.fields)
    × (answer ≡ upgrade_of shaken)

-- what the request is answered
abbrev pub Answers : Request → Answer → Type 0
Answers r answer = AnswersBy (plain_answer r) r answer
