-- A WebSocket as lines: what a read gives of the messages that came, and what a write sends. The steps of the protocol
-- are those of `tungstenite`: `Reads` and `Writes` say what a socket read and sent of the bytes of its stream.
use Rattle.std.specs.Prelude.{◌≡◌, ◌⊎◌, ℕ, ◌==◌, List, [], ◌∷◌, ◌++◌, Bool, Option, Some, None, Ok, Err, ⊤, false, position}
use Rattle.std.specs.List.{flat_map}
use Rattle.tungstenite.specs.Socket.{Socket, IsFresh, Reads, Writes, content_of}
use Rattle.tungstenite.specs.declared.message.Message.{Message}
use Rattle.tungstenite.specs.declared.error.Error.TheVariants.{ConnectionClosed}
use Rattle.websocket.specs.Connection.{write_step}
use Rattle.websocket.specs.Content.{Content, text, binary, ping, pong, close}
use Rattle.websocket.specs.declared.protocol.config.Role.TheVariants.{Server}
use Rattle.web_lines.specs.declared.web_stream.TheConstants.{MOST_MESSAGE}
use Rattle.web_lines.specs.declared.messages.Kind.{Kind}
use Rattle.web_lines.specs.declared.messages.Kind.TheVariants as Told
use Rattle.web_lines.specs.declared.web_stream.Doing.{Doing}
use Rattle.web_lines.specs.declared.web_stream.Doing.TheVariants.{Open, Closed}

-- a WebSocket; what is left of the line that came last; what was written of a line that is still to end; how it stands
pub record WebState (S : Type 0) : Type 0 where
  pub socket : Socket S
  pub left : List ℕ
  pub begun : List ℕ
  pub state : Doing

abbrev pub is_line_feed : ℕ → Bool
is_line_feed byte = byte == 10

-- no line feed stands in it
abbrev pub IsOneLine : List ℕ → Type 0
IsOneLine bytes = position is_line_feed bytes ≡ None

-- a text as a line
abbrev pub as_line : List ℕ → List ℕ
as_line bytes = bytes ++ 10 ∷ []

abbrev pub as_lines : List (List ℕ) → List ℕ
as_lines texts = flat_map as_line texts

-- a message that is no line: a ping, a pong, or a close
abbrev pub IsQuiet : Content → Type 0
IsQuiet (text bytes) = ⊥
IsQuiet (binary bytes) = ⊥
IsQuiet (ping bytes) = ⊤
IsQuiet (pong bytes) = ⊤
IsQuiet (close frame) = ⊤

-- what a message is to a stream of lines
abbrev pub TellsKind : Message → Kind → Type 0
TellsKind m (Told.Text bytes) = content_of m ≡ text bytes
TellsKind m Told.Quiet = IsQuiet (content_of m)
TellsKind m Told.Binary = ⊤

module _ {S : Type 0} where
  -- ---- what comes

  -- messages were read that are no lines
  abbrev pub Skips : (S → Option (List ℕ)) → Socket S → List Message → Socket S → Type 0
  Skips remaining old [] new = new ≡ old
  Skips remaining old (m ∷ ms) new =
      (mid : Socket S) × Skips remaining old ms mid × Reads remaining mid new (Ok m) × IsQuiet (content_of m)

  -- the socket closed, and before that such messages were read
  abbrev pub SkipsToEnd : (S → Option (List ℕ)) → Socket S → Socket S → Type 0
  SkipsToEnd remaining old new =
      (ms : List Message) × (mid : Socket S) × Skips remaining old ms mid
      × Reads remaining mid new (Err ConnectionClosed)

  -- a text was read, and before it such messages
  abbrev pub ReadsText : (S → Option (List ℕ)) → Socket S → List ℕ → Socket S → Type 0
  ReadsText remaining old bytes new =
      (ms : List Message) × (mid : Socket S) × (m : Message) × Skips remaining old ms mid
      × Reads remaining mid new (Ok m) × (content_of m ≡ text bytes)

  -- the same, and it has no line feed
  abbrev pub ReadsLine : (S → Option (List ℕ)) → Socket S → List ℕ → Socket S → Type 0
  ReadsLine remaining old bytes new = ReadsText remaining old bytes new × IsOneLine bytes

  -- lines were read, one after another
  abbrev pub ReadsLines : (S → Option (List ℕ)) → Socket S → List (List ℕ) → Socket S → Type 0
  ReadsLines remaining old [] new = new ≡ old
  ReadsLines remaining old (t ∷ ts) new =
      (mid : Socket S) × ReadsLine remaining old t mid × ReadsLines remaining mid ts new

  -- What a read gave, and what is left after it, is what was left before and each text that was read, with its line
  -- feed.
  abbrev pub GivesLines : (S → Option (List ℕ)) → WebState S → WebState S → List ℕ → Type 0
  GivesLines remaining old new bytes =
      (texts : List (List ℕ)) × ReadsLines remaining old.socket texts new.socket
      × (old.left ++ as_lines texts ≡ bytes ++ new.left)

  -- one line was read, and is left
  abbrev pub ComesLine : (S → Option (List ℕ)) → WebState S → WebState S → Type 0
  ComesLine remaining old new =
      (bytes : List ℕ) × ReadsLine remaining old.socket bytes new.socket × (new.left ≡ as_line bytes)

  -- the lines are at their end: the socket closed after the last one, now or before
  abbrev pub EndsLines : (S → Option (List ℕ)) → WebState S → WebState S → Type 0
  EndsLines remaining old new =
      (new.left ≡ []) × (new.state ≡ Closed) × ((new.socket ≡ old.socket) ⊎ SkipsToEnd remaining old.socket new.socket)

  -- ---- what goes

  -- a text was sent whole
  abbrev pub SendsLine : (S → Option (List ℕ)) → Socket S → List ℕ → Socket S → Type 0
  SendsLine contents old bytes new = Writes contents old new (write_step old.conn (text bytes)) × (new.output ≡ [])

  -- texts were sent, one after another
  abbrev pub SendsLines : (S → Option (List ℕ)) → Socket S → List (List ℕ) → Socket S → Type 0
  SendsLines contents old [] new = new ≡ old
  SendsLines contents old (t ∷ ts) new =
      (mid : Socket S) × SendsLine contents old t mid × SendsLines contents mid ts new

  -- What was begun before and these bytes are each text that was sent, with its line feed, and what is begun after.
  abbrev pub TakesLines : (S → Option (List ℕ)) → WebState S → WebState S → List ℕ → Type 0
  TakesLines contents old new bytes =
      (texts : List (List ℕ)) × SendsLines contents old.socket texts new.socket
      × (old.begun ++ bytes ≡ as_lines texts ++ new.begun)

  -- ---- how it begins

  -- nothing came and nothing went but these bytes, which stand after the head; a message has at most MOST_MESSAGE bytes
  pub record StartsLines (web : WebState S) (stream : S) (after : List ℕ) : Type 0 where
    pub fresh : IsFresh (record web.socket { input = [] }) stream Server
    pub input : web.socket.input ≡ after
    pub message : web.socket.conn.config.max_message_size ≡ Some MOST_MESSAGE
    pub frame : web.socket.conn.config.max_frame_size ≡ Some MOST_MESSAGE
    pub masked : web.socket.conn.config.accept_unmasked_frames ≡ false
    pub left : web.left ≡ []
    pub begun : web.begun ≡ []
    pub state : web.state ≡ Open
