-- What each answer is as bytes: a head of HTTP/1.1 as `http1` prints it, and the page.
use Rattle.std.specs.Prelude.{ℕ, List, [], ◌∷◌, ◌++◌, length, codes, decimal, flat_map}
use Rattle.http1.specs.Fields.{Header}
use Rattle.http1.specs.Head.{response_text}
use Rattle.websocket.specs.Handshake.{response_bytes}
use Rattle.std.specs.Borrow.{Bor}
use Rattle.web_lines.specs.declared.responses.Page.{Page}
use Rattle.web_lines.specs.declared.answer.Answer.{Answer}
use Rattle.web_lines.specs.declared.answer.Answer.TheVariants as Told

-- Each response says that nobody is to keep it, that the connection closes, that its type is the one that it states,
-- and how many bytes its body has.
abbrev pub common_fields : List ℕ → List Header
common_fields length =
    (codes "cache-control", codes "no-store")
    ∷ (codes "connection", codes "close")
    ∷ (codes "x-content-type-options", codes "nosniff")
    ∷ (codes "content-length", length) ∷ []

-- a response without a body
abbrev pub plain_response : ℕ → List ℕ → List Header → List ℕ
plain_response status reason extra = response_text 1 status reason (common_fields (codes "0") ++ extra)

-- ---- the page

abbrev pub page_bytes : List (Bor (List ℕ)) → List ℕ
page_bytes pieces = flat_map (λ piece. piece.now) pieces

-- it is HTML, does only what its policy lets it do, and tells nobody its address
abbrev pub page_fields : List ℕ → List Header
page_fields policy =
    (codes "content-type", codes "text/html; charset=utf-8")
    ∷ (codes "content-security-policy", policy)
    ∷ (codes "referrer-policy", codes "no-referrer") ∷ []

abbrev pub page_head : Page → List ℕ
page_head page =
    response_text 1 200 (codes "OK")
    (common_fields (decimal (length (page_bytes page.pieces.now))) ++ page_fields page.policy.now)

-- ---- all answers

-- the methods that are answered
abbrev pub allow : List Header
allow = (codes "allow", codes "GET, HEAD") ∷ []

-- what is to be asked for in place of it
abbrev pub upgrade : List Header
upgrade =
    (codes "connection", codes "upgrade")
    ∷ (codes "upgrade", codes "websocket")
    ∷ (codes "sec-websocket-version", codes "13") ∷ []

abbrev pub response_of : Answer → Page → List ℕ
response_of Told.Page page = page_head page ++ page_bytes page.pieces.now
response_of Told.PageHead page = page_head page
response_of Told.Health page = plain_response 200 (codes "OK") []
response_of (Told.Station key) page = response_bytes key []
response_of Told.Bad page = plain_response 400 (codes "Bad Request") []
response_of Told.Missing page = plain_response 404 (codes "Not Found") []
response_of Told.WrongMethod page = plain_response 405 (codes "Method Not Allowed") allow
response_of Told.NeedsUpgrade page = plain_response 426 (codes "Upgrade Required") upgrade
response_of Told.TooLong page = plain_response 431 (codes "Request Header Fields Too Large") []
