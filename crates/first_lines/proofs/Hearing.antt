-- What is heard is in what came.
use Rattle.std.proofs.Common.{◌≡◌, ℕ, List, [], ◌++◌, Bool, true, false, cond, Some, take, nat_le, sym, ap, ◌∙◌, append_assoc, append-nil}
use Rattle.web_lines.specs.FirstBytes.{talk_of}
use Rattle.web_lines.specs.declared.first_bytes.Talk.TheVariants.{Http}
use Rattle.web_lines.specs.declared.request.TheConstants.{MOST_HEAD}
use Rattle.first_lines.specs.declared.heard.Heard.{Heard}
use Rattle.first_lines.specs.declared.heard.Heard.TheVariants.{More, Line, Request, TooLong, Gone}
use Rattle.first_lines.specs.declared.heard.TheConstants.{LONGEST_LINE}
use Rattle.first_lines.specs.FirstLines.{HearsRequest, IsHeardIn, IsLonger, unended}

one_of : (b : Bool) (text : List ℕ) → IsHeardIn text (cond b TooLong More)
one_of true text = tt
one_of false text = tt

pub of_none : (length : ℕ) (text : List ℕ) → IsHeardIn text (unended length)
of_none length text = one_of (nat_le LONGEST_LINE length) text

pub of_request : (text : List ℕ) (heard : Heard) → talk_of text ≡ Some Http → HearsRequest (take MOST_HEAD text) heard → IsHeardIn text heard
of_request text More talks h = tt
of_request text (Line at) talks h = absurd h
of_request text (Request heard) talks h = (talks, h)
of_request text TooLong talks h = tt
of_request text Gone talks h = tt

pub longer_none : (old : List ℕ) → IsLonger old old
longer_none old = ([], sym (append-nil old))

pub longer_more : (old middle new : List ℕ) → IsLonger old middle → IsLonger middle new → IsLonger old new
longer_more old middle new h k = (h.0 ++ k.0, k.1 ∙ (ap (λ t. t ++ k.0) h.1 ∙ append_assoc old h.0 k.0))
