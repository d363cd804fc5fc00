-- A head that was found is one of the grammar.
use Rattle.std.proofs.Common.{◌≡◌, ℕ, List, subst}
use Rattle.httparse.specs.Grammar.{RequestHead}
use Rattle.httparse.specs.Spans.{IsRequestAt}
use Rattle.httparse.specs.declared.spans.HeaderSpan.{HeaderSpan}
use Rattle.httparse.specs.declared.spans.RequestSpans.{RequestSpans}
use Rattle.web_lines.specs.declared.answer.Answer.{Answer}
use Rattle.web_lines.specs.Requests.{Answers, Request, request_in, request_of}

pub same_request : (bytes : List ℕ) (spans : List HeaderSpan) (head : RequestSpans) (h : RequestHead) → IsRequestAt bytes spans head h → request_in bytes spans head ≡ request_of h
same_request bytes spans head h at =
    let m = at.method in
    let p = at.path in
    let v = at.version in
    let f = at.fields in
    cc

pub answers_head : (bytes : List ℕ) (spans : List HeaderSpan) (head : RequestSpans) (h : RequestHead) (answer : Answer)
    → IsRequestAt bytes spans head h → Answers (request_in bytes spans head) answer → Answers (request_of h) answer
answers_head bytes spans head h answer at told =
    subst (λ (r : Request). Answers r answer) (same_request bytes spans head h at) told
