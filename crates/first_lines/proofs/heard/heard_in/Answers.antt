use Rattle.std.proofs.Common.{sym, ap, ◌∙◌, subst, List, ℕ, Some}
use Rattle.first_lines.specs.FirstLines.{HearsRequest}
use Rattle.first_lines.proofs.Hearing.{of_request}
use Rattle.first_lines.proofs.heard.heard_in.Goals as goal

pub returns-in-Some-Http-clause-request : goal.returns-in-Some-Http-clause-request
returns-in-Some-Http-clause-request c = λ talks.
    subst (λ (t : List ℕ). HearsRequest t c.request_in.result) c.front_of.ensures.front c.request_in.ensures

pub returns-in-Some-Http-clause-heard : goal.returns-in-Some-Http-clause-heard
returns-in-Some-Http-clause-heard c =
    of_request c.args.text.now c.request_in.result (sym c.talk_of.ensures ∙ (c.in-Some-Http.is ∙ ap Some c.in-Some-Http.field-0-is))
    (subst (λ (t : List ℕ). HearsRequest t c.request_in.result) c.front_of.ensures.front c.request_in.ensures)
