-- The head of the response with the page.
use Rattle.std.proofs.Common.{◌≡◌, ℕ, List, [], ◌++◌, length, ap, ◌∙◌}
use Rattle.std.specs.Prelude.{codes, decimal}
use Rattle.http1.specs.Head.{response_text}
use Rattle.web_lines.specs.declared.responses.Page.{Page}
use Rattle.web_lines.specs.Responses.{common_fields, page_bytes, page_fields, page_head}

-- by how many bytes the page has, in decimal, and its policy
abbrev head_text : List ℕ → List ℕ → List ℕ
head_text len policy = response_text 1 200 (codes "OK") (common_fields len ++ page_fields policy)

pub head_of_page : (written start len policy : List ℕ) (page : Page) → start ≡ [] → len ≡ decimal (length (page_bytes page.pieces.now)) → policy ≡ page.policy.now
    → written ≡ start ++ response_text 1 200 (codes "OK") (common_fields len ++ page_fields policy) → written ≡ page_head page
head_of_page written start len policy page none counted same says =
    says ∙ (ap (λ s. s ++ head_text len policy) none
    ∙ (ap (λ l. head_text l policy) counted ∙ ap (λ p. head_text (decimal (length (page_bytes page.pieces.now))) p) same))
