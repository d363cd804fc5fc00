use Rattle.std.proofs.Common.{List, ℕ, ap, ◌∙◌}
use Rattle.line_words.specs.Blanks.{words_of}
use Rattle.edl_lines.specs.EventLines.{words_say}
use Rattle.edl_lines.proofs.WordFacts.{kept_words}
use Rattle.edl_lines.proofs.said.line_says.Goals as goal

pub returns-clause-read : goal.returns-clause-read
returns-clause-read c =
    c.words_say.ensures.read
    ∙ (ap (λ (words : List (List ℕ)). words_say c.args.rate c.args.counting.now c.args.end words) (c.as_slice.ensures ∙ c.first_words-words.ensures)
    ∙ kept_words c.args.rate c.args.counting.now c.args.end (words_of c.args.text.now))
