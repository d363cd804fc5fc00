use Rattle.code_texts.specs.CodeTexts.{b_text}
use Rattle.code_texts.proofs.codes.b_text.Goals as goal

pub returns : goal.returns
unfolding b_text
returns c = c.text_in.ensures
