use Rattle.code_texts.specs.CodeTexts.{k_text}
use Rattle.code_texts.proofs.codes.k_text.Goals as goal

pub returns : goal.returns
unfolding k_text
returns c = c.text_in.ensures
