use Rattle.code_texts.specs.CodeTexts.{l_text}
use Rattle.code_texts.proofs.codes.l_text.Goals as goal

pub returns : goal.returns
unfolding l_text
returns c = c.text_in.ensures
