use Rattle.code_texts.specs.CodeTexts.{i_text}
use Rattle.code_texts.proofs.codes.i_text.Goals as goal

pub returns : goal.returns
unfolding i_text
returns c = c.text_in.ensures
