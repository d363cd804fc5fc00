use Rattle.code_texts.specs.CodeTexts.{h_text}
use Rattle.code_texts.proofs.codes.h_text.Goals as goal

pub returns : goal.returns
unfolding h_text
returns c = c.text_in.ensures
