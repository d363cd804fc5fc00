use Rattle.code_texts.specs.CodeTexts.{e_text}
use Rattle.code_texts.proofs.codes.e_text.Goals as goal

pub returns : goal.returns
unfolding e_text
returns c = c.text_in.ensures
