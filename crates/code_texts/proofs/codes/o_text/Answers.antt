use Rattle.code_texts.specs.CodeTexts.{o_text}
use Rattle.code_texts.proofs.codes.o_text.Goals as goal

pub returns : goal.returns
unfolding o_text
returns c = c.text_in.ensures
