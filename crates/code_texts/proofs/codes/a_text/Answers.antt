use Rattle.code_texts.specs.CodeTexts.{a_text}
use Rattle.code_texts.proofs.codes.a_text.Goals as goal

pub returns : goal.returns
unfolding a_text
returns c = c.text_in.ensures
