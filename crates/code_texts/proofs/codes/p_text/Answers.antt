use Rattle.code_texts.specs.CodeTexts.{p_text}
use Rattle.code_texts.proofs.codes.p_text.Goals as goal

pub returns : goal.returns
unfolding p_text
returns c = c.text_in.ensures
