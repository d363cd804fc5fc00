use Rattle.code_texts.specs.CodeTexts.{v_text}
use Rattle.code_texts.proofs.codes.v_text.Goals as goal

pub returns : goal.returns
unfolding v_text
returns c = c.text_in.ensures
