use Rattle.code_texts.specs.CodeTexts.{j_text}
use Rattle.code_texts.proofs.codes.j_text.Goals as goal

pub returns : goal.returns
unfolding j_text
returns c = c.text_in.ensures
