use Rattle.code_texts.specs.CodeTexts.{status_text_of}
use Rattle.code_texts.proofs.codes.status_text_of.Goals as goal

pub returns : goal.returns
unfolding status_text_of
returns c = c.text_in.ensures
