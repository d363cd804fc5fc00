use Rattle.code_texts.specs.CodeTexts.{m_text}
use Rattle.code_texts.proofs.codes.m_text.Goals as goal

pub returns : goal.returns
unfolding m_text
returns c = c.text_in.ensures
