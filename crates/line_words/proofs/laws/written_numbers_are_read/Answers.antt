use Rattle.line_words.proofs.DigitLaws.{number_of-decimal, signed_of-signed_decimal}
use Rattle.line_words.proofs.laws.written_numbers_are_read.Goals as goal

pub returns-clause-unsigned : goal.returns-clause-unsigned
returns-clause-unsigned c = number_of-decimal

pub returns-clause-signed : goal.returns-clause-signed
returns-clause-signed c = signed_of-signed_decimal
