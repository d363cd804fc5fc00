-- The fault of a line with a word that is no number: B3 where it is not spelled as one, B4 where it is past its bound.
use Rattle.line_words.specs.declared.numbers.NumberFault.{NumberFault}
use Rattle.line_words.specs.declared.numbers.NumberFault.TheVariants.{NotANumber, TooLarge}
use Rattle.protocol_parts.specs.declared.line_fault.LineFault.{LineFault}
use Rattle.protocol_parts.specs.declared.line_fault.LineFault.TheVariants.{B3, B4}

abbrev pub number_fault : NumberFault → LineFault
number_fault NotANumber = B3
number_fault TooLarge = B4
