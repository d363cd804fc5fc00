use Rattle.crew_words.proofs.Names.{crew_sound}
use Rattle.crew_words.proofs.laws.each_member_has_a_name_of_its_own.Goals as goal

pub returns : goal.returns
returns c = record {
  enough = λ stations text crew h. (crew_sound stations text crew h).enough;
  names = λ stations text crew h. (crew_sound stations text crew h).names;
}
