-- What the words of a line of a crew's file say.
use Rattle.std.specs.Prelude.{◌≡◌, ℕ, List, [], ◌∷◌, Err}
use Rattle.crew_words.specs.Crews.{MemberState, words_read}
use Rattle.crew_words.specs.declared.crew.CrewFault.TheVariants.{Line}
use Rattle.crew_words.specs.declared.crew.Said.{Said}
use Rattle.crew_words.specs.declared.crew.Said.TheVariants as said

abbrev pub Says : List (List ℕ) → Said → Type 0
Says words said.Nothing = words ≡ []
Says words (said.Pair name key) = words ≡ name.now ∷ key.now ∷ []
Says words said.Other = (crew : List MemberState) (number : ℕ) → words_read crew number words ≡ Err (Line number)
