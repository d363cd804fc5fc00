-- The one first word that a word can be, and no other.
use Rattle.std.proofs.Common.{◌≡◌, ℕ, List, Option, Some, None, false, length, get_or, refl, sym, ap, ◌∙◌}
use Rattle.std.proofs.lemmas.Slice.Eq.{bytes_eq-Decides}
use Rattle.std.specs.Str.{bytes_eq}
use Rattle.line_table.specs.declared.first_words.FirstWord.{FirstWord}
use Rattle.line_table.specs.declared.first_words.FirstWord.TheVariants as first_word
use Rattle.line_table.specs.LikelyWords.{likely}
use Rattle.line_table.specs.Reading.{first_word_of}
use Rattle.line_table.specs.Table.{word_of}
use Rattle.line_table.proofs.TableLaws.{first_spelled, some_same}

-- a first word is the one that it can be
likely_of : (k : FirstWord) (a b d : ℕ) → likely (length (word_of k)) (get_or (word_of k) 0 a) (get_or (word_of k) 1 b) (get_or (word_of k) 3 d) ≡ Some k
likely_of first_word.Overwrite a b d = refl
likely_of first_word.Insert a b d = refl
likely_of first_word.Remove a b d = refl
likely_of first_word.Extract a b d = refl
likely_of first_word.Slice a b d = refl
likely_of first_word.Dissolve a b d = refl
likely_of first_word.Undissolve a b d = refl
likely_of first_word.Trim a b d = refl
likely_of first_word.Slip a b d = refl
likely_of first_word.Roll a b d = refl
likely_of first_word.Slide a b d = refl
likely_of first_word.Fill a b d = refl
likely_of first_word.Ripple a b d = refl
likely_of first_word.Link a b d = refl
likely_of first_word.Unlink a b d = refl
likely_of first_word.Back a b d = refl
likely_of first_word.View a b d = refl
likely_of first_word.Items a b d = refl
likely_of first_word.Point a b d = refl
likely_of first_word.Otio a b d = refl
likely_of first_word.News a b d = refl

only_likely : (word : List ℕ) (k : FirstWord) (o : Option FirstWord) (a b d : ℕ) → first_word_of word ≡ o
    → likely (length word) (get_or word 0 a) (get_or word 1 b) (get_or word 3 d) ≡ Some k → (word ≡ word_of k → ⊥) → o ≡ None
only_likely word k None a b d is can differs = refl
only_likely word k (Some j) a b d is can differs =
    let same = first_spelled word j is in
    let found = rw same at can in
    let one : j ≡ k = some_same j k (sym (likely_of j a b d) ∙ found) in
    absurd (differs (same ∙ ap word_of one))

-- a word that is not the one that it can be is none
pub none_likely : (word text : List ℕ) (k : FirstWord) (a b d : ℕ) → likely (length word) (get_or word 0 a) (get_or word 1 b) (get_or word 3 d) ≡ Some k
    → text ≡ word_of k → bytes_eq word text ≡ false → None ≡ first_word_of word
none_likely word text k a b d can is other =
    sym (only_likely word k (first_word_of word) a b d refl can (λ same. let test = (bytes_eq-Decides word text).1 (same ∙ sym is) in absurd cc))
