-- The reply to `news` is read again as it was written.
use Rattle.std.proofs.Common.{◌≡◌, ℕ, ◌+◌, ◌≤◌, List, [], ◌∷◌, ◌++◌, true, Option, Some, None, length, refl, sym, ap, ◌∙◌, arith, append_assoc, length-append, codes}
use Rattle.std.specs.Fmt.{decimal}
use Rattle.std.proofs.lemmas.Bool.{le-ltb, lt-ltb}
use Rattle.std.proofs.lemmas.List.{append-nil}
use Rattle.line_words.specs.Blanks.{words_of}
use Rattle.line_words.proofs.DigitLaws.{number_of-decimal}
use Rattle.line_words.proofs.WordLaws.{words_of-word, words_of-last}
use Rattle.edit_calls.specs.declared.asks.Call.{Call}
use Rattle.room_core.specs.declared.entry.Entry.{Entry}
use Rattle.take_back.specs.declared.step.Step.{Step}
use Rattle.line_table.specs.CallTexts.{IsSmall}
use Rattle.line_table.proofs.WrittenParts.{IsWord-decimal, IsWord-tested, length-decimal}
use Rattle.journal_text.specs.declared.news_reply.News.{News}
use Rattle.journal_text.specs.Journals.{entry_text}
use Rattle.journal_text.specs.LooseEntries.{loose_news, loose_numbers, loose_told}
use Rattle.journal_text.specs.NewsTexts.{news_text_of, there_text, AreOneNews, IsNews, IsNoNews, IsThere, NewsFitLines}
use Rattle.journal_text.proofs.EntryLengths.{entry_length, none_feeds}
use Rattle.journal_text.proofs.EntryTexts.{both_plain, entry_plain, entry_told, is_plain, none_named, number_plain, then_plain}

-- the words of the entry, where there is one
abbrev there_words : Option (Entry (Step Call)) → List (List ℕ)
there_words None = []
there_words (Some e) = words_of (entry_text e)

end_words : (n : ℕ) (o : Option (Entry (Step Call))) → IsSmall n → words_of (decimal n ++ there_text o) ≡ decimal n ∷ there_words o
end_words n None h = ap words_of (append-nil (decimal n)) ∙ words_of-last (decimal n) (IsWord-decimal n h)
end_words n (Some e) h = words_of-word (decimal n) 32 (entry_text e) (IsWord-decimal n h) refl

news_parts : (p n t : List ℕ) → codes "news " ++ p ++ codes " " ++ n ++ t ≡ codes "news" ++ 32 ∷ (p ++ 32 ∷ (n ++ t))
news_parts p n t = simp append_assoc refl

news_words : (p n : ℕ) (o : Option (Entry (Step Call))) → IsSmall p → IsSmall n → words_of (news_text_of p n o) ≡ codes "news" ∷ decimal p ∷ decimal n ∷ there_words o
news_words p n o h k =
    ap words_of (news_parts (decimal p) (decimal n) (there_text o))
    ∙ words_of-word (codes "news") 32 (decimal p ++ 32 ∷ (decimal n ++ there_text o)) (IsWord-tested (codes "news") refl) refl
    ∙ ap (λ words. codes "news" ∷ words) (words_of-word (decimal p) 32 (decimal n ++ there_text o) (IsWord-decimal p h) refl)
    ∙ ap (λ words. codes "news" ∷ decimal p ∷ words) (end_words n o k)

told_there : (place_at : List ℕ → Option ℕ) (p n : ℕ) (o : Option (Entry (Step Call))) → IsThere p n o → loose_told place_at p n (there_words o) ≡ Some (record { place = p; length = n; entry = o })
told_there place_at p n None h = let past = le-ltb p n h in rw past refl
told_there place_at p n (Some e) h =
    let below = lt-ltb p n h.0 in
    let read = entry_told place_at e h.1 in
    rw (below, read) refl

numbers_told : (place_at : List ℕ → Option ℕ) (p n : ℕ) (o : Option (Entry (Step Call))) → IsSmall p → IsSmall n → IsThere p n o
    → loose_numbers place_at (decimal p ∷ decimal n ∷ there_words o) ≡ Some (record { place = p; length = n; entry = o })
numbers_told place_at p n o h k there =
    let place = number_of-decimal p h in
    let count = number_of-decimal n k in
    rw (place, count) (told_there place_at p n o there)

-- news are read from their text
news_told : (place_at : List ℕ → Option ℕ) (m : News) → IsNews m → loose_news place_at (words_of (news_text_of m.place m.length m.entry)) ≡ Some m
news_told place_at m h =
    ap (loose_news place_at) (news_words m.place m.length m.entry h.place h.length)
    ∙ numbers_told place_at m.place m.length m.entry h.place h.length h.there

-- a line that is no news however it is spelled, or that is news and is not their text
pub none_news : (place_at : List ℕ → Option ℕ) (line : List ℕ) → None ≡ loose_news place_at (words_of line) → IsNoNews line
none_news place_at line none = λ m has same.
    let told = news_told place_at m has in
    let read = ap (λ l. loose_news place_at (words_of l)) same in
    let both : None ≡ Some m = none ∙ read ∙ told in
    absurd cc

pub other_news : (place_at : List ℕ → Option ℕ) (line : List ℕ) (m : News) → Some m ≡ loose_news place_at (words_of line)
    → (news_text_of m.place m.length m.entry ≡ line → ⊥) → IsNoNews line
other_news place_at line m is other = λ k has same.
    let told = news_told place_at k has in
    let read = ap (λ l. loose_news place_at (words_of l)) same in
    let both : Some m ≡ Some k = is ∙ read ∙ told in
    let news : m ≡ k = cc in
    other (ap (λ (x : News). news_text_of x.place x.length x.entry) news ∙ sym same)

pub one_news : AreOneNews
one_news m k h j same =
    let first = news_told none_named m h in
    let second = news_told none_named k j in
    let words = ap (λ text. loose_news none_named (words_of text)) same in
    let both : Some m ≡ Some k = sym first ∙ words ∙ second in
    cc

-- news are a line
there_length : (p n : ℕ) (o : Option (Entry (Step Call))) → IsThere p n o → length (there_text o) ≤ 480
there_length p n None h = omega arith
there_length p n (Some e) h =
    let whole = entry_length e h.1 in
    let feed = length-append (entry_text e) (codes "\n") in
    let space = length-append (codes " ") (entry_text e) in
    omega (arith, whole, feed, space)

news_short : (p n : ℕ) (o : Option (Entry (Step Call))) → IsSmall p → IsSmall n → IsThere p n o → length (news_text_of p n o) ≤ 1024
news_short p n o h k there =
    omega (arith, length-all (decimal p) (decimal n) (there_text o), length-decimal p h, length-decimal n k, there_length p n o there)
  where
    length-all : (a b t : List ℕ) → length (codes "news " ++ a ++ codes " " ++ b ++ t) ≡ length a + length b + length t + 6
    length-all a b t = simp length-append (omega arith)

there_plain : (p n : ℕ) (o : Option (Entry (Step Call))) → IsThere p n o → is_plain (there_text o) ≡ true
there_plain p n None h = refl
there_plain p n (Some e) h = both_plain (codes " ") (entry_text e) refl (entry_plain e h.1)

news_plain : (p n : ℕ) (o : Option (Entry (Step Call))) → IsSmall p → IsSmall n → IsThere p n o → is_plain (news_text_of p n o) ≡ true
news_plain p n o h k there =
    both_plain (codes "news " ++ decimal p ++ codes " " ++ decimal n) (there_text o)
    (then_plain (codes "news " ++ decimal p) (decimal n) (number_plain p h) (number_plain n k))
    (there_plain p n o there)

pub fit_lines : NewsFitLines
fit_lines m h = record {
  short = news_short m.place m.length m.entry h.place h.length h.there;
  one = none_feeds (news_text_of m.place m.length m.entry) (news_plain m.place m.length m.entry h.place h.length h.there);
}
