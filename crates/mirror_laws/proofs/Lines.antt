-- The lines of replies as they are sent.
use Rattle.std.proofs.Common.{◌≡◌, ◌≢◌, ℕ, zero, suc, ◌-◌, ◌≤◌, List, [], ◌∷◌, All, Bool, true, false, not, ◌==◌, nat_lt, nat_le, Some, None, length, slice_index, take, if◌then◌else◌, refl, ap, ◌∙◌, arith, append_assoc, codes}
use Rattle.std.proofs.lemmas.Bool.{and_parts}
use Rattle.std.proofs.lemmas.Bool.Decides.{nat_tests}
use Rattle.std.proofs.lemmas.List.Elements.{All-nil, All-cons}
use Rattle.line_words.specs.Blanks.{words_of}
use Rattle.line_words.specs.Lines.{ended_line, limited, lines_of, without_cr}
use Rattle.line_words.proofs.PieceLaws.{lines_of-line}
use Rattle.line_words.specs.declared.TheConstants.{MAX_LINE}
use Rattle.follow_command.specs.NewsLines.{is_news_line, leads_news}
use Rattle.reply_laws.proofs.PlainTexts.{is_plain}
use Rattle.mirror_laws.specs.Told.{sent_replies}

no_cr_at : (text : List ℕ) (k : ℕ) → is_plain text ≡ true → (slice_index text k == 13) ≡ false
no_cr_at [] k h = refl
no_cr_at (byte ∷ text) zero h = let b = (and_parts (not (nat_lt byte 32)) (is_plain text) h).0 in grind (arith, nat_tests, b)
no_cr_at (byte ∷ text) (suc k) h = no_cr_at text k (and_parts (not (nat_lt byte 32)) (is_plain text) h).1

chosen : {A : Type 0} (t : Bool) (a b : A) → t ≡ false → (if t then a else b) ≡ b
chosen true a b h = cc
chosen false a b h = refl

-- such a text ends with no carriage return
whole : (text : List ℕ) → is_plain text ≡ true → without_cr text ≡ text
whole text h = chosen (slice_index text (length text - 1) == 13) (take (length text - 1) text) text (no_cr_at text (length text - 1) h)

no_feed : (byte : ℕ) → not (nat_lt byte 32) ≡ true → byte ≢ 10
no_feed byte h is = grind (arith, nat_tests, h, is)

no_feeds : (text : List ℕ) → is_plain text ≡ true → All (λ byte. byte ≢ 10) text
no_feeds [] h = All-nil (λ byte. byte ≢ 10)
no_feeds (byte ∷ text) h =
    let parts = and_parts (not (nat_lt byte 32)) (is_plain text) h in
    All-cons (λ byte. byte ≢ 10) byte text (no_feed byte parts.0) (no_feeds text parts.1)

pub first_line : (reply : List ℕ) (replies : List (List ℕ)) → is_plain reply ≡ true
    → lines_of (sent_replies (reply ∷ replies)) ≡ ended_line (limited reply) ∷ lines_of (sent_replies replies)
first_line reply replies h =
    ap lines_of (append_assoc reply (codes "\n") (sent_replies replies)) ∙ lines_of-line reply (sent_replies replies) (no_feeds reply h)

-- a reply of which the first word is not `news`
pub passed : (reply : List ℕ) → is_plain reply ≡ true → leads_news (words_of reply) ≡ false → is_news_line (ended_line (limited reply)) ≡ false
passed reply h leads = by (nat_le (length reply) MAX_LINE) where
  by : (t : Bool) → is_news_line (ended_line (if t then Some reply else None)) ≡ false
  by true = ap (λ t. leads_news (words_of t)) (whole reply h) ∙ leads
  by false = refl

fits : (t : Bool) (reply : List ℕ) → t ≡ true → (if t then Some reply else None) ≡ Some reply
fits true reply h = refl
fits false reply h = cc

-- a short reply
pub short : (reply : List ℕ) → is_plain reply ≡ true → length reply ≤ MAX_LINE → ended_line (limited reply) ≡ Some reply
short reply h few =
    ap ended_line (fits (nat_le (length reply) MAX_LINE) reply (grind (arith, nat_tests, few))) ∙ ap Some (whole reply h)
