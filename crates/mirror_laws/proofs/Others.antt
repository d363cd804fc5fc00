-- A reply of another kind has no control character, and its first word is not `news`.
use Rattle.std.proofs.Common.{◌≡◌, ℕ, ◌<◌, inl, inr, List, [], ◌∷◌, ◌++◌, All, Bool, true, false, not, bytes_eq, length, refl, ap, ◌∙◌, arith, codes}
use Rattle.std.specs.Fmt.{decimal}
use Rattle.std.specs.List.{list_all, flat_map}
use Rattle.std.proofs.lemmas.Bool.{and_parts}
use Rattle.std.proofs.lemmas.List.Elements.{All-nil, All-cons}
use Rattle.line_words.specs.Blanks.{IsWord, is_blank, words_of}
use Rattle.line_words.proofs.WordLaws.{words_of-word}
use Rattle.cut_room.specs.declared.answers.Answer.TheVariants as answer
use Rattle.cut_room.specs.declared.answers.Sight.TheVariants as sight
use Rattle.edit_calls.specs.declared.asks.Seen.TheVariants.{Runs, Items}
use Rattle.follow_command.specs.NewsLines.{leads_news}
use Rattle.otio_text.specs.Documents.{timeline_text}
use Rattle.protocol_parts.specs.declared.line_fault.LineFault.{LineFault}
use Rattle.protocol_parts.specs.declared.line_fault.LineFault.TheVariants as line
use Rattle.line_table.proofs.WrittenParts.{none_blank}
use Rattle.reply_text.specs.Replies.{EditAnswer, answer_text_of, done_text, fault_of, refusal_text}
use Rattle.reply_text.specs.Sights.{TrackSight, ask_refusal_text, item_text, run_text, sight_text_of}
use Rattle.reply_laws.proofs.PlainDocuments.{document_plain}
use Rattle.reply_laws.proofs.PlainReplies.{answered, document, fault, past_end, too_long}
use Rattle.reply_laws.proofs.PlainSights.{sighted}
use Rattle.reply_laws.proofs.PlainTexts.{is_plain, number, split}
use Rattle.mirror_laws.specs.Told.{IsOtherReply}

-- a word of these bytes
pub is_word : (word : List ℕ) → 0 < length word → list_all (λ byte. not (is_blank byte)) word ≡ true → IsWord word
is_word word some none = record { filled = some; no_blank = none_blank word none }

-- a text that begins with a word and a space
pub leads_by : (word rest : List ℕ) → 0 < length word → list_all (λ byte. not (is_blank byte)) word ≡ true
    → leads_news (words_of (word ++ 32 ∷ rest)) ≡ bytes_eq word (codes "news")
leads_by word rest some none = ap leads_news (words_of-word word 32 rest (is_word word some none) refl)

answer_leads : (a : EditAnswer) → leads_news (words_of (answer_text_of a)) ≡ false
answer_leads (answer.Done point d) = leads_by (codes "ok") (decimal point ++ done_text d) (omega arith) refl
answer_leads (answer.Refused point r) = leads_by (codes "no") (decimal point ++ refusal_text r) (omega arith) refl
answer_leads (answer.Full point) = leads_by (codes "no") (decimal point ++ codes " E15") (omega arith) refl
answer_leads answer.Memory = refl

sight_leads : (s : TrackSight) → leads_news (words_of (sight_text_of s)) ≡ false
sight_leads (sight.Seen point (Runs rs)) = leads_by (codes "seen") (decimal point ++ flat_map run_text rs) (omega arith) refl
sight_leads (sight.Seen point (Items views)) = leads_by (codes "items") (decimal point ++ flat_map item_text views) (omega arith) refl
sight_leads (sight.Refused point r) = leads_by (codes "no") (decimal point ++ ask_refusal_text r) (omega arith) refl
sight_leads sight.Memory = refl

fault_leads : (f : LineFault) → leads_news (words_of (fault_of f)) ≡ false
fault_leads line.B1 = refl
fault_leads line.B2 = refl
fault_leads line.B3 = refl
fault_leads line.B4 = refl
fault_leads line.B5 = refl
fault_leads line.B6 = refl
fault_leads line.Memory = refl

point_leads : (n : ℕ) → leads_news (words_of (codes "point " ++ decimal n)) ≡ false
point_leads n = leads_by (codes "point") (decimal n) (omega arith) refl

document_leads : (n : ℕ) (text : List ℕ) → leads_news (words_of (codes "otio " ++ decimal n ++ codes " " ++ text)) ≡ false
document_leads n text = leads_by (codes "otio") (decimal n ++ codes " " ++ text) (omega arith) refl

long_leads : (n : ℕ) → leads_news (words_of (codes "no " ++ decimal n ++ codes " V4")) ≡ false
long_leads n = leads_by (codes "no") (decimal n ++ codes " V4") (omega arith) refl

end_leads : (n : ℕ) → leads_news (words_of (codes "no " ++ decimal n ++ codes " V3")) ≡ false
end_leads n = leads_by (codes "no") (decimal n ++ codes " V3") (omega arith) refl

-- both of a reply
pub record IsNone (reply : List ℕ) : Type 0 where
  pub plain : is_plain reply ≡ true
  pub leads : leads_news (words_of reply) ≡ false

so : (reply text : List ℕ) → reply ≡ text → is_plain text ≡ true → leads_news (words_of text) ≡ false → IsNone reply
so reply text is plain leads = record { plain = ap is_plain is ∙ plain; leads = ap (λ t. leads_news (words_of t)) is ∙ leads }

pub other : (reply : List ℕ) → IsOtherReply reply → IsNone reply
other reply r = elim r [
  | inl a ↦ so reply (answer_text_of a.0) a.1 (answered a.0) (answer_leads a.0)
  | inr r ↦ elim r [
    | inl s ↦ so reply (sight_text_of s.0) s.1 (sighted s.0) (sight_leads s.0)
    | inr r ↦ elim r [
      | inl f ↦ so reply (fault_of f.0) f.1 (fault f.0) (fault_leads f.0)
      | inr r ↦ elim r [
        | inl n ↦ so reply (codes "point " ++ decimal n.0) n.1 (number n.0) (point_leads n.0)
        | inr r ↦ elim r [
          | inl d ↦ so reply (codes "otio " ++ decimal d.point ++ codes " " ++ timeline_text d.table d.tracks d.counting d.start) d.reply_is
              (document d.point (timeline_text d.table d.tracks d.counting d.start) (document_plain d.table d.tracks d.counting d.start))
              (document_leads d.point (timeline_text d.table d.tracks d.counting d.start))
          | inr r ↦ elim r [
            | inl n ↦ so reply (codes "no " ++ decimal n.0 ++ codes " V4") n.1 (too_long n.0) (long_leads n.0)
            | inr n ↦ so reply (codes "no " ++ decimal n.0 ++ codes " V3") n.1 (past_end n.0) (end_leads n.0)
          ]
        ]
      ]
    ]
  ]
]
