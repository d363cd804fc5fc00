use Rattle.std.proofs.Common.{◌≡◌, ℕ, ◌<◌, ◌^◌, List, [], ◌∷◌, ◌++◌, inl, inr, Some, None, codes, refl, sym, ap, ◌∙◌, append_assoc}
use Rattle.std.proofs.lemmas.List.{append-nil}
use Rattle.std.specs.Fmt.{decimal}
use Rattle.edit_calls.specs.declared.asks.Seen.{Seen}
use Rattle.edit_calls.specs.declared.asks.Seen.TheVariants.{Runs, Items}
use Rattle.journal_text.specs.NewsTexts.{there_text}
use Rattle.line_table.proofs.WrittenParts.{IsWord-tested}
use Rattle.protocol_parts.specs.declared.line_fault.LineFault.{LineFault}
use Rattle.protocol_parts.specs.declared.line_fault.LineFault.TheVariants as line
use Rattle.recorded_sessions.specs.Naming.{point_named}
use Rattle.reply_text.specs.Replies.{fault_of}
use Rattle.reply_text.specs.Sights.{seen_text}
use Rattle.point_laws.proofs.Points.{second, third}
use Rattle.point_laws.proofs.Rests.{after_done, after_items, after_news, after_refused, after_runs, after_unseen}
use Rattle.point_laws.proofs.laws.replies_name_their_points.Goals as goal

pub returns-clause-done : goal.returns-clause-done
returns-clause-done c = λ n d h. second (codes "ok") (IsWord-tested (codes "ok") refl) refl n _ h (after_done d)

pub returns-clause-refused : goal.returns-clause-refused
returns-clause-refused c = λ n r h. second (codes "no") (IsWord-tested (codes "no") refl) refl n _ h (after_refused r)

pub returns-clause-full : goal.returns-clause-full
returns-clause-full c = λ n h. second (codes "no") (IsWord-tested (codes "no") refl) refl n _ h (inr (_, refl))

seen_point : (n : ℕ) (s : Seen) → n < 2 ^ 32 → point_named (seen_text n s) ≡ Some n
seen_point n (Runs runs) h = second (codes "seen") (IsWord-tested (codes "seen") refl) refl n _ h (after_runs runs)
seen_point n (Items views) h = second (codes "items") (IsWord-tested (codes "items") refl) refl n _ h (after_items views)

pub returns-clause-seen : goal.returns-clause-seen
returns-clause-seen c = λ n s h. seen_point n s h

pub returns-clause-unseen : goal.returns-clause-unseen
returns-clause-unseen c = λ n r h. second (codes "no") (IsWord-tested (codes "no") refl) refl n _ h (after_unseen r)

pub returns-clause-point : goal.returns-clause-point
returns-clause-point c = λ n h.
    ap (λ t. point_named (codes "point " ++ t)) (sym (append-nil (decimal n)))
    ∙ second (codes "point") (IsWord-tested (codes "point") refl) refl n [] h (inl refl)

news_parts : (p n t : List ℕ) → codes "news " ++ p ++ codes " " ++ n ++ t ≡ codes "news" ++ 32 ∷ (p ++ 32 ∷ (n ++ t))
news_parts p n t = simp append_assoc refl

pub returns-clause-news : goal.returns-clause-news
returns-clause-news c = λ place n entry h k.
    ap point_named (news_parts (decimal place) (decimal n) (there_text entry)) ∙ third place n (there_text entry) h k (after_news entry)

document_parts : (d text : List ℕ) → codes "otio " ++ d ++ codes " " ++ text ≡ codes "otio" ++ 32 ∷ (d ++ 32 ∷ text)
document_parts d text = simp append_assoc refl

pub returns-clause-document : goal.returns-clause-document
returns-clause-document c = λ n text h.
    ap point_named (document_parts (decimal n) text)
    ∙ second (codes "otio") (IsWord-tested (codes "otio") refl) refl n (32 ∷ text) h (inr (text, refl))

pub returns-clause-too_long : goal.returns-clause-too_long
returns-clause-too_long c = λ n h. second (codes "no") (IsWord-tested (codes "no") refl) refl n _ h (inr (_, refl))

pub returns-clause-past_end : goal.returns-clause-past_end
returns-clause-past_end c = λ n h. second (codes "no") (IsWord-tested (codes "no") refl) refl n _ h (inr (_, refl))

no_point : (f : LineFault) → point_named (fault_of f) ≡ None
no_point line.B1 = refl
no_point line.B2 = refl
no_point line.B3 = refl
no_point line.B4 = refl
no_point line.B5 = refl
no_point line.B6 = refl
no_point line.Memory = refl

pub returns-clause-none : goal.returns-clause-none
returns-clause-none c = no_point
