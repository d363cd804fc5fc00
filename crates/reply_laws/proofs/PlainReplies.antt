-- No line feed stands in the reply to an edit, nor in that to a line which is none of the table.
use Rattle.std.proofs.Common.{◌≡◌, ℕ, ℤ, List, ◌++◌, true, refl, codes}
use Rattle.std.specs.Fmt.{decimal, signed_decimal}
use Rattle.composables.specs.declared.refusals.Done.{Done}
use Rattle.composables.specs.declared.refusals.Done.TheVariants as done
use Rattle.composables.specs.declared.refusals.Refusal.{Refusal}
use Rattle.composables.specs.declared.refusals.Refusal.TheVariants as refusal
use Rattle.composables.specs.declared.refusals.Which.TheVariants.{Left, Right}
use Rattle.cut_room.specs.declared.answers.Answer.TheVariants as answer
use Rattle.cut_steps.specs.CutSteps.{StepDone, StepRefusal}
use Rattle.protocol_parts.specs.declared.line_fault.LineFault.{LineFault}
use Rattle.protocol_parts.specs.declared.line_fault.LineFault.TheVariants as line
use Rattle.take_back.specs.declared.answers.BackDone.TheVariants as step_done
use Rattle.take_back.specs.declared.answers.BackRefusal.TheVariants as step_refusal
use Rattle.reply_text.specs.Replies.{EditAnswer, answer_text_of, done_text, fault_of, link_text, offsets_text, own_done_text, own_refusal_text, refusal_text}
use Rattle.reply_laws.proofs.PlainTexts.{is_plain, number, signed, split}

own_done : (d : Done) → is_plain (own_done_text d) ≡ true
own_done done.Plain = refl
own_done (done.Item item) = number item
own_done (done.By delta) = signed delta
own_done (done.Linked home k) = simp (split, number) refl

done_plain : (d : StepDone) → is_plain (done_text d) ≡ true
done_plain (step_done.Own d) = own_done d
done_plain step_done.Plain = refl

own_refused : (r : Refusal) → is_plain (own_refusal_text r) ≡ true
own_refused (refusal.NoTrack track) = number track
own_refused refusal.NoItem = refl
own_refused refusal.NoMedia = refl
own_refused refusal.EmptyRange = refl
own_refused refusal.MediaEnds = refl
own_refused (refusal.NotAGap place) = number place
own_refused (refusal.NotACut place) = number place
own_refused (refusal.DissolveRoom Left) = refl
own_refused (refusal.DissolveRoom Right) = refl
own_refused (refusal.OffsetsDiffer first other) = simp (split, signed) refl
own_refused (refusal.AlreadyLinked track item) = simp (split, number) refl
own_refused (refusal.LinkOutside home k track) = simp (split, number) refl
own_refused (refusal.LinkBroken home k old new) = simp (split, number, signed) refl
own_refused (refusal.TooLong track) = number track
own_refused (refusal.TooManyItems track) = number track

refused : (r : StepRefusal) → is_plain (refusal_text r) ≡ true
refused (step_refusal.Own r) = own_refused r
refused (step_refusal.NoPart track) = number track
refused (step_refusal.NotYours track) = number track
refused (step_refusal.OtherTracks track) = number track

pub answered : (a : EditAnswer) → is_plain (answer_text_of a) ≡ true
answered (answer.Done point d) = simp (split, number, done_plain) refl
answered (answer.Refused point r) = simp (split, number, refused) refl
answered (answer.Full point) = simp (split, number) refl
answered answer.Memory = refl

pub fault : (f : LineFault) → is_plain (fault_of f) ≡ true
fault line.B1 = refl
fault line.B2 = refl
fault line.B3 = refl
fault line.B4 = refl
fault line.B5 = refl
fault line.B6 = refl
fault line.Memory = refl

-- the replies to `otio`
pub document : (n : ℕ) (text : List ℕ) → is_plain text ≡ true → is_plain (codes "otio " ++ decimal n ++ codes " " ++ text) ≡ true
document n text h = simp (split, number, h) refl

pub too_long : (n : ℕ) → is_plain (codes "no " ++ decimal n ++ codes " V4") ≡ true
too_long n = simp (split, number) refl

pub past_end : (n : ℕ) → is_plain (codes "no " ++ decimal n ++ codes " V3") ≡ true
past_end n = simp (split, number) refl
