-- The reply to an edit or to the taking back of one, and to a line that is none of the table.
use Rattle.std.specs.Prelude.{ℕ, ℤ, List, [], ◌++◌, codes, decimal}
use Rattle.std.specs.Fmt.{signed_decimal}
use Rattle.composables.specs.declared.refusals.Done.{Done}
use Rattle.composables.specs.declared.refusals.Done.TheVariants.{Plain, Item, By, Linked}
use Rattle.composables.specs.declared.refusals.Refusal.{Refusal}
use Rattle.composables.specs.declared.refusals.Refusal.TheVariants.{NoTrack, NoItem, NoMedia, EmptyRange, MediaEnds, NotAGap, NotACut, DissolveRoom, OffsetsDiffer, AlreadyLinked, LinkOutside, LinkBroken, TooLong, TooManyItems}
use Rattle.composables.specs.declared.refusals.Which.TheVariants.{Left, Right}
use Rattle.edit_calls.specs.declared.asks.Ask.{Ask}
use Rattle.edit_calls.specs.declared.asks.Seen.{Seen}
use Rattle.edit_calls.specs.declared.asks.AskRefusal.{AskRefusal}
use Rattle.cut_steps.specs.CutSteps.{CutObject, CutStep, KeptTrack, StepDone, StepRefusal}
use Rattle.take_back.specs.declared.answers.BackDone.TheVariants as step_done
use Rattle.take_back.specs.declared.answers.BackRefusal.TheVariants as step_refusal
use Rattle.cut_room.specs.declared.answers.Answer.{Answer}
use Rattle.cut_room.specs.declared.answers.Answer.TheVariants as answer
use Rattle.protocol_parts.specs.declared.line_fault.LineFault.{LineFault}
use Rattle.protocol_parts.specs.declared.line_fault.LineFault.TheVariants as line

-- a link: its home track, a dot, and its number there
abbrev pub link_text : ℕ → ℕ → List ℕ
link_text home number = decimal home ++ codes "." ++ decimal number

-- two offsets
abbrev pub offsets_text : ℤ → ℤ → List ℕ
offsets_text first second = signed_decimal first ++ codes " " ++ signed_decimal second

-- what an edit did
abbrev pub own_done_text : Done → List ℕ
own_done_text Plain = []
own_done_text (Item item) = codes " item " ++ decimal item
own_done_text (By delta) = codes " by " ++ signed_decimal delta
own_done_text (Linked home number) = codes " link " ++ link_text home number

-- what a step did: what its edit did, and nothing more is said where one was taken back
abbrev pub done_text : StepDone → List ℕ
done_text (step_done.Own done) = own_done_text done
done_text step_done.Plain = []

-- why an edit was refused
abbrev pub own_refusal_text : Refusal → List ℕ
own_refusal_text (NoTrack track) = codes " E1 " ++ decimal track
own_refusal_text NoItem = codes " E2"
own_refusal_text NoMedia = codes " E3"
own_refusal_text EmptyRange = codes " E4"
own_refusal_text MediaEnds = codes " E5"
own_refusal_text (NotAGap place) = codes " E6 " ++ decimal place
own_refusal_text (NotACut place) = codes " E7 " ++ decimal place
own_refusal_text (DissolveRoom Left) = codes " E8 left"
own_refusal_text (DissolveRoom Right) = codes " E8 right"
own_refusal_text (OffsetsDiffer first other) = codes " E9 " ++ offsets_text first other
own_refusal_text (AlreadyLinked track item) =
    codes " E10 " ++ decimal track ++ codes " " ++ decimal item
own_refusal_text (LinkOutside home number track) =
    codes " E11 " ++ link_text home number ++ codes " " ++ decimal track
own_refusal_text (LinkBroken home number old new) =
    codes " E12 " ++ link_text home number ++ codes " " ++ offsets_text old new
own_refusal_text (TooLong track) = codes " E13 " ++ decimal track
own_refusal_text (TooManyItems track) = codes " E14 " ++ decimal track

-- why a step was refused: why its edit was, or the first track that is not there, whose last edit was not the
-- station's, or whose last edit named other tracks
abbrev pub refusal_text : StepRefusal → List ℕ
refusal_text (step_refusal.Own refusal) = own_refusal_text refusal
refusal_text (step_refusal.NoPart track) = codes " E1 " ++ decimal track
refusal_text (step_refusal.NotYours track) = codes " E16 " ++ decimal track
refusal_text (step_refusal.OtherTracks track) = codes " E17 " ++ decimal track

-- what a step is answered in a room of tracks
abbrev pub EditAnswer : Type 0
EditAnswer = Answer CutObject KeptTrack CutStep StepDone StepRefusal Ask Seen AskRefusal

-- the reply to an edit, or to the taking back of one
abbrev pub answer_text_of : EditAnswer → List ℕ
answer_text_of (answer.Done point done) = codes "ok " ++ decimal point ++ done_text done
answer_text_of (answer.Refused point refusal) = codes "no " ++ decimal point ++ refusal_text refusal
answer_text_of (answer.Full point) = codes "no " ++ decimal point ++ codes " E15"
answer_text_of answer.Memory = codes "memory"

-- the reply to a line that is none of the table
abbrev pub fault_of : LineFault → List ℕ
fault_of line.B1 = codes "bad B1"
fault_of line.B2 = codes "bad B2"
fault_of line.B3 = codes "bad B3"
fault_of line.B4 = codes "bad B4"
fault_of line.B5 = codes "bad B5"
fault_of line.B6 = codes "bad B6"
fault_of line.Memory = codes "memory"
