use Rattle.std.proofs.Common.{◌<◌, ◌^◌, ℕ, List, All, [], length, refl, subst, arith}
use Rattle.cut_steps.specs.CutSteps.{CutStep}
use Rattle.follow_command.specs.Follows.{IsStreamOf}
use Rattle.follow_command.specs.Fronts.{IsFront}
use Rattle.follow_command.proofs.FrontLaws.{front}
use Rattle.journal_text.specs.Journals.{HasLine}
use Rattle.room_core.specs.declared.entry.Entry.{Entry}
use Rattle.mirror_laws.specs.Told.{IsReplyOf, sent_replies}
use Rattle.mirror_laws.proofs.Streams.{are_of}
use Rattle.mirror_laws.proofs.Transcripts.{replies_of, sent_so}
use Rattle.mirror_laws.proofs.laws.mirrors_are_fronts_of_their_room.Goals as goal

of_replies : (h entries : List (Entry CutStep)) (replies : List (List ℕ)) → All HasLine h → length h < 2 ^ 32 → All (IsReplyOf h) replies
    → IsStreamOf (sent_replies replies) entries → IsFront entries h
of_replies h entries replies all few are stream = front h [] entries stream.items (h, refl) (are_of h replies stream.items all few are stream.told) stream.follows

pub returns-clause-replies : goal.returns-clause-replies
returns-clause-replies c = of_replies

pub returns-clause-station : goal.returns-clause-station
returns-clause-station c = λ o h from station lines replies entries legal all told stream.
    of_replies h entries replies all (omega (arith, legal.within)) (replies_of o h from station lines replies told)
    (subst (λ (text : List ℕ). IsStreamOf text entries) (sent_so replies) stream)
