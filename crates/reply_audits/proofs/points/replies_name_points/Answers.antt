use Rattle.std.proofs.Common.{◌≡◌, ℕ, ◌<◌, ◌^◌, ◌++◌, List, Bool, true, false, Some, Result, Ok, Err, cond, length, nat_le, arith}
use Rattle.std.specs.Prelude.{codes, decimal}
use Rattle.cut_room.specs.declared.answers.Answer.TheVariants as answer
use Rattle.cut_room.specs.declared.answers.Sight.TheVariants as sight
use Rattle.cut_steps.specs.CutSteps.{StepDone, StepRefusal}
use Rattle.edit_calls.specs.declared.asks.AskRefusal.{AskRefusal}
use Rattle.edit_calls.specs.declared.asks.Seen.{Seen}
use Rattle.recorded_sessions.specs.Naming.{point_named}
use Rattle.reply_text.specs.Replies.{answer_text_of}
use Rattle.reply_text.specs.Sights.{sight_text_of}
use Rattle.room_core.specs.History.{most_entries}
use Rattle.station_sessions.specs.DocumentReplies.{most_written}
use Rattle.station_sessions.specs.Rooms.{document_of, reply_of, seen_of}
use Rattle.take_back.specs.Parts.{nows}
use Rattle.reply_audits.proofs.points.replies_name_points.Goals as goal

answers_named : ((n : ℕ) (d : StepDone) → n < 2 ^ 32 → point_named (answer_text_of (answer.Done n d)) ≡ Some n)
    → ((n : ℕ) (r : StepRefusal) → n < 2 ^ 32 → point_named (answer_text_of (answer.Refused n r)) ≡ Some n)
    → (n : ℕ) (a : Result StepDone StepRefusal) → n < 2 ^ 32 → point_named (reply_of n a) ≡ Some n
answers_named done refused n (Ok d) less = done n d less
answers_named done refused n (Err r) less = refused n r less

sights_named : ((n : ℕ) (s : Seen) → n < 2 ^ 32 → point_named (sight_text_of (sight.Seen n s)) ≡ Some n)
    → ((n : ℕ) (r : AskRefusal) → n < 2 ^ 32 → point_named (sight_text_of (sight.Refused n r)) ≡ Some n)
    → (n : ℕ) (s : Result Seen AskRefusal) → n < 2 ^ 32 → point_named (seen_of n s) ≡ Some n
sights_named seen refused n (Ok s) less = seen n s less
sights_named seen refused n (Err r) less = refused n r less

either : (t : Bool) (n : ℕ) (one other : List ℕ) → point_named one ≡ Some n → point_named other ≡ Some n → point_named (cond t one other) ≡ Some n
either true n one other is so = is
either false n one other is so = so

pub returns : goal.returns
returns c = λ setting.
    let law = c.replies_name_their_points.ensures in record {
      answers = answers_named law.done law.refused;
      full = law.full most_entries (omega arith);
      sights = sights_named law.seen law.unseen;
      points = law.point;
      documents = λ n s less.
          either (nat_le (length (document_of setting (nows s))) most_written) n (codes "otio " ++ decimal n ++ codes " " ++ document_of setting (nows s))
          (codes "no " ++ decimal n ++ codes " V4") (law.document n (document_of setting (nows s)) less) (law.too_long n less);
      news = λ place n e low less. law.news place n e low less;
      past_ends = law.past_end;
    }
