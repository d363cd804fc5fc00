-- What the entries before a point come to, where a walk stands there.
use Rattle.std.proofs.Common.{◌≡◌, ℕ, ◌≤◌, List, Option, Some, None, Result, Ok, Err, option_map, length, take, slice_get, sym, ap, ◌∙◌, subst}
use Rattle.std.proofs.lemmas.Option.{slice_get-map}
use Rattle.cut_mirror.specs.Walks.{IsSeen, Walked, seen_by, seen_there}
use Rattle.cut_steps.specs.CutSteps.{CutObject, CutStep, KeptTrack, StepDone, StepRefusal, stepping}
use Rattle.edit_apply.specs.See.{seen_at, seen_if, seen_in, seen_on}
use Rattle.edit_calls.specs.declared.asks.Ask.{Ask}
use Rattle.edit_calls.specs.declared.asks.AskRefusal.{AskRefusal}
use Rattle.edit_calls.specs.declared.asks.Seen.{Seen}
use Rattle.out_of_memory.specs.Answers.{Tells}
use Rattle.out_of_memory.specs.declared.fault.Fault.{Fault}
use Rattle.room_core.specs.History.{answer_in, most_entries, replay}
use Rattle.room_core.specs.Whole.{whole}
use Rattle.station_sessions.specs.Rooms.{History, room_of}
use Rattle.station_sessions.specs.Transcript.{answer_at, sight_at, state_at}
use Rattle.take_back.specs.Parts.{nows}
use Rattle.reply_audits.specs.Judging.{IsIn, setting_in}
use Rattle.reply_audits.specs.declared.judging.RecordedRoom.{RecordedRoom}

pub few_entries : (room : RecordedRoom) (walk : Walked CutObject KeptTrack CutStep) → IsIn room walk → length walk.entries ≤ most_entries
    → length room.entries.now ≤ most_entries
few_entries room walk is few = subst (λ (h : History). length h ≤ most_entries) is.entries few

module _ (room : RecordedRoom) (walk : Walked CutObject KeptTrack CutStep) (n : ℕ) (is_in : IsIn room walk) (at : walk.point ≡ n)
    (comes : replay (whole (stepping walk.object.object.table)) walk.opening (take walk.point walk.entries) ≡ Some walk.parts) where
  pub state_there : state_at (room_of (setting_in room)) walk.opening room.entries.now n ≡ Some walk.parts
  state_there =
      ap (λ (object : CutObject). replay (whole (stepping object.object.table)) walk.opening (take n room.entries.now)) (sym is_in.object)
      ∙ (ap (λ (h : History). replay (whole (stepping walk.object.object.table)) walk.opening (take n h)) (sym is_in.entries)
      ∙ (ap (λ (p : ℕ). replay (whole (stepping walk.object.object.table)) walk.opening (take p walk.entries)) (sym at) ∙ comes))

  pub answer_there : (c : CutStep) (a : Result StepDone StepRefusal) → answer_in (whole (stepping walk.object.object.table) walk.parts c) ≡ a
      → answer_at (room_of (setting_in room)) walk.opening room.entries.now n c ≡ Some a
  answer_there c a is =
      ap (option_map (λ s. answer_in (whole (stepping room.object.now.object.table) s c))) state_there
      ∙ (ap (λ (object : CutObject). Some (answer_in (whole (stepping object.object.table) walk.parts c))) (sym is_in.object) ∙ ap Some is)

  pub sight_there : (q : Ask) → sight_at (room_of (setting_in room)) walk.opening room.entries.now n q ≡ Some (seen_in walk.object.object.table (nows walk.parts) q)
  sight_there q =
      ap (option_map (λ s. seen_in room.object.now.object.table (nows s) q)) state_there
      ∙ ap (λ (object : CutObject). Some (seen_in object.object.table (nows walk.parts) q)) (sym is_in.object)

-- a question about a part that is there
seen_part : (o : Option KeptTrack) (q : Ask) (result : Result Seen (Fault AskRefusal))
    → IsSeen (seen_there (λ (t : KeptTrack) ask. seen_on t.now ask) o q) result
    → Tells (seen_at (option_map (λ (t : KeptTrack). t.now) o) q) result
seen_part None q result h = absurd h
seen_part (Some t) q result h = h

pub seen_whole : (asked : Result ℕ AskRefusal) (parts : List KeptTrack) (q : Ask) (result : Result Seen (Fault AskRefusal))
    → IsSeen (seen_by asked (λ (t : KeptTrack) ask. seen_on t.now ask) parts q) result → Tells (seen_if asked (nows parts) q) result
seen_whole (Ok m) parts q result h =
    subst (λ o. Tells (seen_at o q) result) (sym (slice_get-map (λ (t : KeptTrack). t.now) parts m)) (seen_part (slice_get parts m) q result h)
seen_whole (Err r) parts q result h = h
