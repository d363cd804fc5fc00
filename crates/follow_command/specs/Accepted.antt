-- Inputs that the command accepts: streams of replies which a mirror follows to their end.
use Rattle.std.specs.Prelude.{◌≡◌, ℕ, ◌≤◌, List, Option, Some, length}
use Rattle.command_files.specs.Documents.{Describes}
use Rattle.command_files.specs.Ports.{InputTold}
use Rattle.cut_steps.specs.CutSteps.{CutStep, KeptTrack}
use Rattle.otio_json.specs.declared.opening.Opening.{Opening}
use Rattle.room_core.specs.declared.entry.Entry.{Entry}
use Rattle.room_files.specs.Files.{Content}
use Rattle.timecode12.specs.Numbers.{Counted}
use Rattle.input_lines.specs.Inputs.{most_input}
use Rattle.follow_command.specs.Follows.{ComesTo, FirstRefused, IsStreamOf}
use Rattle.follow_command.specs.Goes.{first_mirror}
use Rattle.follow_command.specs.declared.refusal.StreamRefusal.{StreamRefusal}

-- The input tells its bytes, which are at most 64 MiB. They are a stream of replies, and its entries come to a cut of the
-- room that is opened so.
pub record AcceptsStream (o : Opening) (left : Option (List ℕ)) : Type 0 where
  pub text : List ℕ
  pub told : left ≡ Some text
  pub within : length text ≤ most_input
  pub entries : List (Entry CutStep)
  pub stream : IsStreamOf text entries
  pub kept : List KeptTrack
  pub comes : ComesTo o entries kept

-- no line of such an input is refused
abbrev pub StreamsAreNotRefused : Type 0
StreamsAreNotRefused =
    (counting : Counted) (content : Content) (o : Opening) (refusal : StreamRefusal) (before after : InputTold)
    → Describes counting content o → AcceptsStream o before.left → FirstRefused (first_mirror o) refusal before after → ⊥
