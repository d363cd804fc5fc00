-- How the program ends: by a notice, or as its words ask.
use Rattle.std.specs.Prelude.{◌≡◌, ℕ, ◌⊎◌, Bool, true, false, List, [], ◌∷◌, Option, Some, None}
use Rattle.room_ports.specs.Bytes.{Takes, TakesFront}
use Rattle.room_ports.specs.Counts.{HasRisen}
use Rattle.command_words.specs.Commands.{command_of, wants_numbers}
use Rattle.command_words.specs.NamedLists.{table_asked}
use Rattle.reel_names.specs.Namers.{as_is, numbered}
use Rattle.reel_names.specs.Tables.{TableAndNames, tabled}
use Rattle.room_files.specs.Files.{FilesTold}
use Rattle.room_halls.specs.Stations.{HallTold}
use Rattle.command_files.specs.Ports.{Change, DiskTold, InputTold, OutputTold}
use Rattle.list_commands.specs.Cuts.{NamerTold, namer_told}
use Rattle.cut_server.specs.Runs.{CommandEnds, EndsWith}
use Rattle.program_words.specs.Notices.{notice_of}

-- the text of a notice was written, or a write failed after a front of it
abbrev pub NoticeEnds : List ℕ → OutputTold → OutputTold → ℕ → Type 0
NoticeEnds text old new status =
    ((status ≡ 0) × (new.faults ≡ old.faults) × Takes old.taken new.taken text)
    ⊎ ((status ≡ 2) × HasRisen old.faults new.faults × TakesFront old.taken new.taken text)

-- by what its files, its disk, its input, its output and its hall told before and tell after, and by the namer that it was
-- handed
module _ (files : Change FilesTold) (disk : Change DiskTold) (input : Change InputTold) (output : Change OutputTold) (hall : Change HallTold) (namer : NamerTold) where
  abbrev pub EndsBy : Option (List ℕ) → List (List ℕ) → ℕ → Type 0
  EndsBy (Some text) words status =
      files.Untouched × disk.Untouched × input.Untouched × hall.Untouched × NoticeEnds text output.before output.after status
  EndsBy None words status = EndsWith status (CommandEnds files disk input output hall namer (command_of words))

  abbrev pub ProgramEnds : List (List ℕ) → ℕ → Type 0
  ProgramEnds words status = EndsBy (notice_of words) words status

-- the namer that words ask for: one with their table, one that numbers, or one that gives names as they are
abbrev pub namer_by : Option TableAndNames → Bool → NamerTold
namer_by (Some asked) numbers = namer_told (tabled asked.table) asked.given
namer_by None true = namer_told numbered []
namer_by None false = namer_told as_is []

abbrev pub namer_asked : List (List ℕ) → NamerTold
namer_asked words = namer_by (table_asked words) (wants_numbers words)

-- the same by the namer that the words ask for, or there was no memory for one
module _ (files : Change FilesTold) (disk : Change DiskTold) (input : Change InputTold) (output : Change OutputTold) (hall : Change HallTold) where
  abbrev pub WordsEnd : List (List ℕ) → ℕ → Type 0
  WordsEnd words status =
      ProgramEnds files disk input output hall (namer_asked words) words status
      ⊎ ((status ≡ 6) × files.Untouched × disk.Untouched × input.Untouched × output.Untouched × hall.Untouched)
