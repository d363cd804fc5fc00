-- What standard error is told of a fault that neither the status tells nor the object that failed.
use Rattle.std.specs.Prelude.{ℕ, Bool, true, false, ◌==◌, List, [], ◌++◌, Option, Some, None, codes, slice_get, ◌∷◌, if◌then◌else◌}
use Rattle.command_words.specs.Commands.{is_word}
use Rattle.command_words.specs.WordFaults.{fault_of}
use Rattle.command_words.specs.declared.word_faults.Part.{Part}
use Rattle.command_words.specs.declared.word_faults.Part.TheVariants as part
use Rattle.command_words.specs.declared.word_faults.WordFault.{WordFault}
use Rattle.command_words.specs.declared.word_faults.WordFault.TheVariants as fault
use Rattle.command_words.specs.declared.names.RowFault.{RowFault}
use Rattle.command_words.specs.declared.names.RowFault.TheVariants.{Again, NoText, Taken, Unfit}
use Rattle.program_words.specs.declared.complaints.Hindrance.{Hindrance}
use Rattle.program_words.specs.declared.complaints.Hindrance.TheVariants.{FewThreads, NoTime, OneFile}
use Rattle.program_words.specs.declared.complaints.Message.{Message}
use Rattle.program_words.specs.declared.notice.TheConstants.{NO_WORDS}
use Rattle.program_words.specs.CommandTexts.{Row, command_named, command_near}

-- what is told: a word of the command line between two texts, and how the command is called
abbrev pub told_by : Message → List ℕ
told_by c = c.before.now ++ (c.word.now ++ (c.after.now ++ c.usage.now))

-- of a hall that is not opened, before anything is
abbrev pub hindrance_text : Hindrance → List ℕ
hindrance_text (OneFile journal) = codes "cutroom: " ++ (journal.now ++ codes " is the document itself: the journal needs a file of its own\n")
hindrance_text FewThreads = codes "cutroom: the system gives fewer threads than there are stations: look at ulimit -u, ulimit -v and TasksMax=\n"
hindrance_text NoTime = codes "cutroom: CUTROOM_IDLE_SECONDS has to be a number of seconds from 1 to 1000000\n"

-- of a status by itself
abbrev pub status_text : ℕ → List ℕ
status_text status =
    if status == 5 then codes "cutroom: the address could not be opened, or a station not seated\n"
    else (if status == 7 then codes "cutroom: the input, or a line, has more than 64 MiB\n"
    else (if status == 9 then codes "cutroom: the disk of the journal failed; after a write or a sync that failed check it and reboot before the next start, since the system may call the next sync done\n" else []))

-- the rule that a word breaks which names no reel
abbrev pub rule_text : RowFault → List ℕ
rule_text NoText = codes ": wanted is TEXT=NAME, with TEXT the name of a reel in the document\n"
rule_text Unfit = codes ": a NAME has 1 to 8 characters of A-Z, 0-9 and _, and is not BL\n"
rule_text Again = codes ": an earlier word has this TEXT\n"
rule_text Taken = codes ": an earlier word has this NAME\n"

-- what a word has to say
abbrev pub part_text : Part → List ℕ
part_text part.Document = codes ": DOC is the path of an OpenTimelineIO file\n"
part_text part.List = codes ": LIST is the path of a CMX 3600 list\n"
part_text part.Journal = codes ": JOURNAL is the path of a journal's file\n"
part_text part.Address = codes ": ADDRESS is HOST:PORT, as 127.0.0.1:7000\n"
part_text part.Rate = codes ": RATE is one of 23.976, 24, 25, 29.97 and 30\n"
part_text part.Drop = codes ": DROP is ndf, or drop where RATE is 29.97\n"
part_text part.Stations = codes ": STATIONS is a number from 1 to 16\n"
part_text part.Tracks = codes ": TRACKS is a number from 1 to 32\n"
part_text part.Reels = codes ": REELS is a number from 0 to 999\n"
part_text part.Point = codes ": POINT is how many entries of the journal to do, 0 for the document's own cut\n"
part_text part.Number = codes ": NUMBER is a number from 0 to 4294967295\n"
part_text part.Count = codes ": COUNT is a number from 1 to 20000\n"
part_text part.Naming = codes ": after POINT comes nothing, or numbered, or names TEXT=NAME ..\n"
part_text part.Row = codes ": after names comes TEXT=NAME, once or more\n"
part_text part.Lines = codes ": LINES is the path of a file of what a station sent\n"
part_text part.Replies = codes ": REPLIES is the path of a file of what a station got\n"

-- a word between what is said of it, and how the command is called
abbrev pub said : List ℕ → List ℕ → List ℕ → List ℕ → List ℕ
said before word after usage = before ++ (word ++ (after ++ usage))

-- a word with this fault, in a command that is called so; the word is empty where it is missing
abbrev pub fault_message : List ℕ → WordFault → List ℕ → List ℕ
fault_message word (fault.Missing part) usage = said (codes "cutroom: a word is missing") word (part_text part) usage
fault_message word (fault.Wrong part) usage = said (codes "cutroom: ") word (part_text part) usage
fault_message word fault.Beyond usage = said (codes "cutroom: ") word (codes ": a word too many\n") usage
fault_message word (fault.Row row) usage = said (codes "cutroom: ") word (rule_text row) usage

-- words of which the second breaks this rule, or is missing, or has one after it
abbrev pub second_complaint : List (List ℕ) → List ℕ → List ℕ → List ℕ
second_complaint [] rule usage = usage
second_complaint (first ∷ []) rule usage = said (codes "cutroom: a word is missing") [] rule usage
second_complaint (first ∷ second ∷ []) rule usage = said (codes "cutroom: ") second rule usage
second_complaint (first ∷ second ∷ third ∷ words) rule usage = said (codes "cutroom: ") third (codes ": a word too many\n") usage

-- words that begin as a notice of the program on itself, and ask for none; of others how they are called
abbrev pub notice_complaint : List (List ℕ) → List ℕ → List ℕ
notice_complaint words usage =
    if is_word (slice_get words 0) (codes "explain") then second_complaint words (codes ": CODE is a code of a refusal, as O4 or E10, or an exit status, 0 to 9\n") usage else
    if is_word (slice_get words 0) (codes "help") then second_complaint words (codes ": COMMAND is the first word of a command, as run\n") usage else usage

-- a command's words that have this fault, or none
abbrev pub faulty_words : Option (List ℕ × WordFault) → List (List ℕ) → List ℕ → List ℕ
faulty_words (Some row) words usage = fault_message row.0 row.1 usage
faulty_words None words usage = notice_complaint words usage

abbrev pub command_complaint : List (List ℕ) → List ℕ → List ℕ
command_complaint words usage = faulty_words (fault_of words) words usage

abbrev pub near_usage : Option Row → List ℕ
near_usage (Some row) = row.1.0
near_usage None = codes "cutroom: cutroom --help lists the commands\n"

-- a word that begins no command: the usage of one that is near, or where all are listed
abbrev pub no_command : List ℕ → List ℕ → List ℕ
no_command word usage = said (codes "cutroom: ") word (codes ": there is no such command\n") usage

abbrev pub unknown_command : List ℕ → List ℕ
unknown_command word = no_command word (near_usage (command_near word))

abbrev pub begun_complaint : Option Row → List ℕ → List (List ℕ) → List ℕ
begun_complaint (Some row) first words = command_complaint words row.1.0
begun_complaint None first words = unknown_command first

-- words that are refused: the first that can't stand where it stands, or what is missing, and how their command is called
abbrev pub words_complaint : List (List ℕ) → List ℕ
words_complaint [] = NO_WORDS.now
words_complaint (first ∷ words) = begun_complaint (command_named first) first (first ∷ words)

-- what standard error is told of these words at a status, nothing where the status or the object that failed says enough
abbrev pub complaint_of : List (List ℕ) → ℕ → List ℕ
complaint_of words status = if status == 3 then words_complaint words else status_text status
