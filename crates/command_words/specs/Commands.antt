-- The words that the program takes. `run` TRACKS REELS asks for one station in a plain room, with TRACKS from 1 to 32 and
-- REELS from 0 to 999. `run` DOC RATE DROP asks for one in the room that a document describes: DOC names its file, RATE is
-- a decimal number that stands for one of the five rates of a sequence, and DROP is `drop`, at 30000/1001 alone, or `ndf`.
-- `serve` DOC RATE DROP STATIONS ADDRESS JOURNAL asks for STATIONS of them, from 1 to 16, in such a room, over a hall at
-- ADDRESS, and for the journal in the file JOURNAL. `store`, with the same words, asks for the same, but the journal is kept
-- in the file as it grows, and goes on after what the file holds. `list` DOC RATE DROP JOURNAL POINT asks for the edit
-- decision list of the cut after POINT entries of the journal in the file JOURNAL, whose room the document describes; a last
-- word `numbered` says how its reels are to be named, and so do a word `names` and one or more TEXT=NAME after it.
-- `tape` LIST RATE asks for the tape of the list in the file LIST. `import` LIST RATE DROP asks for the document of the list
-- in the file LIST. `follow` DOC RATE DROP asks for the cut that replies on input lead to, in the room that the document
-- describes. `audit` DOC RATE DROP JOURNAL LINES REPLIES asks whether the journal in the file JOURNAL explains what was
-- recorded of stations in such a room: LINES has what station 0 sent and REPLIES what it got, `cut` follows where its session
-- ended by a fault, and so on for up to 16 stations. `make` NUMBER COUNT asks for the generated session of the number NUMBER, of which each station sends COUNT lines,
-- from 1 to 20,000.
use Rattle.std.specs.Prelude.{ℕ, ◌≤◌, Bool, true, false, ◌&&◌, List, [], ◌∷◌, Option, Some, None, Result, Ok, Err, option_and_then, option_map, is_none, slice_get, slice_index_or, length, nat_le, codes, bytes_eq, if◌then◌else◌}
use Rattle.line_words.specs.Digits.{number_of}
use Rattle.line_words.specs.declared.numbers.NumberFault.{NumberFault}
use Rattle.json_tokens.specs.ReadingNumerals.{numeral_in}
use Rattle.otio_tracks.specs.Times.{rate_meant}
use Rattle.timecode12.specs.Numbers.{Counted, sequence_rate}
use Rattle.timecode12.specs.declared.rate.SequenceRate.{SequenceRate}
use Rattle.timecode12.specs.declared.rate.SequenceRate.TheVariants.{F23976, F24, F25, F2997, F30}
use Rattle.command_words.specs.Names.{first_fault}
use Rattle.command_words.specs.Records.{Named, or_none, records_in, records_of}
use Rattle.command_words.specs.declared.command.Command.{Command}
use Rattle.command_words.specs.declared.command.Command.TheVariants as command
use Rattle.command_words.specs.declared.command.HallWords.{HallWords}

-- what the program is asked for: a station in a plain room of so many tracks and reels, or in the room of a document of
-- this name, whose frames are counted so
pub data Asked : Type 0 where
  RunPlain : ℕ → ℕ → Asked
  RunDocument : List ℕ → Counted → Asked
  -- so many stations in such a room, over a hall at this address, and the journal in the file of this name
  Serve : List ℕ → Counted → ℕ → List ℕ → List ℕ → Asked
  -- the same, but the journal is kept in its file as it grows, and goes on after what the file holds
  Store : List ℕ → Counted → ℕ → List ℕ → List ℕ → Asked
  -- the list of the cut after so many entries of the journal in a file, in the room of a document
  ListCut : List ℕ → Counted → List ℕ → ℕ → Asked
  -- the tape of the list in a file, at a rate
  PlayList : List ℕ → SequenceRate → Asked
  -- the document of the list in a file, whose frames are counted so
  Import : List ℕ → Counted → Asked
  -- the cut that replies on input lead to, in the room of a document
  Follow : List ℕ → Counted → Asked
  -- whether the journal in a file explains what was recorded of stations, in the room of a document
  Audit : List ℕ → Counted → List ℕ → List Named → Asked
  -- the summary of the generated session of a number, in which each station sends so many lines
  Make : ℕ → ℕ → Asked

-- ---- a plain room

-- the least and the most tracks, and the most reels
abbrev pub least_tracks : ℕ
least_tracks = 1

abbrev pub most_tracks : ℕ
most_tracks = 32

abbrev pub most_reels : ℕ
most_reels = 999

abbrev pub within : Result ℕ NumberFault → ℕ → ℕ → Option ℕ
within (Ok n) least most = if nat_le least n && nat_le n most then Some n else None
within (Err fault) least most = None

-- a word that is a number within bounds
abbrev pub number_within : List ℕ → ℕ → ℕ → Option ℕ
number_within word least most = within (number_of word) least most

abbrev pub plain_asked : Option ℕ → Option ℕ → Option Asked
plain_asked None reels = None
plain_asked (Some tracks) None = None
plain_asked (Some tracks) (Some reels) = Some (RunPlain tracks reels)

abbrev pub run_plain_in : List ℕ → List ℕ → Option Asked
run_plain_in tracks reels = plain_asked (number_within tracks least_tracks most_tracks) (number_within reels 0 most_reels)

-- ---- the room of a document

abbrev pub sequence_of : ℕ × ℕ → Option SequenceRate
sequence_of rate = sequence_rate rate.0 rate.1

-- the rate of a sequence that a word spells
abbrev pub rate_of_word : List ℕ → Option SequenceRate
rate_of_word word = option_and_then sequence_of (option_and_then rate_meant (numeral_in word))

abbrev pub drop_of_word : List ℕ → Option Bool
drop_of_word word = if bytes_eq word (codes "drop") then Some true else if bytes_eq word (codes "ndf") then Some false else None

-- drop-frame counting is at 30000/1001 alone
abbrev pub drop_frame_at : SequenceRate → Option Counted
drop_frame_at F23976 = None
drop_frame_at F24 = None
drop_frame_at F25 = None
drop_frame_at F2997 = Some (record { rate = F2997; drop_frame = true })
drop_frame_at F30 = None

abbrev pub counted_by : SequenceRate → Bool → Option Counted
counted_by rate true = drop_frame_at rate
counted_by rate false = Some (record { rate = rate; drop_frame = false })

abbrev pub counting_in : Option SequenceRate → Option Bool → Option Counted
counting_in None drop = None
counting_in (Some rate) None = None
counting_in (Some rate) (Some drop) = counted_by rate drop

-- how frames are counted, by these words
abbrev pub counting_of : List ℕ → List ℕ → Option Counted
counting_of rate drop = counting_in (rate_of_word rate) (drop_of_word drop)

abbrev pub counted_so : List ℕ → Option Counted → Option Asked
counted_so document None = None
counted_so document (Some counting) = Some (RunDocument document counting)

abbrev pub run_document_in : List ℕ → List ℕ → List ℕ → Option Asked
run_document_in document rate drop = counted_so document (counting_of rate drop)

-- ---- stations of a hall

-- the least and the most stations
abbrev pub least_stations : ℕ
least_stations = 1

abbrev pub most_stations : ℕ
most_stations = 16

-- the document of a room and how its frames are counted, how many stations, their address, and the name of the journal's file
pub record HallAsked : Type 0 where
  pub document : List ℕ
  pub counting : Counted
  pub stations : ℕ
  pub address : List ℕ
  pub journal : List ℕ

abbrev pub hall_so : List ℕ → List ℕ → List ℕ → Option Counted → Option ℕ → Option HallAsked
hall_so document address journal None stations = None
hall_so document address journal (Some counting) None = None
hall_so document address journal (Some counting) (Some stations) =
    Some (record { document = document; counting = counting; stations = stations; address = address; journal = journal })

abbrev pub hall_of_words : List ℕ → List ℕ → List ℕ → List ℕ → List ℕ → List ℕ → Option HallAsked
hall_of_words document rate drop stations address journal =
    hall_so document address journal (counting_of rate drop) (number_within stations least_stations most_stations)

abbrev pub serve_hall : HallAsked → Asked
serve_hall h = Serve h.document h.counting h.stations h.address h.journal

abbrev pub store_hall : HallAsked → Asked
store_hall h = Store h.document h.counting h.stations h.address h.journal

-- ---- edit decision lists

abbrev pub listed_so : List ℕ → List ℕ → Option Counted → Result ℕ NumberFault → Option Asked
listed_so document journal None point = None
listed_so document journal (Some counting) (Err fault) = None
listed_so document journal (Some counting) (Ok point) = Some (ListCut document counting journal point)

abbrev pub list_cut_in : List ℕ → List ℕ → List ℕ → List ℕ → List ℕ → Option Asked
list_cut_in document rate drop journal point = listed_so document journal (counting_of rate drop) (number_of point)

abbrev pub played_so : List ℕ → Option SequenceRate → Option Asked
played_so name None = None
played_so name (Some rate) = Some (PlayList name rate)

abbrev pub imported_so : List ℕ → Option Counted → Option Asked
imported_so name None = None
imported_so name (Some counting) = Some (Import name counting)

-- ---- a mirror

abbrev pub followed_so : List ℕ → Option Counted → Option Asked
followed_so document None = None
followed_so document (Some counting) = Some (Follow document counting)

-- ---- recorded sessions

-- so many records as a hall may have stations
abbrev pub are_few : ℕ → Bool
are_few count = nat_le least_stations count && nat_le count most_stations

abbrev pub has_records : Option (List Named) → Bool
has_records None = false
has_records (Some records) = are_few (length records)

abbrev pub audited_so : List ℕ → List ℕ → Option Counted → Option (List Named) → Option Asked
audited_so document journal None records = None
audited_so document journal (Some counting) records =
    if has_records records then Some (Audit document counting journal (or_none records)) else None

abbrev pub audited_in : List ℕ → List ℕ → List ℕ → List ℕ → List (List ℕ) → Option Asked
audited_in document rate drop journal records = audited_so document journal (counting_of rate drop) (records_in records)

-- ---- a generated session

-- the least and the most lines that a station of it sends
abbrev pub least_lines : ℕ
least_lines = 1

abbrev pub most_lines : ℕ
most_lines = 20000

abbrev pub made_so : Result ℕ NumberFault → Option ℕ → Option Asked
made_so (Err fault) count = None
made_so (Ok number) None = None
made_so (Ok number) (Some count) = Some (Make number count)

abbrev pub make_session_in : List ℕ → List ℕ → Option Asked
make_session_in number count = made_so (number_of number) (number_within count least_lines most_lines)

-- ---- the table

abbrev pub run_in : List (List ℕ) → Option Asked
run_in [] = None
run_in (a ∷ []) = None
run_in (tracks ∷ reels ∷ []) = run_plain_in tracks reels
run_in (document ∷ rate ∷ drop ∷ []) = run_document_in document rate drop
run_in (a ∷ b ∷ c ∷ d ∷ words) = None

-- the words of a hall, after `serve` or `store`
abbrev pub hall_in : List (List ℕ) → Option HallAsked
hall_in [] = None
hall_in (a ∷ []) = None
hall_in (a ∷ b ∷ []) = None
hall_in (a ∷ b ∷ c ∷ []) = None
hall_in (a ∷ b ∷ c ∷ d ∷ []) = None
hall_in (a ∷ b ∷ c ∷ d ∷ e ∷ []) = None
hall_in (document ∷ rate ∷ drop ∷ stations ∷ address ∷ journal ∷ []) = hall_of_words document rate drop stations address journal
hall_in (a ∷ b ∷ c ∷ d ∷ e ∷ f ∷ g ∷ words) = None

abbrev pub serve_in : List (List ℕ) → Option Asked
serve_in words = option_map serve_hall (hall_in words)

abbrev pub store_in : List (List ℕ) → Option Asked
store_in words = option_map store_hall (hall_in words)

abbrev pub list_in : List (List ℕ) → Option Asked
list_in [] = None
list_in (a ∷ []) = None
list_in (a ∷ b ∷ []) = None
list_in (a ∷ b ∷ c ∷ []) = None
list_in (a ∷ b ∷ c ∷ d ∷ []) = None
list_in (document ∷ rate ∷ drop ∷ journal ∷ point ∷ []) = list_cut_in document rate drop journal point
list_in (document ∷ rate ∷ drop ∷ journal ∷ point ∷ last ∷ []) =
    if bytes_eq last (codes "numbered") then list_cut_in document rate drop journal point else None
list_in (document ∷ rate ∷ drop ∷ journal ∷ point ∷ word ∷ row ∷ rows) =
    if bytes_eq word (codes "names") && is_none (first_fault [] (row ∷ rows)) then list_cut_in document rate drop journal point else None

abbrev pub tape_in : List (List ℕ) → Option Asked
tape_in [] = None
tape_in (a ∷ []) = None
tape_in (name ∷ rate ∷ []) = played_so name (rate_of_word rate)
tape_in (a ∷ b ∷ c ∷ words) = None

abbrev pub import_in : List (List ℕ) → Option Asked
import_in [] = None
import_in (a ∷ []) = None
import_in (a ∷ b ∷ []) = None
import_in (name ∷ rate ∷ drop ∷ []) = imported_so name (counting_of rate drop)
import_in (a ∷ b ∷ c ∷ d ∷ words) = None

abbrev pub follow_in : List (List ℕ) → Option Asked
follow_in [] = None
follow_in (a ∷ []) = None
follow_in (a ∷ b ∷ []) = None
follow_in (document ∷ rate ∷ drop ∷ []) = followed_so document (counting_of rate drop)
follow_in (a ∷ b ∷ c ∷ d ∷ words) = None

abbrev pub audit_in : List (List ℕ) → Option Asked
audit_in [] = None
audit_in (a ∷ []) = None
audit_in (a ∷ b ∷ []) = None
audit_in (a ∷ b ∷ c ∷ []) = None
audit_in (document ∷ rate ∷ drop ∷ journal ∷ records) = audited_in document rate drop journal records

abbrev pub make_in : List (List ℕ) → Option Asked
make_in [] = None
make_in (a ∷ []) = None
make_in (number ∷ count ∷ []) = make_session_in number count
make_in (a ∷ b ∷ c ∷ words) = None

-- what words that begin so ask for
abbrev pub asked_of : List ℕ → List (List ℕ) → Option Asked
asked_of first words =
    if bytes_eq first (codes "run") then run_in words else
    if bytes_eq first (codes "serve") then serve_in words else
    if bytes_eq first (codes "store") then store_in words else
    if bytes_eq first (codes "list") then list_in words else
    if bytes_eq first (codes "tape") then tape_in words else
    if bytes_eq first (codes "import") then import_in words else
    if bytes_eq first (codes "follow") then follow_in words else
    if bytes_eq first (codes "audit") then audit_in words else
    if bytes_eq first (codes "make") then make_in words else None

-- what these words ask for
abbrev pub command_of : List (List ℕ) → Option Asked
command_of [] = None
command_of (first ∷ words) = asked_of first words

-- ---- numbered reels

abbrev pub is_word : Option (List ℕ) → List ℕ → Bool
is_word None other = false
is_word (Some word) other = bytes_eq word other

abbrev pub asks_for_list : Option Asked → Bool
asks_for_list None = false
asks_for_list (Some (RunPlain tracks reels)) = false
asks_for_list (Some (RunDocument document counting)) = false
asks_for_list (Some (Serve document counting stations address journal)) = false
asks_for_list (Some (Store document counting stations address journal)) = false
asks_for_list (Some (ListCut document counting journal point)) = true
asks_for_list (Some (PlayList name rate)) = false
asks_for_list (Some (Import name counting)) = false
asks_for_list (Some (Follow document counting)) = false
asks_for_list (Some (Audit document counting journal records)) = false
asks_for_list (Some (Make number count)) = false

-- a list is asked for, and the last word says that its reels are to be numbered
abbrev pub wants_numbers : List (List ℕ) → Bool
wants_numbers words = asks_for_list (command_of words) && is_word (slice_get words 6) (codes "numbered")

-- ---- a command as the code keeps it

-- one of so many words
abbrev pub word_at : ℕ → List (List ℕ) → List ℕ
word_at k words = slice_index_or words k []

abbrev pub hall_asked : HallWords → HallAsked
hall_asked h = record { document = h.document.now; counting = h.counting; stations = h.stations; address = h.address.now; journal = h.journal.now }

abbrev pub asked_by : Command → Asked
asked_by (command.Run tracks reels) = RunPlain tracks reels
asked_by (command.RunDocument document counting) = RunDocument document.now counting
asked_by (command.Serve document counting stations address journal) = Serve document.now counting stations address.now journal.now
asked_by (command.Store document counting stations address journal) = Store document.now counting stations address.now journal.now
asked_by (command.ListCut document counting journal point) = ListCut document.now counting journal.now point
asked_by (command.PlayList name rate) = PlayList name.now rate
asked_by (command.Import name counting) = Import name.now counting
asked_by (command.Follow document counting) = Follow document.now counting
asked_by (command.Audit document counting journal words) = Audit document.now counting journal.now (records_of words.now)
asked_by (command.Make number count) = Make number count

-- so many tracks and reels as a plain room may have, so many stations as a hall, and so many lines as a generated session; an
-- audit has the words of the records that it names
abbrev pub HasBounds : Command → Type 0
HasBounds (command.Run tracks reels) = (least_tracks ≤ tracks) × (tracks ≤ most_tracks) × (reels ≤ most_reels)
HasBounds (command.RunDocument document counting) = Unit {0}
HasBounds (command.Serve document counting stations address journal) = (least_stations ≤ stations) × (stations ≤ most_stations)
HasBounds (command.Store document counting stations address journal) = (least_stations ≤ stations) × (stations ≤ most_stations)
HasBounds (command.ListCut document counting journal point) = Unit {0}
HasBounds (command.PlayList name rate) = Unit {0}
HasBounds (command.Import name counting) = Unit {0}
HasBounds (command.Follow document counting) = Unit {0}
HasBounds (command.Audit document counting journal words) =
    (5 ≤ length words.now) × (least_stations ≤ length (records_of words.now)) × (length (records_of words.now) ≤ most_stations)
HasBounds (command.Make number count) = (least_lines ≤ count) × (count ≤ most_lines)
