-- What files hold, by their names, where that is told.
use Rattle.std.specs.Prelude.{◌≡◌, ◌≢◌, ℕ, ◌+◌, ◌<◌, ◌++◌, List, [], ◌∷◌, Option, Some, None, Result, Ok, Err, Vec, ◌≤◌, length, IfSome, bytes_eq, if◌then◌else◌}
use Rattle.std.specs.Option.{IsSomeAnd}
use Rattle.std.specs.Global.{Global}
use Rattle.room_files.specs.declared.files.FileFault.{FileFault}
use Rattle.room_files.specs.declared.files.FileFault.TheVariants.{Failed, TooLarge, Memory}
use Rattle.room_ports.specs.Counts.{HasRisen}

-- it is not told, there is no such file, or it holds these bytes
pub data Content : Type 0 where
  Untold : Content
  Missing : Content
  Bytes : List ℕ → Content

-- what files tell: what each holds, by its name, and how often a read and a write of one have failed
pub record FilesTold : Type 0 where
  pub file : List ℕ → Content
  pub reads : ℕ
  pub writes : ℕ

abbrev pub files_told : (List ℕ → Content) → ℕ → ℕ → FilesTold
files_told file reads writes = record { file = file; reads = reads; writes = writes }

-- these are all its bytes
abbrev pub IsWhole : Content → List ℕ → Type 0
IsWhole Untold bytes = Unit {0}
IsWhole Missing bytes = ⊥
IsWhole (Bytes all) bytes = bytes ≡ all

-- it has more bytes than that
abbrev pub IsLonger : Content → ℕ → Type 0
IsLonger Untold limit = Unit {0}
IsLonger Missing limit = ⊥
IsLonger (Bytes all) limit = limit < length all

-- it is there, and has no more bytes than that
abbrev pub FitsIn : Content → ℕ → Type 0
FitsIn Untold limit = Unit {0}
FitsIn Missing limit = ⊥
FitsIn (Bytes all) limit = length all ≤ limit

-- it is as it was, where it is told afterwards
abbrev pub IsUnchanged : Content → Content → Type 0
IsUnchanged old Untold = Unit {0}
IsUnchanged old Missing = old ≡ Missing
IsUnchanged old (Bytes all) = old ≡ Bytes all

-- the same of every file
abbrev pub NoneChanged : (List ℕ → Content) → (List ℕ → Content) → Type 0
NoneChanged old new = (name : List ℕ) → IsUnchanged (old name) (new name)

-- and of every other file than this one
abbrev pub OthersUnchanged : List ℕ → (List ℕ → Content) → (List ℕ → Content) → Type 0
OthersUnchanged name old new = (other : List ℕ) → other ≢ name → IsUnchanged (old other) (new other)

-- What is not read is too large exactly where it is longer than the limit; want of memory is told of a file that
-- is there and not too large.
abbrev pub Refuses : FileFault → Content → ℕ → Type 0
Refuses Failed content limit = Unit {0}
Refuses TooLarge content limit = IsLonger content limit
Refuses Memory content limit = FitsIn content limit

-- a read that failed is counted, and no other
abbrev pub CountsRead : Result (Vec ℕ Global) FileFault → ℕ → ℕ → Type 0
CountsRead (Ok bytes) before after = after ≡ before
CountsRead (Err Failed) before after = HasRisen before after
CountsRead (Err TooLarge) before after = after ≡ before
CountsRead (Err Memory) before after = after ≡ before

-- ---- files over memory: each write with its name, of which the last of a name tells what the file holds

abbrev pub or_earlier : Content → Content → Content
or_earlier Missing earlier = earlier
or_earlier Untold earlier = Untold
or_earlier (Bytes all) earlier = Bytes all

abbrev pub content_in : List (List ℕ × List ℕ) → List ℕ → Content
content_in [] name = Missing
content_in (f ∷ fs) name = or_earlier (content_in fs name) (if bytes_eq f.0 name then Bytes f.1 else Missing)

-- None tells nothing
abbrev pub content_of : Option (List (List ℕ × List ℕ)) → List ℕ → Content
content_of None name = Untold
content_of (Some files) name = content_in files name

-- what was found is what the file holds
abbrev pub found_content : Option (List ℕ) → Content
found_content None = Missing
found_content (Some bytes) = Bytes bytes

-- with one write more
abbrev pub with_file : List ℕ → List ℕ → List (List ℕ × List ℕ) → List (List ℕ × List ℕ)
with_file name bytes files = files ++ (name, bytes) ∷ []

-- Where the files are told after a write they are those that were told before it, with this write more. So files
-- that tell nothing any more tell nothing from then on.
abbrev pub Keeps : Option (List (List ℕ × List ℕ)) → Option (List (List ℕ × List ℕ)) → List ℕ → List ℕ → Type 0
Keeps before after name bytes = IfSome after (λ now. IsSomeAnd before (λ old. now ≡ with_file name bytes old))

-- What comes of reading a file of these, where no call fails by itself: its bytes, or a refusal that is `Failed`
-- exactly where there is no such file.
abbrev pub ReadsFile : Content → ℕ → Result (Vec ℕ Global) FileFault → Type 0
ReadsFile content limit (Ok v) = IsWhole content v.items × (length v.items ≤ limit) × (content ≢ Missing)
ReadsFile content limit (Err Failed) = content ≡ Missing
ReadsFile content limit (Err TooLarge) = IsLonger content limit × (content ≢ Missing)
ReadsFile content limit (Err Memory) = FitsIn content limit × (content ≢ Missing)

-- ---- files over memory that is there from the beginning

-- the bytes of the names of all writes, and those that they wrote
abbrev pub all_names : List (List ℕ × List ℕ) → ℕ
all_names [] = 0
all_names (f ∷ fs) = length f.0 + all_names fs

abbrev pub all_bytes : List (List ℕ × List ℕ) → ℕ
all_bytes [] = 0
all_bytes (f ∷ fs) = length f.1 + all_bytes fs

-- At most 64 writes are told, whose names have at most 4,096 bytes together, and which wrote at most so many.
pub record FitsWithin (room : ℕ) (files : List (List ℕ × List ℕ)) : Type 0 where
  pub writes : length files ≤ 64
  pub names : all_names files ≤ 4096
  pub bytes : all_bytes files ≤ room

-- The files are told exactly while they fit; once they do not, they tell nothing from then on.
abbrev pub KeepsWithin : ℕ → Option (List (List ℕ × List ℕ)) → Option (List (List ℕ × List ℕ)) → List ℕ → List ℕ → Type 0
KeepsWithin room None after name bytes = after ≡ None
KeepsWithin room (Some old) None name bytes = FitsWithin room (with_file name bytes old) → ⊥
KeepsWithin room (Some old) (Some now) name bytes = (now ≡ with_file name bytes old) × FitsWithin room now

-- a name that was not written is an empty file
abbrev pub or_empty : Content → Content
or_empty Untold = Untold
or_empty Missing = Bytes []
or_empty (Bytes all) = Bytes all
