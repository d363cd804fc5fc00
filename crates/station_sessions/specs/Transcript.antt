-- What a station is told: one reply for each of its lines. Each reply but `bad` and `memory` names its point in the
-- journal, and says what the entries before that point give.
use Rattle.std.specs.Prelude.{◌≡◌, ◌≢◌, ℕ, ◌+◌, ◌<◌, ◌≤◌, ◌⊎◌, Bool, IsTrue, List, [], ◌∷◌, ◌++◌, Option, Some, Result, Ok, Err, length, max, take, drop, slice_get, codes, decimal, option_map, ◌==◌, if◌then◌else◌}
use Rattle.line_words.specs.Lines.{Line as InputLine}
use Rattle.room_core.specs.declared.entry.Entry.{Entry}
use Rattle.room_core.specs.History.{answer_in, replay, most_entries}

-- what a line asks for: a call, a question, the point, the document of a point, the entry at a place, or nothing of the
-- protocol, where this is its reply
pub data Wish (C Q : Type 0) : Type 0 where
  Do : C → Wish C Q
  See : Q → Wish C Q
  Point : Wish C Q
  Write : ℕ → Wish C Q
  News : ℕ → Wish C Q
  Bad : List ℕ → Wish C Q

-- A protocol over states S: what a call does and a question sees, what a line asks for and whether it may find no
-- memory, and how each is answered at a point.
pub record Protocol (S C D R Q X Y : Type 0) : Type 0 where
  pub apply : S → C → Result (S × D) R
  pub see : S → Q → Result X Y
  pub wish : ℕ → InputLine → Wish C Q
  pub takes_memory : InputLine → Bool
  pub answer_text : ℕ → Result D R → List ℕ
  pub full_text : List ℕ
  pub sight_text : ℕ → Result X Y → List ℕ
  -- the reply with the document of a state, which stands after so many entries
  pub document_text : ℕ → S → List ℕ
  -- the reply with the entry at a place, where there is one, of so many
  pub news_text : ℕ → ℕ → Option (Entry C) → List ℕ
  -- the reply where there are only so many entries
  pub no_point_text : ℕ → List ℕ

-- no entry bears this line's number and its station
abbrev pub BearsNone : {C : Type 0} → List (Entry C) → ℕ → ℕ → Type 0
BearsNone [] station line = Unit {0}
BearsNone (e ∷ es) station line = (e.station ≡ station → e.number ≢ line) × BearsNone es station line

module _ {S C D R Q X Y : Type 0} (k : Protocol S C D R Q X Y) (o : S) (h : List (Entry C)) where
  -- the state after the first n entries
  abbrev pub state_at : ℕ → Option S
  state_at n = replay k.apply o (take n h)

  -- what a call is answered where it stands after the first n entries
  abbrev pub answer_at : ℕ → C → Option (Result D R)
  answer_at n c = option_map (λ s. answer_in (k.apply s c)) (state_at n)

  -- what a question is answered there
  abbrev pub sight_at : ℕ → Q → Option (Result X Y)
  sight_at n q = option_map (λ s. k.see s q) (state_at n)

  -- one line with its reply: what the station had been told before, and after; points are those of its own entries
  module _ (station line told : ℕ) (reply : List ℕ) (after : ℕ) (points : List ℕ) where
    -- the call is the entry at the point that it names, and what it did is what the entries before give
    pub record IsDone (c : C) (n : ℕ) (d : D) : Type 0 where
      pub told_of : told ≤ n
      pub entry : slice_get h n ≡ Some (record { station = station; number = line; call = c })
      pub answer : answer_at n c ≡ Some (Ok d)
      pub reply_is : reply ≡ k.answer_text n (Ok d)
      pub after_is : after ≡ n + 1
      pub points_are : points ≡ n ∷ []

    pub record IsRefused (c : C) (n : ℕ) (r : R) : Type 0 where
      pub told_of : told ≤ n
      pub within : n ≤ length h
      pub answer : answer_at n c ≡ Some (Err r)
      pub reply_is : reply ≡ k.answer_text n (Err r)
      pub after_is : after ≡ n
      pub points_are : points ≡ []

    -- the journal is full, and the call would apply
    pub record IsFull (c : C) (d : D) : Type 0 where
      pub told_of : told ≤ most_entries
      pub full : length h ≡ most_entries
      pub answer : answer_at most_entries c ≡ Some (Ok d)
      pub reply_is : reply ≡ k.full_text
      pub after_is : after ≡ most_entries
      pub points_are : points ≡ []

    pub record IsSeen (q : Q) (n : ℕ) (s : Result X Y) : Type 0 where
      pub told_of : told ≤ n
      pub within : n ≤ length h
      pub sight : sight_at n q ≡ Some s
      pub reply_is : reply ≡ k.sight_text n s
      pub after_is : after ≡ n
      pub points_are : points ≡ []

    pub record IsPoint (n : ℕ) : Type 0 where
      pub told_of : told ≤ n
      pub within : n ≤ length h
      pub reply_is : reply ≡ codes "point " ++ decimal n
      pub after_is : after ≡ n
      pub points_are : points ≡ []

    -- the document is that of the state after so many entries, which may be fewer than the station had been told of
    pub record IsDocument (n : ℕ) (s : S) : Type 0 where
      pub within : n ≤ length h
      pub state : state_at n ≡ Some s
      pub reply_is : reply ≡ k.document_text n s
      pub after_is : after ≡ max told n
      pub points_are : points ≡ []

    -- the entry is the one at the place asked for, where so many entries have one there
    pub record IsNews (place n : ℕ) : Type 0 where
      pub told_of : told ≤ n
      pub within : n ≤ length h
      pub place_within : place ≤ n
      pub reply_is : reply ≡ k.news_text place n (slice_get (take n h) place)
      pub after_is : after ≡ n
      pub points_are : points ≡ []

    -- there are fewer entries than were asked for
    pub record IsPastEnd (asked n : ℕ) : Type 0 where
      pub told_of : told ≤ n
      pub within : n ≤ length h
      pub past : n < asked
      pub reply_is : reply ≡ k.no_point_text n
      pub after_is : after ≡ n
      pub points_are : points ≡ []

    -- the line is none of the protocol
    pub record IsBad (text : List ℕ) : Type 0 where
      pub reply_is : reply ≡ text
      pub after_is : after ≡ told
      pub points_are : points ≡ []

    -- want of memory; nothing has changed
    pub record IsMemory : Type 0 where
      pub none : BearsNone h station line
      pub reply_is : reply ≡ codes "memory"
      pub after_is : after ≡ told
      pub points_are : points ≡ []

    -- an answer to what the line asks for
    abbrev pub Answered : Wish C Q → Type 0
    Answered (Do c) = ((n : ℕ) × (d : D) × IsDone c n d) ⊎ (((n : ℕ) × (r : R) × IsRefused c n r) ⊎ ((d : D) × IsFull c d))
    Answered (See q) = (n : ℕ) × (s : Result X Y) × IsSeen q n s
    Answered Point = (n : ℕ) × IsPoint n
    Answered (Write n) = ((s : S) × IsDocument n s) ⊎ ((at : ℕ) × IsPastEnd n at)
    Answered (News place) = ((n : ℕ) × IsNews place n) ⊎ ((at : ℕ) × IsPastEnd place at)
    Answered (Bad text) = IsBad text

    abbrev pub Row : InputLine → Type 0
    Row l = Answered (k.wish station l) ⊎ (IsTrue (k.takes_memory l) × IsMemory)

  -- lines with their replies, from a line number on, where the station had been told of so much
  abbrev pub Rows : ℕ → ℕ → ℕ → List InputLine → List (List ℕ) → ℕ → List ℕ → Type 0
  Rows station line told [] [] last points = (last ≡ told) × (points ≡ [])
  Rows station line told [] (reply ∷ replies) last points = ⊥
  Rows station line told (l ∷ ls) [] last points = ⊥
  Rows station line told (l ∷ ls) (reply ∷ replies) last points =
      (after : ℕ) × (here : List ℕ) × (rest : List ℕ) × Row station line told reply after here l
      × Rows station (line + 1) after ls replies last rest × (points ≡ here ++ rest)

-- where in the journal the entries of a station stand
abbrev pub points_from : {C : Type 0} → ℕ → ℕ → List (Entry C) → List ℕ
points_from n station [] = []
points_from n station (e ∷ es) = if e.station == station then n ∷ points_from (n + 1) station es else points_from (n + 1) station es

-- where they stand behind the entries that were kept
abbrev pub points_behind : {C : Type 0} → ℕ → ℕ → List (Entry C) → List ℕ
points_behind kept station h = points_from kept station (drop kept h)

-- Where a session begins: behind so many entries, which were kept and count as told; its lines are numbered behind the
-- base.
pub record Origin : Type 0 where
  pub kept : ℕ
  pub base : ℕ

-- in a room that has just been opened no entry was kept, and the first line is line 1
abbrev pub new_room : Origin
new_room = record { kept = 0; base = 0 }

-- the greatest base, from which the lines of one input can be numbered
abbrev pub most_base : ℕ
most_base = 4000000000

-- The lines and replies of a station over a history that begins at this state, and how many entries it was told of in the
-- end. After the entries that were kept the station has those of the calls that were answered `ok`, and then only those at
-- the points that are unanswered.
abbrev pub TranscriptTo : {S C D R Q X Y : Type 0} → Protocol S C D R Q X Y → S → List (Entry C) → Origin → ℕ → List InputLine → List (List ℕ) → ℕ → List ℕ → Type 0
TranscriptTo k o h from station lines replies told unanswered =
    (answered : List ℕ) × Rows k o h station (from.base + 1) from.kept lines replies told answered
    × (points_behind from.kept station h ≡ answered ++ unanswered)

-- the same, of however many it was told
abbrev pub Transcript : {S C D R Q X Y : Type 0} → Protocol S C D R Q X Y → S → List (Entry C) → Origin → ℕ → List InputLine → List (List ℕ) → List ℕ → Type 0
Transcript k o h from station lines replies unanswered = (told : ℕ) × TranscriptTo k o h from station lines replies told unanswered

-- The same, and one line more, whose reply was not sent: it has one by the history. Where the line is an edit that was
-- done, its entry is the one that no reply told of.
abbrev pub TranscriptBut : {S C D R Q X Y : Type 0} → Protocol S C D R Q X Y → S → List (Entry C) → Origin → ℕ → List InputLine → List (List ℕ) → ℕ → InputLine → Type 0
TranscriptBut k o h from station lines replies told line =
    (unanswered : List ℕ) × TranscriptTo k o h from station lines replies told unanswered
    × (unsent : List ℕ) × (after : ℕ) × Row k o h station (from.base + 1 + length lines) told unsent after unanswered line

-- a reply as it is sent: it ends with a line feed
abbrev pub reply_line : List ℕ → List ℕ
reply_line reply = reply ++ codes "\n"

-- the replies as they are sent
abbrev pub sent : List (List ℕ) → List ℕ
sent [] = []
sent (reply ∷ replies) = reply_line reply ++ sent replies
