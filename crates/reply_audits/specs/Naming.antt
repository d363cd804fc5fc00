-- The points that the replies of a protocol name.
use Rattle.std.specs.Prelude.{◌≡◌, ◌<◌, ◌≤◌, ◌^◌, ◌++◌, ℕ, List, Option, Some, Result, length, codes, decimal}
use Rattle.recorded_sessions.specs.Naming.{point_named}
use Rattle.room_core.specs.declared.entry.Entry.{Entry}
use Rattle.room_core.specs.History.{most_entries}
use Rattle.station_sessions.specs.Transcript.{Protocol}

-- each reply of the protocol but `bad` and `memory` names its point
pub record NamesPoints {S C D R Q X Y : Type 0} (k : Protocol S C D R Q X Y) : Type 0 where
  pub answers : (n : ℕ) (a : Result D R) → n < 2 ^ 32 → point_named (k.answer_text n a) ≡ Some n
  pub full : point_named k.full_text ≡ Some most_entries
  pub sights : (n : ℕ) (s : Result X Y) → n < 2 ^ 32 → point_named (k.sight_text n s) ≡ Some n
  pub points : (n : ℕ) → n < 2 ^ 32 → point_named (codes "point " ++ decimal n) ≡ Some n
  pub documents : (n : ℕ) (s : S) → n < 2 ^ 32 → point_named (k.document_text n s) ≡ Some n
  pub news : (place n : ℕ) (e : Option (Entry C)) → place < 2 ^ 32 → n < 2 ^ 32 → point_named (k.news_text place n e) ≡ Some n
  pub past_ends : (n : ℕ) → n < 2 ^ 32 → point_named (k.no_point_text n) ≡ Some n

-- the point that a reply names, if there are so many entries
abbrev pub IsThere : {C : Type 0} → List (Entry C) → List ℕ → ℕ → Type 0
IsThere h reply n = (point_named reply ≡ Some n) × (n ≤ length h)

-- there is none
abbrev pub NamesNone : {C : Type 0} → List (Entry C) → List ℕ → Type 0
NamesNone h reply = (n : ℕ) → point_named reply ≡ Some n → length h < n
