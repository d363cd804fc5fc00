-- What each tree of the program keeps, and which trees can be written.
use Rattle.std.specs.Prelude.{◌≡◌, ℕ, zero, suc, ◌^◌, ◌<◌, ◌≤◌, unsigned_abs, Bool, true, false, ◌&&◌, List}
use Rattle.std.specs.Str.{IsUtf8}
use Rattle.ratio_time.specs.Numerals.{HasLeastPlaces}
use Rattle.json_tree.specs.Grammar.{Spells}
use Rattle.json_tree.specs.Tree.{Tree, Kind, Trees, Members, At, Null, Bool_of, Numeral_of, Wide, Text_of, List_of, Object_of, no_trees, more_trees, no_members, more_members}

-- each text is UTF-8, and each numeral is kept with its least places
abbrev mutual
  pub IsSound : Tree → Type 0
  IsSound (At at kind) = IsSoundKind kind

  pub IsSoundKind : Kind → Type 0
  IsSoundKind Null = Unit {0}
  IsSoundKind (Bool_of b) = Unit {0}
  IsSoundKind (Numeral_of m p) = (unsigned_abs m < 10 ^ 18) × (p ≤ 18) × HasLeastPlaces m p
  IsSoundKind Wide = Unit {0}
  IsSoundKind (Text_of s) = IsUtf8 s
  IsSoundKind (List_of ts) = AreSound ts
  IsSoundKind (Object_of ms) = AreSoundMembers ms

  pub AreSound : Trees → Type 0
  AreSound no_trees = Unit {0}
  AreSound (more_trees t ts) = IsSound t × AreSound ts

  pub AreSoundMembers : Members → Type 0
  AreSoundMembers no_members = Unit {0}
  AreSoundMembers (more_members n t ms) = IsUtf8 n × IsSound t × AreSoundMembers ms

-- no number is wide, and at most so many levels of lists and objects stand in one another
abbrev mutual
  pub is_writable : Tree → ℕ → Bool
  is_writable (At at kind) levels = is_kind_writable kind levels

  pub is_kind_writable : Kind → ℕ → Bool
  is_kind_writable Null levels = true
  is_kind_writable (Bool_of b) levels = true
  is_kind_writable (Numeral_of m p) levels = true
  is_kind_writable Wide levels = false
  is_kind_writable (Text_of s) levels = true
  is_kind_writable (List_of ts) zero = false
  is_kind_writable (List_of ts) (suc levels) = are_writable ts levels
  is_kind_writable (Object_of ms) zero = false
  is_kind_writable (Object_of ms) (suc levels) = are_members_writable ms levels

  pub are_writable : Trees → ℕ → Bool
  are_writable no_trees levels = true
  are_writable (more_trees t ts) levels = is_writable t levels && are_writable ts levels

  pub are_members_writable : Members → ℕ → Bool
  are_members_writable no_members levels = true
  are_members_writable (more_members n t ms) levels = is_writable t levels && are_members_writable ms levels

-- the tree, with each place 0
abbrev mutual
  pub aside : Tree → Tree
  aside (At at kind) = At 0 (kind_aside kind)

  pub kind_aside : Kind → Kind
  kind_aside (List_of ts) = List_of (trees_aside ts)
  kind_aside (Object_of ms) = Object_of (members_aside ms)
  kind_aside Null = Null
  kind_aside (Bool_of b) = Bool_of b
  kind_aside (Numeral_of m p) = Numeral_of m p
  kind_aside Wide = Wide
  kind_aside (Text_of s) = Text_of s

  pub trees_aside : Trees → Trees
  trees_aside no_trees = no_trees
  trees_aside (more_trees t ts) = more_trees (aside t) (trees_aside ts)

  pub members_aside : Members → Members
  members_aside no_members = no_members
  members_aside (more_members n t ms) = more_members n (aside t) (members_aside ms)

-- the bytes spell the tree, places aside
abbrev pub SpellsAgain : ℕ → List ℕ → Tree → Type 0
SpellsAgain levels bytes t = (u : Tree) × Spells levels bytes u × (aside u ≡ aside t)
