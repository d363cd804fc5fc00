-- What a seat of the table knows, and the rule of all seats. The table has two words: how many records a file has, and
-- how many appends have failed.
use Rattle.std.specs.Prelude.{◌≡◌, ℕ, ◌+◌, ◌≤◌, List, [], ◌∷◌}
use mathlib.Core.Option.{some}
use lib.ListN.{get_elem?}
use Rattle.append_receipts.specs.declared.view.Role.{Role}
use Rattle.append_receipts.specs.declared.view.Role.TheVariants.{Clerk, Receipt, Spent}
use Rattle.append_receipts.specs.declared.view.View.{View}

-- the clerk's view before any receipt came back
abbrev pub clerk : ℕ → ℕ → View
clerk kept failed = record { role = Clerk; kept = kept; failed = failed; last_kept = 0; last_failed = 0 }

-- the view of nobody any more
abbrev pub spent : View
spent = record { role = Spent; kept = 0; failed = 0; last_kept = 0; last_failed = 0 }

-- what the rule says of a view, by its role; kept and failed are the two words
abbrev pub FitsAs : Role → ℕ → ℕ → ℕ → ℕ → View → Type 0
FitsAs Clerk seat kept failed by v =
    (by ≡ seat) × (v.kept ≡ kept) × (v.failed ≡ failed) × (v.last_kept ≤ kept) × (v.last_failed ≤ failed)
FitsAs Receipt seat kept failed by v = (v.kept ≤ kept) × (v.failed ≤ failed)
FitsAs Spent seat kept failed by v = Unit {0}

-- Exactly one view is the clerk's, and its numbers are the two words. Every receipt's numbers are at most these, and so
-- are those that the clerk remembers of the receipt that came back last.
pub record IsCounted (words : List ℕ) (views : List View) (seat kept failed : ℕ) : Type 0 where
  pub words_are : words ≡ kept ∷ failed ∷ []
  pub each : (by : ℕ) (v : View) → get_elem? views by ≡ some v → FitsAs v.role seat kept failed by v
  pub one : (v : View) × (get_elem? views seat ≡ some v) × (v.role ≡ Clerk)

abbrev pub Counted : List ℕ → List View → Type 0
Counted words views = (seat : ℕ) × (kept : ℕ) × (failed : ℕ) × IsCounted words views seat kept failed

-- ---- what a step makes of the clerk's view

-- one record more
abbrev pub with_kept : View → View
with_kept v = record v { kept = v.kept + 1 }

-- one failed append more
abbrev pub with_failed : View → View
with_failed v = record v { failed = v.failed + 1 }

-- the receipt that the clerk gives, and a receipt like another one
abbrev pub receipt_of : View → View
receipt_of v = record { role = Receipt; kept = v.kept; failed = v.failed; last_kept = 0; last_failed = 0 }

-- the receipt of who has looked: so many records were counted by then
abbrev pub with_seen : View → ℕ → View
with_seen v n = record v { kept = n }

-- the clerk, who remembers the receipt that came back
abbrev pub with_receipt : View → View → View
with_receipt v w = record v { last_kept = w.kept; last_failed = w.failed }

-- what the clerk remembers is at most its own numbers
abbrev pub IsInOrder : View → Type 0
IsInOrder v = v.role ≡ Clerk → (v.last_kept ≤ v.kept) × (v.last_failed ≤ v.failed)
