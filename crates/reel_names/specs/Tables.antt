-- Tables of names by texts: why a table takes no row, and what a namer gives that goes by one.
use Rattle.std.specs.Prelude.{◌≡◌, ℕ, Bool, true, false, not, List, [], ◌∷◌, Option, Some, None, bytes_eq, if◌then◌else◌}
use Rattle.std.specs.List.{list_any}
use Rattle.reel_names.specs.declared.table.TableFault.{TableFault}
use Rattle.reel_names.specs.declared.table.TableFault.TheVariants.{Again, Taken, Unfit}
use Rattle.reel_names.specs.declared.namer.ReelName.{ReelName}
use Rattle.reel_names.specs.Names.{fits}
use Rattle.reel_names.specs.Namers.{NamerRule, has_name}

-- a row of a table: a text and its name
pub record NamedText : Type 0 where
  pub text : List ℕ
  pub name : List ℕ

abbrev pub has_text : List NamedText → List ℕ → Bool
has_text table text = list_any (λ r. bytes_eq r.text text) table

-- whether a text of the table has this name
abbrev pub is_named : List NamedText → List ℕ → Bool
is_named table name = list_any (λ r. bytes_eq r.name name) table

-- the name of a text, if it has one
abbrev pub name_in : List NamedText → List ℕ → Option (List ℕ)
name_in [] text = None
name_in (r ∷ rs) text = if bytes_eq r.text text then Some r.name else name_in rs text

-- why a table takes no such row: a list that is written can't have the name, the text is there, the name is there
abbrev pub row_fault : List NamedText → NamedText → Option TableFault
row_fault table row =
    if not (fits row.name) then Some Unfit else
    if has_text table row.text then Some Again else
    if is_named table row.name then Some Taken else None

-- each name fits a list that is written, and no text and no name is here twice
abbrev pub IsTable : List NamedText → Type 0
IsTable [] = Unit {0}
IsTable (r ∷ rs) = (fits r.name ≡ true) × ((has_text rs r.text ≡ false) × ((is_named rs r.name ≡ false) × IsTable rs))

-- what a namer with a table is: its rows, and the names that it has given
pub record TableAndNames : Type 0 where
  pub table : List NamedText
  pub given : List ReelName

-- whether a name can't be given: there is none, or another reel has it
abbrev pub is_gone : List ReelName → Option (List ℕ) → Bool
is_gone given None = true
is_gone given (Some name) = has_name given name

abbrev pub the_name : Option (List ℕ) → List ℕ
the_name None = []
the_name (Some name) = name

-- the name that the text has in the table, unless the text is not there or another reel has the name
abbrev pub tabled : List NamedText → NamerRule
tabled table = record {
  refuses = λ given reel text. is_gone given (name_in table text);
  gives = λ given reel text. the_name (name_in table text);
}
