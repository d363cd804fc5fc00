-- What lines mean, whatever labels name.
use Rattle.std.specs.Prelude.{◌≡◌, ◌↔◌, ◌⊎◌, ◌+◌, ℕ, List, Some, Ok, Err}
use Rattle.timecode12.specs.Labels.{IsLabelOf}
use Rattle.timecode12.specs.Numbers.{Counted}
use Rattle.timecode12.specs.Spelling.{Spells}
use Rattle.timecode12.specs.declared.label.Label.{Label}
use Rattle.edit_calls.specs.declared.asks.Call.{Call}
use Rattle.line_table.specs.declared.lines.Line.{Line}
use Rattle.line_table.specs.declared.lines.Line.TheVariants.{Edit}
use Rattle.protocol_parts.specs.declared.line_fault.LineFault.{LineFault}
use Rattle.line_table.specs.CallTexts.{step_text_of, IsWrittenStep}
use Rattle.line_table.specs.Faults.{IsBad}
use Rattle.line_table.specs.Labels.{place_by}
use Rattle.line_table.specs.Reading.{line_of}
use Rattle.line_table.specs.Spelling.{Naming}
use Rattle.line_table.specs.Table.{IsLine}
use Rattle.take_back.specs.Steps.{asked_by}
use Rattle.take_back.specs.declared.step.Step.{Step}

-- what is read of a line is spelled there, word by word, and what is spelled there is read
abbrev pub ReadAsSpelled : Type 0
ReadAsSpelled =
    (place_at : Naming) (bytes : List ℕ) (line : Line)
    → (line_of place_at bytes ≡ Ok line) ↔ IsLine place_at bytes line

-- a line is refused exactly for the fault that it has
abbrev pub RefusedAsBad : Type 0
RefusedAsBad =
    (place_at : Naming) (bytes : List ℕ) (fault : LineFault)
    → (line_of place_at bytes ≡ Err fault) ↔ IsBad place_at bytes fault

-- a line is one of the table or has a fault
abbrev pub HasMeaning : Type 0
HasMeaning =
    (place_at : Naming) (bytes : List ℕ)
    → ((line : Line) × IsLine place_at bytes line)
    ⊎ ((fault : LineFault) × IsBad place_at bytes fault)

-- no bytes are two lines of the table
abbrev pub IsOneLine : Type 0
IsOneLine =
    (place_at : Naming) (bytes : List ℕ) (line other : Line)
    → IsLine place_at bytes line → IsLine place_at bytes other → line ≡ other

-- no bytes have two faults
abbrev pub HasOneFault : Type 0
HasOneFault =
    (place_at : Naming) (bytes : List ℕ) (fault other : LineFault)
    → IsBad place_at bytes fault → IsBad place_at bytes other → fault ≡ other

-- no bytes are a line of the table and have a fault
abbrev pub IsNotBoth : Type 0
IsNotBoth =
    (place_at : Naming) (bytes : List ℕ) (line : Line) (fault : LineFault)
    → IsLine place_at bytes line → IsBad place_at bytes fault → ⊥

-- a word names a place as a label exactly where it spells the label of that place, counted from the start
abbrev pub LabelsNamePlaces : Type 0
LabelsNamePlaces =
    (c : Counted) (start place : ℕ) (word : List ℕ)
    → (place_by c start word ≡ Some place)
    ↔ ((l : Label) × Spells word l × IsLabelOf c (start + place) l)

-- the text of a step that a line can name is read again as that step of station 0
abbrev pub WrittenIsRead : Type 0
WrittenIsRead =
    (place_at : Naming) (step : Step Call)
    → IsWrittenStep step → line_of place_at (step_text_of step) ≡ Ok (Edit (asked_by 0 step))
