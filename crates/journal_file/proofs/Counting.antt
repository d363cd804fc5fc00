-- Records that are counted.
use Rattle.std.proofs.Common.{◌≡◌, ℕ, ◌+◌, ◌≤◌, List, [], ◌∷◌, ◌++◌, length, refl, ◌∙◌, ap, arith, length-append}
use Rattle.journal_file.specs.Layout.{IsLine, record_of, records_of}
use Rattle.journal_file.specs.Reading.{Begins}
use Rattle.journal_file.proofs.Lines.{all_push, records_push}

pub begins_nothing : (bytes : List ℕ) → Begins bytes 0 bytes
begins_nothing bytes = record { lines = []; counts = refl; are_lines = tt; parts = refl }

pub begins_more : (bytes : List ℕ) (count : ℕ) (rest line after : List ℕ) → Begins bytes count rest → IsLine line
    → rest ≡ record_of line ++ after → Begins bytes (count + 1) after
begins_more bytes count rest line after b is split = record {
  lines = b.lines ++ line ∷ [];
  counts = omega (arith, length-append b.lines (line ∷ []), b.counts);
  are_lines = all_push IsLine b.lines line b.are_lines is;
  parts = b.parts ∙ (ap (λ t. records_of b.lines ++ t) split ∙ records_push b.lines line after);
}

pub fewer_left : (rest line after : List ℕ) → rest ≡ record_of line ++ after → length after + 1 ≤ length rest
fewer_left rest line after split = omega (arith, ap length split, length-append (record_of line) after)
