-- Bytes with a fault are read as that fault, and so they have no other.
use Rattle.std.proofs.Common.{◌≡◌, ◌≢◌, ℕ, ◌≤◌, ◌⊎◌, List, length, Result, Ok, Err, refl, sym, ap, subst, ◌∙◌, inl, inr, arith}
use Rattle.std.proofs.lemmas.Bool.{lt-ltb}
use Rattle.json_tokens.specs.declared.fault.JsonFault.{JsonFault}
use Rattle.json_tokens.specs.declared.fault.JsonFault.TheVariants.{Syntax, Depth, NotUtf8, TooLarge, Memory}
use Rattle.json_tokens.specs.Faults.{StopsAt, IsLoneHalf, IsBadSequence, IsTooDeep}
use Rattle.json_tree.specs.Faults.{Begins, IsPlain, IsPlaced}
use Rattle.json_tree.specs.Grammar.{Spells}
use Rattle.json_tree.specs.ReadingValues.{document_at}
use Rattle.json_tree.specs.Tree.{Tree}
use Rattle.json_tree.proofs.Steady.{no_fault, fault_is}
use Rattle.json_tree.proofs.ValueLaws.{document_took}
use Rattle.json_tree.proofs.AgainLaws.{document_again}
use Rattle.json_tree.proofs.OneStop.{one_stop}
use Rattle.json_tree.proofs.PlacedFaults.{reading, fits_read, reading_placed, never_memory, too_deep_read}
use Rattle.json_tree.proofs.QuotedValues.{bad_sequence_read, lone_half_read}

module _ (bytes : List ℕ) (fits : length bytes ≤ 33554432) (at : ℕ) (s : StopsAt (Begins 64) bytes at) (plain : IsPlain bytes at) where
  same_stop : (stop : ℕ) → StopsAt (Begins 64) bytes stop → stop ≡ at
  same_stop stop r = one_stop bytes stop at r s

  is_syntax : (p : ℕ) → (StopsAt (Begins 64) bytes p × IsPlain bytes p) ⊎ ((stop : ℕ) × StopsAt (Begins 64) bytes stop × IsLoneHalf (Begins 64) bytes p stop) → Syntax p ≡ Syntax at
  is_syntax p (inl q) = ap Syntax (same_stop p q.0)
  is_syntax p (inr q) = absurd (plain.no_half p (subst (IsLoneHalf (Begins 64) bytes p) (same_stop q.0 q.1) q.2))

  is_told : (g : JsonFault) → reading bytes ≡ Err g → IsPlaced bytes g → g ≡ Syntax at
  is_told (Syntax p) h q = is_syntax p q.1
  is_told (NotUtf8 p) h q = absurd (plain.no_sequence p (subst (IsBadSequence (Begins 64) bytes p) (same_stop q.1.0 q.1.1) q.1.2))
  is_told (Depth p) h q = absurd (plain.not_deep (subst (IsTooDeep (Begins 65) bytes) (same_stop p q.1) q.2))
  is_told TooLarge h q = absurd (omega (arith, fits, q))
  is_told Memory h q = absurd (never_memory bytes h)

  plain_read : reading bytes ≡ Err (Syntax at)
  plain_read = by_result (reading bytes) refl
    where
      by_result : (r : Result Tree JsonFault) → reading bytes ≡ r → r ≡ Err (Syntax at)
      by_result (Ok t) h = absurd (plain.no_text t (document_took bytes t (fits_read bytes fits ∙ h)).1)
      by_result (Err g) h = ap Err (is_told g h (reading_placed bytes g fits h))

syntax_read : (bytes : List ℕ) (at : ℕ) → IsPlaced bytes (Syntax at) → reading bytes ≡ Err (Syntax at)
syntax_read bytes at q = by_place q.1
  where
    by_place : (StopsAt (Begins 64) bytes at × IsPlain bytes at) ⊎ ((stop : ℕ) × StopsAt (Begins 64) bytes stop × IsLoneHalf (Begins 64) bytes at stop) → reading bytes ≡ Err (Syntax at)
    by_place (inl p) = plain_read bytes q.0 at p.0 p.1
    by_place (inr p) = lone_half_read bytes at p.0 p.2

-- bytes with a fault are read as that fault
placed_read : (bytes : List ℕ) (e : JsonFault) → IsPlaced bytes e → e ≢ Memory → document_at bytes ≡ Err e
unfolding document_at
placed_read bytes (Syntax at) q not_so = fits_read bytes q.0 ∙ syntax_read bytes at q
placed_read bytes (NotUtf8 at) q not_so = fits_read bytes q.0 ∙ bad_sequence_read bytes at q.1.0 q.1.2
placed_read bytes (Depth at) q not_so = fits_read bytes q.0 ∙ too_deep_read bytes at q.1 q.2
placed_read bytes TooLarge q not_so = rw (lt-ltb 33554432 (length bytes) q) refl
placed_read bytes Memory q not_so = absurd (not_so refl)

pub one_fault : (bytes : List ℕ) (e f : JsonFault) → IsPlaced bytes e → IsPlaced bytes f → e ≢ Memory → f ≢ Memory → e ≡ f
one_fault bytes e f p q m n = fault_is {X = Tree} e f (sym (placed_read bytes e p m) ∙ placed_read bytes f q n)

pub no_fault_in_texts : (bytes : List ℕ) (e : JsonFault) (t : Tree) → IsPlaced bytes e → e ≢ Memory → length bytes ≤ 33554432 → Spells 64 bytes t → ⊥
no_fault_in_texts bytes e t p m le h = no_fault t e (sym (document_again bytes t le h) ∙ placed_read bytes e p m)
