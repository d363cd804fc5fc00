-- What is read of a whole text is what the grammar says of it.
use Rattle.std.proofs.Common.{◌≡◌, ◌≢◌, inl, inr, Result, Ok, Err, List, ℕ, ltb, length, refl, ◌∙◌, subst, ap}
use Rattle.json_tokens.proofs.Tools.{chosen}
use Rattle.json_tokens.specs.declared.fault.JsonFault.{JsonFault}
use Rattle.json_tokens.specs.declared.fault.JsonFault.TheVariants.{TooLarge, Memory}
use Rattle.json_tree.specs.Faults.{IsPlaced}
use Rattle.json_tree.specs.ReadingValues.{document_at}
use Rattle.json_tree.specs.Tree.{Tree}
use Rattle.json_tree.proofs.AgainLaws.{document_again}
use Rattle.json_tree.proofs.OneFault.{no_fault_in_texts, one_fault}
use Rattle.json_tree.proofs.PlacedFaults.{document_placed, never_memory}
use Rattle.json_tree.proofs.ValueLaws.{document_took}
use Rattle.json_laws.specs.Documents.{DocumentsAreRead, DocumentsAreRefused}

pub documents_read : DocumentsAreRead
documents_read bytes t = (document_took bytes t, λ h. document_again bytes t h.0 h.1)

-- to be out of memory is no answer of the reading
no_memory_read : (bytes : List ℕ) → document_at bytes ≡ Err Memory → ⊥
unfolding document_at
no_memory_read bytes h =
    elim (chosen (ltb 33554432 (length bytes)) _ _ _ h) [
      | inl p ↦ other p.1
      | inr p ↦ never_memory bytes p.1
    ]
  where
    other : ◌≡◌ {A = Result Tree JsonFault} (Err TooLarge) (Err Memory) → ⊥
    other h = cc

not_memory : (bytes : List ℕ) (e : JsonFault) → document_at bytes ≡ Err e → e ≢ Memory
not_memory bytes e h = λ same. no_memory_read bytes (subst (λ (f : JsonFault). document_at bytes ≡ Err f) same h)

placed_read : (bytes : List ℕ) (e : JsonFault) → e ≢ Memory → IsPlaced bytes e → document_at bytes ≡ Err e
placed_read bytes e m p = by_reading (document_at bytes) refl
  where
    by_reading : (r : Result Tree JsonFault) → document_at bytes ≡ r → document_at bytes ≡ Err e
    by_reading (Ok t) is = let took = document_took bytes t is in absurd (no_fault_in_texts bytes e t p m took.0 took.1)
    by_reading (Err f) is = is ∙ ap Err (one_fault bytes f e (document_placed bytes f is) p (not_memory bytes f is) m)

pub documents_refused : DocumentsAreRefused
documents_refused bytes e = ((λ h. (not_memory bytes e h, document_placed bytes e h)), λ h. placed_read bytes e h.0 h.1)
