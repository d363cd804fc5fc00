-- Bytes spell at most one tree, and spell one or have a fault.
use Rattle.std.proofs.Common.{◌≡◌, ◌≢◌, ◌⊎◌, inl, inr, Result, Ok, Err, refl, ◌∙◌, subst}
use Rattle.json_tokens.specs.declared.fault.JsonFault.{JsonFault}
use Rattle.json_tokens.specs.declared.fault.JsonFault.TheVariants.{Memory}
use Rattle.json_tree.specs.Faults.{IsPlaced}
use Rattle.json_tree.specs.Grammar.{Spells}
use Rattle.json_tree.specs.Tree.{Tree}
use Rattle.json_tree.proofs.PlacedFaults.{fits_read, never_memory, reading, reading_placed, spelled_read}
use Rattle.json_tree.proofs.ValueLaws.{document_took}
use Rattle.json_laws.specs.Meanings.{HasMeaning, IsOneTree}

pub one_tree : IsOneTree
one_tree bytes t u h k =
    let first = spelled_read bytes t h in
    let second = spelled_read bytes u k in
    cc

pub has_meaning : HasMeaning
has_meaning bytes le = by_reading (reading bytes) refl where
  by_reading : (r : Result Tree JsonFault) → reading bytes ≡ r → ((t : Tree) × Spells 64 bytes t) ⊎ ((fault : JsonFault) × (fault ≢ Memory) × IsPlaced bytes fault)
  by_reading (Ok t) is = inl (t, (document_took bytes t (fits_read bytes le ∙ is)).1)
  by_reading (Err e) is = inr (e, (λ same. never_memory bytes (subst (λ (f : JsonFault). reading bytes ≡ Err f) same is)), reading_placed bytes e le is)
