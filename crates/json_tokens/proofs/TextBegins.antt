-- Bytes that begin a text in quotes, and where a character stops.
use Rattle.std.proofs.Common.{◌≡◌, ℕ, ◌+◌, List, [], ◌∷◌, ◌++◌, length, refl, sym, subst, inl, append_assoc, arith}
use Rattle.std.specs.Char.{encode_utf8}
use Rattle.std.proofs.lemmas.List.{append-nil}
use Rattle.json_tokens.specs.declared.fault.JsonFault.{JsonFault}
use Rattle.json_tokens.specs.declared.fault.JsonFault.TheVariants.{Syntax}
use Rattle.json_tokens.specs.Grammar.{IsCharacter}
use Rattle.json_tokens.specs.Faults.{IsLawful}
use Rattle.json_tokens.proofs.TextLaws.{raw_one}
use Rattle.json_tokens.proofs.Halts.{IsToldBy}
use Rattle.json_tokens.proofs.Stuck.{BeginsText}

pub begins_nothing : BeginsText []
begins_nothing = (34 ∷ [], [], [], record { characters = []; each = tt; body_is = refl; text_is = refl }, refl)

pub begins_character : (part more : List ℕ) (c : ℕ) → IsCharacter (part ++ more, c) → BeginsText part
begins_character part more c is = (
  more ++ 34 ∷ [],
  part ++ more,
  encode_utf8 c ++ [],
  record { characters = (part ++ more, c) ∷ []; each = (is, tt); body_is = sym (append-nil (part ++ more)); text_is = refl },
  sym (append_assoc part more (34 ∷ [])),
)

pub begins_letter : BeginsText (120 ∷ [])
begins_letter = begins_character (120 ∷ []) [] 120 (inl (raw_one 120 (omega arith) (omega arith) (λ e. omega arith) (λ e. omega arith)))

-- where a character that begins at the place stops
abbrev pub CharacterStop : ℕ → JsonFault → List ℕ → List ℕ → Type 0
CharacterStop at e front rest = IsLawful BeginsText front × IsToldBy BeginsText at front rest e

pub stops_here : (at : ℕ) (e : JsonFault) (front rest : List ℕ) → IsLawful BeginsText front → e ≡ Syntax (at + length front) → CharacterStop at e front rest
stops_here at e front rest l h = (l, subst (IsToldBy BeginsText at front rest) (sym h) (inl refl))
