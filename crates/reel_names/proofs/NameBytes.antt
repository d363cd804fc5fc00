-- Names as bytes.
use Rattle.std.proofs.Common.{◌≡◌, ℕ, ◌+◌, ◌/◌, ◌%◌, ◌<◌, ◌≤◌, Bool, true, false, ◌&&◌, cond, if◌then◌else◌, Some, None, List, [], ◌∷◌, length, nat_le, refl, sym, ap, ◌∙◌, arith, inl, inr}
use Rattle.std.proofs.lemmas.Bool.{and_from, and_parts, cases_Bool, le-leb, leb-true, true≢false}
use Rattle.std.proofs.lemmas.Bool.Decides.{nat_tests}
use Rattle.std.specs.List.{list_all}
use Rattle.reel_names.specs.Names.{fits, is_printable, is_reel_character, is_reel_name}
use Rattle.reel_names.specs.declared.namer.ReelName.{ReelName}
use Rattle.reel_names.specs.Namers.{as_is, new_name, numbered_name}

printable : (byte : ℕ) → is_reel_character byte ≡ true → is_printable byte ≡ true
printable byte h = grind (arith, nat_tests)

all_printable : (name : List ℕ) → list_all is_reel_character name ≡ true → list_all is_printable name ≡ true
all_printable [] h = refl
all_printable (b ∷ bs) h =
    let both = and_parts (is_reel_character b) (list_all is_reel_character bs) h in
    and_from (is_printable b) (list_all is_printable bs) (printable b both.0) (all_printable bs both.1)

-- what fits a list that is written is a name
pub fits_named : (name : List ℕ) → fits name ≡ true → is_reel_name name ≡ true
fits_named name h =
    let parts = and_parts (nat_le 1 (length name) && nat_le (length name) 8) _ h in
    let lengths = and_parts (nat_le 1 (length name)) (nat_le (length name) 8) parts.0 in
    let plain = and_parts (list_all is_reel_character name) _ parts.1 in
    let short : length name ≤ 32 = omega (arith, leb-true (length name) 8 lengths.1) in
    and_from (nat_le 1 (length name) && nat_le (length name) 32) (list_all is_printable name)
    (and_from (nat_le 1 (length name)) (nat_le (length name) 32) lengths.0 (le-leb (length name) 32 short))
    (all_printable name plain.0)

pub unnamed : (name : List ℕ) → is_reel_name name ≡ false → fits name ≡ false
unnamed name h = elim (cases_Bool (fits name)) [ inl t ↦ absurd (true≢false (sym (fits_named name t) ∙ h)) | inr f ↦ f ]

-- the digits of a number are characters of a reel's name
digit : (n : ℕ) → n < 10 → is_reel_character (48 + n) ≡ true
digit n h = grind (arith, nat_tests)

pub numbered_fits : (n : ℕ) → n < 1000 → fits (numbered_name n) ≡ true
numbered_fits n h =
    let a = digit (n / 100) (omega arith) in
    let b = digit (n / 10 % 10) (omega arith) in
    let c = digit (n % 10) (omega arith) in
    rw (a, b, c) refl

no_text : (text : List ℕ) → None ≡ (if is_reel_name text then Some text else None) → is_reel_name text ≡ false
no_text text h =
    elim (cases_Bool (is_reel_name text)) [
      | inl t ↦
          let some : None ≡ Some text = h ∙ ap (λ (b : Bool). cond b (Some text) None) t in
          absurd cc
      | inr f ↦ f
    ]

-- a text that is no name is refused
pub text_refused : (given : List ReelName) (reel : ℕ) (text : List ℕ) → None ≡ (if is_reel_name text then Some text else None) → None ≡ new_name as_is given reel text
text_refused given reel text h = rw (unnamed text (no_text text h)) refl
