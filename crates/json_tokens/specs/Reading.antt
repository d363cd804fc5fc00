-- Reading from left to right, with the first fault that is met. What is read stands for (x, at, bytes):
-- the value x, how many bytes stand before the rest, and the rest.
use Rattle.std.specs.Prelude.{◌≡◌, ℕ, ◌+◌, Bool, ◌||◌, List, [], ◌∷◌, Option, Some, None, Result, Ok, Err, ◌==◌, if◌then◌else◌}
use Rattle.json_tokens.specs.declared.fault.JsonFault.{JsonFault}
use Rattle.json_tokens.specs.declared.fault.JsonFault.TheVariants.{Syntax, Depth, NotUtf8, TooLarge, Memory}

infixl 10 ◌>>=◌
abbrev pub ◌>>=◌ : {A B F : Type 0} → Result A F → (A → Result B F) → Result B F
(Ok x) >>= f = f x
(Err e) >>= f = Err e

-- What a function returned, seen by view, is what reading gives, unless memory ran out.
abbrev pub Fails : {Y : Type 0} → JsonFault → Result Y JsonFault → Type 0
Fails Memory read = Unit {0}
Fails (Syntax at) read = read ≡ Err (Syntax at)
Fails (Depth at) read = read ≡ Err (Depth at)
Fails (NotUtf8 at) read = read ≡ Err (NotUtf8 at)
Fails TooLarge read = read ≡ Err TooLarge

abbrev pub Gives : {X Y : Type 0} → (X → Y) → Result X JsonFault → Result Y JsonFault → Type 0
Gives view (Ok x) read = read ≡ Ok (view x)
Gives view (Err e) read = Fails e read

abbrev pub Read : Type 0 → Type 0
Read A = Result (A × ℕ × List ℕ) JsonFault

-- space, tab, line feed, carriage return
abbrev pub is_blank : ℕ → Bool
is_blank b = (b == 32) || (b == 9) || (b == 10) || (b == 13)

abbrev pub blank_at : ℕ → List ℕ → Option (ℕ × List ℕ)
blank_at at [] = None
blank_at at (b ∷ bs) = if is_blank b then Some (at + 1, bs) else None

abbrev pub past_blanks : ℕ → List ℕ → ℕ × List ℕ
past_blanks at [] = (at, [])
past_blanks at (b ∷ bs) = if is_blank b then past_blanks (at + 1) bs else (at, b ∷ bs)

-- past that byte, if it stands there
abbrev pub byte_at : ℕ → ℕ → List ℕ → Option (ℕ × List ℕ)
byte_at byte at [] = None
byte_at byte at (b ∷ bs) = if b == byte then Some (at + 1, bs) else None

abbrev pub or_syntax : ℕ → Option (ℕ × List ℕ) → Result (ℕ × List ℕ) JsonFault
or_syntax at None = Err (Syntax at)
or_syntax at (Some after) = Ok after

-- past the bytes of a word
abbrev pub word_at : List ℕ → ℕ → List ℕ → Result (ℕ × List ℕ) JsonFault
word_at [] at bytes = Ok (at, bytes)
word_at (w ∷ ws) at bytes = or_syntax at (byte_at w at bytes) >>= λ after. word_at ws after.0 after.1
