-- What a call on named parts means for the whole state of an object: the named parts change, and no other.
use Rattle.std.specs.Prelude.{ℕ, ◌+◌, ◌^◌, List, [], ◌∷◌, Option, Some, None, Result, Ok, Err, nat_lt, slice_get, slice_set, if◌then◌else◌}

-- What the calls of an object mean: the numbers of the parts that a call names, in ascending order; the refusal of a
-- call for the parts that it names; and what a call leaves on these parts, in order, and answers, or its refusal.
pub record Meaning (P C D R : Type 0) : Type 0 where
  pub names : C → List ℕ
  pub refuses : C → Option R
  pub applied : List P → C → Result (List P × D) R

-- these numbers as a set, bit n for the number n; a number over 31 is in no set
abbrev pub set_of : List ℕ → ℕ
set_of [] = 0
set_of (n ∷ ns) = (if nat_lt n 32 then 2 ^ n else 0) + set_of ns

abbrev pub with_picked : {P : Type 0} → Option P → List P → List P
with_picked None ps = ps
with_picked (Some p) ps = p ∷ ps

-- the parts with these numbers
abbrev pub picked : {P : Type 0} → List P → List ℕ → List P
picked parts [] = []
picked parts (n ∷ ns) = with_picked (slice_get parts n) (picked parts ns)

-- the parts with these in the places of those numbers
abbrev pub put_back : {P : Type 0} → List P → List ℕ → List P → List P
put_back parts [] ps = parts
put_back parts (n ∷ ns) [] = parts
put_back parts (n ∷ ns) (p ∷ ps) = put_back (slice_set parts n p) ns ps

abbrev pub on_whole : {P D R : Type 0} → List P → List ℕ → Result (List P × D) R → Result (List P × D) R
on_whole parts names (Ok (ps, d)) = Ok (put_back parts names ps, d)
on_whole parts names (Err r) = Err r

abbrev pub unless_refused : {A R : Type 0} → Option R → Result A R → Result A R
unless_refused (Some r) then_so = Err r
unless_refused None then_so = then_so

-- on all parts of an object: those that the call does not name stay as they are
abbrev pub whole : {P C D R : Type 0} → Meaning P C D R → List P → C → Result (List P × D) R
whole m parts c = unless_refused (m.refuses c) (on_whole parts (m.names c) (m.applied (picked parts (m.names c)) c))
