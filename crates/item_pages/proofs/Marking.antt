-- Marks of numbers and of sets: what is marked stays so, and what has no mark is on no item.
use Rattle.std.proofs.Common.{◌≡◌, ℕ, zero, suc, ◌+◌, ◌-◌, ◌*◌, ◌/◌, ◌%◌, ◌^◌, ◌<◌, ◌≤◌, false, not, nat_eq, Option, Some, None, List, [], ◌∷◌, length, take, get_or, sym, ap, subst, arith}
use Rattle.std.proofs.Math.ListN.{set, replicate}
use Rattle.std.specs.Int.{bit_at, w64}
use Rattle.std.specs.Int.RustNames.{bit_or}
use Rattle.std.proofs.lemmas.Nat.Bits.{bit_at_or, bit_at-lt, bit_at_ones, bit_at_set_same}
use Rattle.std.proofs.lemmas.Bool.{eqb-true, not-false}
use Rattle.std.proofs.lemmas.List.{get_or-set_same, get_or-replicate, take_all}
use Rattle.std.proofs.lemmas.List.Elements.{All-weaker, All-more}
use Rattle.item_pages.specs.declared.marks.Marks.{Marks}
use Rattle.item_pages.specs.declared.spans.Number.{Number}
use Rattle.item_pages.specs.declared.spans.Wanted.{Wanted}
use Rattle.item_pages.specs.declared.spans.Wanted.TheVariants.{Beyond}
use Rattle.item_pages.specs.Wants.{IsWithin, Tells, Unwanted}
use Rattle.item_pages.specs.Summary.{Grows, Holds, HoldsEach, Marked, MarksNumber}

-- a set is within all bits, within itself with more, and with what is within another
pub within_ones : (s : ℕ) → IsWithin s (2 ^ 64 - 1)
within_ones s = λ i h. omega (arith, bit_at_ones 64 i h, bit_at-lt s i)

pub within_self : (s : ℕ) → IsWithin s s
within_self s = λ i h. omega arith

pub within_or : (s t : ℕ) → IsWithin s (bit_or s t)
within_or s t = λ i h. omega (arith, bit_at_or s t i)

pub within_or_behind : (s t : ℕ) → IsWithin t (bit_or s t)
within_or_behind s t = λ i h. omega (arith, bit_at_or s t i)

pub within_more : (r s t : ℕ) → IsWithin r s → IsWithin s t → IsWithin r t
within_more r s t a b = λ i h. omega (arith, a i h, b i h)

-- sets that add nothing to these bits are within them
within_joined : (all bits : ℕ) → bit_or all bits ≡ bits → IsWithin all bits
within_joined all bits e = λ i h. omega (arith, bit_at_or all bits i, ap (λ n. bit_at n i) e)

pub beyond_unwanted : (m : Marks) (wanted : Wanted) (bits : ℕ) → wanted ≡ Beyond bits → not (nat_eq (bit_or m.all bits) bits) ≡ false
    → (o : Option ℕ) (set : ℕ) → Holds m o set → Unwanted wanted o set
beyond_unwanted m wanted bits is none o set h =
    let within = within_joined m.all bits (eqb-true (bit_or m.all bits) bits (not-false (nat_eq (bit_or m.all bits) bits) none)) in
    rw is (within_more set m.all bits h.among within)

-- a word of some gets more bits
pub bit_kept : (words : List ℕ) (j i m b : ℕ) → bit_at (get_or words i 0) b ≡ 1 → bit_at (get_or (set words j (bit_or (get_or words j 0) m)) i 0) b ≡ 1
bit_kept [] j i m b h = h
bit_kept (w ∷ ws) zero zero m b h = omega (arith, h, bit_at_or w m b, bit_at-lt m b)
bit_kept (w ∷ ws) zero (suc i) m b h = h
bit_kept (w ∷ ws) (suc j) zero m b h = h
bit_kept (w ∷ ws) (suc j) (suc i) m b h = bit_kept ws j i m b h

-- marks that grow hold what they held
number_kept : (m new : Marks) (number : Option ℕ) → Grows m new → MarksNumber m number → MarksNumber new number
number_kept m new None g h = h
number_kept m new (Some n) g h = λ low. g.numbers n low (h low)

pub holds_kept : {T : Type 0} (numbered : T → Option ℕ) (set : T → ℕ) (m new : Marks) (items : List T) → Grows m new → HoldsEach numbered set m items → HoldsEach numbered set new items
holds_kept {T} numbered set m new items g h =
    All-weaker (λ (x : T). Holds m (numbered x) (set x)) (λ (x : T). Holds new (numbered x) (set x))
    (λ x k. record { marked = number_kept m new (numbered x) g k.marked; among = within_more (set x) m.all new.all k.among g.sets }) items h

pub grows_on : (m n o : Marks) → Grows m n → Grows n o → Grows m o
grows_on m n o a b = record { numbers = λ k low h. b.numbers k low (a.numbers k low h); sets = within_more m.all n.all o.all a.sets b.sets }

holds_on : (m n : Marks) (number : Option ℕ) (set bits : ℕ) → Grows m n → MarksNumber m number → IsWithin set bits → IsWithin bits n.all → Holds n number set
holds_on m n number set bits g marked told among = record { marked = number_kept m n number g marked; among = within_more set bits n.all told among }

-- the marks of one item more
pub marks_more : {T : Type 0} (numbered : T → Option ℕ) (set : T → ℕ) (m n new : Marks) (items : List T) (i : ℕ) (x : T) (told : Number) (bits : ℕ)
    → i < length items → x ≡ get_or items i x → HoldsEach numbered set m (take i items) → Grows m n → Grows n new
    → ((o : Option ℕ) → Tells o told → MarksNumber n o) → Tells (numbered x) told → IsWithin (set x) bits → IsWithin bits new.all
    → HoldsEach numbered set new (take (i + 1) items)
marks_more {T} numbered set m n new items i x told bits h is held a b marks tells within all =
    All-more (λ (y : T). Holds new (numbered y) (set y)) items i x h (holds_kept numbered set m new (take i items) (grows_on m n new a b) held)
    (rw (sym is) (holds_on n new (numbered x) (set x) bits b (marks (numbered x) tells) within all))

-- the marks of all
pub each_held : {T : Type 0} (numbered : T → Option ℕ) (set : T → ℕ) (m : Marks) (items : List T) (i : ℕ) → length items ≤ i
    → HoldsEach numbered set m (take i items) → HoldsEach numbered set m items
each_held {T} numbered set m items i h held = subst (λ (xs : List T). HoldsEach numbered set m xs) (take_all i items h) held

-- the marks with one number more
pub mark_grows : (m new : Marks) (n : ℕ) → new.least ≤ m.least → m.greatest ≤ new.greatest → new.all ≡ m.all
    → new.words ≡ set m.words (n / 64 % 4) (bit_or (get_or m.words (n / 64 % 4) 0) (1 * 2 ^ (n % 64) % 2 ^ 64)) → Grows m new
mark_grows m new n least greatest all words = record {
  numbers = λ k low h. record {
    least = omega (arith, h.least, least);
    greatest = omega (arith, h.greatest, greatest);
    bit = rw words (bit_kept m.words (n / 64 % 4) (k / 64 % 4) (1 * 2 ^ (n % 64) % 2 ^ 64) (k % 64) h.bit);
  };
  sets = rw all (within_self m.all);
}

pub mark_has : (m new : Marks) (n : ℕ) → new.least ≤ n → n ≤ new.greatest → n / 64 % 4 < length m.words
    → new.words ≡ set m.words (n / 64 % 4) (bit_or (get_or m.words (n / 64 % 4) 0) (1 * 2 ^ (n % 64) % 2 ^ 64)) → Marked new n
mark_has m new n least greatest within words =
    let word = bit_or (get_or m.words (n / 64 % 4) 0) (1 * 2 ^ (n % 64) % 2 ^ 64) in
    record {
      least = least;
      greatest = greatest;
      bit = rw (words, get_or-set_same m.words (n / 64 % 4) word 0 within) (bit_at_set_same w64 (get_or m.words (n / 64 % 4) 0) (n % 64) (omega arith));
    }

-- all marks
ones : (i b : ℕ) → i < 4 → b < 64 → bit_at (get_or (replicate 4 (2 ^ 64 - 1)) i 0) b ≡ 1
ones i b h low = rw (get_or-replicate 4 i (2 ^ 64 - 1) 0 h) (bit_at_ones 64 b low)

pub each_has : (m : Marks) (n : ℕ) → m.least ≡ 0 → m.greatest ≡ 2 ^ 32 - 1 → m.words ≡ replicate 4 (2 ^ 64 - 1) → n < 2 ^ 32 → Marked m n
each_has m n least greatest words low = record {
  least = omega (arith, least);
  greatest = omega (arith, greatest, low);
  bit = rw words (ones (n / 64 % 4) (n % 64) (omega arith) (omega arith));
}

pub each_grows : (m new : Marks) → new.all ≡ m.all → ((n : ℕ) → n < 2 ^ 32 → Marked new n) → Grows m new
each_grows m new all has = record {
  numbers = λ n low h. has n low;
  sets = rw all (within_self m.all);
}
