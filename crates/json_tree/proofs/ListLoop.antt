-- Reading elements one after the other, as a loop does.
use Rattle.std.proofs.Common.{◌≡◌, ℕ, suc, ◌-◌, ◌+◌, ◌≤◌, ◌<◌, true, false, List, [], ◌∷◌, ◌++◌, Ok, Err, refl, sym, ap, ◌∙◌, append_assoc, arith}
use Rattle.json_tokens.specs.declared.fault.JsonFault.{JsonFault}
use Rattle.json_tokens.specs.declared.fault.JsonFault.TheVariants.{Syntax}
use Rattle.json_tokens.specs.Reading.{◌>>=◌, Fails, Read}
use Rattle.json_tree.specs.ReadingValues.{elements_at, separator_at, with_first}
use Rattle.json_tokens.proofs.TextLoop.{fails_is}

-- what was read before, and what is still read
abbrev pub with_front : {E : Type 0} → List E → Read (List E) → Read (List E)
with_front front read = read >>= λ x. Ok (front ++ x.0, x.1, x.2)

regroup : {E : Type 0} (front : List E) (e : E) (read : Read (List E)) → with_front front (with_first e read) ≡ with_front (front ++ e ∷ []) read
regroup front e (Ok x) = ap (λ es. Ok (es, x.1, x.2)) (sym (append_assoc front (e ∷ []) x.0))
regroup front e (Err f) = refl

module _ {E : Type 0} (element : ℕ → List ℕ → Read E) (close : ℕ) (front : List E) (most i at : ℕ) (bytes : List ℕ) (total : Read (List E))
    (so_far : with_front front (elements_at element close (most - i) at bytes) ≡ total) (lt : i < most) where
  pub goes_on : (e : E) (e_at : ℕ) (e_rest : List ℕ) (next_at : ℕ) (next : List ℕ) → element at bytes ≡ Ok (e, e_at, e_rest) → separator_at close e_at e_rest ≡ Ok (true, next_at, next)
      → with_front (front ++ e ∷ []) (elements_at element close (most - (i + 1)) next_at next) ≡ total
  unfolding elements_at
  goes_on e e_at e_rest next_at next h s =
      let k : most - i ≡ suc (most - (i + 1)) = omega arith in
      let one : with_front front (elements_at element close (most - i) at bytes) ≡ with_front (front ++ e ∷ []) (elements_at element close (most - (i + 1)) next_at next) = rw (k, h, s) (regroup front e (elements_at element close (most - (i + 1)) next_at next)) in
      sym one ∙ so_far

  pub closes : (e : E) (e_at : ℕ) (e_rest : List ℕ) (next_at : ℕ) (next : List ℕ) → element at bytes ≡ Ok (e, e_at, e_rest) → separator_at close e_at e_rest ≡ Ok (false, next_at, next)
      → total ≡ Ok (front ++ e ∷ [], next_at, next)
  unfolding elements_at
  closes e e_at e_rest next_at next h s =
      let k : most - i ≡ suc (most - (i + 1)) = omega arith in
      let one : with_front front (elements_at element close (most - i) at bytes) ≡ Ok (front ++ e ∷ [], next_at, next) = rw (k, h, s) refl in
      sym so_far ∙ one

  pub ends : (f : JsonFault) → Fails f (element at bytes) → Fails f total
  unfolding elements_at
  ends f h =
      let k : most - i ≡ suc (most - (i + 1)) = omega arith in
      fails_is f (element at bytes) total h (λ g is. let one : with_front front (elements_at element close (most - i) at bytes) ≡ Err g = rw (k, is) refl in sym so_far ∙ one)

  pub ends_behind : (f : JsonFault) (e : E) (e_at : ℕ) (e_rest : List ℕ) → element at bytes ≡ Ok (e, e_at, e_rest) → Fails f (separator_at close e_at e_rest) → Fails f total
  unfolding elements_at
  ends_behind f e e_at e_rest h s =
      let k : most - i ≡ suc (most - (i + 1)) = omega arith in
      fails_is f (separator_at close e_at e_rest) total s (λ g is. let one : with_front front (elements_at element close (most - i) at bytes) ≡ Err g = rw (k, h, is) refl in sym so_far ∙ one)

pub is_out : {E : Type 0} (element : ℕ → List ℕ → Read E) (close : ℕ) (front : List E) (most i at : ℕ) (bytes : List ℕ) (total : Read (List E))
    → with_front front (elements_at element close (most - i) at bytes) ≡ total → most ≤ i → total ≡ Err (Syntax at)
unfolding elements_at
is_out element close front most i at bytes total so_far le =
    let k : most - i ≡ 0 = omega arith in
    let one : with_front front (elements_at element close (most - i) at bytes) ≡ Err (Syntax at) = rw k refl in
    sym so_far ∙ one
