-- Three fresh passes without the last one.
use Rattle.std.proofs.Common.{◌≡◌, ℕ, ◌∷◌, ◌++◌, [], List, Option, length, ap, subst, sym, arith}
use Rattle.std.proofs.lemmas.List.{length-map}
use Rattle.cut_room.proofs.Stations.{fresh_fewer, length-numbers}
use Rattle.edit_journal.specs.Seats.{Opening}
use Rattle.edit_journal.specs.Turns.{AreFresh, Known}

pub two_left : {O P C : Type 0} (o : Option (Opening O P)) (all ts : List (Known O P C)) (t : Known O P C) → AreFresh o 3 all → all ≡ ts ++ t ∷ []
    → AreFresh o (length ts) ts × (length ts ≡ 2) × (t.entries ≡ [])
two_left {O} {P} {C} o all ts t fresh are =
    let f = fresh_fewer o 3 all ts t fresh (omega arith) are in
    let count = ap length f.0.0 in
    let long : length ts ≡ 2 = omega (arith, count, length-map ts (λ (q : Known O P C). q.number), length-numbers 0 2) in
    (subst (λ n. AreFresh o n ts) (sym long) f.0, long, f.2)
