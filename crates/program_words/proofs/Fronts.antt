-- The first bytes of a text that grows.
use Rattle.std.proofs.Common.{◌≡◌, ℕ, ◌+◌, ◌≤◌, List, ◌++◌, length, take, ap, sym, ◌∙◌, arith}
use Rattle.std.proofs.lemmas.List.{take_all, length-append}
use Rattle.std.proofs.Math.Seq.{take-append-add}

-- a piece for which there is room is added whole
pub fits : (old piece : List ℕ) → length old + length piece ≤ 64 → old ++ piece ≡ take 64 (old ++ piece)
fits old piece within = sym (take_all 64 (old ++ piece) (omega (arith, within, length-append old piece)))

-- of a piece for which there is not, as much as there is room for
pub fills : (old piece : List ℕ) (room : ℕ) → length old + room ≡ 64 → old ++ take room piece ≡ take 64 (old ++ piece)
fills old piece room full = sym (ap (λ n. take n (old ++ piece)) (sym full) ∙ take-append-add old piece room)
