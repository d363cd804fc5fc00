-- Bytes that go out from the front.
use Rattle.std.proofs.Common.{◌≡◌, ℕ, ◌+◌, List, ◌++◌, take, drop, sym, ap, ◌∙◌}
use Rattle.std.proofs.lemmas.List.{drop-drop, take-append-drop}

-- so many bytes of the rest are gone, and the others are left
pub front_gone : (bytes rest : List ℕ) (sent n : ℕ) → rest ≡ drop sent bytes → drop sent bytes ≡ take n rest ++ drop (sent + n) bytes
front_gone bytes rest sent n from =
    let back : drop (sent + n) bytes ≡ drop n rest = sym (drop-drop n sent bytes) ∙ ap (drop n) (sym from) in
    rw back (sym from ∙ sym (take-append-drop n rest))
