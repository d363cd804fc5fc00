-- The steps of an append on bytes: what stands behind a gate, and the gate itself.
use Rattle.std.proofs.Common.{◌≡◌, ℕ, ◌+◌, ◌-◌, ◌≤◌, min, List, [], ◌∷◌, ◌++◌, length}
use Rattle.std.proofs.Common.{get_or, take, drop, replicate, sym, ◌∙◌, ap, arith, append_assoc}
use Rattle.std.proofs.Common.{length-append, take-append-drop}
use Rattle.std.proofs.lemmas.List.{take_at, drop_at, drop_more}
use Rattle.room_disks.specs.Crashes.{Torn, written}

none_padded : (at : ℕ) (xs : List ℕ) → at ≤ length xs → replicate {A = ℕ} (at - length xs) 0 ≡ []
none_padded at xs le = ap (λ n. replicate {A = ℕ} n 0) (let z : at - length xs ≡ 0 = omega (arith, le) in z)

pub written_within : (at : ℕ) (bytes xs : List ℕ) → at ≤ length xs → written at bytes xs ≡ take at xs
    ++ (bytes ++ drop (at + length bytes) xs)
written_within at bytes xs le = ap (λ z. take at xs ++ (z ++ (bytes ++ drop (at + length bytes) xs)))
    (none_padded at xs le)

module _ (front : List ℕ) (at : ℕ) (is : at ≡ length front) where
  one_more : (gate : ℕ) → length (front ++ gate ∷ []) ≡ at + 1
  one_more gate = omega (arith, is, length-append front (gate ∷ []))

  joined : (gate : ℕ) (rest : List ℕ) → front ++ gate ∷ rest ≡ (front ++ gate ∷ []) ++ rest
  joined gate rest = sym (append_assoc front (gate ∷ []) rest)

  -- a write behind the gate leaves all up to it
  pub torn_behind : (gate n : ℕ) (rest image : List ℕ) → Torn (at + 1) n (front ++ gate ∷ rest) image
      → (more : List ℕ) × (image ≡ front ++ gate ∷ more)
  torn_behind gate n rest image torn =
      let len : length (front ++ gate ∷ rest) ≡ at + 1 + length rest =
      omega (arith, is, length-append front (gate ∷ rest)) in
      let all : take (at + 1) (front ++ gate ∷ rest) ≡ front ++ gate ∷ [] = ap (take (at + 1)) (joined gate rest)
      ∙ take_at (front ++ gate ∷ []) rest (at + 1) (one_more gate) in
      let place : min (at + 1) (length (front ++ gate ∷ rest)) ≡ at + 1 = omega (arith, len) in
      let same : take (at + 1) image ≡ front ++ gate ∷ [] = ap (λ k. take k image) (sym place) ∙ torn.before ∙ all in (
        drop (at + 1) image,
        sym (take-append-drop (at + 1) image) ∙ ap (λ l. l ++ drop (at + 1) image) same
            ∙ sym (joined gate (drop (at + 1) image)),
      )

  -- what a piece that is put behind the gate leaves behind itself
  abbrev pub left : ℕ → List ℕ → List ℕ → List ℕ
  left gate rest piece = drop (at + 1 + length piece) (front ++ gate ∷ rest)

  pub written_behind : (gate : ℕ) (rest piece : List ℕ)
      → written (at + 1) piece (front ++ gate ∷ rest) ≡ front ++ gate ∷ (piece ++ left gate rest piece)
  written_behind gate rest piece =
      let len : length (front ++ gate ∷ rest) ≡ at + 1 + length rest =
      omega (arith, is, length-append front (gate ∷ rest)) in
      written_within (at + 1) piece (front ++ gate ∷ rest) (omega (arith, len))
      ∙ ap (λ l. l ++ (piece ++ drop (at + 1 + length piece) (front ++ gate ∷ rest)))
      (ap (take (at + 1)) (joined gate rest) ∙ take_at (front ++ gate ∷ []) rest (at + 1) (one_more gate))
      ∙ sym (joined gate (piece ++ left gate rest piece))

  gate_length : (gate : ℕ) (piece : List ℕ) → length (front ++ gate ∷ piece) ≡ at + 1 + length piece
  gate_length gate piece = omega (arith, is, length-append front (gate ∷ piece))

  gate_front : (gate : ℕ) (piece : List ℕ) → take at (front ++ gate ∷ piece) ≡ front
  gate_front gate piece = take_at front (gate ∷ piece) at (sym is)

  gate_back : (gate : ℕ) (piece : List ℕ) → drop (at + 1) (front ++ gate ∷ piece) ≡ piece
  gate_back gate piece = ap (drop (at + 1)) (joined gate piece) ∙ drop_at (front ++ gate ∷ []) piece (at + 1)
      (one_more gate)

  -- a write of the gate leaves all but the gate
  pub torn_gate : (gate : ℕ) (piece image : List ℕ) → Torn at 1 (front ++ gate ∷ piece) image → (now : ℕ)
      × (image ≡ front ++ now ∷ piece)
  torn_gate gate piece image torn =
      let len = gate_length gate piece in
      let now = get_or image at 0 in
      let place : min at (length (front ++ gate ∷ piece)) ≡ at = omega (arith, len) in
      let same : take at image ≡ front = ap (λ k. take k image) (sym place) ∙ torn.before ∙ gate_front gate piece in
      let rest : drop at image ≡ now ∷ piece = drop_more image at 0 (omega (arith, torn.no_shorter, len))
      ∙ ap (λ l. now ∷ l) (torn.after ∙ gate_back gate piece) in
      (now, sym (take-append-drop at image) ∙ ap (λ l. l ++ drop at image) same ∙ ap (λ l. front ++ l) rest)

  pub written_gate : (gate new : ℕ) (piece : List ℕ) → written at (new ∷ []) (front ++ gate ∷ piece) ≡ front
      ++ new ∷ piece
  written_gate gate new piece =
      written_within at (new ∷ []) (front ++ gate ∷ piece) (omega (arith, gate_length gate piece))
      ∙ ap (λ l. l ++ (new ∷ drop (at + 1) (front ++ gate ∷ piece))) (gate_front gate piece)
      ∙ ap (λ l. front ++ (new ∷ l)) (gate_back gate piece)

  -- a cut behind the gate
  pub cut_behind : (gate : ℕ) (rest : List ℕ) → take (at + 1) (front ++ gate ∷ rest) ≡ front ++ gate ∷ []
  cut_behind gate rest = ap (take (at + 1)) (joined gate rest) ∙ take_at (front ++ gate ∷ []) rest (at + 1)
      (one_more gate)
