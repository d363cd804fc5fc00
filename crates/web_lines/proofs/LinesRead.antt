-- What a read gives, by what was left and what came.
use Rattle.std.proofs.Common.{◌≡◌, ℕ, ◌<◌, List, [], ◌∷◌, ◌++◌, Option, Result, Ok, Err, OnOk, length, sym, ap, ◌∙◌, arith}
use Rattle.std.proofs.lemmas.List.{append-nil}
use Rattle.tungstenite.specs.Socket.{Socket}
use Rattle.web_lines.specs.Lines.{ComesLine, EndsLines, GivesLines, IsOneLine, ReadsLine, ReadsText, WebState, as_line}

-- two lists that are nothing together are nothing
nothing : (xs ys : List ℕ) → [] ≡ xs ++ ys → ys ≡ []
nothing [] ys e = sym e
nothing (x ∷ xs) ys e = cc

module _ {S : Type 0} where
  same_socket : (old new : WebState S) → new ≡ record old { left = new.left } → new.socket ≡ old.socket
  same_socket old new e = ap (λ (w : WebState S). w.socket) e

  same_state : (old new : WebState S) → new ≡ record old { left = new.left } → new.state ≡ old.state
  same_state old new e = ap (λ (w : WebState S). w.state) e

  pub same_begun : (old new : WebState S) → new ≡ record old { left = new.left } → new.begun ≡ old.begun
  same_begun old new e = ap (λ (w : WebState S). w.begun) e

  -- of what was left
  pub gives_left : (remaining : S → Option (List ℕ)) (old new : WebState S) (bytes : List ℕ)
      → new ≡ record old { left = new.left } → old.left ≡ bytes ++ new.left → GivesLines remaining old new bytes
  gives_left remaining old new bytes stays gives = ([], same_socket old new stays, append-nil old.left ∙ gives)

  -- of a line that came
  pub gives_line : (remaining : S → Option (List ℕ)) (old mid new : WebState S) (bytes : List ℕ)
      → old.left ≡ [] → ComesLine remaining old mid → new ≡ record mid { left = new.left } → mid.left ≡ bytes ++ new.left
      → GivesLines remaining old new bytes
  gives_line remaining old mid new bytes none (t, reads, is) stays gives =
      let whole : old.left ++ (as_line t ++ []) ≡ bytes ++ new.left =
      ap (λ l. l ++ (as_line t ++ [])) none ∙ (append-nil (as_line t) ∙ (sym is ∙ gives)) in
      (t ∷ [], (mid.socket, reads, same_socket mid new stays), whole)

  -- nothing is left of a line that did not come
  pub ends_after : (remaining : S → Option (List ℕ)) (old mid new : WebState S) (bytes : List ℕ)
      → EndsLines remaining old mid → new ≡ record mid { left = new.left } → mid.left ≡ bytes ++ new.left → EndsLines remaining old new
  ends_after remaining old mid new bytes ends stays gives =
      let left : new.left ≡ [] = nothing bytes new.left (sym ends.0 ∙ gives) in
      let socket = same_socket mid new stays in
      let state : new.state ≡ mid.state = same_state mid new stays in
      (left, state ∙ ends.1, rw socket ends.2)

  -- a line that came is left
  pub line_left : (remaining : S → Option (List ℕ)) (old mid : WebState S) → ComesLine remaining old mid → 0 < length mid.left
  line_left remaining old mid (t, reads, is) = rw is (long t) where
    long : (t : List ℕ) → 0 < length (as_line t)
    long [] = omega arith
    long (x ∷ xs) = omega arith

  -- a text that came, kept as a line
  pub comes_line : (remaining : S → Option (List ℕ)) (before socket : Socket S) (new : WebState S) (text : List ℕ)
      → ReadsText remaining before text socket → new.socket ≡ socket → new.left ≡ as_line text → IsOneLine text
      → (bytes : List ℕ) × ReadsLine remaining before bytes new.socket × (new.left ≡ as_line bytes)
  comes_line remaining before socket new text reads same left one = (text, (rw same reads, one), left)

-- a fact on what succeeded
pub on_ok : {T E P Q : Type 0} (r : Result T E) → (P → Q) → OnOk r P → OnOk r Q
on_ok (Ok x) f p = f p
on_ok (Err e) f p = tt
