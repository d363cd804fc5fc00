-- What a write took, by the line that it ended.
use Rattle.std.proofs.Common.{◌≡◌, ℕ, ◌+◌, List, [], ◌∷◌, ◌++◌, Option, Some, take, refl, sym, ap, ◌∙◌}
use Rattle.std.specs.List.{position}
use Rattle.web_lines.specs.Lines.{SendsLine, TakesLines, WebState, as_lines, is_line_feed}
use Rattle.web_lines.proofs.Lines.{one_line}

module _ {S : Type 0} where
  pub takes_line : (contents : S → Option (List ℕ)) (old new : WebState S) (piece last : List ℕ) (at : ℕ)
      → position is_line_feed piece ≡ Some at → last ≡ take at piece
      → SendsLine contents old.socket (old.begun ++ last) new.socket → new.begun ≡ [] → TakesLines contents old new (take (at + 1) piece)
  takes_line contents old new piece last at feed front sends none =
      let text = old.begun ++ last in
      let same : as_lines ((old.begun ++ take at piece) ∷ []) ++ [] ≡ as_lines (text ∷ []) ++ new.begun =
      ap (λ l. as_lines ((old.begun ++ l) ∷ []) ++ []) (sym front) ∙ ap (λ l. as_lines (text ∷ []) ++ l) (sym none) in
      (text ∷ [], (new.socket, sends, refl), one_line old.begun piece at feed ∙ same)
