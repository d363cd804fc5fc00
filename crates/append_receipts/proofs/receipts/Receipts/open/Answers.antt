use Rattle.std.proofs.Common.{[], ◌∷◌, sym, subst}
use Rattle.append_receipts.specs.Receipts.{clerk, Counted}
use Rattle.append_receipts.proofs.Moves.{begins}
use Rattle.append_receipts.proofs.receipts.Receipts.open.Goals as goal

pub of_words-requires : goal.of_words-requires
of_words-requires c = subst (λ k. Counted (k ∷ 0 ∷ []) (clerk c.args.kept 0 ∷ [])) (sym c.from.ensures)
    (begins c.args.kept)
