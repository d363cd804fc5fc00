use Rattle.std.proofs.Common.{◌∙◌, ap, sym, arith}
use Rattle.append_receipts.proofs.Moves.{copies}
use Rattle.append_receipts.proofs.receipts.Receipts.copy.Goals as goal

pub split_seat-requires : goal.split_seat-requires
split_seat-requires c = (
  ap (λ k. k.table) c.receipt.view_is ∙ (c.requires ∙ sym c.self.view_is ∙ ap (λ t. t.shared.table_id) (sym c.deref.ensures)),
  omega (arith, c.self.invariant, ap (λ t. t.shared.table_id.words) c.deref.ensures),
  copies _ c.receipt.inside.seat.me.0 c.receipt.invariant.1,
)
