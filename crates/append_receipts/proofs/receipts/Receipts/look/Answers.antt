use Rattle.std.proofs.Common.{◌∙◌, ap, sym, arith}
use Rattle.append_receipts.proofs.Moves.{looks}
use Rattle.append_receipts.proofs.receipts.Receipts.look.Goals as goal

pub load-requires : goal.load-requires
load-requires c = (
  ap (λ k. k.table) c.receipt.view_is ∙ (c.requires ∙ sym c.self.view_is ∙ ap (λ t. t.shared.table_id) (sym c.deref.ensures)),
  omega (arith, c.self.invariant, ap (λ t. t.shared.table_id.words) c.deref.ensures),
  looks _ _ c.receipt.inside.seat.me.0 c.receipt.inside.seat.me.1 c.receipt.invariant.1,
)
