use Rattle.std.proofs.Common.{◌+◌, ◌∙◌, ap, sym, arith}
use Rattle.append_receipts.proofs.Moves.{counts_failure}
use Rattle.append_receipts.proofs.receipts.Receipts.failed.Goals as goal

pub store-requires : goal.store-requires
store-requires c = (
  ap (λ k. k.table) c.clerk.view_is ∙ (c.requires ∙ sym c.self.view_is ∙ ap (λ t. t.shared.table_id) (sym c.deref.ensures)),
  omega (arith, c.self.invariant, ap (λ t. t.shared.table_id.words) c.deref.ensures),
  counts_failure _ _ c.clerk.inside.seat.me.0 c.clerk.inside.seat.me.1 (c.clerk.inside.failed + 1) c.clerk.invariant.1
      (omega (arith, c.clerk.invariant.3)),
)
