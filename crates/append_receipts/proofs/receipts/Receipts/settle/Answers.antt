use Rattle.std.proofs.Common.{◌∙◌, ap, sym, arith}
use Rattle.append_receipts.proofs.Moves.{takes, compares}
use Rattle.append_receipts.proofs.receipts.Receipts.settle.Goals as goal

pub join_seat-requires : goal.join_seat-requires
join_seat-requires c = (
  ap (λ k. k.table) c.clerk.view_is ∙ (c.requires.table ∙ sym c.self.view_is ∙ ap (λ t. t.shared.table_id) (sym c.deref.ensures)),
  ap (λ k. k.table) c.receipt.view_is ∙ (c.requires.receipt ∙ sym c.self.view_is ∙ ap (λ t. t.shared.table_id) (sym c.deref.ensures)),
  c.receipt.invariant.0,
  omega (arith, c.self.invariant, ap (λ t. t.shared.table_id.words) c.deref.ensures),
  takes _ c.clerk.inside.seat.me.0 _ c.receipt.inside.seat.me.0 c.clerk.invariant.1 c.receipt.invariant.1,
)

pub load-requires : goal.load-requires
load-requires c = (
  c.join_seat.ensures.0 ∙ (ap (λ k. k.table) c.clerk.view_is ∙ (c.requires.table ∙ sym c.self.view_is ∙ ap (λ t. t.shared.table_id) (sym c.deref-2.ensures))),
  omega (arith, c.self.invariant, ap (λ t. t.shared.table_id.words) c.deref-2.ensures),
  compares _ _ c.join_seat.new.seat.me.0 c.join_seat.new.seat.me.1,
)
