use Rattle.std.proofs.Common.{◌∙◌, ap, sym, arith}
use Rattle.append_receipts.proofs.Moves.{gives}
use Rattle.append_receipts.proofs.receipts.Receipts.give.Goals as goal

pub split_seat-requires : goal.split_seat-requires
split_seat-requires c = (
  ap (λ k. k.table) c.clerk.view_is ∙ (c.requires ∙ sym c.self.view_is ∙ ap (λ t. t.shared.table_id) (sym c.deref.ensures)),
  omega (arith, c.self.invariant, ap (λ t. t.shared.table_id.words) c.deref.ensures),
  gives _ c.clerk.inside.seat.me.0 c.clerk.invariant.1,
)
