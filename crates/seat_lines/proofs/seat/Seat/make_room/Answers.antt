use Rattle.std.proofs.Common.{◌∙◌, take, ap, arith, inl, inr}
use Rattle.seat_lines.specs.Seats.{SeatState, may_go}
use Rattle.seat_lines.specs.Texts.{lines_in}
use Rattle.seat_lines.proofs.seat.Seat.make_room.Goals as goal

pub returns-clause-room : goal.returns-clause-room
returns-clause-room c = elim c.let_go_bytes.ensures.all [
  | inl h ↦ inl (omega (arith, h))
  | inr h ↦
      inr (h
      ∙ (ap (λ k. lines_in (take k c.self.inside.replies.kept)) c.may_go-may.ensures.bytes
      ∙ ap (λ (s : SeatState). lines_in (take (may_go c.args.self.now) s.kept)) c.self.view_is))
]
