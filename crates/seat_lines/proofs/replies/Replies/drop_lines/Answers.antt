use Rattle.std.proofs.Common.{List, ap, arith, drop, length, ℕ}
use Rattle.std.proofs.lemmas.List.{length-drop}
use Rattle.seat_lines.specs.Seats.{RepliesState}
use Rattle.seat_lines.specs.Texts.{lines_in}
use Rattle.seat_lines.proofs.Texts.{lines_in-after}
use Rattle.seat_lines.proofs.replies.Replies.drop_lines.Goals as goal

pub invariant_of-self : goal.invariant_of-self
invariant_of-self c =
    let n = c.args.front.bytes in
    let same = ap (λ (s : RepliesState). s.kept) c.self.view_is in
    let left = length-drop n c.self.inside.kept.items in (
      omega (arith, c.saturating_sub-self-inside.ensures, c.self.invariant.0, ap length c.drop_front.ensures, left),
      omega (arith, c.self.invariant.1, c.requires.fewer, c.requires.within, ap length same, ap length c.drop_front.ensures, left),
      omega (
        arith,
        c.self.invariant.2,
        ap lines_in same,
        ap lines_in c.drop_front.ensures,
        ap (λ (xs : List ℕ). lines_in (drop n xs)) same,
        ap lines_in c.requires.rest,
        lines_in-after c.args.front.lines c.args.self.now.kept c.requires.ended,
      ),
    )
