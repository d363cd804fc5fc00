use Rattle.std.proofs.Common.{sym, ◌∙◌, arith}
use Rattle.edit_splice.proofs.Moving.{length-own, length-along, length-none}
use Rattle.edit_splice.proofs.shifting.length_after.Goals as goal

pub returns-then-number-shift : goal.returns-then-number-shift
returns-then-number-shift c =
    omega (arith, length-own c.args.shift.now c.args.track.now c.requires.order (sym c.number.ensures ∙ c.if-number-shift.true), c.length-length.ensures.value, c.min.ensures, c.from.ensures, c.min-2.ensures, c.from-2.ensures, c.saturating_sub.ensures, c.from-then-number-shift.ensures, c.new_len.ensures, c.from-then-number-shift-2.ensures)

pub returns-then-shift-length : goal.returns-then-shift-length
returns-then-shift-length c =
    omega (arith, length-along c.args.shift.now c.args.track.now c.requires.order (λ e. c.if-number-shift.false (c.number.ensures ∙ e)) (omega (arith, c.length-length.ensures.value, c.if-shift-length.true)), c.length-length.ensures.value, c.min.ensures, c.from.ensures, c.min-2.ensures, c.from-2.ensures, c.new_len-then-shift-length.ensures, c.from-then-shift-length.ensures)

pub returns-else-shift-length : goal.returns-else-shift-length
returns-else-shift-length c =
    omega (arith, length-none c.args.shift.now c.args.track.now c.requires.order (λ e. c.if-number-shift.false (c.number.ensures ∙ e)) (omega (arith, c.length-length.ensures.value, c.if-shift-length.false)), c.length-length.ensures.value, c.min.ensures, c.from.ensures, c.min-2.ensures, c.from-2.ensures)
