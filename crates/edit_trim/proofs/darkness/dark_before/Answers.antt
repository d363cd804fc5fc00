use Rattle.std.proofs.Common.{ℕ, take, sym, ap, ◌∙◌, arith}
use Rattle.composables.specs.Items.{items_of}
use Rattle.composables.specs.Joined.{frames_in}
use Rattle.edit_trim.proofs.Beside.{first-before, found-gap-before, found-item-before, found-there}
use Rattle.edit_trim.proofs.darkness.dark_before.Goals as goal

pub returns-then-place-eq0 : goal.returns-then-place-eq0
returns-then-place-eq0 c n small =
    first-before c.args.track.now.cells c.args.place.from n (c.requires.place.from ∙ ap (λ (i : ℕ). frames_in (take i (items_of c.args.track.now.cells))) c.if-place-eq0.true)

pub unreachable-requires : goal.unreachable-requires
unreachable-requires c = absurd (found-there c.args.track.now c.args.place c.requires.place (sym c.item.ensures ∙ c.in_default.is))

pub returns-in-Some-item : goal.returns-in-Some-item
returns-in-Some-item c n small = found-item-before c.args.track.now c.args.place c.in-Some.before c.in-Some-item.field-0 n c.requires.kept c.requires.place (omega (arith, c.if-place-eq0.false)) (sym c.item.ensures ∙ c.in-Some.is) c.in-Some-item.is

pub returns-in-None : goal.returns-in-None
returns-in-None c n small = found-gap-before c.args.track.now c.args.place c.in-Some.before n c.requires.kept c.requires.place (omega (arith, c.if-place-eq0.false)) (sym c.item.ensures ∙ c.in-Some.is) c.in-None.is
