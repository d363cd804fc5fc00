use Rattle.std.proofs.Common.{◌≡◌, ◌+◌, arith, true}
use Rattle.composables.specs.Items.{items_of}
use Rattle.composables.proofs.Joining.{length-items_of}
use Rattle.edit_roll.specs.declared.neighbours.Sides.{Sides}
use Rattle.edit_roll.specs.Neighbours.{has_neighbours}
use Rattle.edit_roll.specs.NeighboursInside.{AreBeside, StandBeside}
use Rattle.edit_roll.proofs.Beside.{both-sides, item-sides, no-sides, some-of}
use Rattle.edit_roll.proofs.neighbours.sides_of_item.Goals as goal

pub overflow_add-place : goal.overflow_add-place
overflow_add-place c = omega (arith, length-items_of c.args.track.now.cells, c.requires.kept.short, c.requires.place.index)

pub returns-clause-sides : goal.returns-clause-sides
returns-clause-sides c =
    some-of (AreBeside (items_of c.args.track.now.cells) c.args.place.index (c.args.place.index + 1)) (StandBeside c.args.track.now.cells c.args.place.from c.args.place.to) c.beside.result
    (λ (s : Sides). item-sides c.args.track.now c.args.place s c.requires.place) c.beside.ensures.sides

pub returns-clause-some : goal.returns-clause-some
returns-clause-some c =
    some-of (AreBeside (items_of c.args.track.now.cells) c.args.place.index (c.args.place.index + 1)) (λ (s : Sides). has_neighbours c.args.track.now.cells c.args.place.from c.args.place.to ≡ true) c.beside.result
    (λ (s : Sides). both-sides c.args.track.now c.args.place s c.requires.kept c.requires.place) c.beside.ensures.sides

pub returns-clause-none : goal.returns-clause-none
returns-clause-none c = λ none. no-sides c.args.track.now c.args.place c.requires.kept c.requires.place (c.beside.ensures.none none)
