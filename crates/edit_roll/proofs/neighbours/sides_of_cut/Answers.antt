use Rattle.std.proofs.Common.{◌≡◌, arith, true}
use Rattle.composables.specs.Items.{items_of}
use Rattle.composables.specs.Ranges.{is_cut}
use Rattle.edit_roll.specs.declared.neighbours.Sides.{Sides}
use Rattle.edit_roll.specs.NeighboursInside.{AreBeside, StandBeside}
use Rattle.edit_roll.proofs.Beside.{first-cut, found-cut, found-sides, no-cut-inside, some-of}
use Rattle.edit_roll.proofs.neighbours.sides_of_cut.Goals as goal

pub returns-then-place-at-clause-none : goal.returns-then-place-at-clause-none
returns-then-place-at-clause-none g c =
    λ e. no-cut-inside c.args.track.now c.args.at c.in-Some.place c.requires.kept c.in-Some.ensures.found c.if-place-at.true c.in-Some.ensures.holds.1

pub returns-clause-sides : goal.returns-clause-sides
returns-clause-sides g c =
    let e : c.in-Some.place.from ≡ c.args.at = omega (arith, c.if-place-at.false, c.in-Some.ensures.holds.0) in
    some-of (AreBeside (items_of c.args.track.now.cells) c.in-Some.place.index c.in-Some.place.index) (StandBeside c.args.track.now.cells c.args.at c.args.at) c.beside.result
    (λ (s : Sides). found-sides c.args.track.now c.args.at c.in-Some.place s c.in-Some.ensures.found e) c.beside.ensures.sides

pub returns-clause-cut : goal.returns-clause-cut
returns-clause-cut g c =
    let e : c.in-Some.place.from ≡ c.args.at = omega (arith, c.if-place-at.false, c.in-Some.ensures.holds.0) in
    some-of (AreBeside (items_of c.args.track.now.cells) c.in-Some.place.index c.in-Some.place.index) (λ (s : Sides). is_cut c.args.track.now.cells c.args.at ≡ true) c.beside.result
    (λ (s : Sides). found-cut c.args.track.now c.args.at c.in-Some.place s c.requires.kept c.in-Some.ensures.found e) c.beside.ensures.sides

pub returns-clause-none : goal.returns-clause-none
returns-clause-none g c =
    let e : c.in-Some.place.from ≡ c.args.at = omega (arith, c.if-place-at.false, c.in-Some.ensures.holds.0) in
    λ none. first-cut c.args.track.now c.args.at c.in-Some.place c.in-Some.ensures.found e (c.beside.ensures.none none)
