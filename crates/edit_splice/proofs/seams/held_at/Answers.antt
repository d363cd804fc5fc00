use Rattle.composables.specs.Items.{items_of}
use Rattle.edit_splice.proofs.Ends.{stands}
use Rattle.edit_splice.proofs.seams.held_at.Goals as goal

pub returns-clause-stands : goal.returns-clause-stands
returns-clause-stands g c =
    let p = c.in_ok-place in
    stands (items_of c.args.track.now.cells) c.args.at p.place.index p.place.from p.place.to c.in_ok-view.view p.ensures.found.index p.ensures.found.from p.ensures.found.to p.ensures.holds.0 p.ensures.holds.1 c.in_ok-view.ensures
