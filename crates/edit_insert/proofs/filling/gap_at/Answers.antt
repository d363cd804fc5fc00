use Rattle.std.proofs.Common.{None, refl, sym, ◌∙◌}
use Rattle.frame_meaning.specs.Cells.{same_number}
use Rattle.edit_insert.proofs.Filled.{found-gap, gap-stands, past-gap}
use Rattle.edit_insert.proofs.filling.gap_at.Goals as goal

pub returns-clause-gap : goal.returns-clause-gap
returns-clause-gap g c =
    found-gap c.args.track.now c.in-Some.place c.in-Some-item.view c.args.at c.gap_of.result c.in-Some.ensures.found (sym c.item.ensures ∙ c.in-Some-item.is) c.in-Some.ensures.holds.0 c.in-Some.ensures.holds.1 c.gap_of.ensures

pub returns-clause-place : goal.returns-clause-place
returns-clause-place g c =
    gap-stands c.args.track.now c.in-Some.place (same_number c.in-Some-item.view.item None) c.gap_of.result c.in-Some.ensures.found c.gap_of.ensures

pub returns-in-None-clause-gap : goal.returns-in-None-clause-gap
returns-in-None-clause-gap g c = past-gap c.args.track.now c.args.at c.requires (c.in-None.ensures.none.0 refl)
