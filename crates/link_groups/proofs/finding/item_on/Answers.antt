use Rattle.std.proofs.Common.{refl, sym, ◌∙◌}
use Rattle.link_groups.proofs.Found.{found-none, found-there, index-there}
use Rattle.link_groups.proofs.finding.item_on.Goals as goal

pub returns-in_default-clause-found : goal.returns-in_default-clause-found
returns-in_default-clause-found g c = found-none c.args.track.now c.args.item (c.in_default.ensures.none.0 refl)

pub unreachable-requires : goal.unreachable-requires
unreachable-requires g c = index-there _ c.in-Some.place.index c.item.result c.in-Some.ensures.found.index c.item.ensures c.in_default-item.is

pub returns-clause-found : goal.returns-clause-found
returns-clause-found g c =
    found-there c.args.track.now c.args.item c.in-Some.place c.in-Some-item.view c.length.ensures.kept c.in-Some.ensures.found c.in-Some.ensures.number (sym c.item.ensures ∙ c.in-Some-item.is)
