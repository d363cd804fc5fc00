use Rattle.std.proofs.Common.{◌<◌, sum_by, ap, arith}
use Rattle.test_pages.specs.declared.shots.Shot.{Shot}
use Rattle.test_pages.proofs.Replacing.{replaced_fits}
use Rattle.test_pages.proofs.lists.put.Goals as goal

pub replace-requires-clause-fits : goal.replace-requires-clause-fits
replace-requires-clause-fits g c =
    let few : sum_by (λ (s : Shot). s.len) c.args.more.items < 1000000 = omega (arith, ap (sum_by (λ (s : Shot). s.len)) c.deref.ensures.value, c.places_of-places.ensures) in
    replaced_fits _ c.args.pages.now c.args.more.items c.args.from c.args.to (omega (arith, c.count-count.ensures)) (omega (arith, c.total-total.ensures.value)) (omega (arith, c.args.more.ok.0)) few
