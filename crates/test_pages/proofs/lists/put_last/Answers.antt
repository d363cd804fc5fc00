use Rattle.std.proofs.Common.{◌-◌, length, arith}
use Rattle.std.proofs.lemmas.List.{length-set}
use Rattle.std.proofs.lemmas.List.Sums.{sum_by-set}
use Rattle.test_pages.specs.declared.shots.Shot.{Shot}
use Rattle.test_pages.proofs.lists.put_last.Goals as goal

pub set_last-requires-clause-fits : goal.set_last-requires-clause-fits
set_last-requires-clause-fits g c =
    let xs = c.args.pages.now in
    let i = length xs - 1 in (
      omega (arith, length-set xs i c.args.shot, c.count-count.ensures),
      omega (arith, sum_by-set (λ (s : Shot). s.len) xs i c.args.shot c.args.shot (omega (arith, c.count-count.ensures)), c.total-total.ensures.value),
    )
