use Rattle.std.proofs.Common.{◌++◌, take, drop, ap, sym, ◌∙◌}
use Rattle.std.proofs.lemmas.List.{map-id}
use Rattle.std.proofs.lemmas.Iterator.{items_from_drains}
use Rattle.std.proofs.lemmas.Iterator.Adapters.{YieldsList-from_vec}
use Rattle.item_pages.proofs.blocks.put_blocks.Goals as goal

pub returns-clause-ok : goal.returns-clause-ok
returns-clause-ok g c =
    let put = c.in_ok-_gone.ensures.items in
    let xs = put.1 in
    let gives = put.2 in
    let drains = put.3 in
    let all = c.args.fresh.items in
    let old = c.args.blocks.now.items in
    let same = sym (map-id xs) ∙ items_from_drains {v = λ x. x} {all = all} xs (drains.1.0, drains.1.1, λ _. (drains.0, drains.1.2)) (YieldsList-from_vec {s = put.0} all gives.0 (gives.1 ∙ c.args.fresh.ok.0)) in
    put.4 ∙ ap (λ ys. take c.args.first old ++ (ys ++ drop c.args.last old)) same
