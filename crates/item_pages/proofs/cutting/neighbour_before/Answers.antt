use Rattle.std.proofs.Common.{◌≡◌, ◌-◌, suc, length, arith}
use Rattle.item_pages.proofs.Recut.{last_apart}
use Rattle.item_pages.proofs.cutting.neighbour_before.Goals as goal

pub returns-clause-pages : goal.returns-clause-pages
returns-clause-pages g c =
    let blocks = c.args.blocks.now in
    let n = length blocks - 1 in
    let e : suc n ≡ length blocks = Prim.grind (arith, c.is_empty.ensures, c.if-is_empty.false) in
    last_apart blocks n c.split_at.result.0.now c.split_at.result.1.now c.index-last-0.result c.pages.result.now e c.split_at.ensures.front c.split_at.ensures.back c.index-last-0.is c.pages.ensures.pages
