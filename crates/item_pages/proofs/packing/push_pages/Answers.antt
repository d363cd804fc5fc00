use Rattle.std.proofs.Common.{◌+◌, ◌++◌, List, drop, ap, sym, ◌∙◌}
use Rattle.item_pages.specs.Packing.{items_of}
use Rattle.item_pages.proofs.Filling.{next_page}
use Rattle.item_pages.proofs.Joining.{ends_more, begins_on}
use Rattle.item_pages.proofs.packing.push_pages.Goals as goal

pub loop-other-preserved : goal.loop-other-preserved
loop-other-preserved g c =
    let pages = c.args.others.now in
    let i = c.loop-other.other-index in
    let page = c.other-item.result in
    let rest = items_of (drop (i + 1) pages) in
    let old = items_of c.loop-other.pages.items in
    let same = c.in_ok-share.ensures in
    record {
      same =
          ap (λ (ys : List g.row.T.Denot). ys ++ rest) (c.in_ok-push_page.ensures.items ∙ ap (λ (q : List g.row.T.Denot). old ++ q) same)
          ∙ (sym (next_page old pages i page c.loop-other-test.true c.other-item.is) ∙ c.loop-other.invariant.same);
      packed = c.in_ok-push_page.ensures.packed;
      begins = begins_on c.args.pages.now.items c.loop-other.pages.items c.push_page.new.pages.items c.loop-other.invariant.begins c.in_ok-push_page.ensures.begins;
      ends = ends_more pages c.push_page.new.pages.items i page c.loop-other-test.true c.other-item.is (rw (← same) c.in_ok-push_page.ensures.ends);
    }
