use Rattle.std.proofs.Common.{◌≡◌, ◌++◌, take, drop}
use Rattle.item_pages.specs.Packing.{items_of, Packed, Begins, Ends}
use Rattle.item_pages.proofs.packing.push_pages.Given as goal

-- the pages so far, and those to come
abbrev pub invariant-loop-other : goal.invariant-loop-other
invariant-loop-other g l = record {
  same : items_of l.pages.items ++ items_of (drop l.other-index l.others) ≡ items_of l.fn.pages.items ++ items_of l.others;
  packed : Packed l.pages.items;
  begins : Begins l.fn.pages.items l.pages.items;
  ends : Ends (take l.other-index l.others) l.pages.items;
}
