use Rattle.std.proofs.Common.{◌≡◌, suc, ◌-◌, ◌++◌, ◌∷◌, [], List, length, take, ap, sym, ◌∙◌, subst, arith}
use Rattle.std.proofs.lemmas.List.{get_or_default}
use Rattle.item_pages.specs.Packing.{items_of, Packed}
use Rattle.item_pages.proofs.Blockwise.{last_more, last_packed, last_set_packed, no_pages, page_after}
use Rattle.item_pages.proofs.Joining.{packed_rest}
use Rattle.item_pages.proofs.Packs.{items_push, packed_first}
use Rattle.item_pages.proofs.blocks.push_to_blocks.Goals as goal
use Rattle.item_pages.proofs.blocks.push_to_blocks.Goals.{else-count-gt0-via-then-count-gt0+else-takes_more, else-count-gt0-via-else-count-gt0}

pub push-requires-clause-packed : goal.push-requires-clause-packed
push-requires-clause-packed g c =
    let blocks = c.args.blocks.now.items in
    let i = c.len-count.result - 1 in
    let block = c.index_mut.result.now in
    let last : suc i ≡ length blocks = omega (arith, c.len-count.ensures, c.args.blocks.now.ok.0, c.if-count-gt0.true) in
    packed_rest (items_of (take i blocks)) block (last_packed blocks i block last c.index_mut.ensures.value c.requires.packed)

pub returns-then-takes_more-clause-items : goal.returns-then-takes_more-clause-items
returns-then-takes_more-clause-items g c =
    let blocks = c.args.blocks.now.items in
    let i = c.len-count.result - 1 in
    let block = c.index_mut.result.now in
    let last : suc i ≡ length blocks = omega (arith, c.len-count.ensures, c.args.blocks.now.ok.0, c.if-count-gt0.true) in
    last_more blocks i block c.push.new.self c.args.page last c.index_mut.ensures.value c.in_ok-push.ensures.items

pub returns-then-takes_more-clause-packed : goal.returns-then-takes_more-clause-packed
returns-then-takes_more-clause-packed g c =
    let blocks = c.args.blocks.now.items in
    let i = c.len-count.result - 1 in
    let block = c.index_mut.result.now in
    let last : suc i ≡ length blocks = omega (arith, c.len-count.ensures, c.args.blocks.now.ok.0, c.if-count-gt0.true) in
    let same = c.index.ensures ∙ (get_or_default blocks i c.index.result.now block (omega (arith, last)) ∙ sym c.index_mut.ensures.value) in
    let filled = rw same at c.takes_more.ensures.filled in
    last_set_packed blocks i block c.push.new.self last c.index_mut.ensures.value c.requires.packed c.in_ok-push.ensures.packed c.in_ok-push.ensures.begins filled

pub returns-clause-packed : goal.returns-clause-packed
returns-clause-packed g c =
    let blocks = c.args.blocks.now.items in
    let i = c.len-count.result - 1 in
    let page = c.args.page in
    let all : items_of c.push-2.new.self.items ≡ items_of blocks ++ page ∷ [] =
    ap items_of c.in_ok-push-2.ensures.items ∙ (items_push blocks c.in_ok-block.block ∙ ap (λ (b : List (List g.row.T.Denot)). items_of blocks ++ b) c.in_ok-block.ensures) in
    subst Packed (sym all) (elim c.else-count-gt0.branch [
      | else-count-gt0-via-then-count-gt0+else-takes_more w ↦
          (let last : suc i ≡ length blocks = omega (arith, c.len-count.ensures, c.args.blocks.now.ok.0, w.if-count-gt0.true) in
          page_after blocks i w.index.result.now page last w.index.ensures w.takes_more.ensures.filled (w.takes_more.ensures.full w.if-takes_more.false page) c.requires.packed)
      | else-count-gt0-via-else-count-gt0 w ↦ packed_first (items_of blocks) page (no_pages blocks (omega (arith, c.len-count.ensures, c.args.blocks.now.ok.0, w.if-count-gt0.false)))
    ])
