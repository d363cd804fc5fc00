use Rattle.std.proofs.Common.{◌≡◌, ◌<◌, ◌-◌, suc, length, sym, ap, ◌∙◌, arith}
use Rattle.frame_meaning.specs.Cells.{same_number}
use Rattle.composables.specs.declared.items.ItemView.{ItemView}
use Rattle.composables.proofs.Frames.{len_below, last_joined, last_apart, first_pushed, read_same}
use Rattle.composables.proofs.laying.push_joined.Goals as goal
use Rattle.composables.proofs.laying.push_joined.Goals.{else-count-gt0-via-then-count-gt0+else-same_item, else-count-gt0-via-else-count-gt0}

pub overflow_add-index_mut : goal.overflow_add-index_mut
overflow_add-index_mut c =
    let xs = c.args.laid.now.items in
    let i = c.len-count.result - 1 in
    let w = c.index_mut.result.now in
    let inside : i < length xs = omega (arith, c.len-count.ensures, c.args.laid.now.ok.0, c.if-count-gt0.true) in
    let same = ap (λ (v : ItemView). v.len) c.index_mut.ensures.value in
    omega (arith, len_below xs i w inside, same, c.requires)

pub returns-then-same_item : goal.returns-then-same_item
returns-then-same_item c =
    let xs = c.args.laid.now.items in
    let i = c.len-count.result - 1 in
    let inside : i < length xs = omega (arith, c.len-count.ensures, c.args.laid.now.ok.0, c.if-count-gt0.true) in
    let last : suc i ≡ length xs = omega (arith, c.len-count.ensures, c.args.laid.now.ok.0, c.if-count-gt0.true) in
    let one = read_same xs i c.index_mut.result.now c.index.result.now inside c.index_mut.ensures.value c.index.ensures in
    last_joined xs c.args.view c.index_mut.result.now i last c.index_mut.ensures.value
    (ap (λ (v : ItemView). same_number v.item c.args.view.item) one ∙ (sym c.same_item.ensures ∙ c.if-same_item.true))

pub returns : goal.returns
returns c =
    let xs = c.args.laid.now.items in
    let i = c.len-count.result - 1 in
    elim c.else-count-gt0.branch [
      | else-count-gt0-via-then-count-gt0+else-same_item w ↦
          (let last : suc i ≡ length xs = omega (arith, c.len-count.ensures, c.args.laid.now.ok.0, w.if-count-gt0.true) in
          c.in_ok-push.ensures.items ∙ last_apart xs c.args.view w.index.result.now i last w.index.ensures (sym w.same_item.ensures ∙ w.if-same_item.false))
      | else-count-gt0-via-else-count-gt0 w ↦
          (c.in_ok-push.ensures.items ∙ first_pushed xs c.args.view (omega (arith, c.len-count.ensures, c.args.laid.now.ok.0, w.if-count-gt0.false)))
    ]
