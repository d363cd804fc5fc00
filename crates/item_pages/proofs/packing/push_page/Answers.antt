use Rattle.std.proofs.Common.{◌≡◌, suc, ◌-◌, ◌++◌, List, length, ap, ◌∙◌, arith}
use Rattle.std.proofs.Math.ListN.{set}
use Rattle.std.proofs.lemmas.List.{length-append}
use Rattle.item_pages.specs.Packing.{items_of}
use Rattle.item_pages.proofs.Packs.{items_join, packed_first, packed_push, packed_set}
use Rattle.item_pages.proofs.Joining.{ends_push, ends_set}
use Rattle.item_pages.proofs.packing.push_page.Goals as goal
use Rattle.item_pages.proofs.packing.push_page.Goals.{else-count-gt0-via-then-count-gt0+else-fit_in_one, else-count-gt0-via-else-count-gt0}

pub returns-then-fit_in_one-clause-items : goal.returns-then-fit_in_one-clause-items
returns-then-fit_in_one-clause-items g c =
    let pages = c.args.pages.now.items in
    let i = c.len-count.result - 1 in
    let last : suc i ≡ length pages = omega (arith, c.len-count.ensures, c.args.pages.now.ok.0, c.if-count-gt0.true) in
    let page = c.index-then-fit_in_one.result.now in
    ap (λ (q : List g.row.T.Denot). items_of (set pages i q)) (c.in_ok-joined.ensures ∙ ap (λ (q : List g.row.T.Denot). q ++ c.args.page) c.index-then-fit_in_one.ensures)
    ∙ items_join pages i page c.args.page last

pub returns-then-fit_in_one-clause-packed : goal.returns-then-fit_in_one-clause-packed
returns-then-fit_in_one-clause-packed g c =
    let pages = c.args.pages.now.items in
    let i = c.len-count.result - 1 in
    let page = c.index-then-fit_in_one.result.now in
    packed_set pages i page c.in_ok-joined.joined (omega (arith, ap length c.in_ok-joined.ensures, ap length c.index-then-fit_in_one.ensures, length-append page c.args.page)) c.requires.packed

pub returns-clause-packed : goal.returns-clause-packed
returns-clause-packed g c =
    let pages = c.args.pages.now.items in
    let i = c.len-count.result - 1 in
    rw c.in_ok-push.ensures.items (elim c.else-count-gt0.branch [
      | else-count-gt0-via-then-count-gt0+else-fit_in_one w ↦
          (let last : suc i ≡ length pages = omega (arith, c.len-count.ensures, c.args.pages.now.ok.0, w.if-count-gt0.true) in
          packed_push pages i w.index.result.now c.args.page last (omega (arith, w.fit_in_one.ensures.no w.if-fit_in_one.false, ap length w.index.ensures)) c.requires.packed)
      | else-count-gt0-via-else-count-gt0 w ↦ packed_first pages c.args.page (omega (arith, c.len-count.ensures, c.args.pages.now.ok.0, w.if-count-gt0.false))
    ])

pub returns-then-fit_in_one-clause-ends : goal.returns-then-fit_in_one-clause-ends
returns-then-fit_in_one-clause-ends g c =
    let pages = c.args.pages.now.items in
    let i = c.len-count.result - 1 in
    let last : suc i ≡ length pages = omega (arith, c.len-count.ensures, c.args.pages.now.ok.0, c.if-count-gt0.true) in
    let page = c.index-then-fit_in_one.result.now in
    ends_set pages i c.args.page c.in_ok-joined.joined last (omega (arith, ap length c.in_ok-joined.ensures, length-append page c.args.page))

pub returns-clause-ends : goal.returns-clause-ends
returns-clause-ends g c = rw c.in_ok-push.ensures.items (ends_push c.args.pages.now.items c.args.page)
