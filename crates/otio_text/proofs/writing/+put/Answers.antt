use Rattle.std.proofs.Common.{◌≡◌, ◌+◌, ◌-◌, ◌∷◌, ◌++◌, OnOk, drop, sym, ap, ◌∙◌, arith, subst}
use Rattle.composables.specs.Items.{items_of}
use Rattle.otio_text.specs.Texts.{grown}
use Rattle.otio_text.specs.Documents.{comma, range_text, nest_open, nest_children, layer_open, layer_range, layer_children, children_close, mark_text, item_text, thing_text, later_items, items_text, items_in, nest_text, nest_layers, layers_if, layer_text, later_layers}
use Rattle.otio_text.proofs.Growing.{stays, put2, put5, two_more, three_more}
use Rattle.otio_text.proofs.TextLaws.{all_behind, drop_none, first_layers, next_layers, nest_none, nest_inside}
use Rattle.otio_text.proofs.writing.+put.Goals as goal

pub put_item-returns-in-Dark : goal.put_item-returns-in-Dark
unfolding item_text
put_item-returns-in-Dark t c = rw c.in-Dark.is c.put_gap.ensures

pub put_item-returns-in-Pic : goal.put_item-returns-in-Pic
unfolding item_text thing_text
put_item-returns-in-Pic t c = rw c.in-Pic.is c.put_thing.ensures

pub put_thing-returns-in-Media : goal.put_thing-returns-in-Media
unfolding thing_text
put_thing-returns-in-Media t c = rw c.in-Media.is c.put_media.ensures

pub put_thing-returns-in-Nest : goal.put_thing-returns-in-Nest
unfolding thing_text nest_text
put_thing-returns-in-Nest t c = rw c.in-Nest.is c.put_nest.ensures

pub put_items-returns-in_ok-put_item-in-Some : goal.put_items-returns-in_ok-put_item-in-Some
unfolding item_text
put_items-returns-in_ok-put_item-in-Some t c =
    let body = nest_layers c.args.table.now c.args.rate c.args.levels in
    let split : items_of c.args.track.now.cells ≡ c.in-Some.first ∷ c.next.new.self = sym (drop_none (items_of c.args.track.now.cells)) ∙ (sym c.at-items.ensures ∙ c.in-Some.ensures.some) in
    let text = ap (items_in c.args.table.now c.args.rate body) split in
    subst (λ text. OnOk c.put_other_items.result (c.put_other_items.new.out ≡ grown c.args.out.now text)) (sym text)
    (put2 c.put_other_items.result c.args.out.now c.put_item.new.out c.put_other_items.new.out
    (item_text c.args.table.now c.args.rate c.args.levels c.in-Some.first) (later_items c.args.table.now c.args.rate c.args.levels c.next.new.self)
    c.in_ok-put_item-in-Some.ensures c.put_other_items.ensures)

pub put_layer-returns : goal.put_layer-returns
unfolding layer_text
put_layer-returns t c = put5 c.put-3.result
    c.args.out.now c.put.new.self c.put_layer_range.new.out c.put-2.new.self c.put_items.new.out c.put-3.new.self
    layer_open (layer_range c.args.rate c.args.layer.now) layer_children (items_text c.args.table.now c.args.rate c.args.levels c.args.layer.now.track) children_close
    c.in_ok-put.ensures c.in_ok-put_layer_range.ensures c.in_ok-put-2.ensures c.in_ok-put_items.ensures c.put-3.ensures

pub put_layers-returns-in_ok-put_layer-in-len1-up : goal.put_layers-returns-in_ok-put_layer-in-len1-up
unfolding layer_text
put_layers-returns-in_ok-put_layer-in-len1-up t c =
    let body = nest_layers c.args.table.now c.args.rate c.args.levels in
    let text = first_layers c.args.table.now c.args.rate body c.args.layers.now c.first-item.result c.in-len1-up.len_at_least c.first-item.is in
    subst (λ text. OnOk c.put_other_layers.result (c.put_other_layers.new.out ≡ grown c.args.out.now text)) (sym text)
    (put2 c.put_other_layers.result c.args.out.now c.put_layer.new.out c.put_other_layers.new.out
    (layer_text c.args.table.now c.args.rate c.args.levels c.first-item.result) (later_layers c.args.table.now c.args.rate c.args.levels (drop 1 c.args.layers.now))
    c.in_ok-put_layer-in-len1-up.ensures (subst (λ ls. OnOk c.put_other_layers.result (c.put_other_layers.new.out ≡ grown c.put_layer.new.out (later_layers c.args.table.now c.args.rate c.args.levels ls))) (all_behind c.args.layers.now) c.put_other_layers.ensures))

pub put_nest-returns : goal.put_nest-returns
unfolding nest_text
put_nest-returns t c = put5 c.put-3.result
    c.args.out.now c.put.new.self c.put_range.new.out c.put-2.new.self c.put_nest_layers.new.out c.put-3.new.self
    nest_open (range_text c.args.rate c.args.source c.args.len) nest_children (nest_layers c.args.table.now c.args.rate c.args.levels c.args.number) children_close
    c.in_ok-put.ensures c.in_ok-put_range.ensures c.in_ok-put-2.ensures c.in_ok-put_nest_layers.ensures c.put-3.ensures

pub put_nest_layers-returns-then-levels-eq0 : goal.put_nest_layers-returns-then-levels-eq0
put_nest_layers-returns-then-levels-eq0 t c =
    stays c.args.out.now (nest_layers c.args.table.now c.args.rate c.args.levels c.args.number) (nest_none c.args.table.now c.args.rate c.args.levels c.args.number c.if-levels-eq0.true)

pub put_nest_layers-returns-in-Some : goal.put_nest_layers-returns-in-Some
put_nest_layers-returns-in-Some t c =
    let body = nest_layers c.args.table.now c.args.rate (c.args.levels - 1) in
    let text = nest_inside c.args.table.now c.args.rate c.args.levels c.args.number (omega arith) ∙ ap (layers_if c.args.table.now c.args.rate body) (sym c.in-Some.ensures) in
    subst (λ text. OnOk c.put_layers.result (c.put_layers.new.out ≡ grown c.args.out.now text)) (sym text) (rw c.as_slice.ensures at c.put_layers.ensures)

pub put_nest_layers-returns-in-None : goal.put_nest_layers-returns-in-None
put_nest_layers-returns-in-None t c =
    let body = nest_layers c.args.table.now c.args.rate (c.args.levels - 1) in
    stays c.args.out.now (nest_layers c.args.table.now c.args.rate c.args.levels c.args.number)
    (nest_inside c.args.table.now c.args.rate c.args.levels c.args.number (omega arith) ∙ ap (layers_if c.args.table.now c.args.rate body) (sym c.in-None.ensures))

pub put_other_items-loop-view-preserved : goal.put_other_items-loop-view-preserved
unfolding item_text
put_other_items-loop-view-preserved t c =
    let after = later_items c.args.table.now c.args.rate c.args.levels c.next.new.self in
    three_more c.loop-view.out c.put_mark.new.out c.put.new.self c.put_item.new.out
    (mark_text c.args.rate c.in-Some.view.mark) comma (item_text c.args.table.now c.args.rate c.args.levels c.in-Some.view) after
    c.in_ok-put_mark.ensures c.in_ok-put.ensures c.in_ok-put_item.ensures
    ∙ (ap (λ vs. grown c.loop-view.out (later_items c.args.table.now c.args.rate c.args.levels vs)) (sym c.in-Some.ensures.some) ∙ c.loop-view.invariant)

pub put_other_layers-loop-layer-preserved : goal.put_other_layers-loop-layer-preserved
unfolding layer_text
put_other_layers-loop-layer-preserved t c =
    let body = nest_layers c.args.table.now c.args.rate c.args.levels in
    let xs = c.args.others.now in
    let i = c.loop-layer.layer-index in
    two_more c.loop-layer.out c.put.new.self c.put_layer.new.out
    comma (layer_text c.args.table.now c.args.rate c.args.levels c.layer-item.result) (later_layers c.args.table.now c.args.rate c.args.levels (drop (i + 1) xs))
    c.in_ok-put.ensures c.in_ok-put_layer.ensures
    ∙ (ap (grown c.loop-layer.out) (sym (next_layers c.args.table.now c.args.rate body xs i c.layer-item.result c.loop-layer-test.true c.layer-item.is)) ∙ c.loop-layer.invariant)
