use Rattle.std.proofs.Common.{◌≡◌, ◌+◌, Option, Some, take, drop, slice_get, ap, sym, ◌∙◌, arith, refl, subst}
use Rattle.frame_meaning.specs.declared.cells.Link.{Link}
use Rattle.composables.specs.Items.{cells_of, items_of}
use Rattle.composables.specs.Links.{least_link, least_outside}
use Rattle.composables.proofs.Pieces.{left-first}
use Rattle.link_groups.specs.Inside.{AreInside}
use Rattle.link_groups.proofs.Apart.{least-inside}
use Rattle.link_groups.proofs.Bare.{bare-cells, bare-drop, bare-outside}
use Rattle.link_groups.proofs.LeastLinks.{filled-at, frames-more, frames-within, item-met, item-passed, none-before}
use Rattle.link_groups.proofs.PassedOver.{few-kept, least-all, Reads, reads-next, reads-none, reads-on}
use Rattle.link_groups.proofs.outside.least_on.Goals as goal

pub loop-index-init : goal.loop-index-init
loop-index-init g c = record {
  within = c.requires.within;
  items = c.at-items.ensures;
  to = c.requires.from;
  least = none-before c.args.named.now c.args.y c.args.start.index (items_of c.args.track.now.cells) (omega (arith, c.requires.from, c.requires.before));
  inside = tt;
  from = omega arith;
  most = omega arith;
}

pub returns-then-not-has_links-clause-least : goal.returns-then-not-has_links-clause-least
returns-then-not-has_links-clause-least g c =
    let bare = bare-cells c.args.track.now c.length.ensures.kept (c.if-not-has_links.ensures.none refl) in
    sym (bare-outside c.args.named.now (drop c.args.y c.args.track.now.cells) (bare-drop c.args.y c.args.track.now.cells bare))

pub overflow_add-index : goal.overflow_add-index
overflow_add-index g c =
    let vs = items_of c.args.track.now.cells in
    let i = c.loop-index.index in
    let n = c.pass_inside-passed.result.count in
    let here : Reads vs c.loop-index.items i c.loop-index.to = record { within = c.loop-index.invariant.within; left_is = c.loop-index.invariant.items; at_is = c.loop-index.invariant.to } in
    let on = reads-on vs c.loop-index.items c.pass_inside-passed.new.self i c.loop-index.to n c.pass_inside-passed.result.places
    here c.pass_inside-passed.ensures.within c.pass_inside-passed.ensures.left c.pass_inside-passed.ensures.frames in
    omega (arith, on.within, few-kept c.args.track.now c.length.ensures.kept)

pub overflow_add-to : goal.overflow_add-to
overflow_add-to g c =
    let vs = items_of c.args.track.now.cells in
    let i = c.loop-index.index in
    let n = c.pass_inside-passed.result.count in
    let here : Reads vs c.loop-index.items i c.loop-index.to = record { within = c.loop-index.invariant.within; left_is = c.loop-index.invariant.items; at_is = c.loop-index.invariant.to } in
    let on = reads-on vs c.loop-index.items c.pass_inside-passed.new.self i c.loop-index.to n c.pass_inside-passed.result.places
    here c.pass_inside-passed.ensures.within c.pass_inside-passed.ensures.left c.pass_inside-passed.ensures.frames in
    omega (arith, on.at_is, frames-within c.args.track.now (i + n) c.length.ensures.kept)

pub returns-in_default-clause-least : goal.returns-in_default-clause-least
returns-in_default-clause-least g c =
    let vs = items_of c.args.track.now.cells in
    let i = c.loop-index.index in
    let n = c.pass_inside-passed.result.count in
    let here : Reads vs c.loop-index.items i c.loop-index.to = record { within = c.loop-index.invariant.within; left_is = c.loop-index.invariant.items; at_is = c.loop-index.invariant.to } in
    let on = reads-on vs c.loop-index.items c.pass_inside-passed.new.self i c.loop-index.to n c.pass_inside-passed.result.places
    here c.pass_inside-passed.ensures.within c.pass_inside-passed.ensures.left c.pass_inside-passed.ensures.frames in
    c.loop-index.invariant.least
    ∙ (least-inside c.args.named.now c.loop-index.inside c.args.y i n vs c.loop-index.items c.loop-index.invariant.inside c.loop-index.invariant.items c.pass_inside-passed.ensures.inside
    ∙ least-all c.args.named.now c.args.y (i + n) c.args.track.now c.length.ensures.kept (reads-none vs c.pass_inside-passed.new.self (i + n) on.left_is (c.in_default.ensures.none refl).0))

pub returns-in_default-clause-most : goal.returns-in_default-clause-most
returns-in_default-clause-most g c = omega (arith, c.loop-index.invariant.most, c.loop-index.invariant.within)

pub overflow_add-index-in-loop-index : goal.overflow_add-index-in-loop-index
overflow_add-index-in-loop-index g c =
    let vs = items_of c.args.track.now.cells in
    let i = c.loop-index.index in
    let n = c.pass_inside-passed.result.count in
    let here : Reads vs c.loop-index.items i c.loop-index.to = record { within = c.loop-index.invariant.within; left_is = c.loop-index.invariant.items; at_is = c.loop-index.invariant.to } in
    let on = reads-on vs c.loop-index.items c.pass_inside-passed.new.self i c.loop-index.to n c.pass_inside-passed.result.places
    here c.pass_inside-passed.ensures.within c.pass_inside-passed.ensures.left c.pass_inside-passed.ensures.frames in
    let v = c.in-Some.view in
    let read : slice_get vs (i + n) ≡ Some v = left-first vs c.pass_inside-passed.new.self c.next.new.self (i + n) v on.left_is c.in-Some.ensures.some in
    let next = reads-next vs c.pass_inside-passed.new.self c.next.new.self (i + n) _ v on c.in-Some.ensures.some in
    omega (arith, next.within, few-kept c.args.track.now c.length.ensures.kept)

pub overflow_add-to-in-loop-index : goal.overflow_add-to-in-loop-index
overflow_add-to-in-loop-index g c =
    let vs = items_of c.args.track.now.cells in
    let i = c.loop-index.index in
    let n = c.pass_inside-passed.result.count in
    let here : Reads vs c.loop-index.items i c.loop-index.to = record { within = c.loop-index.invariant.within; left_is = c.loop-index.invariant.items; at_is = c.loop-index.invariant.to } in
    let on = reads-on vs c.loop-index.items c.pass_inside-passed.new.self i c.loop-index.to n c.pass_inside-passed.result.places
    here c.pass_inside-passed.ensures.within c.pass_inside-passed.ensures.left c.pass_inside-passed.ensures.frames in
    let v = c.in-Some.view in
    let read : slice_get vs (i + n) ≡ Some v = left-first vs c.pass_inside-passed.new.self c.next.new.self (i + n) v on.left_is c.in-Some.ensures.some in
    let next = reads-next vs c.pass_inside-passed.new.self c.next.new.self (i + n) _ v on c.in-Some.ensures.some in
    omega (arith, next.at_is, frames-within c.args.track.now (i + n + 1) c.length.ensures.kept)

pub loop-index-preserved-then-to-y : goal.loop-index-preserved-then-to-y
loop-index-preserved-then-to-y g c =
    let vs = items_of c.args.track.now.cells in
    let i = c.loop-index.index in
    let n = c.pass_inside-passed.result.count in
    let here : Reads vs c.loop-index.items i c.loop-index.to = record { within = c.loop-index.invariant.within; left_is = c.loop-index.invariant.items; at_is = c.loop-index.invariant.to } in
    let on = reads-on vs c.loop-index.items c.pass_inside-passed.new.self i c.loop-index.to n c.pass_inside-passed.result.places
    here c.pass_inside-passed.ensures.within c.pass_inside-passed.ensures.left c.pass_inside-passed.ensures.frames in
    let v = c.in-Some.view in
    let read : slice_get vs (i + n) ≡ Some v = left-first vs c.pass_inside-passed.new.self c.next.new.self (i + n) v on.left_is c.in-Some.ensures.some in
    let next = reads-next vs c.pass_inside-passed.new.self c.next.new.self (i + n) _ v on c.in-Some.ensures.some in
    let bare = least-inside c.args.named.now c.loop-index.inside c.args.y i n vs c.loop-index.items c.loop-index.invariant.inside c.loop-index.invariant.items c.pass_inside-passed.ensures.inside in
    record {
      within = next.within;
      items = next.left_is;
      to = next.at_is;
      least =
          c.least_link-least.ensures
          ∙ (ap (λ (o : Option Link). least_link o c.outside_past.result) (c.loop-index.invariant.least ∙ bare)
          ∙ (ap (least_link (least_outside c.args.named.now (drop c.args.y (cells_of (take (i + n) vs))))) c.outside_past.ensures.outside
          ∙ sym (item-met c.args.named.now c.args.y (i + n) vs v read
          (omega (arith, c.if-to-y.true, next.at_is))
          (filled-at vs (i + n) v read c.length.ensures.kept.each))));
      inside = c.outside_past.ensures.inside;
      from = omega (arith, c.loop-index.invariant.from, c.tick.ensures);
      most = omega (arith, c.loop-index.invariant.most, c.tick.ensures);
    }

pub loop-index-preserved : goal.loop-index-preserved
loop-index-preserved g c =
    let vs = items_of c.args.track.now.cells in
    let i = c.loop-index.index in
    let n = c.pass_inside-passed.result.count in
    let here : Reads vs c.loop-index.items i c.loop-index.to = record { within = c.loop-index.invariant.within; left_is = c.loop-index.invariant.items; at_is = c.loop-index.invariant.to } in
    let on = reads-on vs c.loop-index.items c.pass_inside-passed.new.self i c.loop-index.to n c.pass_inside-passed.result.places
    here c.pass_inside-passed.ensures.within c.pass_inside-passed.ensures.left c.pass_inside-passed.ensures.frames in
    let v = c.in-Some.view in
    let read : slice_get vs (i + n) ≡ Some v = left-first vs c.pass_inside-passed.new.self c.next.new.self (i + n) v on.left_is c.in-Some.ensures.some in
    let next = reads-next vs c.pass_inside-passed.new.self c.next.new.self (i + n) _ v on c.in-Some.ensures.some in
    let bare = least-inside c.args.named.now c.loop-index.inside c.args.y i n vs c.loop-index.items c.loop-index.invariant.inside c.loop-index.invariant.items c.pass_inside-passed.ensures.inside in
    record {
      within = next.within;
      items = next.left_is;
      to = next.at_is;
      least =
          c.loop-index.invariant.least
          ∙ (bare ∙ sym (item-passed c.args.named.now c.args.y (i + n) vs v read (omega (arith, c.if-to-y.false, next.at_is))));
      inside = c.loop-index.invariant.inside;
      from = omega (arith, c.loop-index.invariant.from, c.tick.ensures);
      most = omega (arith, c.loop-index.invariant.most, c.tick.ensures);
    }

pub returns-clause-least : goal.returns-clause-least
returns-clause-least g c =
    c.loop-index.invariant.least ∙ least-all c.args.named.now c.args.y c.loop-index.index c.args.track.now c.length.ensures.kept (omega (arith, c.loop-index-test.false, c.count-count.ensures))

pub returns-clause-most : goal.returns-clause-most
returns-clause-most g c = omega (arith, c.loop-index.invariant.most, c.loop-index.invariant.within)

pub loop-index-smaller : goal.loop-index-smaller
loop-index-smaller g c =
    let vs = items_of c.args.track.now.cells in
    let i = c.loop-index.index in
    let n = c.pass_inside-passed.result.count in
    let here : Reads vs c.loop-index.items i c.loop-index.to = record { within = c.loop-index.invariant.within; left_is = c.loop-index.invariant.items; at_is = c.loop-index.invariant.to } in
    let on = reads-on vs c.loop-index.items c.pass_inside-passed.new.self i c.loop-index.to n c.pass_inside-passed.result.places
    here c.pass_inside-passed.ensures.within c.pass_inside-passed.ensures.left c.pass_inside-passed.ensures.frames in
    let v = c.in-Some.view in
    let read : slice_get vs (i + n) ≡ Some v = left-first vs c.pass_inside-passed.new.self c.next.new.self (i + n) v on.left_is c.in-Some.ensures.some in
    let next = reads-next vs c.pass_inside-passed.new.self c.next.new.self (i + n) _ v on c.in-Some.ensures.some in
    omega (arith, next.within, few-kept c.args.track.now c.length.ensures.kept)
