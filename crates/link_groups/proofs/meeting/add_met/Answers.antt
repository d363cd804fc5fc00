use Rattle.std.proofs.Common.{◌≡◌, ℕ, ◌+◌, Bool, Some, ◌&&◌, ◌||◌, slice_get, ap, sym, ◌∙◌, arith, refl, take}
use Rattle.std.specs.BTreeSet.{contains}
use Rattle.composables.specs.Items.{cells_of, items_of}
use Rattle.composables.proofs.Joining.{length-cells_of}
use Rattle.composables.proofs.Pieces.{left-first}
use Rattle.link_groups.specs.Keys.{may_have, pair_key}
use Rattle.link_groups.specs.Splits.{is_key_of, key_cmp}
use Rattle.link_groups.proofs.Bare.{bare-cells}
use Rattle.link_groups.proofs.LeastLinks.{filled-at, frames-within}
use Rattle.link_groups.proofs.LinkedCells.{behind-again, behind-bare, behind-none, behind-passed}
use Rattle.link_groups.proofs.PassedOver.{few-kept, Reads, reads-next, reads-none, reads-on, rest-all}
use Rattle.link_groups.proofs.Unmarked.{rest-passed}
use Rattle.link_groups.proofs.meeting.add_met.Goals as goal

pub returns-then-length-y-clause-links : goal.returns-then-length-y-clause-links
returns-then-length-y-clause-links g c q =
    behind-none q c.args.y c.args.track.now.cells (contains key_cmp c.args.met.now q) (may_have c.args.marks.now (pair_key q)) (omega (arith, c.if-length-y.true, c.length.ensures.value))

pub returns-then-not-has_links-clause-links : goal.returns-then-not-has_links-clause-links
returns-then-not-has_links-clause-links g c q =
    behind-bare q c.args.y c.args.track.now.cells (contains key_cmp c.args.met.now q) (may_have c.args.marks.now (pair_key q))
    (bare-cells c.args.track.now c.length.ensures.kept (c.if-not-has_links.ensures.none refl))

pub loop-index-init : goal.loop-index-init
loop-index-init g c = record {
  within = c.requires.within;
  items = c.at-items.ensures;
  end = c.requires.from;
  links = λ q.
      behind-none q c.args.y (cells_of (take c.args.start.index (items_of c.args.track.now.cells))) (contains key_cmp c.args.met.now q) (may_have c.args.marks.now (pair_key q))
      (omega (arith, length-cells_of (take c.args.start.index (items_of c.args.track.now.cells)), c.requires.from, c.requires.before));
  few = omega arith;
  least = omega arith;
  most = omega arith;
}

pub overflow_add-index : goal.overflow_add-index
overflow_add-index g c =
    let vs = items_of c.args.track.now.cells in
    let i = c.loop-index.index in
    let n = c.pass_unmarked-past.result.count in
    let here : Reads vs c.loop-index.items i c.loop-index.end = record { within = c.loop-index.invariant.within; left_is = c.loop-index.invariant.items; at_is = c.loop-index.invariant.end } in
    let on = reads-on vs c.loop-index.items c.pass_unmarked-past.new.items i c.loop-index.end n c.pass_unmarked-past.result.frames
    here c.pass_unmarked-past.ensures.within c.pass_unmarked-past.ensures.left c.pass_unmarked-past.ensures.frames in
    omega (arith, on.within, few-kept c.args.track.now c.length.ensures.kept)

pub overflow_add-end : goal.overflow_add-end
overflow_add-end g c =
    let vs = items_of c.args.track.now.cells in
    let i = c.loop-index.index in
    let n = c.pass_unmarked-past.result.count in
    let here : Reads vs c.loop-index.items i c.loop-index.end = record { within = c.loop-index.invariant.within; left_is = c.loop-index.invariant.items; at_is = c.loop-index.invariant.end } in
    let on = reads-on vs c.loop-index.items c.pass_unmarked-past.new.items i c.loop-index.end n c.pass_unmarked-past.result.frames
    here c.pass_unmarked-past.ensures.within c.pass_unmarked-past.ensures.left c.pass_unmarked-past.ensures.frames in
    omega (arith, on.at_is, frames-within c.args.track.now (i + n) c.length.ensures.kept)

pub returns-in_default-clause-links : goal.returns-in_default-clause-links
returns-in_default-clause-links g c q =
    let vs = items_of c.args.track.now.cells in
    let i = c.loop-index.index in
    let n = c.pass_unmarked-past.result.count in
    let here : Reads vs c.loop-index.items i c.loop-index.end = record { within = c.loop-index.invariant.within; left_is = c.loop-index.invariant.items; at_is = c.loop-index.invariant.end } in
    let on = reads-on vs c.loop-index.items c.pass_unmarked-past.new.items i c.loop-index.end n c.pass_unmarked-past.result.frames
    here c.pass_unmarked-past.ensures.within c.pass_unmarked-past.ensures.left c.pass_unmarked-past.ensures.frames in
    c.loop-index.invariant.links q
    ∙ ap (λ (b : Bool). contains key_cmp c.args.met.now q || b)
    (rest-passed c.args.marks.now q c.args.y i n vs c.loop-index.items c.loop-index.invariant.items c.pass_unmarked-past.ensures.unmarked
    ∙ ap (λ (b : Bool). may_have c.args.marks.now (pair_key q) && b)
    (rest-all q c.args.y (i + n) c.args.track.now c.length.ensures.kept (reads-none vs c.pass_unmarked-past.new.items (i + n) on.left_is (c.in_default.ensures.none refl).0)))

pub returns-in_default-clause-few : goal.returns-in_default-clause-few
returns-in_default-clause-few g c = omega (arith, c.loop-index.invariant.few, c.loop-index.invariant.within)

pub returns-in_default-clause-most : goal.returns-in_default-clause-most
returns-in_default-clause-most g c = omega (arith, c.loop-index.invariant.most, c.loop-index.invariant.within)

pub overflow_add-index-in-loop-index : goal.overflow_add-index-in-loop-index
overflow_add-index-in-loop-index g c =
    let vs = items_of c.args.track.now.cells in
    let i = c.loop-index.index in
    let n = c.pass_unmarked-past.result.count in
    let here : Reads vs c.loop-index.items i c.loop-index.end = record { within = c.loop-index.invariant.within; left_is = c.loop-index.invariant.items; at_is = c.loop-index.invariant.end } in
    let on = reads-on vs c.loop-index.items c.pass_unmarked-past.new.items i c.loop-index.end n c.pass_unmarked-past.result.frames
    here c.pass_unmarked-past.ensures.within c.pass_unmarked-past.ensures.left c.pass_unmarked-past.ensures.frames in
    let v = c.in-Some.view in
    let read : slice_get vs (i + n) ≡ Some v = left-first vs c.pass_unmarked-past.new.items c.next.new.self (i + n) v on.left_is c.in-Some.ensures.some in
    let next = reads-next vs c.pass_unmarked-past.new.items c.next.new.self (i + n) _ v on c.in-Some.ensures.some in
    omega (arith, next.within, few-kept c.args.track.now c.length.ensures.kept)

pub overflow_add-end-in-loop-index : goal.overflow_add-end-in-loop-index
overflow_add-end-in-loop-index g c =
    let vs = items_of c.args.track.now.cells in
    let i = c.loop-index.index in
    let n = c.pass_unmarked-past.result.count in
    let here : Reads vs c.loop-index.items i c.loop-index.end = record { within = c.loop-index.invariant.within; left_is = c.loop-index.invariant.items; at_is = c.loop-index.invariant.end } in
    let on = reads-on vs c.loop-index.items c.pass_unmarked-past.new.items i c.loop-index.end n c.pass_unmarked-past.result.frames
    here c.pass_unmarked-past.ensures.within c.pass_unmarked-past.ensures.left c.pass_unmarked-past.ensures.frames in
    let v = c.in-Some.view in
    let read : slice_get vs (i + n) ≡ Some v = left-first vs c.pass_unmarked-past.new.items c.next.new.self (i + n) v on.left_is c.in-Some.ensures.some in
    let next = reads-next vs c.pass_unmarked-past.new.items c.next.new.self (i + n) _ v on c.in-Some.ensures.some in
    omega (arith, next.at_is, frames-within c.args.track.now (i + n + 1) c.length.ensures.kept)

pub loop-index-preserved-in-Continue-1 : goal.loop-index-preserved-in-Continue-1
loop-index-preserved-in-Continue-1 g c =
    let vs = items_of c.args.track.now.cells in
    let i = c.loop-index.index in
    let n = c.pass_unmarked-past.result.count in
    let here : Reads vs c.loop-index.items i c.loop-index.end = record { within = c.loop-index.invariant.within; left_is = c.loop-index.invariant.items; at_is = c.loop-index.invariant.end } in
    let on = reads-on vs c.loop-index.items c.pass_unmarked-past.new.items i c.loop-index.end n c.pass_unmarked-past.result.frames
    here c.pass_unmarked-past.ensures.within c.pass_unmarked-past.ensures.left c.pass_unmarked-past.ensures.frames in
    let v = c.in-Some.view in
    let read : slice_get vs (i + n) ≡ Some v = left-first vs c.pass_unmarked-past.new.items c.next.new.self (i + n) v on.left_is c.in-Some.ensures.some in
    let next = reads-next vs c.pass_unmarked-past.new.items c.next.new.self (i + n) _ v on c.in-Some.ensures.some in
    let same = λ (q : ℕ × ℕ). rest-passed c.args.marks.now q c.args.y i n vs c.loop-index.items c.loop-index.invariant.items c.pass_unmarked-past.ensures.unmarked in
    record {
      within = next.within;
      items = next.left_is;
      end = next.at_is;
      links = λ q.
          c.in_ok-add_link.ensures.links q
          ∙ (ap (λ (b : Bool). b || (may_have c.args.marks.now (pair_key q) && is_key_of q v.link)) (c.loop-index.invariant.links q ∙ ap (λ (b : Bool). contains key_cmp c.args.met.now q || b) (same q))
          ∙ behind-again q c.args.y (i + n) vs v (contains key_cmp c.args.met.now q) (may_have c.args.marks.now (pair_key q)) read
          (omega (arith, c.if-end-y.true, on.at_is))
          (filled-at vs (i + n) v read c.length.ensures.kept.each));
      few = omega (arith, c.loop-index.invariant.few, c.in_ok-add_link.ensures.few);
      least = omega (arith, c.loop-index.invariant.least, c.tick.ensures);
      most = omega (arith, c.loop-index.invariant.most, c.tick.ensures);
    }

pub loop-index-preserved : goal.loop-index-preserved
loop-index-preserved g c =
    let vs = items_of c.args.track.now.cells in
    let i = c.loop-index.index in
    let n = c.pass_unmarked-past.result.count in
    let here : Reads vs c.loop-index.items i c.loop-index.end = record { within = c.loop-index.invariant.within; left_is = c.loop-index.invariant.items; at_is = c.loop-index.invariant.end } in
    let on = reads-on vs c.loop-index.items c.pass_unmarked-past.new.items i c.loop-index.end n c.pass_unmarked-past.result.frames
    here c.pass_unmarked-past.ensures.within c.pass_unmarked-past.ensures.left c.pass_unmarked-past.ensures.frames in
    let v = c.in-Some.view in
    let read : slice_get vs (i + n) ≡ Some v = left-first vs c.pass_unmarked-past.new.items c.next.new.self (i + n) v on.left_is c.in-Some.ensures.some in
    let next = reads-next vs c.pass_unmarked-past.new.items c.next.new.self (i + n) _ v on c.in-Some.ensures.some in
    let same = λ (q : ℕ × ℕ). rest-passed c.args.marks.now q c.args.y i n vs c.loop-index.items c.loop-index.invariant.items c.pass_unmarked-past.ensures.unmarked in
    record {
      within = next.within;
      items = next.left_is;
      end = next.at_is;
      links = λ q.
          c.loop-index.invariant.links q
          ∙ ap (λ (b : Bool). contains key_cmp c.args.met.now q || b)
          (same q ∙ ap (λ (b : Bool). may_have c.args.marks.now (pair_key q) && b) (sym (behind-passed q c.args.y (i + n) vs v read (omega (arith, c.if-end-y.false, on.at_is)))));
      few = omega (arith, c.loop-index.invariant.few);
      least = omega (arith, c.loop-index.invariant.least, c.tick.ensures);
      most = omega (arith, c.loop-index.invariant.most, c.tick.ensures);
    }

pub returns-clause-links : goal.returns-clause-links
returns-clause-links g c q =
    c.loop-index.invariant.links q
    ∙ ap (λ (b : Bool). contains key_cmp c.args.met.now q || (may_have c.args.marks.now (pair_key q) && b))
    (rest-all q c.args.y c.loop-index.index c.args.track.now c.length.ensures.kept (omega (arith, c.loop-index-test.false, c.count-count.ensures)))

pub returns-clause-few : goal.returns-clause-few
returns-clause-few g c = omega (arith, c.loop-index.invariant.few, c.loop-index.invariant.within)

pub returns-clause-most : goal.returns-clause-most
returns-clause-most g c = omega (arith, c.loop-index.invariant.most, c.loop-index.invariant.within)

pub loop-index-smaller : goal.loop-index-smaller
loop-index-smaller g c =
    let vs = items_of c.args.track.now.cells in
    let i = c.loop-index.index in
    let n = c.pass_unmarked-past.result.count in
    let here : Reads vs c.loop-index.items i c.loop-index.end = record { within = c.loop-index.invariant.within; left_is = c.loop-index.invariant.items; at_is = c.loop-index.invariant.end } in
    let on = reads-on vs c.loop-index.items c.pass_unmarked-past.new.items i c.loop-index.end n c.pass_unmarked-past.result.frames
    here c.pass_unmarked-past.ensures.within c.pass_unmarked-past.ensures.left c.pass_unmarked-past.ensures.frames in
    let v = c.in-Some.view in
    let read : slice_get vs (i + n) ≡ Some v = left-first vs c.pass_unmarked-past.new.items c.next.new.self (i + n) v on.left_is c.in-Some.ensures.some in
    let next = reads-next vs c.pass_unmarked-past.new.items c.next.new.self (i + n) _ v on c.in-Some.ensures.some in
    omega (arith, next.within, few-kept c.args.track.now c.length.ensures.kept)
