use Rattle.std.proofs.Common.{◌≡◌, ℕ, ◌+◌, true, false, Some, sym, ap, ◌∙◌, arith, slice_get, refl}
use Rattle.composables.specs.Items.{items_of}
use Rattle.link_groups.specs.ItemLinks.{is_elsewhere}
use Rattle.composables.proofs.Pieces.{got_within, left-first, left-rest}
use Rattle.link_groups.proofs.Bare.{bare-cells, bare-elsewhere}
use Rattle.link_groups.proofs.Elsewhere.{any-met, any-passed}
use Rattle.link_groups.proofs.Others.{any-end, any-others, left-past, past-within}
use Rattle.link_groups.proofs.PassedOver.{few-kept, reads-none}
use Rattle.link_groups.proofs.item_links.carried_on.Goals as goal

pub overflow_add-index : goal.overflow_add-index
overflow_add-index g c =
    let vs = items_of c.args.track.now.cells in
    let i = c.loop-index.index in
    let n = c.pass_others-passed.result.count in
    let fits = past-within vs c.loop-index.items i n c.loop-index.invariant.within c.loop-index.invariant.items c.pass_others-passed.ensures.within in
    let left = left-past vs c.loop-index.items c.pass_others-passed.new.self i n c.loop-index.invariant.items c.pass_others-passed.ensures.left in
    omega (arith, fits, few-kept c.args.track.now c.a_track_is_kept.ensures)

pub returns-in_default-clause-on : goal.returns-in_default-clause-on
returns-in_default-clause-on g c =
    let vs = items_of c.args.track.now.cells in
    let i = c.loop-index.index in
    let n = c.pass_others-passed.result.count in
    let fits = past-within vs c.loop-index.items i n c.loop-index.invariant.within c.loop-index.invariant.items c.pass_others-passed.ensures.within in
    let left = left-past vs c.loop-index.items c.pass_others-passed.new.self i n c.loop-index.invariant.items c.pass_others-passed.ensures.left in
    let past = c.loop-index.invariant.on ∙ any-others c.args.link c.args.own c.args.item c.args.track.now.number i n vs c.loop-index.items c.loop-index.invariant.within c.loop-index.invariant.items c.pass_others-passed.ensures.within c.pass_others-passed.ensures.others in
    sym (past ∙ any-end c.args.link c.args.own c.args.item c.args.track.now.number (i + n) vs (reads-none vs c.pass_others-passed.new.self (i + n) left (c.in_default.ensures.none refl).0))

pub returns-in_default-clause-most : goal.returns-in_default-clause-most
returns-in_default-clause-most g c = omega (arith, c.loop-index.invariant.most, c.loop-index.invariant.within)

pub returns-then-is_elsewhere-clause-on : goal.returns-then-is_elsewhere-clause-on
returns-then-is_elsewhere-clause-on g c =
    let vs = items_of c.args.track.now.cells in
    let i = c.loop-index.index in
    let n = c.pass_others-passed.result.count in
    let fits = past-within vs c.loop-index.items i n c.loop-index.invariant.within c.loop-index.invariant.items c.pass_others-passed.ensures.within in
    let left = left-past vs c.loop-index.items c.pass_others-passed.new.self i n c.loop-index.invariant.items c.pass_others-passed.ensures.left in
    let read : slice_get vs (i + n) ≡ Some c.in-Some.view = left-first vs c.pass_others-passed.new.self c.next.new.self (i + n) c.in-Some.view left c.in-Some.ensures.some in
    let rest = left-rest vs c.pass_others-passed.new.self c.next.new.self (i + n) c.in-Some.view left c.in-Some.ensures.some in
    let low = got_within vs (i + n) c.in-Some.view read in
    let past = c.loop-index.invariant.on ∙ any-others c.args.link c.args.own c.args.item c.args.track.now.number i n vs c.loop-index.items c.loop-index.invariant.within c.loop-index.invariant.items c.pass_others-passed.ensures.within c.pass_others-passed.ensures.others in
    let test : is_elsewhere c.args.link c.args.own c.args.item c.args.track.now.number c.in-Some.view.item c.in-Some.view.link ≡ true =
    ap (λ (n : ℕ). is_elsewhere c.args.link c.args.own c.args.item n c.in-Some.view.item c.in-Some.view.link) (sym c.number.ensures) ∙ (sym c.is_elsewhere.ensures ∙ c.if-is_elsewhere.true) in
    sym (past ∙ any-met (is_elsewhere c.args.link c.args.own c.args.item c.args.track.now.number) vs (i + n) c.in-Some.view read c.a_track_is_kept.ensures.each test)

pub returns-then-is_elsewhere-clause-most : goal.returns-then-is_elsewhere-clause-most
returns-then-is_elsewhere-clause-most g c =
    let vs = items_of c.args.track.now.cells in
    let i = c.loop-index.index in
    let n = c.pass_others-passed.result.count in
    let fits = past-within vs c.loop-index.items i n c.loop-index.invariant.within c.loop-index.invariant.items c.pass_others-passed.ensures.within in
    let left = left-past vs c.loop-index.items c.pass_others-passed.new.self i n c.loop-index.invariant.items c.pass_others-passed.ensures.left in
    let read : slice_get vs (i + n) ≡ Some c.in-Some.view = left-first vs c.pass_others-passed.new.self c.next.new.self (i + n) c.in-Some.view left c.in-Some.ensures.some in
    let rest = left-rest vs c.pass_others-passed.new.self c.next.new.self (i + n) c.in-Some.view left c.in-Some.ensures.some in
    let low = got_within vs (i + n) c.in-Some.view read in
    omega (arith, c.loop-index.invariant.most, c.tick.ensures, low)

pub returns-then-not-has_links-clause-on : goal.returns-then-not-has_links-clause-on
returns-then-not-has_links-clause-on g c =
    let t = c.args.track.now in
    sym (bare-elsewhere c.args.link c.args.own c.args.item t.number t.cells (bare-cells t c.a_track_is_kept.ensures (c.if-not-has_links.ensures.none refl)))

pub overflow_add-index-in-loop-index : goal.overflow_add-index-in-loop-index
overflow_add-index-in-loop-index g c =
    let vs = items_of c.args.track.now.cells in
    let i = c.loop-index.index in
    let n = c.pass_others-passed.result.count in
    let fits = past-within vs c.loop-index.items i n c.loop-index.invariant.within c.loop-index.invariant.items c.pass_others-passed.ensures.within in
    let left = left-past vs c.loop-index.items c.pass_others-passed.new.self i n c.loop-index.invariant.items c.pass_others-passed.ensures.left in
    let read : slice_get vs (i + n) ≡ Some c.in-Some.view = left-first vs c.pass_others-passed.new.self c.next.new.self (i + n) c.in-Some.view left c.in-Some.ensures.some in
    let rest = left-rest vs c.pass_others-passed.new.self c.next.new.self (i + n) c.in-Some.view left c.in-Some.ensures.some in
    let low = got_within vs (i + n) c.in-Some.view read in
    omega (arith, low, few-kept c.args.track.now c.a_track_is_kept.ensures)

pub loop-index-preserved : goal.loop-index-preserved
loop-index-preserved g c =
    let vs = items_of c.args.track.now.cells in
    let i = c.loop-index.index in
    let n = c.pass_others-passed.result.count in
    let fits = past-within vs c.loop-index.items i n c.loop-index.invariant.within c.loop-index.invariant.items c.pass_others-passed.ensures.within in
    let left = left-past vs c.loop-index.items c.pass_others-passed.new.self i n c.loop-index.invariant.items c.pass_others-passed.ensures.left in
    let read : slice_get vs (i + n) ≡ Some c.in-Some.view = left-first vs c.pass_others-passed.new.self c.next.new.self (i + n) c.in-Some.view left c.in-Some.ensures.some in
    let rest = left-rest vs c.pass_others-passed.new.self c.next.new.self (i + n) c.in-Some.view left c.in-Some.ensures.some in
    let low = got_within vs (i + n) c.in-Some.view read in
    let past = c.loop-index.invariant.on ∙ any-others c.args.link c.args.own c.args.item c.args.track.now.number i n vs c.loop-index.items c.loop-index.invariant.within c.loop-index.invariant.items c.pass_others-passed.ensures.within c.pass_others-passed.ensures.others in
    let test : is_elsewhere c.args.link c.args.own c.args.item c.args.track.now.number c.in-Some.view.item c.in-Some.view.link ≡ false =
    ap (λ (n : ℕ). is_elsewhere c.args.link c.args.own c.args.item n c.in-Some.view.item c.in-Some.view.link) (sym c.number.ensures) ∙ (sym c.is_elsewhere.ensures ∙ c.if-is_elsewhere.false) in
    record {
      within = omega (arith, low);
      items = rest;
      on = past ∙ any-passed (is_elsewhere c.args.link c.args.own c.args.item c.args.track.now.number) vs (i + n) c.in-Some.view read test;
      from = omega (arith, c.loop-index.invariant.from, c.tick.ensures);
      most = omega (arith, c.loop-index.invariant.most, c.tick.ensures);
    }

pub returns-clause-on : goal.returns-clause-on
returns-clause-on g c =
    sym (c.loop-index.invariant.on ∙ any-end c.args.link c.args.own c.args.item c.args.track.now.number c.loop-index.index (items_of c.args.track.now.cells) (omega (arith, c.loop-index-test.false, c.count-count.ensures)))

pub returns-clause-most : goal.returns-clause-most
returns-clause-most g c = omega (arith, c.loop-index.invariant.most, c.loop-index.invariant.within)

pub loop-index-smaller : goal.loop-index-smaller
loop-index-smaller g c =
    let vs = items_of c.args.track.now.cells in
    let i = c.loop-index.index in
    let n = c.pass_others-passed.result.count in
    let fits = past-within vs c.loop-index.items i n c.loop-index.invariant.within c.loop-index.invariant.items c.pass_others-passed.ensures.within in
    let left = left-past vs c.loop-index.items c.pass_others-passed.new.self i n c.loop-index.invariant.items c.pass_others-passed.ensures.left in
    let read : slice_get vs (i + n) ≡ Some c.in-Some.view = left-first vs c.pass_others-passed.new.self c.next.new.self (i + n) c.in-Some.view left c.in-Some.ensures.some in
    let rest = left-rest vs c.pass_others-passed.new.self c.next.new.self (i + n) c.in-Some.view left c.in-Some.ensures.some in
    let low = got_within vs (i + n) c.in-Some.view read in
    omega (arith, low)
