use Rattle.std.proofs.Common.{◌≡◌, ℕ, ◌+◌, ◌-◌, Some, get_or, slice_get, sym, ◌∙◌, arith}
use Rattle.std.proofs.lemmas.Option.{slice_get-get_or}
use Rattle.composables.proofs.Finding.{range_found, range_next, range_end}
use Rattle.composables.proofs.Frames.{frames_in-take_more, frames_in-take_le, no_view}
use Rattle.composables.proofs.Joining.{same-is}
use Rattle.composables.proofs.places.find_in.Goals as goal

-- so many behind an index, as an index
back : (n i : ℕ) → n + i - n ≡ i
back n i = omega arith

pub overflow_add-to : goal.overflow_add-to
overflow_add-to g c =
    let xs = c.args.items.now in
    let i = c.loop-passed.passed in
    omega (arith, c.loop-passed.invariant.from, c.requires.frames, frames_in-take_more xs i no_view c.loop-passed-test.true, frames_in-take_le (i + 1) xs)

pub returns-then-same_item-clause-found : goal.returns-then-same_item-clause-found
returns-then-same_item-clause-found g c =
    let xs = c.args.items.now in
    let i = c.loop-passed.passed in
    record {
      behind = omega arith;
      before = omega (arith, c.loop-passed-test.true);
      from = rw (back c.args.index i) c.loop-passed.invariant.from;
      to = rw (back c.args.index i) (omega (arith, c.loop-passed.invariant.from, frames_in-take_more xs i no_view c.loop-passed-test.true));
    }

pub returns-then-same_item-clause-number : goal.returns-then-same_item-clause-number
returns-then-same_item-clause-number g c =
    let xs = c.args.items.now in
    let i = c.loop-passed.passed in
    let v = get_or xs i no_view in
    let read : slice_get xs i ≡ Some v = slice_get-get_or xs i no_view c.loop-passed-test.true in
    rw (back c.args.index i, read) (same-is v.item (Some c.args.item) (sym c.same_item.ensures ∙ c.if-same_item.true))

pub returns-then-same_item-clause-range : goal.returns-then-same_item-clause-range
returns-then-same_item-clause-range g c =
    let xs = c.args.items.now in
    let i = c.loop-passed.passed in
    sym c.loop-passed.invariant.range
    ∙ range_found c.loop-passed.from xs i (get_or xs i no_view) c.args.item (slice_get-get_or xs i no_view c.loop-passed-test.true) (sym c.same_item.ensures ∙ c.if-same_item.true)

pub returns-clause-none : goal.returns-clause-none
returns-clause-none g c =
    sym c.loop-passed.invariant.range ∙ range_end c.loop-passed.from c.args.items.now c.loop-passed.passed c.args.item (omega (arith, c.loop-passed-test.false))

pub loop-passed-preserved : goal.loop-passed-preserved
loop-passed-preserved g c =
    let xs = c.args.items.now in
    let i = c.loop-passed.passed in
    record {
      from = omega (arith, c.loop-passed.invariant.from, frames_in-take_more xs i no_view c.loop-passed-test.true);
      range =
          sym (range_next c.loop-passed.from xs i (get_or xs i no_view) c.args.item (slice_get-get_or xs i no_view c.loop-passed-test.true) (sym c.same_item.ensures ∙ c.if-same_item.false))
          ∙ c.loop-passed.invariant.range;
      least = omega (arith, c.loop-passed.invariant.least, c.tick.ensures);
      most = omega (arith, c.loop-passed.invariant.most, c.tick.ensures);
    }
