use Rattle.std.proofs.Common.{◌≡◌, ℕ, ◌+◌, List, length, take, drop, ap, refl, sym, ◌∙◌, arith}
use Rattle.std.proofs.lemmas.List.{drop-drop, length-drop}
use Rattle.composables.specs.declared.items.ItemView.{ItemView}
use Rattle.composables.specs.Items.{items_of}
use Rattle.link_groups.specs.Keys.{may_have, pair_key}
use Rattle.link_groups.proofs.KeyRows.{in-row, none-of}
use Rattle.link_groups.proofs.Others.{past-within}
use Rattle.link_groups.proofs.PassedOver.{few-kept, Reads, reads-on}
use Rattle.link_groups.proofs.Unmarked.{unmarked-on}
use Rattle.link_groups.proofs.passing.pass_unmarked.Goals as goal

pub overflow_add-here : goal.overflow_add-here
overflow_add-here c =
    omega (
      arith,
      c.loop-row.invariant.within,
      c.requires.within,
      ap length c.requires.items,
      length-drop c.args.index (items_of c.args.track.now.cells),
      few-kept c.args.track.now c.a_track_is_kept.ensures,
    )

pub returns-then-may_have_any-clause-left : goal.returns-then-may_have_any-clause-left
returns-then-may_have_any-clause-left c =
    c.at.ensures
    ∙ sym (ap (λ (vs : List ItemView). drop c.loop-row.count vs) c.requires.items ∙ drop-drop c.loop-row.count c.args.index (items_of c.args.track.now.cells))

pub overflow_add-count : goal.overflow_add-count
overflow_add-count c =
    omega (
      arith,
      past-within c.args.items.now c.loop-row.items c.loop-row.count c.in-Some.row.count c.loop-row.invariant.within c.loop-row.invariant.left c.in-Some.ensures.within,
      ap length c.requires.items,
      length-drop c.args.index (items_of c.args.track.now.cells),
      few-kept c.args.track.now c.a_track_is_kept.ensures,
    )

pub overflow_add-frames : goal.overflow_add-frames
overflow_add-frames c = omega (arith, c.in-Some.ensures.most, c.loop-row.invariant.most)

pub loop-row-preserved : goal.loop-row-preserved
loop-row-preserved c =
    let n = c.loop-row.count in
    let k = c.in-Some.row.count in
    let here : Reads c.args.items.now c.loop-row.items n c.loop-row.frames = record { within = c.loop-row.invariant.within; left_is = c.loop-row.invariant.left; at_is = c.loop-row.invariant.frames } in
    let on = reads-on c.args.items.now c.loop-row.items c.pass_row.new.self n c.loop-row.frames k c.in-Some.row.places here c.in-Some.ensures.within c.in-Some.ensures.left c.in-Some.ensures.frames in
    record {
      within = on.within;
      left = on.left_is;
      frames = on.at_is;
      most = omega (arith, c.in-Some.ensures.most, c.loop-row.invariant.most);
      unmarked =
          unmarked-on c.args.marks.now n k c.args.items.now c.loop-row.items c.loop-row.invariant.left c.loop-row.invariant.unmarked
          (λ q e. none-of (may_have c.args.marks.now) c.in-Some.row.keys.now (pair_key q) (sym c.may_have_any.ensures ∙ c.if-may_have_any.false) (in-row q c.in-Some.row.keys.now (take k c.loop-row.items) c.in-Some.ensures.keys e));
    }

pub loop-row-smaller : goal.loop-row-smaller
loop-row-smaller c = omega (arith, ap length c.in-Some.ensures.left, length-drop c.in-Some.row.count c.loop-row.items, c.in-Some.ensures.filled, c.in-Some.ensures.within)

pub returns-clause-left : goal.returns-clause-left
returns-clause-left c = c.in_default.ensures.none refl ∙ c.loop-row.invariant.left
