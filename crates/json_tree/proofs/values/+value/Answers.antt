use Rattle.std.proofs.Common.{arith, refl}
use Rattle.std.proofs.lemmas.Result.{err_from_is_err_and}
use Rattle.json_tree.specs.ReadingValues.{item_at, member_at, value_at}
use Rattle.json_tree.specs.View.{tree_of, member_of}
use Rattle.json_tree.proofs.ListLoop.{goes_on, closes, ends, ends_behind, is_out}
use Rattle.json_tree.proofs.Levels.{none_inside, some_inside}
use Rattle.json_tree.proofs.values.+value.Goals as goal

pub some_items-returns-in_err-item : goal.some_items-returns-in_err-item
some_items-returns-in_err-item t c = let p = err_from_is_err_and c.from_residual.result c.from_residual.ensures.1 in
    rw (p.1, p.2) (ends (item_at (value_at c.args.levels)) 93 c.loop.items _ c.loop.counter c.loop.rest.at c.loop.rest.bytes.now _ c.loop.invariant c.loop-test.true c.in_err-item.field-0.0 c.in_err-item.ensures)

pub some_items-returns-in_err-next : goal.some_items-returns-in_err-next
some_items-returns-in_err-next t c = let p = err_from_is_err_and c.from_residual-in_err-next.result c.from_residual-in_err-next.ensures.1 in
    rw (p.1, p.2) (ends_behind (item_at (value_at c.args.levels)) 93 c.loop.items _ c.loop.counter c.loop.rest.at c.loop.rest.bytes.now _ c.loop.invariant c.loop-test.true c.in_err-next.field-0.0 (tree_of c.in_ok-item.item) c.in_ok-item.after.at c.in_ok-item.after.bytes.now c.in_ok-item.ensures c.in_err-next.ensures)

pub some_items-returns-in-End : goal.some_items-returns-in-End
some_items-returns-in-End t c =
    rw c.in_ok-push.ensures.ok (closes (item_at (value_at c.args.levels)) 93 c.loop.items _ c.loop.counter c.loop.rest.at c.loop.rest.bytes.now _ c.loop.invariant c.loop-test.true (tree_of c.in_ok-item.item) c.in_ok-item.after.at c.in_ok-item.after.bytes.now c.in_ok-next.after.at c.in_ok-next.after.bytes.now c.in_ok-item.ensures (rw c.in-End.is at c.in_ok-next.ensures))

pub some_items-loop-preserved : goal.some_items-loop-preserved
some_items-loop-preserved t c =
    rw c.in_ok-push.ensures.ok (goes_on (item_at (value_at c.args.levels)) 93 c.loop.items _ c.loop.counter c.loop.rest.at c.loop.rest.bytes.now _ c.loop.invariant c.loop-test.true (tree_of c.in_ok-item.item) c.in_ok-item.after.at c.in_ok-item.after.bytes.now c.in_ok-next.after.at c.in_ok-next.after.bytes.now c.in_ok-item.ensures (rw c.in-Another.is at c.in_ok-next.ensures))

pub some_items-returns : goal.some_items-returns
some_items-returns t c = is_out (item_at (value_at c.args.levels)) 93 c.loop.items _ c.loop.counter c.loop.rest.at c.loop.rest.bytes.now _ c.loop.invariant c.loop-test.false

pub some_members-returns-in_err-member : goal.some_members-returns-in_err-member
some_members-returns-in_err-member t c = let p = err_from_is_err_and c.from_residual.result c.from_residual.ensures.1 in
    rw (p.1, p.2) (ends (member_at (value_at c.args.levels)) 125 c.loop.members _ c.loop.counter c.loop.rest.at c.loop.rest.bytes.now _ c.loop.invariant c.loop-test.true c.in_err-member.field-0.0 c.in_err-member.ensures)

pub some_members-returns-in_err-next : goal.some_members-returns-in_err-next
some_members-returns-in_err-next t c = let p = err_from_is_err_and c.from_residual-in_err-next.result c.from_residual-in_err-next.ensures.1 in
    rw (p.1, p.2) (ends_behind (member_at (value_at c.args.levels)) 125 c.loop.members _ c.loop.counter c.loop.rest.at c.loop.rest.bytes.now _ c.loop.invariant c.loop-test.true c.in_err-next.field-0.0 (member_of c.in_ok-member.member) c.in_ok-member.after.at c.in_ok-member.after.bytes.now c.in_ok-member.ensures c.in_err-next.ensures)

pub some_members-returns-in-End : goal.some_members-returns-in-End
some_members-returns-in-End t c =
    rw c.in_ok-push.ensures.ok (closes (member_at (value_at c.args.levels)) 125 c.loop.members _ c.loop.counter c.loop.rest.at c.loop.rest.bytes.now _ c.loop.invariant c.loop-test.true (member_of c.in_ok-member.member) c.in_ok-member.after.at c.in_ok-member.after.bytes.now c.in_ok-next.after.at c.in_ok-next.after.bytes.now c.in_ok-member.ensures (rw c.in-End.is at c.in_ok-next.ensures))

pub some_members-loop-preserved : goal.some_members-loop-preserved
some_members-loop-preserved t c =
    rw c.in_ok-push.ensures.ok (goes_on (member_at (value_at c.args.levels)) 125 c.loop.members _ c.loop.counter c.loop.rest.at c.loop.rest.bytes.now _ c.loop.invariant c.loop-test.true (member_of c.in_ok-member.member) c.in_ok-member.after.at c.in_ok-member.after.bytes.now c.in_ok-next.after.at c.in_ok-next.after.bytes.now c.in_ok-member.ensures (rw c.in-Another.is at c.in_ok-next.ensures))

pub some_members-returns : goal.some_members-returns
some_members-returns t c = is_out (member_at (value_at c.args.levels)) 125 c.loop.members _ c.loop.counter c.loop.rest.at c.loop.rest.bytes.now _ c.loop.invariant c.loop-test.false

pub list-returns-then-levels-eq0 : goal.list-returns-then-levels-eq0
list-returns-then-levels-eq0 t c = rw (none_inside c.args.levels c.if-levels-eq0.true) refl

pub list-returns : goal.list-returns
list-returns t c = rw (some_inside c.args.levels (omega arith)) c.list_inside.ensures

pub object-returns-then-levels-eq0 : goal.object-returns-then-levels-eq0
object-returns-then-levels-eq0 t c = rw (none_inside c.args.levels c.if-levels-eq0.true) refl

pub object-returns : goal.object-returns
object-returns t c = rw (some_inside c.args.levels (omega arith)) c.object_inside.ensures
