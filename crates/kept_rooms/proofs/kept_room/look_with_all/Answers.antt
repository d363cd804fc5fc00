use Rattle.std.proofs.Common.{◌≡◌, ◌++◌, ◌∷◌, [], ◌∙◌, append_assoc}
use Rattle.std.specs.Vec.Iter.{into_iter_items}
use Rattle.kept_rooms.proofs.Looking.{as_many_more, each_more, first_left}
use Rattle.kept_rooms.proofs.kept_room.look_with_all.Goals as goal

pub loop-pass-preserved : goal.loop-pass-preserved
loop-pass-preserved g c =
    let room = c.args.room.now in
    let i = c.loop-pass.invariant in
    let passes = c.loop-pass.passes.items in
    let yielded = c.loop-pass.yielded in
    let rest = into_iter_items c.next.new.self in
    let are : yielded ++ c.in-Some.pass ∷ rest ≡ c.args.held.items = first_left yielded (into_iter_items c.loop-pass.pass-iterator) rest c.args.held.items c.in-Some.pass c.in-Some.ensures.steps.0 i.so_far in
    record {
      so_far = append_assoc yielded (c.in-Some.pass ∷ []) rest ∙ are;
      count = as_many_more passes c.push.new.self.items yielded c.in_ok-pass.pass c.in-Some.pass c.in_ok-push.ensures.items i.count;
      knows = λ entries long own. rw c.in_ok-push.ensures.items (
          each_more (g.O.PartObject.meaning room.object) room.parts entries c.args.held.items yielded rest passes c.in-Some.pass c.in_ok-pass.pass own are i.count
          (λ s have. c.in_ok-pass.ensures.knows entries s long (rw c.into_pass.ensures have)) (i.knows entries long own)
          );
    }
