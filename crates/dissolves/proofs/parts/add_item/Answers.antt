use Rattle.std.proofs.Common.{◌≡◌, ◌+◌, ◌-◌, ◌++◌, sym, subst, arith}
use Rattle.dissolves.specs.Pieces.{run_frames}
use Rattle.dissolves.specs.Walk.{Walked}
use Rattle.composables.specs.TrackFacts.{left_reach, right_reach}
use Rattle.dissolves.specs.Parts.{head_frames, own_frames, tail_frames, mark_of}
use Rattle.dissolves.proofs.Walk.{walk_none, walk_three}
use Rattle.dissolves.proofs.parts.add_item.Goals as goal

pub returns : goal.returns
returns c = record {
  walked = λ rest frames w.
      let v = c.args.view in
      let head = c.head_of-head.result in
      let own = c.own_of-own.result in
      let tail = c.tail_of-tail.result in
      let own_len : own.len ≡ v.len - head.len - tail.len = c.own_of-own.ensures.len in
      let place : c.args.from + head.len + own.len + tail.len ≡ c.args.from + v.len =
      omega (arith, own_len, c.head_of-head.ensures.len, c.tail_of-tail.ensures.len, c.requires.between.holds.room) in
      walk_three c.args.all.now.items c.add_part-2.new.all.items c.add_part-3.new.all.items c.add_part-4.new.all.items
      c.args.from (c.args.from + v.len) c.args.a c.args.b head own tail
      (head_frames c.args.before v) (own_frames v (right_reach v.mark) (left_reach (mark_of c.args.after))) (tail_frames v c.args.after) rest frames
      c.head_of-head.ensures.frames (rw (c.head_of-head.ensures.len, c.tail_of-tail.ensures.len) at c.own_of-own.ensures.frames) c.tail_of-tail.ensures.frames place
      c.in_ok-add_part-2.ensures.walked c.in_ok-add_part-3.ensures.walked c.in_ok-add_part-4.ensures.walked w;
}

-- without a dissolve at its head or its tail it is one run
pub returns-then-head-tail-eq0 : goal.returns-then-head-tail-eq0
returns-then-head-tail-eq0 c = record {
  walked = λ rest frames w.
      let v = c.args.view in
      let head = c.head_of-head.result in
      let own = c.own_of-own.result in
      let tail = c.tail_of-tail.result in
      let own_len : own.len ≡ v.len - head.len - tail.len = c.own_of-own.ensures.len in
      let no_head : head.len ≡ 0 = omega (arith, c.if-head-tail-eq0.true) in
      let no_tail : tail.len ≡ 0 = omega (arith, c.if-head-tail-eq0.true) in
      let place : c.args.from + head.len + own.len + tail.len ≡ c.args.from + v.len =
      omega (arith, own_len, c.head_of-head.ensures.len, c.tail_of-tail.ensures.len, c.requires.between.holds.room) in
      let same : c.args.from ≡ c.args.from + head.len = omega (arith, no_head) in
      walk_three c.args.all.now.items c.args.all.now.items c.add_part.new.all.items c.add_part.new.all.items
      c.args.from (c.args.from + v.len) c.args.a c.args.b head own tail
      (head_frames c.args.before v) (own_frames v (right_reach v.mark) (left_reach (mark_of c.args.after))) (tail_frames v c.args.after) rest frames
      c.head_of-head.ensures.frames (rw (c.head_of-head.ensures.len, c.tail_of-tail.ensures.len) at c.own_of-own.ensures.frames) c.tail_of-tail.ensures.frames place
      (λ next fs. walk_none c.args.all.now.items c.args.from c.args.a c.args.b head next fs no_head)
      (λ next fs u. subst (λ n. Walked c.add_part.new.all.items (n + own.len) c.args.a c.args.b next fs) same
      (c.in_ok-add_part.ensures.walked next fs (subst (λ n. Walked c.args.all.now.items n c.args.a c.args.b (run_frames own ++ next) fs) (sym same) u)))
      (λ next fs. walk_none c.add_part.new.all.items (c.args.from + head.len + own.len) c.args.a c.args.b tail next fs no_tail) w;
}
