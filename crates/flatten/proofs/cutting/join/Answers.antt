use Rattle.std.proofs.Common.{◌≡◌, ◌-◌, ◌<◌, suc, length, sym, ap, ◌∙◌, arith}
use Rattle.flatten.specs.declared.cutting.Segment.{Segment}
use Rattle.flatten.specs.Segments.{goes_on_in}
use Rattle.flatten.proofs.LastSegment.{len_below, read_same, last_joined, last_apart, first_joined}
use Rattle.flatten.proofs.cutting.join.Goals as goal
use Rattle.flatten.proofs.cutting.join.Goals.{else-count-gt0-via-then-count-gt0+else-goes_on_in, else-count-gt0-via-else-count-gt0}

pub overflow_add-index_mut : goal.overflow_add-index_mut
overflow_add-index_mut c =
    let ss = c.args.all.now.items in
    let i = c.len-count.result - 1 in
    let w = c.index_mut.result.now in
    let inside : i < length ss = omega (arith, c.len-count.ensures, c.args.all.now.ok.0, c.if-count-gt0.true) in
    omega (arith, len_below ss i w inside, ap (λ (s : Segment). s.len) c.index_mut.ensures.value, c.requires)

pub returns-then-goes_on_in : goal.returns-then-goes_on_in
returns-then-goes_on_in c =
    let ss = c.args.all.now.items in
    let i = c.len-count.result - 1 in
    let inside : i < length ss = omega (arith, c.len-count.ensures, c.args.all.now.ok.0, c.if-count-gt0.true) in
    let last : suc i ≡ length ss = omega (arith, c.len-count.ensures, c.args.all.now.ok.0, c.if-count-gt0.true) in
    let one = read_same ss i c.index_mut.result.now c.index.result.now inside c.index_mut.ensures.value c.index.ensures in
    last_joined ss c.args.segment c.index_mut.result.now i last c.index_mut.ensures.value
    (ap (λ (s : Segment). goes_on_in s c.args.segment) one ∙ (sym c.goes_on_in.ensures ∙ c.if-goes_on_in.true))

pub returns : goal.returns
returns c =
    let ss = c.args.all.now.items in
    let i = c.len-count.result - 1 in
    elim c.else-count-gt0.branch [
      | else-count-gt0-via-then-count-gt0+else-goes_on_in w ↦
          (let last : suc i ≡ length ss = omega (arith, c.len-count.ensures, c.args.all.now.ok.0, w.if-count-gt0.true) in
          c.in_ok-push.ensures.items ∙ last_apart ss c.args.segment w.index.result.now i last w.index.ensures (sym w.goes_on_in.ensures ∙ w.if-goes_on_in.false))
      | else-count-gt0-via-else-count-gt0 w ↦
          (c.in_ok-push.ensures.items ∙ first_joined ss c.args.segment (omega (arith, c.len-count.ensures, c.args.all.now.ok.0, w.if-count-gt0.false)))
    ]
