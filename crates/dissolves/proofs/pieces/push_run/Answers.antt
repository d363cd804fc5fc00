use Rattle.std.proofs.Common.{◌≡◌, ◌-◌, ◌<◌, suc, length, sym, ap, ◌∙◌, arith}
use Rattle.frame_meaning.specs.declared.cells.What.{What}
use Rattle.frame_meaning.specs.declared.frames.Run.{Run}
use Rattle.frame_meaning.specs.Going.{same_what, frame_goes_on}
use Rattle.dissolves.specs.Pieces.{last_frame}
use Rattle.dissolves.proofs.LastRun.{len_below, read_same, last_joined, last_apart, first_pushed}
use Rattle.dissolves.proofs.pieces.push_run.Goals as goal
use Rattle.dissolves.proofs.pieces.push_run.Goals.{else-count-gt0-via-then-count-gt0+else-is_followed, else-count-gt0-via-else-count-gt0}

pub overflow_add-index_mut : goal.overflow_add-index_mut
overflow_add-index_mut c =
    let rs = c.args.all.now.items in
    let i = c.len-count.result - 1 in
    let w = c.index_mut.result.now in
    let inside : i < length rs = omega (arith, c.len-count.ensures, c.args.all.now.ok.0, c.if-count-gt0.true) in
    omega (arith, len_below rs i w inside, ap (λ (r : Run What). r.len) c.index_mut.ensures.value, c.requires)

pub returns-then-is_followed : goal.returns-then-is_followed
returns-then-is_followed c =
    let rs = c.args.all.now.items in
    let i = c.len-count.result - 1 in
    let inside : i < length rs = omega (arith, c.len-count.ensures, c.args.all.now.ok.0, c.if-count-gt0.true) in
    let last : suc i ≡ length rs = omega (arith, c.len-count.ensures, c.args.all.now.ok.0, c.if-count-gt0.true) in
    let one = read_same rs i c.index_mut.result.now c.index.result.now inside c.index_mut.ensures.value c.index.ensures in
    last_joined rs c.args.run c.index_mut.result.now i last c.index_mut.ensures.value
    (ap (λ (r : Run What). frame_goes_on same_what (last_frame r) c.args.run.frame) one ∙ (sym c.is_followed.ensures ∙ c.if-is_followed.true))

pub returns : goal.returns
returns c =
    let rs = c.args.all.now.items in
    let i = c.len-count.result - 1 in
    elim c.else-count-gt0.branch [
      | else-count-gt0-via-then-count-gt0+else-is_followed w ↦
          (let last : suc i ≡ length rs = omega (arith, c.len-count.ensures, c.args.all.now.ok.0, w.if-count-gt0.true) in
          c.in_ok-push.ensures.items ∙ last_apart rs c.args.run w.index.result.now i last w.index.ensures (sym w.is_followed.ensures ∙ w.if-is_followed.false))
      | else-count-gt0-via-else-count-gt0 w ↦
          (c.in_ok-push.ensures.items ∙ first_pushed rs c.args.run (omega (arith, c.len-count.ensures, c.args.all.now.ok.0, w.if-count-gt0.false)))
    ]
