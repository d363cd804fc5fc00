use Rattle.std.proofs.Common.{◌≡◌, ◌-◌, ◌++◌, ◌∙◌, ℕ, ap, arith, length, replicate}
use Rattle.room_disks.proofs.tape.pad.Goals as goal

pub returns : goal.returns
returns c =
    let i = c.loop-count.invariant in
    let e : c.loop-count.count - length c.args.bytes.now.items ≡ c.args.len - length c.args.bytes.now.items =
    omega (arith, i.most, i.least, c.loop-count-test.false) in
    i.zeros ∙ ap (λ n. c.args.bytes.now.items ++ replicate {A = ℕ} n 0) e
