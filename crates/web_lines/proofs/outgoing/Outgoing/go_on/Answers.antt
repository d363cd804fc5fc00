use Rattle.std.proofs.Common.{take}
use Rattle.web_lines.proofs.Leaving.{front_gone}
use Rattle.web_lines.proofs.outgoing.Outgoing.go_on.Goals as goal

pub returns-clause-goes : goal.returns-clause-goes
returns-clause-goes g c =
    let rest = c.split_at.result.1.now in
    let back = rw c.deref.ensures.value at c.split_at.ensures.back in
    let all = front_gone c.self.inside.bytes.items rest c.self.inside.sent c.in_ok-count.count back in
    (take c.in_ok-count.count rest, c.in_ok-count.ensures.bytes, rw (← c.self.view_is) all)
