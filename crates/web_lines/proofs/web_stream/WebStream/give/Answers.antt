use Rattle.std.proofs.Common.{◌≡◌, ◌+◌, ◌++◌, take, drop}
use Rattle.web_lines.proofs.Lines.{given}
use Rattle.web_lines.proofs.web_stream.WebStream.give.Goals as goal

pub returns-clause-gives : goal.returns-clause-gives
returns-clause-gives g c =
    let gives : drop c.self.inside.given c.deref.result.now ≡ take c.min-count.result (c.copy_from_slice.new.self ++ drop c.min-count.result c.args.into.now) ++ drop (c.self.inside.given + c.min-count.result) c.deref.result.now =
    given c.deref.result.now _ c.args.into.now c.copy_from_slice.new.self c.self.inside.given c.min-count.result c.split_at.ensures.back c.min-count.ensures c.copy_from_slice.ensures.after in
    rw (← c.self.view_is) (rw c.deref.ensures.value at gives)
