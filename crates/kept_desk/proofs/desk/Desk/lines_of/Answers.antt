use Rattle.std.proofs.Common.{◌≡◌, length, take, drop, ap, arith}
use Rattle.std.proofs.lemmas.List.{length-take}
use Rattle.kept_desk.proofs.Entered.{entered, lines_next_if}
use Rattle.kept_desk.proofs.desk.Desk.lines_of.Goals as goal

pub batch_of-requires-clause-few : goal.batch_of-requires-clause-few
batch_of-requires-clause-few g c =
    let after = drop c.args.self.now.file.count c.args.self.now.pass.entries in
    let count : length c.args.entries.now ≡ length (take 1024 after) = ap length c.requires.next in
    omega (arith, count, length-take 1024 after)

pub batch_of-requires-clause-entered : goal.batch_of-requires-clause-entered
batch_of-requires-clause-entered g c = λ k d lt.
    let r = c.args.room.now in
    rw c.object.ensures
    (entered (g.O.PartObject.meaning r.object) r.parts c.args.self.now.pass.entries c.args.entries.now c.args.self.now.file.count c.requires.legal c.requires.next k d lt)

pub returns-clause-next : goal.returns-clause-next
returns-clause-next g c =
    lines_next_if g.T.EntryLines.line_of 1024 (drop c.args.self.now.file.count c.args.self.now.pass.entries) c.args.entries.now c.batch_of.result c.requires.next c.batch_of.ensures
