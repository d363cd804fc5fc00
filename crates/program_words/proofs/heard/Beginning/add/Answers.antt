use Rattle.std.proofs.Common.{◌≡◌, ◌∙◌, ◌+◌, ◌-◌, ap, arith, length}
use Rattle.program_words.proofs.Fronts.{fits, fills}
use Rattle.program_words.proofs.heard.Beginning.add.Goals as goal

pub returns-then-piece-room : goal.returns-then-piece-room
returns-then-piece-room c =
    c.push.ensures ∙ fits c.args.self.now c.args.piece.now
    (omega (arith, c.if-piece-room.true, c.as_slice.ensures.within, ap length c.as_slice.ensures.bytes))

pub returns-else-piece-room : goal.returns-else-piece-room
returns-else-piece-room c =
    let full : length c.args.self.now + (64 - length c.as_slice.result.now) ≡ 64 =
    omega (arith, c.as_slice.ensures.within, ap length c.as_slice.ensures.bytes) in
    c.push-else-piece-room.ensures ∙ fills c.args.self.now c.args.piece.now (64 - length c.as_slice.result.now) full
