use Rattle.std.proofs.Common.{◌≡◌, ◌∙◌, ap, rules}
use Rattle.room_disks.specs.Crashes.{written}
use Rattle.room_disks.specs.Tapes.{Puts}
use Rattle.room_disks.proofs.Noted.{held_written}
use Rattle.room_disks.proofs.tape.TapeFile.write.Goals as goal

pub invariant_of-self-2 : goal.invariant_of-self-2
invariant_of-self-2 c =
    let n : c.in_ok-next.next.items ≡ written c.args.at c.args.piece.now c.self.inside.bytes.items = search rules in
    let p : c.in_ok-piece.piece.items ≡ c.args.piece.now = search rules in (
      n ∙ held_written c.self.inside.start.items c.self.inside.bytes.items c.args.piece.now c.args.at
          c.self.inside.calls.items _ _ c.in_ok-push.ensures.items (ap (λ xs. Puts c.args.at xs) p) c.self.invariant.0,
      search rules,
    )
