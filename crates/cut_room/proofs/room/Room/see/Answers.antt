use Rattle.std.proofs.Common.{Ok, Err, sym, ◌∙◌}
use Rattle.cut_room.proofs.Passes.{sight_of, sight_of_none}
use Rattle.cut_room.proofs.room.Room.see.Goals as goal

pub see_held-seen-requires : goal.see_held-seen-requires
see_held-seen-requires g c =
    let s = c.self.inside in
    rw (← c.self.view_is) (
      c.in-Ok.part,
      sym c.ask_part.ensures.asked ∙ c.in-Ok.is,
      rw (c.look-pass.ensures.same.1, ← c.in-Ok-hold_one.ensures.numbers) (c.in-Ok-hold_one.ensures.good (s.object, s.opening.items) c.self.invariant.0),
    )

pub returns-in-Err : goal.returns-in-Err
returns-in-Err g c =
    let o = c.self.inside.object in
    rw (← c.self.view_is) record {
      looked = sight_of_none (g.O.PartObject.meaning o) c.self.inside.opening.items (g.O.PartObject.asked o c.args.ask.now) (λ p. g.O.PartObject.seen o p c.args.ask.now)
          c.args.pass c.point-pass.result.0 c.point-pass.result.1 c.in-Err.refusal
          (rw (← c.self.view_is) at c.point-pass.ensures.at) (sym c.ask_part.ensures.asked ∙ c.in-Err.is);
    }

pub returns-in-Ok-seen : goal.returns-in-Ok-seen
returns-in-Ok-seen g c =
    let o = c.self.inside.object in
    let see = rw (← c.self.view_is) at c.see_held-seen.ensures in
    rw (← c.self.view_is) record {
      looked = sight_of (g.O.PartObject.meaning o) c.self.inside.opening.items (g.O.PartObject.asked o c.args.ask.now) (λ p. g.O.PartObject.seen o p c.args.ask.now)
          c.args.pass c.look-pass.result.0 c.look-pass.result.1 c.in-Ok.part see.0 (Ok c.in-Ok-seen.seen)
          (rw (← c.self.view_is) at c.look-pass.ensures.at) (rw (← c.self.view_is, c.look-pass.ensures.same.0, c.in-Ok-hold_one.ensures.numbers, see.1) at c.look-pass.ensures.parts) (sym c.ask_part.ensures.asked ∙ c.in-Ok.is)
          (rw c.in-Ok-seen.is at see.2);
    }

pub returns-in-Refused : goal.returns-in-Refused
returns-in-Refused g c =
    let o = c.self.inside.object in
    let see = rw (← c.self.view_is) at c.see_held-seen.ensures in
    rw (← c.self.view_is) record {
      looked = sight_of (g.O.PartObject.meaning o) c.self.inside.opening.items (g.O.PartObject.asked o c.args.ask.now) (λ p. g.O.PartObject.seen o p c.args.ask.now)
          c.args.pass c.look-pass.result.0 c.look-pass.result.1 c.in-Ok.part see.0 (Err c.in-Refused.refusal)
          (rw (← c.self.view_is) at c.look-pass.ensures.at) (rw (← c.self.view_is, c.look-pass.ensures.same.0, c.in-Ok-hold_one.ensures.numbers, see.1) at c.look-pass.ensures.parts) (sym c.ask_part.ensures.asked ∙ c.in-Ok.is)
          (rw (c.in-Err-seen.is, c.in-Refused.is) at see.2);
    }
