use Rattle.std.proofs.Common.{arith, refl}
use Rattle.std.proofs.lemmas.List.{length-set}
use Rattle.room_halls.specs.Lines.{mem_line_told}
use Rattle.room_halls.proofs.Telling.{seated-within, noted-at, not-both, tells-line, tells-seated, tells-others}
use Rattle.room_halls.proofs.memory_hall.MemHallHall.stand_up.Goals as goal

pub returns-clause-line : goal.returns-clause-line
returns-clause-line c =
    let within = seated-within c.self.inside.away c.args.station (rw (← c.self.view_is) at c.requires) in
    tells-line mem_line_told c.self.inside.lines.items _ c.args.line c.set.new.self c.args.station refl
    (omega (arith, within, c.self.invariant, c.self.inside.lines.ok.0))

pub returns-clause-seated : goal.returns-clause-seated
returns-clause-seated c =
    tells-seated mem_line_told c.self.inside.lines.items _ _ _ _ c.set.ensures
    (seated-within c.self.inside.away c.args.station (rw (← c.self.view_is) at c.requires))

pub returns-clause-others : goal.returns-clause-others
returns-clause-others c = rw (← c.self.view_is)
    (tells-others mem_line_told c.self.inside.lines.items _ _ c.self.inside.away _ _ _ _ refl (λ s. refl) c.set.ensures)

pub returns-clause-back : goal.returns-clause-back
returns-clause-back c =
    let within = seated-within c.self.inside.away c.args.station (rw (← c.self.view_is) at c.requires) in (
      omega (arith, within, c.self.invariant, c.self.inside.lines.ok.0, length-set c.self.inside.lines.items c.args.station c.args.line),
      not-both _ (noted-at c.self.inside.away c.set.new.self _ _ c.set.ensures within),
    )
