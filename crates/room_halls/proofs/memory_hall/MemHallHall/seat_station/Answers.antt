use Rattle.std.proofs.Common.{ap, arith, refl}
use Rattle.std.proofs.lemmas.Option.{slice_get_read}
use Rattle.room_halls.specs.Lines.{told_or_blank, mem_line_told}
use Rattle.room_halls.proofs.Telling.{noted-at, noted-others, tells-seated, tells-others}
use Rattle.room_halls.proofs.memory_hall.MemHallHall.seat_station.Goals as goal

pub returns-clause-line : goal.returns-clause-line
returns-clause-line c = rw (← c.self.view_is, c.replace.ensures.value) (ap (told_or_blank mem_line_told)
    (slice_get_read c.self.inside.lines.items _ c.args.station c.index_mut-place.result.now c.self.inside.lines.ok.0
    (omega (arith, c.if-station-len.false, c.len.ensures)) c.index_mut-place.ensures.value))

pub returns-clause-seated : goal.returns-clause-seated
returns-clause-seated c =
    tells-seated mem_line_told c.self.inside.lines.items _ _ _ _ c.set.ensures c.in_ok-make_room.ensures.room

pub returns-clause-others : goal.returns-clause-others
returns-clause-others c = rw (← c.self.view_is)
    (tells-others mem_line_told c.self.inside.lines.items _ _ c.self.inside.away _ _ _ _ refl c.in_ok-make_room.ensures.same c.set.ensures)

pub returns-clause-away : goal.returns-clause-away
returns-clause-away c = noted-at _ _ _ _ c.set.ensures c.in_ok-make_room.ensures.room

pub returns-clause-here : goal.returns-clause-here
returns-clause-here c = rw (← c.self.view_is)
    (noted-others c.self.inside.away _ _ _ c.args.station c.in_ok-make_room.ensures.same c.set.ensures)
