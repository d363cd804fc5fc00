use Rattle.std.proofs.Common.{ap, ◌∙◌, refl}
use Rattle.room_halls.specs.Stations.{station_told, note_of, is_noted}
use Rattle.room_halls.specs.Lines.{sure_line_told}
use Rattle.room_halls.proofs.Telling.{tells-others}
use Rattle.room_halls.proofs.sure_hall.SureHallHall.seat_station.Goals as goal

pub returns-clause-others : goal.returns-clause-others
returns-clause-others c = rw (← c.self.view_is) (λ other apart.
    tells-others sure_line_told c.make_lines.new.lines.items _ _ c.self.inside.seated _ _ _ c.args.station refl c.in_ok-make_room.ensures.same c.set.ensures other apart
    ∙ ap (λ line. station_told line (is_noted (note_of c.self.inside.seated other))) (c.in_ok-make_lines.ensures.same other))
