use Rattle.command_files.proofs.Openings.{sound_opens}
use Rattle.cut_server.proofs.main_call.run_opened.Goals as goal

pub begin_room-requires-clause-opens : goal.begin_room-requires-clause-opens
begin_room-requires-clause-opens g c = sound_opens c.args.opening c.requires.sound c.requires.some

pub run_blank-requires-clause-opened : goal.run_blank-requires-clause-opened
run_blank-requires-clause-opened g c = let room = c.in-Ok.ensures.room in (c.args.opening, room.0, room.1, rw c.in-Ok.ensures.stations room.2)

pub returns : goal.returns
returns g c = let room = c.in-Ok.ensures.room in c.run_blank.ensures c.args.opening room.0 room.1 (rw c.in-Ok.ensures.stations room.2)
