use Rattle.command_files.proofs.Openings.{sound_opens}
use Rattle.stored_rooms.proofs.stored.store_file.Goals as goal

pub begin_room-requires-clause-opens : goal.begin_room-requires-clause-opens
begin_room-requires-clause-opens g c = sound_opens c.args.opening c.requires.sound c.requires.some

pub store_blank-requires-clause-begins : goal.store_blank-requires-clause-begins
store_blank-requires-clause-begins g c κs within = let room = c.in-Ok.ensures.room in (c.args.opening, room.0, room.1, rw c.in-Ok.ensures.stations room.2)

pub returns : goal.returns
returns g c = λ name before is.
    let room = c.in-Ok.ensures.room in c.store_blank.ensures c.args.opening room.0 name before room.1 (rw c.in-Ok.ensures.stations room.2) is
