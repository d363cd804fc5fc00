use Rattle.std.proofs.Common.{ℕ, [], subst}
use Rattle.command_files.specs.Unopened.{AreQuiet}
use Rattle.served_rooms.specs.Halls.{FileEnds, HallEnds, NeverFails}
use Rattle.command_files.proofs.Openings.{sound_opens}
use Rattle.served_rooms.proofs.stations.serve_opened.Goals as goal

pub begin_room-requires-clause-opens : goal.begin_room-requires-clause-opens
begin_room-requires-clause-opens g c = sound_opens c.args.opening c.requires.sound c.requires.some

pub serve_blank-requires-clause-opened : goal.serve_blank-requires-clause-opened
serve_blank-requires-clause-opened g c κs within = let room = c.in-Ok.ensures.room in (c.args.opening, room.0, room.1, rw c.in-Ok.ensures.stations room.2)

pub returns : goal.returns
returns g c =
    let was = g.F.Files.told c.args.files.now in
    let now = g.F.Files.told c.serve_blank.new.files in
    let before = g.H.Hall.told c.args.hall.now in
    let after = g.H.Hall.told c.serve_blank.new.hall in
    let room = c.in-Ok.ensures.room in
    subst (λ (n : ℕ). HallEnds c.args.opening [] n c.args.place.now.address.now NeverFails (λ h held status. FileEnds c.args.place.now.journal.now was now h status) (AreQuiet was now) before after c.serve_blank.result) c.in-Ok.ensures.stations
    (c.serve_blank.ensures c.args.opening room.0 room.1 (rw c.in-Ok.ensures.stations room.2))
