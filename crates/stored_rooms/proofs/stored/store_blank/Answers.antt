use Rattle.std.proofs.Common.{ℕ, refl, subst, sym, ap}
use Rattle.edit_journal.specs.Turns.{AreFresh}
use Rattle.station_sessions.specs.Served.{IsRoomOf}
use Rattle.station_sessions.specs.SessionInside.{TrackRoom}
use Rattle.command_files.specs.Ports.{change, disk_told, output_told}
use Rattle.served_rooms.proofs.Closing.{one_room}
use Rattle.stored_rooms.proofs.Files.{no_memory, stays}
use Rattle.stored_rooms.proofs.stored.store_blank.Goals as goal

pub store_room-requires-clause-passes : goal.store_room-requires-clause-passes
store_room-requires-clause-passes g c κs within =
    subst (λ (n : ℕ). AreFresh g.J.Naming.opening n c.in-Ok.opened.1.items) (sym c.in-Ok.ensures.stations) c.in-Ok.ensures.passes

pub store_room-requires-clause-begins : goal.store_room-requires-clause-begins
store_room-requires-clause-begins g c κs within =
    let r = c.requires.begins in
    let same = one_room g.J.Naming.opening c.args.blank.journal.opening r.1 c.in-Ok.opened.0 c.args.blank.stations c.requires.opening r.2 c.in-Ok.ensures.room c.in-Ok.ensures.stations in
    (r.0, subst (λ (x : TrackRoom). IsRoomOf r.0 x c.args.setting.counting c.args.setting.start) same r.3)

pub returns : goal.returns
returns g c = λ o opening name before told is file.
    let same = one_room g.J.Naming.opening c.args.blank.journal.opening opening c.in-Ok.opened.0 c.args.blank.stations c.requires.opening told c.in-Ok.ensures.room c.in-Ok.ensures.stations in
    c.store_room.ensures o name before (subst (λ (r : TrackRoom). IsRoomOf o r c.args.setting.counting c.args.setting.start) same is) file

pub returns-in-Err : goal.returns-in-Err
returns-in-Err g c = λ o opening name before told of is.
    let D = g.D.Disk in
    let place = c.args.place.now in
    let output = change (output_told g.K.Sink.taken g.K.Sink.write_faults) c.args.output.now c.args.output.now in
    let hall = change g.H.Hall.told c.args.hall.now c.args.hall.now in
    let after = disk_told D.file D.course D.faults c.close.result in
    no_memory o place.stations place.address.now name output hall before after refl
    (stays o place.stations place.address.now name output hall before after refl D.course D.faults c.args.opened.file c.args.opened.records.items is (ap D.course (sym c.close.ensures))) refl
