use Rattle.std.proofs.Common.{refl}
use Rattle.command_files.specs.Ports.{change, disk_told, output_told}
use Rattle.stored_rooms.proofs.Files.{unopened_ends}
use Rattle.stored_rooms.proofs.stored.store_opened.Goals as goal

pub returns-in-Err : goal.returns-in-Err
returns-in-Err g c =
    let D = g.D.Disk in
    let place = c.args.place.now in
    unopened_ends c.args.opening place.stations place.address.now place.journal.now (change (output_told g.K.Sink.taken g.K.Sink.write_faults) c.args.output.now c.end_unopened.new.output)
    (change g.H.Hall.told c.args.hall.now c.args.hall.now) (disk_told D.file D.course D.faults c.args.disk) (disk_told D.file D.course D.faults c.in-Err.disk) refl
    c.in-Err.fault c.end_unopened.result c.in-Err.ensures.fault c.end_unopened.ensures
