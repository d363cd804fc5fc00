use Rattle.command_files.specs.Ports.{disk_told}
use Rattle.stored_rooms.proofs.Files.{unopened}
use Rattle.stored_rooms.proofs.opening.open_file.Goals as goal

pub returns-in-Err-open-clause-fault : goal.returns-in-Err-open-clause-fault
returns-in-Err-open-clause-fault g c =
    let D = g.D.Disk in
    unopened c.args.name.now (disk_told D.file D.course D.faults c.args.disk) (disk_told D.file D.course D.faults c.in-Err-open.disk)
    (D.course c.open.new.self) (D.faults c.open.new.self) c.in-Err-open.fault c.in-Ok.ensures.opens c.in-Ok.ensures.quiet
    c.in-Err-open.ensures.fault c.in-Err-open.ensures.harmless c.in-Err-open.ensures.cause
