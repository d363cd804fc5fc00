use Rattle.std.proofs.Common.{ℕ, Option, List, subst, sym, ◌∙◌, arith}
use Rattle.room_disks.specs.Crashes.{Course}
use Rattle.room_halls.specs.Stations.{HallTold, OpensAt}
use Rattle.stored_rooms.specs.Inside.{ClosesKept}
use Rattle.stored_rooms.proofs.Ends.{served_ends}
use Rattle.stored_rooms.proofs.serving.serve_desk.Goals as goal

pub seat_stations-requires-after_bounds : goal.seat_stations-requires-after_bounds
seat_stations-requires-after_bounds g c κs within = λ k p at. (c.requires.passes k p at).0

pub close_room-requires-clause-stations : goal.close_room-requires-clause-stations
close_room-requires-clause-stations g c κs within =
    let served = c.serve_kept-status.ensures.served (g.H.Hall.told c.args.hall.now) c.args.passes.items c.in-Ok-seat_stations.ensures.seated c.requires.passes in
    omega (arith, served.count, c.requires.stations)

pub close_room-requires-clause-numbers : goal.close_room-requires-clause-numbers
close_room-requires-clause-numbers g c κs within =
    (c.serve_kept-status.ensures.served (g.H.Hall.told c.args.hall.now) c.args.passes.items c.in-Ok-seat_stations.ensures.seated c.requires.passes).numbers

pub close_room-requires-clause-reader : goal.close_room-requires-clause-reader
close_room-requires-clause-reader g c κs within =
    c.requires.reader ∙ sym (c.serve_kept-status.ensures.served (g.H.Hall.told c.args.hall.now) c.args.passes.items c.in-Ok-seat_stations.ensures.seated c.requires.passes).count

pub close_room-requires-clause-space : goal.close_room-requires-clause-space
close_room-requires-clause-space g c κs within =
    let served = c.serve_kept-status.ensures.served (g.H.Hall.told c.args.hall.now) c.args.passes.items c.in-Ok-seat_stations.ensures.seated c.requires.passes in
    omega (arith, served.count, c.in-Ok.ensures.capacity, c.len.ensures, c.args.passes.ok.0)

pub returns : goal.returns
returns g c = λ o name before records of origins is.
    let D = g.D.Disk in
    let old : HallTold = g.H.Hall.told c.args.hall.now in
    let new : HallTold = g.H.Hall.told c.serve_kept-status.new.hall in
    let served = c.serve_kept-status.ensures.served old c.args.passes.items c.in-Ok-seat_stations.ensures.seated c.requires.passes in
    let closed = c.close_room.ensures in
    let left = c.serve_kept-status.result.1.items in
    let begun : ClosesKept D.course D.faults g.K.Filing.kept (D.course c.args.desk.file.disk) (D.faults c.args.desk.file.disk) c.args.room left c.close_room.result closed.0 closed.1 =
    subst (λ (x : Option Course × ℕ). ClosesKept D.course D.faults g.K.Filing.kept x.0 x.1 c.args.room left c.close_room.result closed.0 closed.1)
    (λ i. (c.requires.begun i, c.requires.faults i)) closed.2 in
    served_ends D.file D.course D.faults o g.K.Filing.kept name c.args.address.now before c.args.desk.file records is old new c.args.room c.args.setting.counting c.args.setting.start of c.args.passes.items origins
    left c.serve_kept-status.result.0 served c.close_room.result closed.0 closed.1 begun
    (subst (λ (x : Option (List (List ℕ))). OpensAt old.opened x c.args.address.now) (sym c.serve_kept-status.ensures.opened) c.in-Ok-seat_stations.ensures.opened) c.requires.few
