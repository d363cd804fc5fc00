use Rattle.std.proofs.Common.{sym, ◌∙◌, arith}
use Rattle.room_halls.specs.Stations.{HallTold}
use Rattle.served_rooms.specs.Seated.{HasSeated}
use Rattle.served_rooms.proofs.Ending.{all_in}
use Rattle.served_rooms.proofs.Seating.{fresh_begin, fresh_count, fresh_numbered, seats_quiet}
use Rattle.served_rooms.proofs.made.serve_lines.Goals as goal

pub seat_all-requires-clause-passes : goal.seat_all-requires-clause-passes
seat_all-requires-clause-passes g c κs within = fresh_numbered c.args.room.stations c.args.passes.items c.requires.passes.0

pub serve_seated-left-requires-clause-seated : goal.serve_seated-left-requires-clause-seated
serve_seated-left-requires-clause-seated g c κs within = (
  g.H.Hall.told c.args.hall.now,
  c.args.passes.items,
  record {
    seated = c.seat_all.ensures.seated;
    count = c.in-Ok-seat_all.ensures.all;
    held = c.seat_all.ensures.held;
    free = c.seat_all.ensures.free;
    quiet = seats_quiet c.seat_all.result c.in-Ok-seat_all.field-0 _ _ c.in-Ok-seat_all.is c.seat_all.ensures.counts;
  },
  fresh_begin g.J.Naming.opening c.args.room c.args.room.stations c.args.passes.items c.requires.passes,
)

pub take_passes-requires-clause-room : goal.take_passes-requires-clause-room
take_passes-requires-clause-room g c κs within = omega (arith, c.serve_seated-left.ensures.many, c.in-Ok-seat_all.ensures.all, c.in-Ok.ensures.capacity, c.len.ensures, c.args.passes.ok.0)

pub close-requires : goal.close-requires
close-requires g c =
    let passes = c.args.passes.items in
    let first : HallTold = g.H.Hall.told c.args.hall.now in
    let has : HasSeated first (g.H.Hall.told c.seat_all.new.hall) passes c.seat_all.new.seated.items = record {
      seated = c.seat_all.ensures.seated;
      count = c.in-Ok-seat_all.ensures.all;
      held = c.seat_all.ensures.held;
      free = c.seat_all.ensures.free;
      quiet = seats_quiet c.seat_all.result c.in-Ok-seat_all.field-0 _ _ c.in-Ok-seat_all.is c.seat_all.ensures.counts;
    } in
    let served = c.serve_seated-left.ensures.served first passes has (fresh_begin g.J.Naming.opening c.args.room c.args.room.stations passes c.requires.passes) in
    let count = fresh_count passes 0 c.args.room.stations c.requires.passes.0 ∙ sym served.count in
    record { all = λ s low. all_in c.args.room.stations s c.serve_seated-left.result.1.items c.take_passes.new.passes.items c.take_passes.ensures served.numbers count low }
