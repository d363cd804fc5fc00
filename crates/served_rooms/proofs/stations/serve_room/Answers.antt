use Rattle.std.proofs.Common.{◌≡◌, ℕ, List, [], Option, length, refl, subst, sym, ◌∙◌, arith, inl}
use Rattle.room_halls.specs.Stations.{HallTold, OpensAt}
use Rattle.room_files.specs.Files.{FilesTold}
use Rattle.served_rooms.specs.Halls.{FileEnds, NeverFails}
use Rattle.station_sessions.specs.Rooms.{History}
use Rattle.served_rooms.proofs.Ending.{all_in, closed_alone, ended_text, most_held, sessions_end}
use Rattle.served_rooms.proofs.Seating.{fresh_begin, fresh_count, fresh_numbered, fresh_origins}
use Rattle.served_rooms.proofs.stations.serve_room.Goals as goal

pub seat_stations-requires-after_bounds : goal.seat_stations-requires-after_bounds
seat_stations-requires-after_bounds g c κs within = fresh_numbered c.args.room.stations c.args.passes.items c.requires.passes.0

pub serve_seated-status-requires-clause-seated : goal.serve_seated-status-requires-clause-seated
serve_seated-status-requires-clause-seated g c κs within = (
  g.H.Hall.told c.args.hall.now,
  c.args.passes.items,
  c.in-Ok-seat_stations.ensures.seated,
  fresh_begin g.J.Naming.opening c.args.room c.args.room.stations c.args.passes.items c.requires.passes,
)

pub take_passes-requires-clause-room : goal.take_passes-requires-clause-room
take_passes-requires-clause-room g c κs within = omega (arith, c.serve_seated-status.ensures.many, c.in-Ok-seat_stations.ensures.seated.count, c.in-Ok.ensures.capacity, c.len.ensures, c.args.passes.ok.0)

pub close-entries-requires : goal.close-entries-requires
close-entries-requires g c =
    let first : HallTold = g.H.Hall.told c.args.hall.now in
    let passes = c.args.passes.items in
    let begin = fresh_begin g.J.Naming.opening c.args.room c.args.room.stations passes c.requires.passes in
    let served = c.serve_seated-status.ensures.served first passes c.in-Ok-seat_stations.ensures.seated begin in
    let count = fresh_count passes 0 c.args.room.stations c.requires.passes.0 ∙ sym served.count in
    record { all = λ s low. all_in c.args.room.stations s c.serve_seated-status.result.1.items c.take_passes.new.passes.items c.take_passes.ensures served.numbers count low }

pub keep_journal-requires-clause-text : goal.keep_journal-requires-clause-text
keep_journal-requires-clause-text g c =
    let first : HallTold = g.H.Hall.told c.args.hall.now in
    let passes = c.args.passes.items in
    let left = c.serve_seated-status.result.1.items in
    let h = c.close-entries.result.items in
    let room = c.args.room in
    let begin = fresh_begin g.J.Naming.opening room room.stations passes c.requires.passes in
    let served = c.serve_seated-status.ensures.served first passes c.in-Ok-seat_stations.ensures.seated begin in
    let closed = closed_alone room left c.take_passes.new.passes.items h c.take_passes.ensures served.numbers c.close-entries.ensures.legal c.close-entries.ensures.passes c.close-entries.ensures.stations in
    let count = fresh_count passes 0 room.stations c.requires.passes.0 in
    rw c.deref.ensures.value (ended_text c.requires.opened.0 [] room _ _ _ _ passes left first _ _ served c.requires.opened.1
    (fresh_origins g.J.Naming.opening room.stations passes c.requires.passes) (omega arith) h closed (omega (arith, count, c.requires.few)))

pub returns : goal.returns
returns g c = λ o is.
    let first : HallTold = g.H.Hall.told c.args.hall.now in
    let last : HallTold = g.H.Hall.told c.serve_seated-status.new.hall in
    let was : FilesTold = g.F.Files.told c.args.files.now in
    let now : FilesTold = g.F.Files.told c.keep_journal.new.files in
    let passes = c.args.passes.items in
    let left = c.serve_seated-status.result.1.items in
    let h = c.close-entries.result.items in
    let room = c.args.room in
    let stations = c.args.room.stations in
    let begin = fresh_begin g.J.Naming.opening room stations passes c.requires.passes in
    let served = c.serve_seated-status.ensures.served first passes c.in-Ok-seat_stations.ensures.seated begin in
    let closed = closed_alone room left c.take_passes.new.passes.items h c.take_passes.ensures served.numbers c.close-entries.ensures.legal c.close-entries.ensures.passes c.close-entries.ensures.stations in
    let count : length passes ≡ stations = sym (fresh_count passes 0 stations c.requires.passes.0) in
    let most = most_held left in
    inl (record {
      journal = h;
      held = most.0;
      of_sessions = c.serve_seated-status.result.0;
      of_keeping = c.keep_journal.result;
      opened = subst (λ (x : Option (List (List ℕ))). OpensAt first.opened x c.args.place.now.address.now) (sym c.serve_seated-status.ensures.opened) c.in-Ok-seat_stations.ensures.opened;
      sessions = sessions_end o [] room _ _ _ _ passes left first last _ served is (fresh_origins g.J.Naming.opening stations passes c.requires.passes) (omega arith) h closed stations most.0 NeverFails
          count c.requires.few (h, refl) most.1 (λ k l fault at fails counted. fails);
      keeps = subst (λ (l : History). FileEnds c.args.place.now.journal.now was now l c.keep_journal.result) c.deref.ensures.value c.keep_journal.ensures;
      status_is = c.or_next.ensures;
    })
