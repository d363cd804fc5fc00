use Rattle.std.proofs.Common.{ℕ, [], subst, sym}
use Rattle.edit_journal.specs.Turns.{AreFresh}
use Rattle.station_sessions.specs.Served.{IsRoomOf}
use Rattle.station_sessions.specs.SessionInside.{TrackRoom}
use Rattle.command_files.specs.Unopened.{AreQuiet}
use Rattle.served_rooms.specs.Halls.{FileEnds, HallEnds, NeverFails}
use Rattle.served_rooms.proofs.Closing.{one_room}
use Rattle.served_rooms.proofs.stations.serve_blank.Goals as goal

pub serve_room-requires-clause-passes : goal.serve_room-requires-clause-passes
serve_room-requires-clause-passes g c κs within =
    subst (λ (n : ℕ). AreFresh g.J.Naming.opening n c.in-Ok.opened.1.items) (sym c.in-Ok.ensures.stations) c.in-Ok.ensures.passes

pub serve_room-requires-clause-opened : goal.serve_room-requires-clause-opened
serve_room-requires-clause-opened g c κs within =
    let r = c.requires.opened in
    let same = one_room g.J.Naming.opening c.args.blank.journal.opening r.1 c.in-Ok.opened.0 c.args.blank.stations c.requires.opening r.2 c.in-Ok.ensures.room c.in-Ok.ensures.stations in
    (r.0, subst (λ (x : TrackRoom). IsRoomOf r.0 x c.args.setting.counting c.args.setting.start) same r.3)

pub returns : goal.returns
returns g c = λ o opening told is.
    let was = g.F.Files.told c.args.files.now in
    let now = g.F.Files.told c.serve_room.new.files in
    let before = g.H.Hall.told c.args.hall.now in
    let after = g.H.Hall.told c.serve_room.new.hall in
    let same = one_room g.J.Naming.opening c.args.blank.journal.opening opening c.in-Ok.opened.0 c.args.blank.stations c.requires.opening told c.in-Ok.ensures.room c.in-Ok.ensures.stations in
    subst (λ (n : ℕ). HallEnds o [] n c.args.place.now.address.now NeverFails (λ h held status. FileEnds c.args.place.now.journal.now was now h status) (AreQuiet was now) before after c.serve_room.result) c.in-Ok.ensures.stations
    (c.serve_room.ensures o (subst (λ (r : TrackRoom). IsRoomOf o r c.args.setting.counting c.args.setting.start) same is))
