use Rattle.std.proofs.Common.{subst}
use Rattle.station_sessions.specs.Served.{IsRoomOf}
use Rattle.station_sessions.specs.SessionInside.{TrackRoom}
use Rattle.served_rooms.proofs.Closing.{one_room}
use Rattle.cut_server.proofs.Telling.{run_begun}
use Rattle.cut_server.proofs.main_call.run_blank.Goals as goal

pub run_over-requires-clause-opened : goal.run_over-requires-clause-opened
run_over-requires-clause-opened g c =
    let r = c.requires.opened in
    let same = one_room g.J.Naming.opening c.args.blank.journal.opening r.1 c.in-Ok.opened.0 c.args.blank.stations c.requires.opening r.2 c.in-Ok.ensures.room c.in-Ok.ensures.stations in
    (r.0, subst (λ (x : TrackRoom). IsRoomOf r.0 x c.args.setting.counting c.args.setting.start) same r.3)

pub returns : goal.returns
returns g c = λ o opening told is.
    let same = one_room g.J.Naming.opening c.args.blank.journal.opening opening c.in-Ok.opened.0 c.args.blank.stations c.requires.opening told c.in-Ok.ensures.room c.in-Ok.ensures.stations in
    run_begun o _ _ c.run_over.result (c.run_over.ensures o (subst (λ (r : TrackRoom). IsRoomOf o r c.args.setting.counting c.args.setting.start) same is))
