use Rattle.std.proofs.Common.{◌≡◌, ◌≤◌, ℕ, List, None, Some, ap, length, map, slice_get, sym, subst, ◌∙◌, arith}
use Rattle.room_halls.specs.Stations.{HallTold, Station}
use Rattle.served_rooms.specs.Halls.{first_fault, line_at, line_of, status_of}
use Rattle.served_rooms.specs.Seated.{HasNumber, HasSeated, IsReady, SeatedState, left_of}
use Rattle.served_rooms.proofs.AllStations.{as_many, have_served, length_back, numbers_left, of_back, seats_served, to_back}
use Rattle.served_rooms.proofs.Seating.{seated_ready}
use Rattle.served_rooms.proofs.stations.serve_seated.Goals as goal

pub serve_all-requires-clause-ready : goal.serve_all-requires-clause-ready
serve_all-requires-clause-ready g c κs within =
    let r = c.requires.seated in
    let mid : HallTold = g.H.Hall.told c.args.hall.now in
    let has = subst (λ (l : List SeatedState). HasSeated r.0 mid r.1 l) (sym c.seats.view_is) r.2 in
    subst (λ (l : List SeatedState). (k : ℕ) (s : SeatedState) → slice_get l k ≡ Some s → IsReady c.args.room.now s.pass) (sym c.deref_mut.ensures.value)
    (seated_ready c.args.room.now r.0 r.1 c.seats.inside.seats.items r.3 has.seated)

pub stand_all_up-status-requires-clause-numbers : goal.stand_all_up-status-requires-clause-numbers
stand_all_up-status-requires-clause-numbers g c κs within =
    let r = c.requires.seated in
    let mid : HallTold = g.H.Hall.told c.args.hall.now in
    let has = subst (λ (l : List SeatedState). HasSeated r.0 mid r.1 l) (sym c.seats.view_is) r.2 in
    let same = c.deref_mut.ensures.value in
    let all = c.serve_all.ensures.all in
    let items = c.seats.inside.seats.items in
    let old = c.deref_mut.result.now in
    let new = c.serve_all.new.stations in
    let room = c.args.room.now in
    let counting = c.args.setting.counting in
    let start = c.args.setting.start in
    let holds = g.P.Keeping.upto None in
    let may_fail = g.P.Keeping.may_fail in
    let served = seats_served room counting start holds may_fail r.0 mid r.1 items old new same has r.3 all c.serve_all.ensures.served in
    to_back items old new c.seats.inside.seats.len same c.seats.inside.seats.ok.0 all (λ (l : List SeatedState). (k : ℕ) (t : SeatedState) → slice_get l k ≡ Some t → HasNumber k t.pass)
    (numbers_left room counting start holds may_fail r.0 r.1 old new served)

pub stand_all_up-status-requires-clause-held : goal.stand_all_up-status-requires-clause-held
stand_all_up-status-requires-clause-held g c κs within = λ k low.
    let r = c.requires.seated in
    let mid : HallTold = g.H.Hall.told c.args.hall.now in
    let has = subst (λ (l : List SeatedState). HasSeated r.0 mid r.1 l) (sym c.seats.view_is) r.2 in
    let back = length_back c.seats.inside.seats.items c.deref_mut.result.now c.serve_all.new.stations c.seats.inside.seats.len c.deref_mut.ensures.value c.seats.inside.seats.ok.0 c.serve_all.ensures.all in
    has.held k (omega (arith, low, back))

pub returns-clause-served : goal.returns-clause-served
returns-clause-served g c = λ before passes seated begin.
    let mid : HallTold = g.H.Hall.told c.args.hall.now in
    let after : HallTold = g.H.Hall.told c.stand_all_up-status.new.hall in
    let has = subst (λ (l : List SeatedState). HasSeated before mid passes l) (sym c.seats.view_is) seated in
    let room = c.args.room.now in
    let counting = c.args.setting.counting in
    let start = c.args.setting.start in
    let holds = g.P.Keeping.upto None in
    let may_fail = g.P.Keeping.may_fail in
    let same = c.deref_mut.ensures.value in
    let all = c.serve_all.ensures.all in
    let fits = c.seats.inside.seats.ok.0 in
    let n = c.seats.inside.seats.len in
    let items = c.seats.inside.seats.items in
    let old = c.deref_mut.result.now in
    let new = c.serve_all.new.stations in
    let left = c.stand_all_up-status.new.left.items in
    let stood = c.stand_all_up-status.ensures in
    let served = seats_served room counting start holds may_fail before mid passes items old new same has begin all c.serve_all.ensures.served in
    let lines = of_back items old new n same fits all (λ (l : List SeatedState). (k : ℕ) (t : SeatedState) → slice_get l k ≡ Some t → line_at after k ≡ t.line) stood.lines in
    let kept = of_back items old new n same fits all (λ (l : List SeatedState). map Some left ≡ map left_of l) stood.left in
    let fault = of_back items old new n same fits all (λ (l : List SeatedState). c.stand_all_up-status.result ≡ first_fault (map status_of (map (λ (t : SeatedState). t.end) l))) stood.fault in
    let back = length_back items old new n same fits all in
    let apart : (s : ℕ) → length passes ≤ s → line_at after s ≡ line_at before s = λ s high.
    ap (λ (x : Station). line_of x.line) (stood.free s (omega (arith, back, has.count, high)) ∙ has.free s (omega (arith, has.count, high))) in
    have_served room counting start holds may_fail before passes old new served after left lines kept c.stand_all_up-status.result apart fault (stood.quiet ∙ has.quiet)

pub returns-clause-many : goal.returns-clause-many
returns-clause-many g c =
    let back = length_back c.seats.inside.seats.items c.deref_mut.result.now c.serve_all.new.stations c.seats.inside.seats.len c.deref_mut.ensures.value c.seats.inside.seats.ok.0 c.serve_all.ensures.all in
    as_many c.stand_all_up-status.new.left.items _ c.stand_all_up-status.ensures.left ∙ (back ∙ ap length c.seats.view_is)
