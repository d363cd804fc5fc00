use Rattle.std.proofs.Common.{ℕ, List, Option, subst, sym, ◌∙◌}
use Rattle.room_halls.specs.Stations.{OpensAt}
use Rattle.served_rooms.proofs.Seating.{ends_unserved, seated_as, seated_number, seats_quiet, unheard}
use Rattle.served_rooms.proofs.stations.seat_stations.Goals as goal

pub stand_all_up-requires-clause-numbers : goal.stand_all_up-requires-clause-numbers
stand_all_up-requires-clause-numbers g c κs within = seated_number _ c.args.passes.items c.seat_all.new.seated.items c.requires c.seat_all.ensures.seated

pub returns-in-Ok-seat_all-clause-seated : goal.returns-in-Ok-seat_all-clause-seated
returns-in-Ok-seat_all-clause-seated g c =
    let first = g.H.Hall.told c.args.hall.now in
    let opened = g.H.Hall.told c.open.new.self in
    record {
      seated = seated_as first opened c.args.passes.items c.seat_all.new.seated.items c.open.ensures.same c.seat_all.ensures.seated;
      count = c.in-Ok-seat_all.ensures.all;
      held = c.seat_all.ensures.held;
      free = λ k high. c.seat_all.ensures.free k high ∙ c.open.ensures.same k;
      quiet = seats_quiet c.seat_all.result c.in-Ok-seat_all.field-0 _ _ c.in-Ok-seat_all.is c.seat_all.ensures.counts ∙ c.in-Ok-open.ensures.quiet;
    }

pub returns-in-Ok-seat_all-clause-opened : goal.returns-in-Ok-seat_all-clause-opened
returns-in-Ok-seat_all-clause-opened g c =
    subst (λ (x : Option (List (List ℕ))). OpensAt (g.H.Hall.told c.args.hall.now).opened x c.args.address.now) (sym c.seat_all.ensures.opened) c.in-Ok-open.ensures.opened

pub returns-in-Err-seat_all-clause-unserved : goal.returns-in-Err-seat_all-clause-unserved
returns-in-Err-seat_all-clause-unserved g c =
    let first = g.H.Hall.told c.args.hall.now in
    let opened = g.H.Hall.told c.open.new.self in
    let between = g.H.Hall.told c.seat_all.new.hall in
    let last = g.H.Hall.told c.stand_all_up.new.hall in
    ends_unserved c.args.address.now first last c.seat_all.result c.in-Err-seat_all.fault c.unseated.result opened.faults between.faults
    c.in-Err-seat_all.is c.seat_all.ensures.counts c.in-Ok-open.ensures.quiet c.stand_all_up.ensures.quiet
    (subst (λ (x : Option (List (List ℕ))). OpensAt first.opened x c.args.address.now) (sym (c.stand_all_up.ensures.opened ∙ c.seat_all.ensures.opened)) c.in-Ok-open.ensures.opened)
    (unheard first opened between last c.args.passes.items c.seat_all.new.seated.items c.open.ensures.same c.seat_all.ensures.seated c.seat_all.ensures.free c.stand_all_up.ensures.lines c.stand_all_up.ensures.free)
    c.unseated.ensures
