use Rattle.std.proofs.Common.{◌++◌, ◌∷◌, [], length, map, sym, ap, ◌∙◌, append_assoc, arith}
use Rattle.std.specs.Vec.Iter.{into_iter_items}
use Rattle.std.proofs.lemmas.List.{length-append, append-nil, nil_from_length}
use Rattle.served_rooms.specs.Halls.{first_fault, or_next, status_of}
use Rattle.served_rooms.specs.Seated.{SeatedState}
use Rattle.command_files.specs.declared.status.Status.{Status}
use Rattle.served_rooms.proofs.AllStations.{as_many, ends_more, has_pass, number_is}
use Rattle.served_rooms.proofs.Seating.{behind_at, fault_more, free_more, held_on, is_within, left_more, line_more, told_line}
use Rattle.served_rooms.proofs.stations.stand_all_up.Goals as goal

pub into_parts-line-requires-clause-pass : goal.into_parts-line-requires-clause-pass
into_parts-line-requires-clause-pass g c κs within =
    let i = c.loop-seat.invariant in
    let so_far = ap (λ ss. c.loop-seat.yielded ++ ss) (sym c.in-Some.ensures.steps.0) ∙ i.so_far in
    has_pass _ _ (c.requires.numbers (length c.loop-seat.yielded) c.in-Some.seat (behind_at c.args.seated.items c.loop-seat.yielded c.in-Some.seat (into_iter_items c.next.new.self) so_far))

pub stand_up-requires : goal.stand_up-requires
stand_up-requires g c =
    let i = c.loop-seat.invariant in
    let all = c.loop-seat.yielded in
    let rest = into_iter_items c.next.new.self in
    let so_far = ap (λ ss. all ++ ss) (sym c.in-Some.ensures.steps.0) ∙ i.so_far in
    let has = c.requires.numbers (length all) c.in-Some.seat (behind_at c.args.seated.items all c.in-Some.seat rest so_far) in
    let number = c.station.ensures ∙ number_is c.in-Some.seat.pass c.into_parts-line.result.1.pass (length all) c.into_parts-line.ensures.pass has in
    rw number (i.held (length all) (is_within c.args.seated.items all c.in-Some.seat rest so_far))

pub push_reserved-requires : goal.push_reserved-requires
push_reserved-requires g c =
    let i = c.loop-seat.invariant in
    let all = c.loop-seat.yielded in
    let so_far = ap (λ ss. all ++ ss) (sym c.in-Some.ensures.steps.0) ∙ i.so_far in
    let low = is_within c.args.seated.items all c.in-Some.seat (into_iter_items c.next.new.self) so_far in
    let many = as_many c.loop-seat.left.items all i.kept in
    omega (arith, low, many, i.room, c.requires.room, c.loop-seat.left.ok)

pub loop-seat-preserved : goal.loop-seat-preserved
loop-seat-preserved g c =
    let i = c.loop-seat.invariant in
    let all = c.loop-seat.yielded in
    let s = c.in-Some.seat in
    let l = c.into_parts-line.result.1 in
    let rest = into_iter_items c.next.new.self in
    let so_far = ap (λ ss. all ++ ss) (sym c.in-Some.ensures.steps.0) ∙ i.so_far in
    let has = c.requires.numbers (length all) s (behind_at c.args.seated.items all s rest so_far) in
    let number = c.station.ensures ∙ number_is s.pass l.pass (length all) c.into_parts-line.ensures.pass has in
    let others = rw number at c.stand_up.ensures.others in
    let seated = rw number at c.stand_up.ensures.seated in
    let here = sym (told_line _ _ _ _ _ (rw number at c.stand_up.ensures.line)) ∙ sym c.into_parts-line.ensures.line in
    let end = c.status_of.ensures ∙ ap status_of (c.end.ensures ∙ c.into_parts-line.ensures.end) in
    record {
      so_far = append_assoc all (s ∷ []) rest ∙ so_far;
      room = c.push_reserved.ensures.capacity ∙ i.room;
      held = held_on _ _ (length all) _ i.held seated others;
      lines = line_more (g.H.Hall.told c.loop-seat.hall).station (g.H.Hall.told c.stand_up.new.self).station all s i.lines here others;
      free = rw length-append (free_more _ _ _ (length all) i.free others);
      kept = rw c.push_reserved.ensures.items (left_more c.loop-seat.left.items all l s i.kept c.into_parts-line.ensures.pass c.into_parts-line.ensures.end c.into_parts-line.ensures.holding);
      fault = c.or_next-fault.ensures
          ∙ (ap (λ (x : Status). or_next c.loop-seat.fault x) end
          ∙ (ap (λ (x : Status). or_next x (status_of s.end)) i.fault
          ∙ (fault_more (map status_of (map (λ (t : SeatedState). t.end) all)) (status_of s.end)
          ∙ ap first_fault (sym (ends_more all s)))));
      quiet = c.stand_up.ensures.quiet ∙ i.quiet;
      opened = c.stand_up.ensures.opened ∙ i.opened;
    }

pub returns : goal.returns
returns g c =
    let all = c.loop-seat.yielded in
    let i = c.loop-seat.invariant in
    let none = nil_from_length (into_iter_items c.loop-seat.seat-iterator) (omega (arith, c.in-None.ensures.steps.0, c.loop-seat.seat-iterator.rest.ok)) in
    let whole = sym (append-nil all) ∙ (ap (λ ss. all ++ ss) (sym none) ∙ i.so_far) in
    record {
      lines = rw (← whole) i.lines;
      free = rw (← whole) i.free;
      left = rw (← whole) i.kept;
      fault = rw (← whole) i.fault;
      quiet = i.quiet;
      opened = i.opened;
    }
