use Rattle.std.proofs.Common.{◌≡◌, ℕ, ◌+◌, ◌++◌, ◌∷◌, [], Some, length, slice_get, sym, ap, ◌∙◌, append_assoc, arith, subst}
use Rattle.std.specs.Vec.Iter.{into_iter_items}
use Rattle.std.proofs.lemmas.List.{length-append, append-nil, nil_from_length}
use Rattle.room_halls.specs.Stations.{Station}
use Rattle.served_rooms.specs.Halls.{line_of}
use Rattle.served_rooms.proofs.Seating.{behind_at, free_more, held_more, is_within, not_seated, seated_more, told_line}
use Rattle.served_rooms.proofs.stations.seat_all.Goals as goal

pub push_reserved-requires : goal.push_reserved-requires
push_reserved-requires g c =
    let i = c.loop-pass.invariant in
    let so_far = ap (λ ps. c.loop-pass.yielded ++ ps) (sym c.in-Some.ensures.steps.0) ∙ i.so_far in
    let low = is_within c.args.passes.items c.loop-pass.yielded c.in-Some.pass (into_iter_items c.next.new.self) so_far in
    omega (arith, low, i.count, i.room, c.requires.room, c.loop-pass.seated.ok)

pub loop-pass-preserved : goal.loop-pass-preserved
loop-pass-preserved g c =
    let all = c.loop-pass.yielded in
    let i = c.loop-pass.invariant in
    let p = c.in-Some.pass in
    let rest = into_iter_items c.next.new.self in
    let so_far = ap (λ ps. all ++ ps) (sym c.in-Some.ensures.steps.0) ∙ i.so_far in
    let there = behind_at c.args.passes.items all p rest so_far in
    let number = c.station-station.ensures.number ∙ (c.requires.passes (length all) p there ∙ sym i.count) in
    let items = c.push_reserved.ensures.items in
    record {
      so_far = append_assoc all (p ∷ []) rest ∙ so_far;
      count = ap length items ∙ (length-append c.loop-pass.seated.items _ ∙ (ap (λ n. n + 1) i.count ∙ sym (length-append all (p ∷ []))));
      room = c.push_reserved.ensures.capacity ∙ i.room;
      seated = rw items (seated_more _ c.args.passes.items c.loop-pass.seated.items _ i.seated (record {
        pass = p;
        pass_is = c.new.ensures.pass;
        at_place = subst (λ (n : ℕ). slice_get c.args.passes.items n ≡ Some p) (sym i.count) there;
        line = c.new.ensures.line ∙ (told_line _ _ _ _ _ c.in-Ok.ensures.line ∙ ap (λ (s : Station). line_of s.line) (ap (λ (m : ℕ). (g.H.Hall.told c.loop-pass.hall).station m) number ∙ i.free (length c.loop-pass.seated.items) (omega arith)));
      }));
      held = rw (items, length-append) (held_more _ _ _ i.held (rw number at c.in-Ok.ensures.seated) (rw number at c.in-Ok.ensures.others));
      free = rw (items, length-append) (free_more _ _ _ _ i.free (rw number at c.in-Ok.ensures.others));
      quiet = c.in-Ok.ensures.counts ∙ i.quiet;
      opened = c.seat_station.ensures.opened ∙ i.opened;
    }

pub returns-in-Err-clause-free : goal.returns-in-Err-clause-free
returns-in-Err-clause-free g c = λ k ge. c.in-Err.ensures.stays k ∙ c.loop-pass.invariant.free k ge

pub returns-in-Err-clause-held : goal.returns-in-Err-clause-held
returns-in-Err-clause-held g c = λ k low. ap (λ (s : Station). s.seated) (c.in-Err.ensures.stays k) ∙ c.loop-pass.invariant.held k low

pub returns-in-Err-clause-counts : goal.returns-in-Err-clause-counts
returns-in-Err-clause-counts g c = not_seated c.seat_station.result c.in-Err.fault _ _ _ c.in-Err.is c.loop-pass.invariant.quiet c.seat_station.ensures.counts

pub returns-clause-all : goal.returns-clause-all
returns-clause-all g c =
    let all = c.loop-pass.yielded in
    let none = nil_from_length (into_iter_items c.loop-pass.pass-iterator) (omega (arith, c.in-None.ensures.steps.0, c.loop-pass.pass-iterator.rest.ok)) in
    let whole = sym (append-nil all) ∙ (ap (λ ps. all ++ ps) (sym none) ∙ c.loop-pass.invariant.so_far) in
    c.loop-pass.invariant.count ∙ ap length whole
