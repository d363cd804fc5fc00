use Rattle.std.proofs.Common.{◌≤◌, ◌++◌, ◌∷◌, [], List, length, map, sym, ap, ◌∙◌, append_assoc, arith}
use Rattle.std.specs.Vec.Iter.{into_iter_items}
use Rattle.std.proofs.lemmas.List.{append-nil, length-map, nil_from_length}
use Rattle.station_sessions.specs.SessionInside.{TrackPass}
use Rattle.served_rooms.specs.Seated.{LeftState}
use Rattle.served_rooms.proofs.Seating.{is_within, map_more}
use Rattle.stored_rooms.proofs.ClosedRooms.{each_more}
use Rattle.stored_rooms.proofs.closing.settle_all.Goals as goal

pub push_reserved-requires : goal.push_reserved-requires
push_reserved-requires g c =
    let i = c.loop-station.invariant in
    let all = c.loop-station.yielded in
    let so_far = ap (λ ls. all ++ ls) (sym c.in-Some.ensures.steps.0) ∙ i.so_far in
    let low = is_within c.args.left.items all c.in-Some.station (into_iter_items c.next.new.self) so_far in
    let many = ap length i.taken ∙ length-map all (λ (x : LeftState). x.pass) in
    omega (arith, low, many, i.room, c.requires.room, c.loop-station.passes.ok)

pub loop-station-preserved : goal.loop-station-preserved
loop-station-preserved g c =
    let i = c.loop-station.invariant in
    let all = c.loop-station.yielded in
    let l = c.in-Some.station in
    let rest = into_iter_items c.next.new.self in
    let so_far = ap (λ ls. all ++ ls) (sym c.in-Some.ensures.steps.0) ∙ i.so_far in
    let of_pass = λ (x : LeftState). x.pass in
    let same = c.settle_one.ensures.same ∙ i.same in
    let count = ap (λ d. d.file.count) same in
    let failed = ap (λ d. d.counts.failed) same in
    record {
      so_far = append_assoc all (l ∷ []) rest ∙ so_far;
      room = c.push_reserved.ensures.capacity ∙ i.room;
      taken = c.push_reserved.ensures.items
          ∙ (ap (λ (ps : List TrackPass). ps ++ c.into_parts-pass.result.0 ∷ []) i.taken
          ∙ (ap (λ (p : TrackPass). map of_pass all ++ p ∷ []) c.into_parts-pass.ensures.pass ∙ sym (map_more of_pass all l)));
      same = same;
      held = each_more (λ (s : LeftState). length g.K.Filing.kept ≤ c.args.desk.now.file.count → s.holding.held ≤ c.args.desk.now.file.count) all l i.held
          (λ least. omega (arith, c.settle_one.ensures.held (omega (arith, least, count)), c.into_parts-pass.ensures.held, count));
      failed = each_more (λ (s : LeftState). s.holding.failures ≤ c.args.desk.now.counts.failed) all l i.failed
          (omega (arith, c.settle_one.ensures.failed, c.into_parts-pass.ensures.failures, failed));
    }

pub returns : goal.returns
returns g c =
    let all = c.loop-station.yielded in
    let i = c.loop-station.invariant in
    let none = nil_from_length (into_iter_items c.loop-station.station-iterator) (omega (arith, c.in-None.ensures.steps.0, c.loop-station.station-iterator.rest.ok)) in
    let whole = sym (append-nil all) ∙ (ap (λ ls. all ++ ls) (sym none) ∙ i.so_far) in
    record {
      passes = rw (← whole) i.taken;
      room = i.room;
      held = λ k l at least. rw i.same (i.held k l (rw whole at) (rw (← i.same) least));
      failed = λ k l at. rw i.same (i.failed k l (rw whole at));
      same = i.same;
    }
