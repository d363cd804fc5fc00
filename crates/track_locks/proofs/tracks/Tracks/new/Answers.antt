use Rattle.std.proofs.Common.{◌≡◌, ◌+◌, ◌++◌, [], ◌∷◌, suc, length, drop, vec_len, sym, ap, ◌∙◌, arith, append_assoc, slice_get}
use Rattle.std.proofs.lemmas.List.{append-nil, nil_from_length, length-append}
use Rattle.std.specs.Vec.Iter.{into_iter_items}
use Rattle.room_core.specs.Parts.{numbers}
use Rattle.edit_journal.proofs.Fresh.{numbers-snoc}
use Rattle.track_locks.proofs.Goods.{first_good}
use Rattle.track_locks.proofs.Begin.{at_drop, after_drop, none_after, good_length, fresh_length, fresh_at, first_home}
use Rattle.track_locks.proofs.tracks.Tracks.new.Goals as goal

pub invariant_of-home : goal.invariant_of-home
invariant_of-home g c =
    let i = c.loop-seat.invariant in
    let seat = c.in-Some.seat in
    let is = ap (λ ps. c.loop-seat.yielded ++ ps) (sym c.in-Some.ensures.steps.0) ∙ i.so_far in
    let f = fresh_at g.J.Naming.opening (length c.args.parts.items) c.args.seats.items c.loop-seat.yielded seat (into_iter_items c.next.new.self) c.requires.seats is in
    let at = at_drop c.args.parts.items (vec_len c.loop-seat.places) c.in-Some-next.part (into_iter_items c.next-in-loop-seat.new.self) (sym i.left ∙ c.in-Some-next.ensures.items) in
    let here = ap (λ k. slice_get c.args.parts.items k) (f.0 ∙ i.given) ∙ at in
    let law = g.met.O.PartObject.opening c.args.object.now c.args.parts.items c.requires.opens in (
      f.1,
      first_home g.O.PartObject.meaning g.O.PartObject.opens (c.args.object.now, c.args.parts.items) g.J.Naming.opening seat.number c.in-Some-next.part seat.entries c.requires.opening c.requires.opens f.2 here,
      first_good g.O.PartObject.good (g.O.PartObject.count c.args.object.now) (c.args.object.now, c.args.parts.items) g.J.Naming.opening seat.number c.in-Some-next.part c.requires.opening law.2 here,
    )

pub loop-seat-preserved-in-Continue-1 : goal.loop-seat-preserved-in-Continue-1
loop-seat-preserved-in-Continue-1 g c =
    let i = c.loop-seat.invariant in
    let seat = c.in-Some.seat in
    let all = c.loop-seat.yielded in
    let e : suc (vec_len c.loop-seat.places) ≡ vec_len c.push.new.self = omega (arith, c.in_ok-push-in-Some-next.ensures.len) in
    let more : vec_len c.loop-seat.places + 1 ≡ vec_len c.push.new.self = omega (arith, e) in
    record {
      left = after_drop c.args.parts.items (vec_len c.loop-seat.places) c.in-Some-next.part (into_iter_items c.next-in-loop-seat.new.self) (sym i.left ∙ c.in-Some-next.ensures.items) ∙ ap (λ k. drop k c.args.parts.items) e;
      numbered =
          let f = fresh_at g.J.Naming.opening (length c.args.parts.items) c.args.seats.items all seat (into_iter_items c.next.new.self) c.requires.seats
          (ap (λ ps. all ++ ps) (sym c.in-Some.ensures.steps.0) ∙ i.so_far) in
          let place : seat.number ≡ 0 + vec_len c.loop-seat.places = omega (arith, f.0, i.given) in
          c.in_ok-push-in-Some-next.ensures.items
          ∙ (ap (λ ns. ns ++ c.new.result ∷ []) i.numbered ∙ (ap (λ k. numbers 0 (vec_len c.loop-seat.places) ++ k ∷ []) (c.new.ensures ∙ place)
          ∙ (numbers-snoc 0 (vec_len c.loop-seat.places) ∙ ap (numbers 0) more)));
      given = omega (arith, length-append all (seat ∷ []), i.given, e);
      so_far = append_assoc all (seat ∷ []) (into_iter_items c.next.new.self) ∙ (ap (λ ps. all ++ ps) (sym c.in-Some.ensures.steps.0) ∙ i.so_far);
    }

pub loop-seat-preserved : goal.loop-seat-preserved
loop-seat-preserved g c =
    let i = c.loop-seat.invariant in
    let is = ap (λ ps. c.loop-seat.yielded ++ ps) (sym c.in-Some.ensures.steps.0) ∙ i.so_far in
    let f = fresh_at g.J.Naming.opening (length c.args.parts.items) c.args.seats.items c.loop-seat.yielded c.in-Some.seat (into_iter_items c.next.new.self) c.requires.seats is in
    let none = nil_from_length (into_iter_items c.loop-seat.left) (omega (arith, c.in-None-next.ensures.cases.0, c.loop-seat.left.rest.ok)) in
    let past = none_after c.args.parts.items (vec_len c.loop-seat.places) (sym i.left ∙ none) in
    absurd (omega (arith, past, f.3, i.given))

pub invariant_of-result : goal.invariant_of-result
invariant_of-result g c =
    let i = c.loop-seat.invariant in
    let none = nil_from_length (into_iter_items c.loop-seat.seat-iterator) (omega (arith, c.in-None.ensures.steps.0, c.loop-seat.seat-iterator.rest.ok)) in
    let all = sym (append-nil c.loop-seat.yielded) ∙ (ap (λ ps. c.loop-seat.yielded ++ ps) (sym none) ∙ i.so_far) in
    let law = g.met.O.PartObject.opening c.args.object.now c.args.parts.items c.requires.opens in
    let parts = good_length (g.O.PartObject.good c.args.object.now) 0 (g.O.PartObject.count c.args.object.now) c.args.parts.items law.2 in
    let count = fresh_length g.J.Naming.opening (length c.args.parts.items) c.args.seats.items c.requires.seats in
    (omega (arith, law.1, parts, count, i.given, ap length all), i.numbered)

pub returns : goal.returns
returns g c =
    let i = c.loop-seat.invariant in
    let none = nil_from_length (into_iter_items c.loop-seat.seat-iterator) (omega (arith, c.in-None.ensures.steps.0, c.loop-seat.seat-iterator.rest.ok)) in
    let all = sym (append-nil c.loop-seat.yielded) ∙ (ap (λ ps. c.loop-seat.yielded ++ ps) (sym none) ∙ i.so_far) in
    let count = fresh_length g.J.Naming.opening (length c.args.parts.items) c.args.seats.items c.requires.seats in
    record { count = omega (arith, count, i.given, ap length all) }
