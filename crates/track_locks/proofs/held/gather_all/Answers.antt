use Rattle.std.proofs.Common.{◌≡◌, ◌<◌, ◌-◌, [], ◌∷◌, suc, length, slice_set, sym, ap, ◌∙◌, arith}
use Rattle.std.specs.List.{filter_map}
use Rattle.std.proofs.lemmas.List.{length-append}
use Rattle.track_locks.specs.Homes.{all_gathered}
use Rattle.track_locks.proofs.Several.{gathered_last}
use Rattle.track_locks.proofs.HeldSeats.{gather_none, gather_one, map_same, seats_same}
use Rattle.track_locks.proofs.held.gather_all.Goals as goal

pub gather_seat-requires : goal.gather_seat-requires
gather_seat-requires g c =
    let i = c.loop-index.invariant in
    let h = c.loop-index.homes in
    let k = c.loop-index.index - 1 in
    let y = c.take_seat.new.self in
    let lt : k < length h = omega (arith, c.loop-index-test.true, c.loop-index.auto.index, c.loop-index.auto.homes) in
    let step : suc k ≡ c.loop-index.index = omega (arith, c.loop-index-test.true) in
    let t = gather_one (λ h. h.seat) h k c.loop-index.index y c.index-homes-index.result c.in-Some.seat lt step (sym c.in-Some.ensures.seat) (ap (λ h. h.seat) c.in-Some.ensures.rest) i.taken in
    record { tokens = omega (arith, ap length t.0, length-append (filter_map (λ h. h.seat) (slice_set h k y)) (c.in-Some.seat ∷ []), i.tokens, c.requires.tokens) }

pub loop-index-preserved-in-Some : goal.loop-index-preserved-in-Some
loop-index-preserved-in-Some g c =
    let i = c.loop-index.invariant in
    let h = c.loop-index.homes in
    let k = c.loop-index.index - 1 in
    let d = c.index-homes-index.result in
    let y = c.take_seat.new.self in
    let is = c.in-Some.ensures.rest in
    let turn = c.loop-index.turn.journal in
    let lt : k < length h = omega (arith, c.loop-index-test.true, c.loop-index.auto.index, c.loop-index.auto.homes) in
    let step : suc k ≡ c.loop-index.index = omega (arith, c.loop-index-test.true) in
    let t = gather_one (λ h. h.seat) h k c.loop-index.index y d c.in-Some.seat lt step (sym c.in-Some.ensures.seat) (ap (λ h. h.seat) is) i.taken in
    record {
      numbers = map_same (λ h. h.number) h k y d lt (ap (λ h. h.number) is) ∙ i.numbers;
      parts = map_same (λ h. h.part) h k y d lt (ap (λ h. h.part) is) ∙ i.parts;
      versions = map_same (λ h. h.version) h k y d lt (ap (λ h. h.version) is) ∙ i.versions;
      taken = t.1;
      journal = rw c.gather_seat.ensures.at (sym (gathered_last (filter_map (λ h. h.seat) (slice_set h k y)) c.in-Some.seat turn) ∙ (ap (λ l. all_gathered l turn) (sym t.0) ∙ i.journal));
      tokens = omega (arith, c.gather_seat.ensures.tokens.0, ap length t.0, length-append (filter_map (λ h. h.seat) (slice_set h k y)) (c.in-Some.seat ∷ []), i.tokens);
      room = c.gather_seat.ensures.tokens.1 ∙ i.room;
    }

pub loop-index-preserved : goal.loop-index-preserved
loop-index-preserved g c =
    let i = c.loop-index.invariant in
    let h = c.loop-index.homes in
    let k = c.loop-index.index - 1 in
    let d = c.index-homes-index.result in
    let y = c.take_seat.new.self in
    let is = c.in-None.ensures.rest in
    let turn = c.loop-index.turn.journal in
    let lt : k < length h = omega (arith, c.loop-index-test.true, c.loop-index.auto.index, c.loop-index.auto.homes) in
    let step : suc k ≡ c.loop-index.index = omega (arith, c.loop-index-test.true) in
    let same = seats_same (λ h. h.seat) h k y d lt (ap (λ h. h.seat) is ∙ c.in-None.ensures.seat) in
    record {
      numbers = map_same (λ h. h.number) h k y d lt (ap (λ h. h.number) is) ∙ i.numbers;
      parts = map_same (λ h. h.part) h k y d lt (ap (λ h. h.part) is) ∙ i.parts;
      versions = map_same (λ h. h.version) h k y d lt (ap (λ h. h.version) is) ∙ i.versions;
      taken = gather_none (λ h. h.seat) h k c.loop-index.index y d lt step (ap (λ h. h.seat) is) i.taken;
      journal = ap (λ l. all_gathered l turn) same ∙ i.journal;
      tokens = omega (arith, ap length same, i.tokens);
      room = i.room;
    }
