use Rattle.std.proofs.Common.{◌<◌, ◌∙◌, All, ap, arith, get_or, length, sym, subst}
use Rattle.track_locks.specs.Homes.{IsHome, IsGoodAt}
use Rattle.track_locks.proofs.HeldHomes.{goods_less, homes_less, map_last}
use Rattle.track_locks.proofs.HeldSeats.{last_there}
use Rattle.track_locks.proofs.Begin.{all_end, all_front, numbers_at}
use Rattle.track_locks.proofs.held.put_back.Goals as goal

pub offset_bounds-places-number : goal.offset_bounds-places-number
offset_bounds-places-number g c =
    let top = length c.args.places.now in
    let held = c.in-Some.held in
    let all = map_last (λ h. h.number) c.pop.new.self.items c.loop-held.homes.items held c.in-Some.ensures.items in
    let there = all_end (λ n. n < top) _ held.number (subst (All (λ n. n < top)) all c.loop-held.invariant.within) in
    omega (arith, there)

pub bounds-places-number : goal.bounds-places-number
bounds-places-number g c =
    let top = length c.args.places.now in
    let held = c.in-Some.held in
    let all = map_last (λ h. h.number) c.pop.new.self.items c.loop-held.homes.items held c.in-Some.ensures.items in
    all_end (λ n. n < top) _ held.number (subst (All (λ n. n < top)) all c.loop-held.invariant.within)

pub invariant_of-home : goal.invariant_of-home
invariant_of-home g c =
    let i = c.loop-held.invariant in
    let held = c.in-Some.held in
    let seat = c.in-Some-seat.seat in
    let one = (homes_less g.O.PartObject.meaning g.O.PartObject.opens g.J.Naming.opening (λ h. h.number) (λ h. h.part) (λ h. h.version) (λ h. h.seat) c.pop.new.self.items c.loop-held.homes.items held seat c.in-Some.ensures.items c.in-Some-seat.is i.homes).1 in
    let good = (goods_less g.O.PartObject.good g.J.Naming.opening (λ h. h.number) (λ h. h.part) c.pop.new.self.items c.loop-held.homes.items held c.in-Some.ensures.items i.good).1 in (
      one.opening_is,
      subst (λ n. IsHome g.O.PartObject.meaning g.O.PartObject.opens g.J.Naming.opening n held.part held.version seat.entries) (sym one.number_is) one.home,
      subst (λ n. IsGoodAt g.O.PartObject.good g.J.Naming.opening n held.part) (sym one.number_is) good,
    )

pub give-requires : goal.give-requires
give-requires g c =
    let top = length c.args.places.now in
    let held = c.in-Some.held in
    let one = (homes_less g.O.PartObject.meaning g.O.PartObject.opens g.J.Naming.opening (λ h. h.number) (λ h. h.part) (λ h. h.version) (λ h. h.seat) c.pop.new.self.items c.loop-held.homes.items held c.in-Some-seat.seat c.in-Some.ensures.items c.in-Some-seat.is c.loop-held.invariant.homes).1 in
    let all = map_last (λ h. h.number) c.pop.new.self.items c.loop-held.homes.items held c.in-Some.ensures.items in
    let there = all_end (λ n. n < top) _ held.number (subst (All (λ n. n < top)) all c.loop-held.invariant.within) in
    let place = c.index-places-number in
    let at = place.is ∙ (ap (λ ns. get_or ns held.number place.result) c.requires.places ∙ numbers_at 0 top held.number place.result there) in
    omega (arith, one.number_is, at)

pub loop-held-preserved : goal.loop-held-preserved
loop-held-preserved g c =
    let i = c.loop-held.invariant in
    let top = length c.args.places.now in
    let held = c.in-Some.held in
    let all = map_last (λ h. h.number) c.pop.new.self.items c.loop-held.homes.items held c.in-Some.ensures.items in
    record {
      within = all_front (λ n. n < top) _ held.number (subst (All (λ n. n < top)) all i.within);
      homes = (homes_less g.O.PartObject.meaning g.O.PartObject.opens g.J.Naming.opening (λ h. h.number) (λ h. h.part) (λ h. h.version) (λ h. h.seat) c.pop.new.self.items c.loop-held.homes.items held c.in-Some-seat.seat c.in-Some.ensures.items c.in-Some-seat.is i.homes).0;
      good = (goods_less g.O.PartObject.good g.J.Naming.opening (λ h. h.number) (λ h. h.part) c.pop.new.self.items c.loop-held.homes.items held c.in-Some.ensures.items i.good).0;
    }

pub unreachable-requires : goal.unreachable-requires
unreachable-requires g c =
    last_there (λ h. h.number) (λ h. h.seat) c.pop.new.self.items c.loop-held.homes.items c.in-Some.held c.in-Some.ensures.items c.loop-held.invariant.homes.seats c.in-None.is
