use Rattle.std.proofs.Common.{◌+◌, ◌++◌, [], ◌∷◌, length, refl, sym, subst, ap, ◌∙◌, arith}
use Rattle.std.proofs.lemmas.List.{length-append}
use Rattle.track_locks.specs.Homes.{IsGoodAt, members}
use Rattle.track_locks.proofs.HeldSeats.{members_bits, numbers_more}
use Rattle.track_locks.proofs.HeldHomes.{goods_more, homes_more, map_last}
use Rattle.track_locks.proofs.Several.{held_home, members_then, members_else}
use Rattle.track_locks.proofs.tracks.take_each.Goals as goal
use Rattle.track_locks.proofs.tracks.take_each.Goals.{then-set-number-eq1, else-set-number-eq1}

pub put-requires : goal.put-requires
put-requires g c =
    let i = c.loop-number.invariant in
    let n = c.loop-number.number in
    let more = ap length (members_then c.args.set n c.if-set-number-eq1.true) in
    let one = length-append (members n c.args.set) (n ∷ []) in
    let few = members_bits c.args.set (n + 1) in
    let same = numbers_more (λ h. h.number) c.loop-number.room.homes.items (members n c.args.set) i.numbers in
    omega (arith, more, one, few, same, i.room, c.loop-number.room.homes.ok)

pub loop-number-preserved : goal.loop-number-preserved
loop-number-preserved g c =
    let i = c.loop-number.invariant in
    let l = c.loop-number in
    let n = c.loop-number.number in
    elim c.if-set-number-eq1.branch [
      | then-set-number-eq1 w ↦
          let h = w.part.inside in
          let is = ap (λ h. h.number) w.part.view_is ∙ w.take.ensures.number in
          let one = held_home g.O.PartObject.meaning g.O.PartObject.opens g.J.Naming.opening n h.part h.version h.seat is w.part.invariant.0 w.part.invariant.1 in
          let good = subst (λ k. IsGoodAt g.O.PartObject.good g.J.Naming.opening k h.part) is w.part.invariant.2 in
          let a = w.put.ensures in
          rw w.room-is record {
            numbers = map_last (λ h. h.number) l.room.homes.items w.put.new.self.homes.items _ a.more ∙ (ap (λ xs. xs ++ n ∷ []) i.numbers ∙ sym (members_then c.args.set n w.if-set-number-eq1.true));
            homes = homes_more g.O.PartObject.meaning g.O.PartObject.opens g.J.Naming.opening (λ h. h.number) (λ h. h.part) (λ h. h.version) (λ h. h.seat) l.room.homes.items w.put.new.self.homes.items _ h.seat a.more refl i.homes one;
            good = goods_more g.O.PartObject.good g.J.Naming.opening (λ h. h.number) (λ h. h.part) l.room.homes.items w.put.new.self.homes.items _ a.more i.good good;
            room = a.room ∙ i.room;
          }
      | else-set-number-eq1 w ↦
          rw w.room-is record {
            numbers = i.numbers ∙ sym (members_else c.args.set n w.if-set-number-eq1.false);
            homes = i.homes;
            good = i.good;
            room = i.room;
          }
    ]
