use Rattle.std.proofs.Common.{◌≡◌, ◌+◌, ◌<◌, length, vec_len, ap, ◌∙◌, arith}
use Rattle.std.proofs.lemmas.List.{length-set}
use Rattle.track_locks.proofs.HeldSeats.{low_at, low_next, map_same, put_next, raise_next, seats_same}
use Rattle.track_locks.proofs.held.put_parts.Goals as goal

pub renew-requires : goal.renew-requires
renew-requires g c =
    let i = c.loop-part.invariant in
    let next : vec_len c.loop-part.parts ≡ c.len.result + 1 = omega (arith, c.len.ensures, c.in-Some.ensures.len, c.in-Some.ensures.cases) in
    let lt : c.len.result < length c.loop-part.homes = omega (arith, next, i.within) in
    low_at (λ h. h.version) c.loop-part.homes c.len.result (vec_len c.loop-part.parts) c.index-homes-len.result lt next i.few

pub loop-part-preserved : goal.loop-part-preserved
loop-part-preserved g c =
    let i = c.loop-part.invariant in
    let h = c.loop-part.homes in
    let k = c.len.result in
    let d = c.index-homes-len.result in
    let y = c.renew.new.self in
    let is = c.renew.ensures in
    let left = vec_len c.pop.new.self in
    let same : k ≡ left = omega (arith, c.len.ensures) in
    let next : vec_len c.loop-part.parts ≡ k + 1 = omega (arith, c.len.ensures, c.in-Some.ensures.len, c.in-Some.ensures.cases) in
    let lt : k < length h = omega (arith, next, i.within) in
    record {
      within = omega (arith, same, lt, length-set h k y);
      parts = put_next (λ h. h.part) h k left (vec_len c.loop-part.parts) y c.pop.new.self.items c.args.parts.items c.loop-part.parts.items c.in-Some.part lt same next (ap (λ h. h.part) is) c.in-Some.ensures.items i.parts;
      versions = raise_next (λ h. h.version) h k left (vec_len c.loop-part.parts) y d _ lt same next (ap (λ h. h.version) is) i.versions;
      few = low_next (λ h. h.version) h k left (vec_len c.loop-part.parts) y same next i.few;
      numbers = map_same (λ h. h.number) h k y d lt (ap (λ h. h.number) is) ∙ i.numbers;
      seats = seats_same (λ h. h.seat) h k y d lt (ap (λ h. h.seat) is) ∙ i.seats;
    }
