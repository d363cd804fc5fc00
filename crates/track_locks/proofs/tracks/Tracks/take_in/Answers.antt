use Rattle.std.proofs.Common.{◌≡◌, length, map, sym, subst, ap, ◌∙◌, arith}
use Rattle.room_core.specs.Parts.{AscendBetween}
use Rattle.track_locks.specs.Homes.{members, has_bit}
use Rattle.track_locks.proofs.Stands.{members_few}
use Rattle.track_locks.proofs.Several.{ascend_filter}
use Rattle.track_locks.proofs.tracks.Tracks.take_in.Goals as goal

pub invariant_of-result : goal.invariant_of-result
invariant_of-result g c =
    let top : length c.deref.result.now ≡ c.args.self.now = omega (arith, c.deref.ensures.len, c.self.view_is) in
    subst (λ l. AscendBetween 0 c.args.self.now l) (sym (ap (map (λ h. h.number)) c.into_homes.ensures ∙ c.take_each.ensures.numbers))
    (ascend_filter (has_bit c.args.set) 0 (length c.deref.result.now) c.args.self.now (omega (arith, top)))

pub returns-clause-numbers : goal.returns-clause-numbers
returns-clause-numbers g c =
    let top : length c.deref.result.now ≡ c.args.self.now = omega (arith, c.deref.ensures.len, c.self.view_is) in
    ap (map (λ h. h.number)) c.into_homes.ensures ∙ (c.take_each.ensures.numbers ∙ ap (λ k. members k c.args.set) top)

pub returns-clause-few : goal.returns-clause-few
returns-clause-few g c =
    let few = members_few (has_bit c.args.set) 0 (length c.deref.result.now) in
    let same = ap length (ap (map (λ h. h.number)) c.into_homes.ensures ∙ c.take_each.ensures.numbers) in
    omega (arith, few, same, c.deref.ensures.len, c.self.invariant.0, c.self.view_is)
