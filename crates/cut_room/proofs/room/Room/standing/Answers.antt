use Rattle.std.proofs.Common.{◌≡◌, ◌≤◌, sym, ap, ◌∙◌, subst, arith}
use Rattle.room_core.specs.Parts.{AreGood, AscendBetween, numbers}
use Rattle.room_core.specs.Whole.{set_of}
use Rattle.history_points.proofs.NamedCalls.{good-count}
use Rattle.cut_room.specs.Gathered.{ComesTo}
use Rattle.cut_room.proofs.Numbered.{members_of}
use Rattle.cut_room.proofs.Passes.{stays_same}
use Rattle.cut_room.proofs.Standing.{ascends, standing_cut}
use Rattle.cut_room.proofs.room.Room.standing.Goals as goal

pub set_of_all-set-requires : goal.set_of_all-set-requires
set_of_all-set-requires g c =
    let s = c.self.inside in
    let law = g.met.O.PartObject.opening s.object s.opening.items c.self.invariant.1 in
    omega (arith, c.parts.ensures, law.1)

pub returns-in-Err-clause-stays : goal.returns-in-Err-clause-stays
returns-in-Err-clause-stays g c = stays_same _ _ c.args.pass

pub returns-in-Ok-copies-clause-cut : goal.returns-in-Ok-copies-clause-cut
returns-in-Ok-copies-clause-cut g c =
    let s = c.self.inside in
    let m = g.O.PartObject.meaning s.object in
    let n = g.O.PartObject.count s.object in
    let law = g.met.O.PartObject.opening s.object s.opening.items c.self.invariant.1 in
    let parts = good-count (g.O.PartObject.good s.object) n s.opening.items law.2 in
    let count : n ≡ s.tracks = omega (arith, parts, c.self.invariant.2) in
    let set : set_of (numbers 0 n) ≡ c.set_of_all-set.result = sym (c.set_of_all-set.ensures ∙ ap (λ k. set_of (numbers 0 k)) c.parts.ensures) in
    let all = c.in-Ok.ensures.numbers
    ∙ members_of s.tracks c.set_of_all-set.result (numbers 0 n) (omega (arith, law.1, count)) (subst (λ k. AscendBetween 0 k (numbers 0 n)) count (ascends 0 n n (omega arith))) set in
    let look = c.look-pass.ensures in
    let same = c.in-Ok-copies.ensures in
    let held = c.look-pass.new.held in
    standing_cut g.O.PartObject.meaning g.O.PartObject.good g.O.PartObject.count g.J.Naming.opening (s.object, s.opening.items) c.look-pass.result.0.entries c.look-pass.result.1 held.numbers c.in-Ok-copies.parts.items
    c.self.invariant.0 law.2 (rw same (rw (← c.self.view_is) at look.parts)) (look.same.0 ∙ all)
    (rw (same, look.same.0, look.same.1) (c.in-Ok.ensures.good (s.object, s.opening.items) c.self.invariant.0)) look.at.point_is
