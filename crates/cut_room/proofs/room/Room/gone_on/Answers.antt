use Rattle.std.proofs.Common.{◌≡◌, ◌≤◌, arith}
use Rattle.history_points.proofs.Keeping.{cut_further}
use Rattle.cut_room.proofs.Replaying.{chunk, chunk_applies, cut_on, reached, stays_then}
use Rattle.cut_room.proofs.room.Room.gone_on.Goals as goal

pub replayed-requires-clause-from : goal.replayed-requires-clause-from
replayed-requires-clause-from g c =
    let s = c.self.inside in
    let next = c.next_kept-next in
    rw (← c.self.view_is, c.deref.ensures.value)
    (reached g.O.PartObject.meaning g.O.PartObject.good g.O.PartObject.count g.J.Naming.opening g.O.PartObject.opens (s.object, s.opening.items) c.args.pass.entries c.loop-at.at next.result c.loop-at.parts.items
    c.self.invariant.0 c.self.invariant.1 (rw (← c.self.view_is) at c.requires.legal) (omega (arith, next.ensures.further)) (omega (arith, next.ensures.within, c.requires.within.1)) c.loop-at.invariant.cut)

pub replayed-requires-clause-good : goal.replayed-requires-clause-good
replayed-requires-clause-good g c =
    let s = c.self.inside in
    rw (← c.self.view_is, c.deref.ensures.value) (c.loop-at.invariant.cut (s.object, s.opening.items) c.self.invariant.0).1

pub replayed-requires-clause-applies : goal.replayed-requires-clause-applies
replayed-requires-clause-applies g c =
    let s = c.self.inside in
    let next = c.next_kept-next in
    let high : c.loop-at.at ≤ next.result = omega (arith, next.ensures.further) in
    let same = chunk c.args.pass.entries c.args.entries.now c.split_at.result.1.now c.args.from c.loop-at.at next.result c.args.n c.loop-at.invariant.low high next.ensures.within c.requires.entries c.split_at.ensures.back in
    rw (← c.self.view_is, c.deref.ensures.value)
    (chunk_applies g.O.PartObject.meaning g.O.PartObject.good g.O.PartObject.count g.J.Naming.opening (s.object, s.opening.items) c.args.pass.entries c.split_at.result.1.now c.loop-at.at next.result c.loop-at.parts.items
    c.self.invariant.0 (rw (← c.self.view_is) at c.requires.legal) high c.loop-at.invariant.cut same)

pub keep-pass-requires-clause-cut : goal.keep-pass-requires-clause-cut
keep-pass-requires-clause-cut g c =
    let s = c.self.inside in
    let next = c.next_kept-next in
    let high : c.loop-at.at ≤ next.result = omega (arith, next.ensures.further) in
    let same = chunk c.args.pass.entries c.args.entries.now c.split_at.result.1.now c.args.from c.loop-at.at next.result c.args.n c.loop-at.invariant.low high next.ensures.within c.requires.entries c.split_at.ensures.back in
    let cut = cut_on g.O.PartObject.meaning g.O.PartObject.good g.O.PartObject.count g.J.Naming.opening (s.object, s.opening.items) c.args.pass.entries c.split_at.result.1.now c.loop-at.at next.result
    c.loop-at.parts.items c.in-Ok.parts.items c.self.invariant.0 high c.loop-at.invariant.cut same (rw (← c.self.view_is, c.deref.ensures.value) at c.in-Ok.ensures.parts) (rw (← c.self.view_is) at c.in-Ok.ensures.good) in
    rw c.deref-in-loop-at.ensures.value
    (cut_further g.O.PartObject.meaning g.O.PartObject.good g.O.PartObject.count g.J.Naming.opening c.args.pass.entries c.loop-at.pass.entries next.result c.in-Ok.parts.items
    c.loop-at.invariant.stays.goes_on.front (omega (arith, next.ensures.within, c.requires.within.1)) cut)

pub loop-at-preserved : goal.loop-at-preserved
loop-at-preserved g c =
    let s = c.self.inside in
    let next = c.next_kept-next in
    let high : c.loop-at.at ≤ next.result = omega (arith, next.ensures.further) in
    let same = chunk c.args.pass.entries c.args.entries.now c.split_at.result.1.now c.args.from c.loop-at.at next.result c.args.n c.loop-at.invariant.low high next.ensures.within c.requires.entries c.split_at.ensures.back in
    record {
      low = omega (arith, c.loop-at.invariant.low, next.ensures.further);
      high = next.ensures.within;
      stays = stays_then (g.O.PartObject.meaning c.args.self.now.object) c.args.self.now.parts c.args.pass c.loop-at.pass c.keep-pass.result c.loop-at.invariant.stays c.keep-pass.ensures.stays;
      cut = cut_on g.O.PartObject.meaning g.O.PartObject.good g.O.PartObject.count g.J.Naming.opening (s.object, s.opening.items) c.args.pass.entries c.split_at.result.1.now c.loop-at.at next.result
          c.loop-at.parts.items c.in-Ok.parts.items c.self.invariant.0 high c.loop-at.invariant.cut same (rw (← c.self.view_is, c.deref.ensures.value) at c.in-Ok.ensures.parts) (rw (← c.self.view_is) at c.in-Ok.ensures.good);
    }

pub returns-clause-parts : goal.returns-clause-parts
returns-clause-parts g c =
    let s = c.self.inside in
    let end : c.args.n ≡ c.loop-at.at = omega (arith, c.loop-at.invariant.high, c.loop-at-test.false) in
    rw (← c.self.view_is, end) (c.loop-at.invariant.cut (s.object, s.opening.items) c.self.invariant.0).0

pub returns-clause-good : goal.returns-clause-good
returns-clause-good g c =
    let s = c.self.inside in
    rw (← c.self.view_is) (c.loop-at.invariant.cut (s.object, s.opening.items) c.self.invariant.0).1
