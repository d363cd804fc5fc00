use Rattle.std.proofs.Common.{arith, subst, sym}
use Rattle.otio_tracks.specs.ReelTexts.{AreTexts}
use Rattle.otio_tracks.proofs.ReelLaws.{entered_at, place_le, texts_with}
use Rattle.otio_tracks.proofs.entries.Entries.enter_reel.Goals as goal

pub prove-unreachable-requires : goal.prove-unreachable-requires
prove-unreachable-requires c = omega (arith, place_le c.self.inside.reels c.args.name.now, c.count-count.ensures.count, c.if-prove.true, entered_at c.self.inside.reels c.add.new.self c.in_ok-number.number c.args.name.now c.count-count.ensures.distinct c.in_ok-number.ensures.ok c.in_ok-number.ensures.number)

pub returns-clause-number : goal.returns-clause-number
returns-clause-number c =
    rw (← c.self.view_is)
    (entered_at c.self.inside.reels c.add.new.self c.in_ok-number.number c.args.name.now c.count-count.ensures.distinct c.in_ok-number.ensures.ok c.in_ok-number.ensures.number)

pub invariant_of-self : goal.invariant_of-self
invariant_of-self c = subst AreTexts (sym c.in_err-number.ensures.err) c.self.invariant

pub invariant_of-self-2 : goal.invariant_of-self-2
invariant_of-self-2 c = texts_with c.self.inside.reels c.add.new.self c.args.name.now c.self.invariant c.utf8.name c.in_ok-number.ensures.ok
