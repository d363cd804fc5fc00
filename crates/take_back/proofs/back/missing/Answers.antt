use Rattle.std.proofs.Common.{arith, sym, ◌∙◌}
use Rattle.take_back.proofs.Rests.{none_named, some_named}
use Rattle.take_back.proofs.back.missing.Goals as goal

pub returns-then-tracks-eq0 : goal.returns-then-tracks-eq0
returns-then-tracks-eq0 c = sym (none_named c.args.tracks c.args.count c.if-tracks-eq0.true)

pub returns-else-tracks-eq0 : goal.returns-else-tracks-eq0
returns-else-tracks-eq0 c = c.first_absent.ensures ∙ sym (some_named c.args.tracks c.args.count c.if-tracks-eq0.false
    (omega (arith, c.ranges.tracks.fits)))
