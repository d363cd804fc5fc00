use Rattle.std.proofs.Common.{arith, refl}
use Rattle.otio_tracks.proofs.clips.enter.Goals as goal

pub returns-clause-ok : goal.returns-clause-ok
returns-clause-ok c = rw (c.in_ok-number.ensures.number, c.in_ok-number.ensures.ok, c.in_ok-reel.ensures.ok, c.in_ok-reel.ensures.number, c.from.ensures) refl

pub returns-clause-sound : goal.returns-clause-sound
returns-clause-sound c = λ more. let w = c.requires.within (omega (arith, c.from.ensures, more)) in (omega (arith, w.0), omega (arith, w.1, c.from.ensures), omega arith)
