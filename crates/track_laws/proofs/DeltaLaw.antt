-- What is moved by a delta leaves good tracks.
use Rattle.track_laws.specs.Goods.{MovingKeepsGood}
use Rattle.track_laws.proofs.DeltaRipple.{ripple-good}
use Rattle.track_laws.proofs.DeltaRoll.{roll-good}
use Rattle.track_laws.proofs.DeltaSlide.{slide-good}
use Rattle.track_laws.proofs.DeltaSlip.{slip-good}
use Rattle.track_laws.proofs.DeltaTrim.{trim-good}

pub moving-keeps : MovingKeepsGood
moving-keeps = record { trim = trim-good; slip = slip-good; ripple = ripple-good; roll = roll-good; slide = slide-good }
