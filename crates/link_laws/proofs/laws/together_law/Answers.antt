use Rattle.link_laws.proofs.Edits.{dissolving-keeps, moving-keeps, putting-keeps, unlinking-keeps}
use Rattle.link_laws.proofs.Linking.{linking-keeps}
use Rattle.link_laws.proofs.RippleLaw.{ripple-keeps}
use Rattle.link_laws.proofs.ShiftEdits.{shifting-keeps}
use Rattle.link_laws.proofs.SlideLaw.{sliding-keeps}
use Rattle.link_laws.proofs.SlipLaw.{slipping-keeps}
use Rattle.link_laws.proofs.laws.together_law.Goals as goal

pub returns-clause-putting_in : goal.returns-clause-putting_in
returns-clause-putting_in c = putting-keeps

pub returns-clause-moving_an_end : goal.returns-clause-moving_an_end
returns-clause-moving_an_end c = moving-keeps

pub returns-clause-dissolving : goal.returns-clause-dissolving
returns-clause-dissolving c = dissolving-keeps

pub returns-clause-unlinking : goal.returns-clause-unlinking
returns-clause-unlinking c = unlinking-keeps

pub returns-clause-linking : goal.returns-clause-linking
returns-clause-linking c = linking-keeps

pub returns-clause-shifting : goal.returns-clause-shifting
returns-clause-shifting c = shifting-keeps

pub returns-clause-ripple : goal.returns-clause-ripple
returns-clause-ripple c = ripple-keeps

pub returns-clause-slipping : goal.returns-clause-slipping
returns-clause-slipping c = slipping-keeps

pub returns-clause-sliding : goal.returns-clause-sliding
returns-clause-sliding c = sliding-keeps
