use Rattle.std.proofs.Common.{[], refl}
use Rattle.cut_steps.specs.CutSteps.{fresh_tracks, stepping}
use Rattle.follow_command.proofs.FrontLaws.{front, never}
use Rattle.follow_command.proofs.laws.mirrors_are_fronts.Goals as goal

pub returns-clause-front : goal.returns-clause-front
returns-clause-front c = λ h entries items are follows. front h [] entries items (h, refl) are follows

pub returns-clause-refused : goal.returns-clause-refused
returns-clause-refused c = λ o h m place e why legal comes f at w. never (stepping o.table) (fresh_tracks o.tracks) h m place e why legal comes.comes f at w
