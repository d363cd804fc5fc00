use Rattle.edit_apply.proofs.Together.{calls-keep-rooms, rooms-roomy, rooms-together}
use Rattle.edit_apply.proofs.laws.together_law.Goals as goal

pub returns-clause-step : goal.returns-clause-step
returns-clause-step c = calls-keep-rooms

pub returns-clause-together : goal.returns-clause-together
returns-clause-together c = rooms-together

pub returns-clause-roomy : goal.returns-clause-roomy
returns-clause-roomy c = rooms-roomy
