use Rattle.std.proofs.Common.{sym, ◌∙◌}
use Rattle.otio_tracks.proofs.TimeLaws.{narrowed_is}
use Rattle.otio_tracks.proofs.clips.narrowed.Goals as goal

pub returns-in-Ok : goal.returns-in-Ok
returns-in-Ok c = sym (sym (narrowed_is (record { start = c.args.start; duration = c.args.duration }) c.args.rate.now) ∙ c.in-Ok.ensures.value)

pub returns-in-Err : goal.returns-in-Err
returns-in-Err c = sym (sym (narrowed_is (record { start = c.args.start; duration = c.args.duration }) c.args.rate.now) ∙ c.in-Err.ensures.value)
