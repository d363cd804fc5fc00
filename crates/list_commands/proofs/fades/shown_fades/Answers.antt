use Rattle.edl_write.proofs.Cutting.{limited_short}
use Rattle.list_commands.proofs.fades.shown_fades.Goals as goal

pub find_hiding_fades-requires-clause-tracks : goal.find_hiding_fades-requires-clause-tracks
find_hiding_fades-requires-clause-tracks c = limited_short c.args.tracks.now c.requires.tracks
