use Rattle.std.proofs.Common.{[], slice_index_or}
use Rattle.edl_write.proofs.Names.{used_after}
use Rattle.edl_write.proofs.naming.name_reel.Goals as goal

pub returns-in_ok-use_name-in-Ok-clause-used : goal.returns-in_ok-use_name-in-Ok-clause-used
returns-in_ok-use_name-in-Ok-clause-used g c =
    used_after ((goal.ReelNamer-dyn g c.args.namer.now).rule c.args.namer.now.1) ((goal.ReelNamer-dyn g c.args.namer.now).given c.args.namer.now.1) c.args.used.now c.args.reel
    (slice_index_or c.args.reels.now c.args.reel []) c.in-Ok.name _ _ c.requires c.in-Ok.ensures.name c.in-Ok.ensures.grows c.in_ok-use_name-in-Ok.ensures c.ask.ensures.names
