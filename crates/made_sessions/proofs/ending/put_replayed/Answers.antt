use Rattle.std.proofs.Common.{refl, arith}
use Rattle.made_sessions.proofs.Coming.{made_opens, made_reached, one_replayed}
use Rattle.made_sessions.proofs.ending.put_replayed.Goals as goal

pub replay-requires-clause-from : goal.replay-requires-clause-from
replay-requires-clause-from g c = rw c.as_slice.ensures (made_reached c.in-Ok.opening _ c.in-Ok.ensures.opening c.in-Ok.ensures.sound c.requires.most)

pub replay-requires-clause-good : goal.replay-requires-clause-good
replay-requires-clause-good g c = rw c.as_slice.ensures (made_opens c.in-Ok.opening c.in-Ok.ensures.opening c.in-Ok.ensures.sound).good

pub put_tracks-requires-clause-come : goal.put_tracks-requires-clause-come
put_tracks-requires-clause-come g c =
    rw c.deref.ensures.value
    (one_replayed c.in-Ok.opening c.args.number c.args.count _ c.args.entries.now c.as_slice.result.now c.in-Ok-replay.tracks.items c.in-Ok.ensures.opening c.requires.scripts
    refl c.as_slice.ensures c.in-Ok-replay.ensures.replays)
