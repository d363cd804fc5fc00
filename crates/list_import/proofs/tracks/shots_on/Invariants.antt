use Rattle.std.proofs.Common.{◌≡◌, ◌++◌, drop}
use Rattle.std.specs.List.{filter}
use Rattle.edl_events.specs.Channels.{is_on}
use Rattle.list_import.specs.declared.shots.Shot.{Shot}
use Rattle.list_import.proofs.tracks.shots_on.Given as goal

abbrev pub invariant-loop-shot : goal.invariant-loop-shot
invariant-loop-shot l =
    l.on.items ++ filter (λ (s : Shot). is_on l.channel s.channels) (drop l.shot-index l.shots) ≡ filter (λ (s : Shot). is_on l.channel s.channels) l.shots
