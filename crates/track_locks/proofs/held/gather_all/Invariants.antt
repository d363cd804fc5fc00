use Rattle.std.proofs.Common.{◌≡◌, ◌+◌, [], drop, length, map}
use Rattle.std.specs.List.{filter_map}
use Rattle.track_locks.specs.Homes.{all_gathered}
use Rattle.track_locks.proofs.held.gather_all.Given as goal

abbrev pub invariant-loop-index : goal.invariant-loop-index
invariant-loop-index g l = record {
  numbers : map (λ h. h.number) l.homes ≡ map (λ h. h.number) l.fn.homes;
  parts : map (λ h. h.part) l.homes ≡ map (λ h. h.part) l.fn.homes;
  versions : map (λ h. h.version) l.homes ≡ map (λ h. h.version) l.fn.homes;
  taken : filter_map (λ h. h.seat) (drop l.index l.homes) ≡ [];
  journal : all_gathered (filter_map (λ h. h.seat) l.homes) l.turn.journal ≡ all_gathered (filter_map (λ h. h.seat) l.fn.homes) l.fn.turn.journal;
  tokens : l.turn.tokens + length (filter_map (λ h. h.seat) l.homes) ≡ l.fn.turn.tokens + length (filter_map (λ h. h.seat) l.fn.homes);
  room : l.turn.room ≡ l.fn.turn.room;
}
