use Rattle.std.proofs.Common.{◌≡◌, ◌+◌, [], All, drop, map, take}
use Rattle.std.specs.List.{filter_map}
use Rattle.track_locks.specs.Homes.{all_given, CanGive}
use Rattle.track_locks.proofs.held.give_all.Given as goal

abbrev pub invariant-loop-index : goal.invariant-loop-index
invariant-loop-index g l = record {
  numbers : map (λ h. h.number) l.homes ≡ map (λ h. h.number) l.fn.homes;
  parts : map (λ h. h.part) l.homes ≡ map (λ h. h.part) l.fn.homes;
  versions : map (λ h. h.version) l.homes ≡ map (λ h. h.version) l.fn.homes;
  later : filter_map (λ h. h.seat) (drop l.index l.homes) ≡ [];
  given : map (λ s. s.number) (filter_map (λ h. h.seat) l.homes) ≡ take l.index (map (λ h. h.number) l.fn.homes);
  know : All (λ s. (s.opening ≡ l.fn.turn.journal.opening) × (s.entries ≡ l.fn.turn.journal.entries)) (filter_map (λ h. h.seat) l.homes);
  journal : all_given (drop l.index (map (λ h. h.number) l.fn.homes)) l.turn.journal ≡ all_given (map (λ h. h.number) l.fn.homes) l.fn.turn.journal;
  names : CanGive (drop l.index (map (λ h. h.number) l.fn.homes)) l.turn.journal.names;
  tokens : l.turn.tokens + l.index ≡ l.fn.turn.tokens;
  room : l.turn.room ≡ l.fn.turn.room;
  opening : l.turn.journal.opening ≡ l.fn.turn.journal.opening;
  entries : l.turn.journal.entries ≡ l.fn.turn.journal.entries;
}
