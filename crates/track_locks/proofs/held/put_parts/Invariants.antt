use Rattle.std.proofs.Common.{◌≡◌, ◌+◌, ◌<◌, ◌≤◌, ◌++◌, All, drop, length, map, take, vec_len}
use Rattle.std.specs.List.{filter_map}
use Rattle.track_locks.proofs.held.put_parts.Given as goal

abbrev pub invariant-loop-part : goal.invariant-loop-part
invariant-loop-part g l = record {
  within : vec_len l.parts ≤ length l.homes;
  parts : l.parts.items ++ drop (vec_len l.parts) (map (λ h. h.part) l.homes) ≡ l.fn.parts.items;
  versions : map (λ v. v + 1) (take (vec_len l.parts) (map (λ h. h.version) l.homes)) ++ drop (vec_len l.parts) (map (λ h. h.version) l.homes) ≡ map (λ v. v + 1) (map (λ h. h.version) l.fn.homes);
  few : All (λ v. v < 4294967295) (take (vec_len l.parts) (map (λ h. h.version) l.homes));
  numbers : map (λ h. h.number) l.homes ≡ map (λ h. h.number) l.fn.homes;
  seats : filter_map (λ h. h.seat) l.homes ≡ filter_map (λ h. h.seat) l.fn.homes;
}

abbrev pub decreases-loop-part : goal.decreases-loop-part
decreases-loop-part g l = vec_len l.parts
