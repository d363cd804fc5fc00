use Rattle.std.proofs.Common.{◌≡◌, ℕ, ◌+◌, ◌<◌, ◌≤◌, ◌^◌, List, Option, Some, None, Bor, length, option_map}
use Rattle.line_table.specs.Spelling.{listed_in, set_with, tracks_of}
use Rattle.line_table.proofs.parts.tracks.Given as goal

-- the tracks so far, and the words to come
abbrev pub invariant-loop-rest : goal.invariant-loop-rest
invariant-loop-rest l =
    (set_with l.least l.set (listed_in (option_map (λ more. more.now) l.rest)) ≡ tracks_of l.list) × (l.set < 2 ^ l.least) × (l.least ≤ 32)

abbrev bytes_left : Option (Bor (List ℕ)) → ℕ
bytes_left None = 0
bytes_left (Some more) = length more.now + 1

abbrev pub decreases-loop-rest : goal.decreases-loop-rest
decreases-loop-rest l = bytes_left l.rest
