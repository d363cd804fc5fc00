use Rattle.std.proofs.Common.{◌≡◌, ◌++◌, drop}
use Rattle.std.specs.List.{flat_map}
use Rattle.reply_text.specs.Sights.{run_text}
use Rattle.reply_text.proofs.sights.put_runs.Given as goal

-- what is written so far, and the runs to come
abbrev pub invariant-loop-run : goal.invariant-loop-run
invariant-loop-run l = l.out.items ++ flat_map run_text (drop l.run-index l.runs) ≡ l.fn.out.items ++ flat_map run_text l.runs
