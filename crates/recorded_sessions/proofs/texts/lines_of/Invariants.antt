use Rattle.std.proofs.Common.{◌≡◌, ◌++◌, drop, map}
use Rattle.line_words.specs.Lines.{lines_from}
use Rattle.recorded_sessions.specs.Recordings.{line_seen}
use Rattle.recorded_sessions.proofs.texts.lines_of.Given as goal

abbrev pub invariant-loop-index : goal.invariant-loop-index
invariant-loop-index l =
    map line_seen l.lines.items ++ lines_from (map (λ part. part.now) (drop l.index l.part-items))
    ≡ lines_from (map (λ part. part.now) l.part-items)
