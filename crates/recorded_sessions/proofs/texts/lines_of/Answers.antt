use Rattle.std.proofs.Common.{◌≡◌, ℕ, ◌≤◌, map, arith, ◌∷◌, []}
use Rattle.std.proofs.lemmas.List.{map-append}
use Rattle.recorded_sessions.specs.Recordings.{line_seen}
use Rattle.recorded_sessions.proofs.Parting.{line_between, line_last, line_none}
use Rattle.recorded_sessions.proofs.texts.lines_of.Goals as goal
use Rattle.recorded_sessions.proofs.texts.lines_of.Goals.{then-index-len+in_ok-push, else-index-len+then-part-gt0+in_ok-push-2, else-index-len+else-part-gt0}

none : {n : ℕ} → n ≤ 0 → n ≡ 0
none h = omega (arith, h)

pub loop-index-preserved : goal.loop-index-preserved
loop-index-preserved c =
    elim c.if-index-len.branch [
      | then-index-len+in_ok-push w ↦
          rw (w.lines-is, w.in_ok-push.ensures.items, map-append line_seen c.loop-index.lines.items (w.ended_line.result ∷ []))
          (line_between (λ p. p.now) c.deref-part-items.result.now c.loop-index.index _ c.loop-index-test.true
          (map line_seen c.loop-index.lines.items) (line_seen w.ended_line.result) _
          (omega (arith, w.if-index-len.true, c.len.ensures, c.deref-part-items.ensures.len)) w.ended_line.ensures c.loop-index.invariant)
      | else-index-len+then-part-gt0+in_ok-push-2 w ↦
          rw (w.lines-is, w.in_ok-push-2.ensures.items, map-append line_seen c.loop-index.lines.items (w.limited.result ∷ []))
          (line_last (λ p. p.now) c.deref-part-items.result.now c.loop-index.index _ c.loop-index-test.true
          (map line_seen c.loop-index.lines.items) (line_seen w.limited.result) _
          (omega (arith, w.if-index-len.false, c.len.ensures, c.deref-part-items.ensures.len)) w.if-part-gt0.true w.limited.ensures
          c.loop-index.invariant)
      | else-index-len+else-part-gt0 w ↦
          rw w.lines-is
          (line_none (λ p. p.now) c.deref-part-items.result.now c.loop-index.index _ c.loop-index-test.true
          (map line_seen c.loop-index.lines.items) _
          (omega (arith, w.if-index-len.false, c.len.ensures, c.deref-part-items.ensures.len)) (none w.if-part-gt0.false)
          c.loop-index.invariant)
    ]
