use Rattle.std.proofs.Common.{◌≡◌, ◌++◌, List, sym, ap, ◌∙◌, arith, append_assoc}
use Rattle.line_words.specs.Lines.{Line}
use Rattle.line_words.proofs.PieceLaws.{ended_fed, pending_after_fed}
use Rattle.test_words.proofs.lines.keep_lines.Goals as goal

kept : (old new told rest before all : List Line) → new ≡ old ++ told → before ≡ told ++ rest → old ++ before ≡ all → new ++ rest ≡ all
kept old new told rest before all n b h = rw n (append_assoc old told rest ∙ (ap (λ ls. old ++ ls) (sym b) ∙ h))

pub loop-at-preserved : goal.loop-at-preserved
loop-at-preserved c =
    let at = c.loop-at.at in
    let n = c.feed-fed.result.taken in
    let pending = rw c.split_at.ensures.back at c.feed-fed.ensures.pending in
    let told = rw c.split_at.ensures.back at c.feed-fed.ensures.lines in
    record {
      within = omega (arith, c.feed-fed.ensures.within, c.split_at.ensures.back_len);
      lines = kept _ _ _ _ _ _ c.in_ok-keep_line.ensures (ended_fed _ _ _ c.args.piece.now at n told pending) c.loop-at.invariant.lines;
      pending = sym (pending_after_fed _ _ c.args.piece.now at n pending) ∙ c.loop-at.invariant.pending;
    }
