use Rattle.std.proofs.Common.{◌≡◌, ℕ, ◌+◌, ◌++◌, ◌∷◌, [], List, drop, take, length, refl, sym, ap, ◌∙◌, arith, append_assoc, subst}
use Rattle.std.proofs.lemmas.List.{append-nil, length-append}
use Rattle.line_words.specs.Lines.{Line}
use Rattle.line_words.specs.Pieces.{ended, pending_after}
use Rattle.line_words.specs.Told.{line_told}
use Rattle.line_words.proofs.PieceLaws.{ended_fed, pending_after_fed}
use Rattle.input_lines.proofs.Pieces.{one_told}
use Rattle.input_lines.proofs.taking.take_piece.Goals as goal

pub loop-at-init : goal.loop-at-init
loop-at-init g c = record {
  within = omega arith;
  few = omega arith;
  pending = refl;
  taken = ([], refl, omega arith, g.met.T.TakesLines.stays c.args.taker.now);
}

pub loop-at-preserved-in-Ok : goal.loop-at-preserved-in-Ok
loop-at-preserved-in-Ok g c =
    let inv = c.loop-at.invariant in
    let back = c.split_at.ensures.back in
    let p = c.args.piece.now in
    let n = c.feed-fed.result.taken in
    let q = c.feed-fed.new.self.pending in
    let l = line_told c.in-Some.end c.line.result.now in
    let told : l ∷ [] ≡ ended c.loop-at.reader.pending (take n (drop c.loop-at.at p)) =
    one_told c.feed-fed.result.line c.in-Some.end c.line.result.now c.feed-fed.new.self.last _ c.in-Some.is c.line.ensures (rw back at c.feed-fed.ensures.lines) in
    let pend : q ≡ pending_after c.loop-at.reader.pending (take n (drop c.loop-at.at p)) = rw back at c.feed-fed.ensures.pending in
    let some = c.feed-fed.ensures.some (omega (arith, c.split_at.ensures.back_len, c.loop-at-test.true)) in
    let done = inv.taken.0 in
    record {
      within = omega (arith, c.feed-fed.ensures.within, c.split_at.ensures.back_len);
      few = omega (arith, inv.few, some);
      pending = inv.pending ∙ pending_after_fed c.loop-at.reader.pending q p c.loop-at.at n pend;
      taken = (
        done ++ l ∷ [],
        inv.taken.1 ∙ (ap (λ (zs : List Line). done ++ zs) (ended_fed c.loop-at.reader.pending q (l ∷ []) p c.loop-at.at n told pend) ∙ sym (append_assoc done (l ∷ []) _)),
        omega (arith, inv.taken.2, length-append done (l ∷ [])),
        g.met.T.TakesLines.joins c.args.taker.now c.loop-at.taker c.take.new.self done (l ∷ []) inv.taken.3 c.in-Ok.ensures.ok,
      );
    }

pub returns-in-Err-clause-stop : goal.returns-in-Err-clause-stop
returns-in-Err-clause-stop g c =
    let inv = c.loop-at.invariant in
    let back = c.split_at.ensures.back in
    let p = c.args.piece.now in
    let n = c.feed-fed.result.taken in
    let q = c.feed-fed.new.self.pending in
    let l = line_told c.in-Some.end c.line.result.now in
    let told : l ∷ [] ≡ ended c.loop-at.reader.pending (take n (drop c.loop-at.at p)) =
    one_told c.feed-fed.result.line c.in-Some.end c.line.result.now c.feed-fed.new.self.last _ c.in-Some.is c.line.ensures (rw back at c.feed-fed.ensures.lines) in
    let pend : q ≡ pending_after c.loop-at.reader.pending (take n (drop c.loop-at.at p)) = rw back at c.feed-fed.ensures.pending in
    let done = inv.taken.0 in (
      done,
      l,
      (
        ended q (drop (c.loop-at.at + n) p),
        inv.taken.1 ∙ ap (λ (zs : List Line). done ++ zs) (ended_fed c.loop-at.reader.pending q (l ∷ []) p c.loop-at.at n told pend),
      ),
      (c.loop-at.taker, inv.taken.3, subst (λ (k : ℕ). g.T.TakesLines.stops c.loop-at.taker k l c.in-Err.stop) (ap (λ (k : ℕ). k + 1) inv.taken.2) c.in-Err.ensures.stop),
    )
