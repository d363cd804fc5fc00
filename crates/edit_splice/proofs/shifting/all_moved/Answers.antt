use Rattle.std.proofs.Common.{◌≡◌, ℕ, ◌+◌, ◌<◌, ◌++◌, List, [], ◌∷◌, map, take, length, get_or, sym, ap, ◌∙◌, arith}
use Rattle.std.proofs.lemmas.List.{map-append, take_more}
use Rattle.std.proofs.lemmas.List.Sums.{sum_by_more, sum_by_more_le}
use Rattle.composables.specs.Sizes.{size_of}
use Rattle.composables.specs.TrackState.{TrackState}
use Rattle.edit_splice.specs.Moves.{all_moved, moved}
use Rattle.edit_splice.specs.declared.shifting.Shift.{Shift}
use Rattle.edit_splice.proofs.shifting.all_moved.Goals as goal

moved_more : (s : Shift) (ts : List TrackState) (i : ℕ) (t : TrackState) → i < length ts → t ≡ get_or ts i t
    → all_moved s (take (i + 1) ts) ≡ all_moved s (take i ts) ++ moved s t ∷ []
moved_more s ts i t h is =
    ap (map (moved s)) (take_more ts i t h)
    ∙ (map-append (moved s) (take i ts) (get_or ts i t ∷ [])
    ∙ ap (λ (u : TrackState). all_moved s (take i ts) ++ moved s u ∷ []) (sym is))

pub returns-in_err-track-clause-most : goal.returns-in_err-track-clause-most
returns-in_err-track-clause-most g c =
    omega (arith, c.moved.ensures.most, c.loop-track.invariant.most, ap size_of c.track-item.is, sum_by_more_le size_of c.args.named.now c.loop-track.track-index c.track-item.result c.loop-track-test.true)

pub returns-in_err-push-clause-most : goal.returns-in_err-push-clause-most
returns-in_err-push-clause-most g c =
    omega (arith, c.moved.ensures.most, c.loop-track.invariant.most, ap size_of c.track-item.is, sum_by_more_le size_of c.args.named.now c.loop-track.track-index c.track-item.result c.loop-track-test.true)

pub loop-track-preserved : goal.loop-track-preserved
loop-track-preserved g c =
    let ts = c.args.named.now in
    let i = c.loop-track.track-index in
    let t = c.track-item.result in
    record {
      moved = rw (c.in_ok-push.ensures.items, c.loop-track.invariant.moved, c.in_ok-track.ensures.moved) (sym (moved_more c.args.shift.now ts i t c.loop-track-test.true c.track-item.is));
      least = omega (arith, c.loop-track.invariant.least, c.moved.ensures.least);
      most = omega (arith, c.moved.ensures.most, c.loop-track.invariant.most, ap size_of c.track-item.is, sum_by_more size_of ts i t c.loop-track-test.true);
    }
