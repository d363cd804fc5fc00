-- The own track among the named.
use Rattle.std.proofs.Common.{◌≡◌, ℕ, suc, ◌<◌, Bool, cond, List, ◌∷◌, drop, length, Some, refl, sym, ap, ◌∙◌, get_or, slice_get}
use Rattle.std.proofs.lemmas.Bool.{eq-eqb}
use Rattle.std.proofs.lemmas.Option.{slice_get_read}
use Rattle.std.proofs.Math.Seq.{drop-cons}
use Rattle.composables.specs.TrackState.{TrackState}
use Rattle.composables.specs.OwnTracks.{track_numbered}

pub numbered-here : (n : ℕ) (ts : List TrackState) (i : ℕ) (t : TrackState) → i < length ts → t ≡ get_or ts i t → t.number ≡ n → track_numbered n (drop i ts) ≡ slice_get ts i
numbered-here n ts i t h is e =
    ap (track_numbered n) (drop-cons ts i t h)
    ∙ ap (λ (u : TrackState). track_numbered n (u ∷ drop (suc i) ts)) (sym is)
    ∙ ap (λ (b : Bool). cond b (Some t) (track_numbered n (drop (suc i) ts))) (eq-eqb t.number n e)
    ∙ sym (slice_get_read ts (length ts) i t refl h is)
