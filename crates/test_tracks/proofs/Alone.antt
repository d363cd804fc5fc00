-- A list of one track, number 0, and a call that names it alone.
use Rattle.std.proofs.Common.{◌≡◌, ℕ, true, List, [], ◌∷◌, ◌++◌, map, nat_eq, sym, ap, ◌∙◌}
use Rattle.std.specs.List.{list_any}
use Rattle.composables.specs.OwnTracks.{numbers_of}
use Rattle.composables.specs.TrackSets.{tracks_in}
use Rattle.composables.specs.TrackState.{TrackState}

pub alone-numbers : (us vs : List TrackState) (t : TrackState) → us ≡ [] → vs ≡ us ++ t ∷ [] → t.number ≡ 0 → numbers_of vs ≡ 0 ∷ []
alone-numbers us vs t e f is =
    ap (map (λ (t : TrackState). t.number)) (f ∙ ap (λ (l : List TrackState). l ++ t ∷ []) e) ∙ ap (λ (n : ℕ). n ∷ []) is

pub alone-named : (ns : List ℕ) (tracks : ℕ) → ns ≡ 0 ∷ [] → tracks ≡ 1 → ns ≡ tracks_in tracks
unfolding tracks_in
alone-named ns tracks e f = e ∙ ap tracks_in (sym f)

pub alone-own : (track tracks : ℕ) → track ≡ 0 → tracks ≡ 1 → list_any (nat_eq track) (tracks_in tracks) ≡ true
unfolding tracks_in
alone-own track tracks f g = ap (λ (t : ℕ). list_any (nat_eq t) (tracks_in tracks)) f ∙ ap (λ (s : ℕ). list_any (nat_eq 0) (tracks_in s)) g
