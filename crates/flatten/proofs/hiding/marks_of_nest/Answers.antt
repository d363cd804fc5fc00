use Rattle.std.proofs.Common.{◌≡◌, ℕ, List, map, ap, ◌∙◌}
use Rattle.frame_meaning.specs.declared.frames.Run.{Run}
use Rattle.composables.specs.declared.media.Layer.{Layer}
use Rattle.flatten.specs.Hiding.{Seen, nest_layer, nothing, seen_on}
use Rattle.flatten.specs.Marks.{hides_of, seen_of}
use Rattle.flatten.specs.Strips.{frames_of, padded}
use Rattle.flatten.proofs.FadePlaces.{nest_marked}
use Rattle.flatten.proofs.hiding.marks_of_nest.Goals as goal

pub returns-clause-hides : goal.returns-clause-hides
returns-clause-hides c =
    let layer = nest_layer c.args.media.now (map frames_of c.args.nests.now) (map hides_of c.args.marks.now) in
    let layers = map layer c.args.nest.now.layers in
    let are : map seen_of c.as_slice-2.result.now ≡ layers = ap (map seen_of) c.as_slice-2.ensures ∙ (c.in_ok-layers.ensures.seen ∙ ap (λ (ls : List Layer). map layer ls) c.as_slice.ensures) in
    nest_marked c.in_ok-seen.seen layers c.args.nest.now.length c.in_ok-strip.strip (λ (q : ℕ). c.in_ok-seen.ensures.shows.sights q ∙ ap (λ (ls : List Seen). seen_on nothing ls q) are)
    (c.in_ok-strip.ensures.are ∙ ap (λ (rs : List (Run ℕ)). padded c.args.nest.now.length (frames_of rs)) c.as_slice-3.ensures)
