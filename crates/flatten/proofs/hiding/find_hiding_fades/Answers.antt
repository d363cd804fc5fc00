use Rattle.std.proofs.Common.{◌≡◌, ◌<◌, ◌^◌, ℕ, List, length, map, sym, ap, ◌∙◌, subst}
use Rattle.frame_meaning.specs.declared.frames.Frame.{Frame}
use Rattle.frame_meaning.specs.declared.frames.Run.{Run}
use Rattle.composables.specs.declared.media.Kind.TheVariants.{Video}
use Rattle.flatten.specs.declared.hiding.HidingFade.{HidingFade}
use Rattle.flatten.specs.Channels.{of_kind}
use Rattle.flatten.specs.Hiding.{lies_in, track_layer}
use Rattle.flatten.specs.Marks.{is_hiding}
use Rattle.flatten.specs.Stacks.{frame_at}
use Rattle.flatten.specs.Strips.{frames_of}
use Rattle.flatten.proofs.FadePlaces.{fades_told, marked_there}
use Rattle.flatten.proofs.RunsOfReels.{frames_runs}
use Rattle.flatten.proofs.hiding.find_hiding_fades.Goals as goal

pub join_runs-requires-clause-short : goal.join_runs-requires-clause-short
join_runs-requires-clause-short c = subst (λ (rs : List (Run ℕ)). length (frames_of rs) < 2 ^ 32) (sym c.as_slice.ensures) c.in_ok-seen.ensures.short

pub list_fades-requires : goal.list_fades-requires
list_fades-requires c =
    subst (λ (fs : List (Frame ℕ)). length fs < 2 ^ 32)
    (sym (ap frames_of (c.as_slice-2.ensures ∙ c.in_ok-joined.ensures) ∙ (frames_runs (frames_of c.as_slice.result.now) ∙ ap frames_of c.as_slice.ensures))) c.in_ok-seen.ensures.short

pub returns : goal.returns
returns c = λ (q : ℕ).
    let table = c.args.table.now in
    let layers = map (track_layer table) (of_kind Video table.kinds c.args.tracks.now) in
    let frames : frames_of c.as_slice-2.result.now ≡ frames_of c.in_ok-seen.seen.marks =
    ap frames_of (c.as_slice-2.ensures ∙ c.in_ok-joined.ensures) ∙ (frames_runs (frames_of c.as_slice.result.now) ∙ ap frames_of c.as_slice.ensures) in
    ap (λ (fs : List HidingFade). lies_in fs q) c.in_ok-fades.ensures
    ∙ (fades_told c.as_slice-2.result.now q
    ∙ (ap (λ (fs : List (Frame ℕ)). is_hiding (frame_at fs q)) frames ∙ marked_there c.in_ok-seen.seen layers q (c.in_ok-seen.ensures.shows.sights q)))
