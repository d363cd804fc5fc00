use Rattle.std.proofs.Common.{◌+◌, ◌++◌, [], ◌∷◌, List, take, get_or, sym, ap, ◌∙◌, arith, append_assoc}
use Rattle.std.specs.Option.{option_to_list}
use Rattle.std.proofs.lemmas.List.{take_all, take_more}
use Rattle.composables.specs.declared.items.ItemView.{ItemView}
use Rattle.composables.specs.Joined.{frames_in, joined, push_view, push_views}
use Rattle.composables.proofs.Frames.{frames_in-append, frames_in-joined, frames_in-take_le, frames_in-take_more, no_view}
use Rattle.composables.proofs.Joining.{push-joined, pushes-joined}
use Rattle.composables.proofs.laying.lay_between.Goals as goal

pub push_joined-requires : goal.push_joined-requires
push_joined-requires g c =
    let b = option_to_list c.args.before in
    let m = c.args.middle.now in
    let i = c.loop-view.view-index in
    omega (
      arith,
      c.requires,
      ap frames_in c.loop-view.invariant.joined,
      frames_in-joined (b ++ take i m),
      frames_in-append b (take i m),
      frames_in-take_more m i no_view c.loop-view-test.true,
      frames_in-take_le (i + 1) m,
    )

pub loop-view-preserved : goal.loop-view-preserved
loop-view-preserved g c =
    let b = option_to_list c.args.before in
    let m = c.args.middle.now in
    let i = c.loop-view.view-index in
    let v = get_or m i no_view in
    record {
      joined =
          c.in_ok-push_joined.ensures
          ∙ (ap (λ (zs : List ItemView). push_view zs v) c.loop-view.invariant.joined
          ∙ (push-joined (b ++ take i m) v
          ∙ ap joined (append_assoc b (take i m) (v ∷ []) ∙ ap (λ (zs : List ItemView). b ++ zs) (sym (take_more m i no_view c.loop-view-test.true)))));
      least = omega (arith, c.loop-view.invariant.least, c.tick.ensures);
      most = omega (arith, c.loop-view.invariant.most, c.tick.ensures);
    }

pub push_some-requires-2 : goal.push_some-requires-2
push_some-requires-2 g c =
    let b = option_to_list c.args.before in
    let m = c.args.middle.now in
    let i = c.loop-view.view-index in
    omega (
      arith,
      c.requires,
      ap frames_in c.loop-view.invariant.joined,
      frames_in-joined (b ++ take i m),
      frames_in-append b (take i m),
      frames_in-take_le i m,
    )

pub returns-clause-joined : goal.returns-clause-joined
returns-clause-joined g c =
    let b = option_to_list c.args.before in
    let m = c.args.middle.now in
    let a = option_to_list c.args.behind in
    let i = c.loop-view.view-index in
    c.in_ok-push_some-2.ensures
    ∙ (ap (λ (zs : List ItemView). push_views zs a) c.loop-view.invariant.joined
    ∙ (pushes-joined (b ++ take i m) a
    ∙ ap (λ (zs : List ItemView). joined ((b ++ zs) ++ a)) (take_all i m (omega (arith, c.loop-view-test.false)))))
