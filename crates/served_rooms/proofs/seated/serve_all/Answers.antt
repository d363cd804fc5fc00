use denote.Exit.{unseen}
use denote.Param.Send.{Quiet-if}
use mir.Syntax.{of_param}
use Rattle.std.proofs.Common.{None, refl, subst, ◌∙◌}
use Rattle.std.proofs.lemmas.Option.{get_or_from_slice_get, slice_get_read, slice_get_within}
use Rattle.served_rooms.specs.Seated.{IsServedIn, SeatedState}
use Rattle.served_rooms.proofs.seated.serve_all.Goals as goal

pub for_each_mut-requires-clause-accepts : goal.for_each_mut-requires-clause-accepts
for_each_mut-requires-clause-accepts g c κs within = λ i p low is.
    let t = c.type_bounds in (
      (c.requires.room, c.requires.ready i p.now (slice_get_read c.args.stations.now _ i p.now refl low is)),
      (
        record { owned = t.send-J.owned; leaving = λ k. Quiet-if (k (of_param 2)) unseen unseen (λ x w. tt) (λ x w. tt) },
        record { owned = t.send-L.owned; leaving = λ k. Quiet-if (k (of_param 4)) unseen unseen (λ x w. tt) (λ x w. tt) },
        record { owned = t.send-P-Taken.owned; leaving = λ k. Quiet-if (k (of_param 5)) unseen unseen (λ x w. tt) (λ x w. tt) },
        record { shared = t.sync-R.shared },
        record { shared = t.sync-G.shared },
        record { shared = t.sync-J.shared },
        record { shared = t.sync-P.shared },
      ),
    )

pub returns-clause-served : goal.returns-clause-served
returns-clause-served g c = λ k s t at left.
    let e = (c.for_each_mut.ensures k s (slice_get_within c.args.stations.now k s at)).1 in
    let room = c.args.room.now in
    let counting = c.args.setting.counting in
    let start = c.args.setting.start in
    let holds = g.P.Keeping.upto None in
    subst (λ (y : SeatedState). IsServedIn room counting start holds g.P.Keeping.may_fail s y) (e.left ∙ get_or_from_slice_get _ k t s left)
    (subst (λ (x : SeatedState). IsServedIn room counting start holds g.P.Keeping.may_fail x e.after_call.now) (e.argument_is ∙ get_or_from_slice_get c.args.stations.now k s s at) e.call)
