use Rattle.std.proofs.Common.{◌≡◌, ◌<◌, ◌++◌, ◌∷◌, [], ap, sym, subst, ◌∙◌, arith, length}
use Rattle.room_core.specs.History.{most_entries, state_in}
use Rattle.room_core.specs.Machine.{is_above}
use Rattle.cut_mirror.specs.Mirrors.{IsMirrorOf, Mirrored}
use Rattle.cut_mirror.proofs.Steps.{added_mirror}
use Rattle.cut_mirror.proofs.mirror.Mirror.add.Goals as goal

pub invariant_of-self-2 : goal.invariant_of-self-2
invariant_of-self-2 g c =
    let o = c.self.inside.object in
    let entries = c.self.inside.entries.items in
    let opening = c.self.invariant.1 in
    let was = c.self.invariant.2 in
    let point = c.point-place.ensures.point ∙ ap (λ (m : Mirrored _ _ _). length m.entries) (sym c.self.view_is) in
    let few : length entries < most_entries = omega (
      arith,
      point,
      c.if-place-eq-MOST_ENTRIES.false,
      was.legal.within,
    ) in
    let above = ap (is_above c.args.entry.station c.args.entry.number) (sym c.deref.ensures.value)
    ∙ (sym c.is_above.ensures ∙ c.if-not-is_above.false) in
    let longer = c.push_reserved.ensures.items ∙ ap (λ es. es ++ c.args.entry ∷ []) c.reserve.ensures.items in (
      c.apply.ensures.good,
      opening,
      subst (λ es. IsMirrorOf g.O.PartObject.meaning g.O.PartObject.opens opening
          (record { object = o; entries = es; parts = c.apply.new.parts.items })) (sym longer)
          (added_mirror g.O.PartObject.meaning g.O.PartObject.opens opening o entries c.self.inside.parts.items
          c.apply.new.parts.items c.args.entry few above
          (ap state_in c.in-Ok.ensures.meant) was),
    )
