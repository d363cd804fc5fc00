use Rattle.std.proofs.Common.{All, sym, ap, ◌∙◌, subst}
use Rattle.room_core.specs.Whole.{picked}
use Rattle.room_core.proofs.WholeParts.{good_picked, roomy_picked, good_put_back}
use Rattle.cut_mirror.proofs.CallNames.{all_there, as_many}
use Rattle.cut_mirror.proofs.calls.apply_named.Goals as goal

pub copy_named-requires : goal.copy_named-requires
copy_named-requires g c =
    let o = c.args.object.now in
    let naming = g.met.O.PartObject.named o c.args.call.now c.requires.named in
    record {
      within = rw c.deref.ensures.value (all_there (g.O.PartObject.good o) (g.O.PartObject.count o)
          c.args.names.now _ c.args.parts.now.items c.requires.names naming.ascend c.requires.good);
    }

pub apply-requires-clause-good : goal.apply-requires-clause-good
apply-requires-clause-good g c =
    let o = c.args.object.now in
    let named = (g.O.PartObject.meaning o).names c.args.call.now in
    let naming = g.met.O.PartObject.named o c.args.call.now c.requires.named in
    rw (c.in_ok-named.ensures, c.deref.ensures.value, c.requires.names)
    (good_picked (g.O.PartObject.good o) (g.O.PartObject.count o) 0 c.args.parts.now.items named naming.ascend
    c.requires.good)

pub apply-requires-clause-roomy : goal.apply-requires-clause-roomy
apply-requires-clause-roomy g c =
    let o = c.args.object.now in
    subst (All (g.O.PartObject.roomy o)) (sym (c.in_ok-named.ensures
    ∙ ap (λ ps. picked ps c.args.names.now) c.deref.ensures.value))
    (roomy_picked (g.O.PartObject.roomy o) c.args.parts.now.items c.args.names.now c.requires.roomy)

pub put_in-requires-clause-within : goal.put_in-requires-clause-within
put_in-requires-clause-within g c =
    let o = c.args.object.now in
    let naming = g.met.O.PartObject.named o c.args.call.now c.requires.named in
    all_there (g.O.PartObject.good o) (g.O.PartObject.count o) c.args.names.now _ c.args.parts.now.items
    c.requires.names naming.ascend c.requires.good

pub put_in-requires-clause-as_many : goal.put_in-requires-clause-as_many
put_in-requires-clause-as_many g c =
    as_many (g.O.PartObject.good c.args.object.now) c.args.names.now _ c.apply.new.parts.items c.requires.names
    c.apply.ensures.good

pub returns-clause-good : goal.returns-clause-good
returns-clause-good g c =
    let o = c.args.object.now in
    rw (c.put_in.ensures, c.requires.names)
    (good_put_back (g.O.PartObject.good o) (g.O.PartObject.count o) c.args.parts.now.items
    ((g.O.PartObject.meaning o).names c.args.call.now) c.apply.new.parts.items
    c.requires.good c.apply.ensures.good)
