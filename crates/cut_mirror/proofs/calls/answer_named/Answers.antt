use Rattle.std.proofs.Common.{All, sym, ap, ◌∙◌, subst}
use Rattle.room_core.specs.Whole.{picked}
use Rattle.room_core.proofs.WholeParts.{good_picked, roomy_picked}
use Rattle.cut_mirror.proofs.CallNames.{all_there}
use Rattle.cut_mirror.proofs.calls.answer_named.Goals as goal

pub copy_named-requires : goal.copy_named-requires
copy_named-requires g c =
    let o = c.args.object.now in
    let naming = g.met.O.PartObject.named o c.args.call.now c.requires.named in
    record {
      within = all_there (g.O.PartObject.good o) (g.O.PartObject.count o) c.args.names.now _ c.args.parts.now
          c.requires.names naming.ascend c.requires.good;
    }

pub apply-requires-clause-good : goal.apply-requires-clause-good
apply-requires-clause-good g c =
    let o = c.args.object.now in
    let named = (g.O.PartObject.meaning o).names c.args.call.now in
    let naming = g.met.O.PartObject.named o c.args.call.now c.requires.named in
    rw (c.in_ok-named.ensures, c.requires.names)
    (good_picked (g.O.PartObject.good o) (g.O.PartObject.count o) 0 c.args.parts.now named naming.ascend
    c.requires.good)

pub apply-requires-clause-roomy : goal.apply-requires-clause-roomy
apply-requires-clause-roomy g c =
    let o = c.args.object.now in
    subst (All (g.O.PartObject.roomy o)) (sym c.in_ok-named.ensures)
    (roomy_picked (g.O.PartObject.roomy o) c.args.parts.now c.args.names.now c.requires.roomy)
