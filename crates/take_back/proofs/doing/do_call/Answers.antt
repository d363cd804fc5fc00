use Rattle.std.proofs.Common.{All, ap, sym, subst, ◌∙◌, arith}
use Rattle.take_back.specs.Parts.{nows, IsGoodKept}
use Rattle.take_back.proofs.Changes.{all_nows, good_changed, good_length, good_nows}
use Rattle.take_back.proofs.Costs.{many_cost}
use Rattle.take_back.proofs.doing.do_call.Goals as goal

pub returns-in-Err-clause-most : goal.returns-in-Err-clause-most
returns-in-Err-clause-most g c =
    let o = c.args.object.now in
    let parts = c.args.parts.now.items in
    let naming = g.met.O.PartObject.named o c.args.call.now c.requires.named in
    let many = good_length (IsGoodKept (g.O.PartObject.good o)) ((g.O.PartObject.meaning o).names c.args.call.now) parts
    c.requires.good in
    let cost = many_cost g.O.PartObject.size parts in
    omega (arith, c.tick.ensures, naming.some, many, cost)

pub apply-requires-clause-good : goal.apply-requires-clause-good
apply-requires-clause-good g c =
    let o = c.args.object.now in
    rw (c.in-Ok.ensures, c.deref.ensures.value)
    (good_nows (g.O.PartObject.good o) ((g.O.PartObject.meaning o).names c.args.call.now) c.args.parts.now.items
    c.requires.good)

pub apply-requires-clause-roomy : goal.apply-requires-clause-roomy
apply-requires-clause-roomy g c =
    let o = c.args.object.now in
    subst (All (g.O.PartObject.roomy o)) (sym (c.in-Ok.ensures ∙ ap nows c.deref.ensures.value))
    (all_nows (g.O.PartObject.roomy o) c.args.parts.now.items c.requires.roomy)

pub change_all-requires : goal.change_all-requires
change_all-requires g c =
    let o = c.args.object.now in
    let names = (g.O.PartObject.meaning o).names c.args.call.now in
    record {
      as_many = good_length (g.O.PartObject.good o) names c.apply.new.parts.items c.apply.ensures.good
          ∙ sym (good_length (IsGoodKept (g.O.PartObject.good o)) names c.args.parts.now.items c.requires.good);
    }

pub returns-clause-good : goal.returns-clause-good
returns-clause-good g c =
    let o = c.args.object.now in
    rw c.change_all.ensures
    (good_changed (g.O.PartObject.good o) _ c.args.by ((g.O.PartObject.meaning o).names c.args.call.now)
    c.args.parts.now.items c.apply.new.parts.items
    c.requires.good c.apply.ensures.good)
