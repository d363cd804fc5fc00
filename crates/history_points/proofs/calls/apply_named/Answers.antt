use Rattle.std.proofs.Common.{◌≡◌, ◌<◌, ℕ, Some, All, map, length, sym, ap, ◌∙◌, subst}
use Rattle.room_core.specs.Calls.{AnswersCall}
use Rattle.room_core.specs.Parts.{AreGood, AscendBetween, numbers}
use Rattle.room_core.specs.Whole.{picked, put_back, whole}
use Rattle.room_core.proofs.WholeParts.{good_picked, roomy_picked, good_put_back}
use Rattle.history_points.specs.InPlace.{AnswersInPlace}
use Rattle.history_points.specs.Slots.{present, emptied}
use Rattle.history_points.proofs.NamedCalls.{good-count, good-length, whole-length, all_below, length-emptied, answers_whole, now_filled, filled-whole, filled-present}
use Rattle.history_points.proofs.calls.apply_named.Given as given
use Rattle.history_points.proofs.calls.apply_named.Goals as goal

pub take_out-requires-clause-names : goal.take_out-requires-clause-names
take_out-requires-clause-names g c =
    let o = c.args.object.now in
    let naming = g.met.O.PartObject.named o c.args.call.now c.requires.named in
    let count = whole-length c.args.slots.now.items c.requires.whole ∙ good-count (g.O.PartObject.good o) (g.O.PartObject.count o) (present c.args.slots.now.items) c.requires.good in
    rw (c.requires.names, count) naming.ascend

pub apply-result-requires-clause-good : goal.apply-result-requires-clause-good
apply-result-requires-clause-good g c =
    let o = c.args.object.now in
    let named = (g.O.PartObject.meaning o).names c.args.call.now in
    let naming = g.met.O.PartObject.named o c.args.call.now c.requires.named in
    rw (c.take_out.ensures.named, c.requires.names)
    (good_picked (g.O.PartObject.good o) (g.O.PartObject.count o) 0 (present c.args.slots.now.items) named naming.ascend c.requires.good)

pub apply-result-requires-clause-roomy : goal.apply-result-requires-clause-roomy
apply-result-requires-clause-roomy g c =
    let o = c.args.object.now in
    subst (All (g.O.PartObject.roomy o)) (sym c.take_out.ensures.named) (roomy_picked (g.O.PartObject.roomy o) (present c.args.slots.now.items) c.args.names.now c.requires.roomy)

pub put_in-requires-clause-within : goal.put_in-requires-clause-within
put_in-requires-clause-within g c =
    let o = c.args.object.now in
    let naming = g.met.O.PartObject.named o c.args.call.now c.requires.named in
    let slots = c.args.slots.now.items in
    let count = whole-length slots c.requires.whole ∙ good-count (g.O.PartObject.good o) (g.O.PartObject.count o) (present slots) c.requires.good in
    let left = ap length c.take_out.ensures.left ∙ (length-emptied slots c.args.names.now ∙ count) in
    subst (λ (k : ℕ). All (λ n. n < k) c.args.names.now) (sym left)
    (subst (All (λ n. n < g.O.PartObject.count o)) (sym c.requires.names) (all_below 0 (g.O.PartObject.count o) ((g.O.PartObject.meaning o).names c.args.call.now) naming.ascend))

pub put_in-requires-clause-as_many : goal.put_in-requires-clause-as_many
put_in-requires-clause-as_many g c =
    let o = c.args.object.now in
    good-length (g.O.PartObject.good o) ((g.O.PartObject.meaning o).names c.args.call.now) c.apply-result.new.parts.items c.apply-result.ensures.good ∙ ap length (sym c.requires.names)

filled : (g : given.Over) (c : goal.After-put_in g)
    → c.put_in.new.slots.items ≡ map Some (put_back (present c.args.slots.now.items) ((g.O.PartObject.meaning c.args.object.now).names c.args.call.now) c.apply-result.new.parts.items)
filled g c =
    let o = c.args.object.now in
    let named = (g.O.PartObject.meaning o).names c.args.call.now in
    let naming = g.met.O.PartObject.named o c.args.call.now c.requires.named in
    let is = c.put_in.ensures ∙ (ap (λ xs. put_back xs c.args.names.now (map Some c.apply-result.new.parts.items)) c.take_out.ensures.left
    ∙ ap (λ ns. put_back (emptied c.args.slots.now.items ns) ns (map Some c.apply-result.new.parts.items)) c.requires.names) in
    now_filled c.args.slots.now.items c.put_in.new.slots.items 0 (g.O.PartObject.count o) named c.apply-result.new.parts.items c.requires.whole naming.ascend
    (good-length (g.O.PartObject.good o) named c.apply-result.new.parts.items c.apply-result.ensures.good) is

pub returns-clause-whole : goal.returns-clause-whole
returns-clause-whole g c = filled-whole c.put_in.new.slots.items _ (filled g c)

pub returns-clause-meant : goal.returns-clause-meant
returns-clause-meant g c =
    let o = c.args.object.now in
    let m = g.O.PartObject.meaning o in
    let parts = present c.args.slots.now.items in
    let named = m.names c.args.call.now in
    let naming = g.met.O.PartObject.named o c.args.call.now c.requires.named in
    let count = good-count (g.O.PartObject.good o) (g.O.PartObject.count o) parts c.requires.good in
    let were = c.take_out.ensures.named ∙ ap (picked parts) c.requires.names in
    subst (λ ps. AnswersInPlace (whole m parts c.args.call.now) parts ps c.apply-result.result) (sym (filled-present c.put_in.new.slots.items _ (filled g c)))
    (answers_whole (g.O.PartObject.refuses_first o) m parts c.apply-result.new.parts.items c.args.call.now 0 c.apply-result.result c.requires.named
    (subst (λ (k : ℕ). AscendBetween 0 k named) (sym count) naming.ascend)
    (subst (λ ps. AnswersCall (g.O.PartObject.refuses_first o) (m.applied ps c.args.call.now) ps c.apply-result.new.parts.items c.apply-result.result) were c.apply-result.ensures.meant))

pub returns-clause-good : goal.returns-clause-good
returns-clause-good g c =
    let o = c.args.object.now in
    let named = (g.O.PartObject.meaning o).names c.args.call.now in
    subst (AreGood (g.O.PartObject.good o) (numbers 0 (g.O.PartObject.count o))) (sym (filled-present c.put_in.new.slots.items _ (filled g c)))
    (good_put_back (g.O.PartObject.good o) (g.O.PartObject.count o) (present c.args.slots.now.items) named c.apply-result.new.parts.items c.requires.good c.apply-result.ensures.good)
