use Rattle.std.proofs.Common.{◌++◌, ◌∷◌, [], sym, ap, ◌∙◌, append_assoc, arith}
use Rattle.std.proofs.lemmas.List.{append-nil, nil_from_length}
use Rattle.std.specs.Vec.Iter.{into_iter_items}
use Rattle.edit_journal.proofs.Fresh.{stands_more}
use Rattle.edit_journal.proofs.journal.take_all_back.Goals as goal

pub loop-pass-preserved : goal.loop-pass-preserved
loop-pass-preserved g c =
    let all = c.loop-pass.yielded in
    let i = c.loop-pass.invariant in
    record {
      stands = rw c.take_back.ensures.entries (stands_more g.O.PartObject.meaning g.J.Naming.opening c.loop-pass.log.0.entries all c.in-Some.pass i.stands c.take_back.ensures.agrees);
      so_far = append_assoc all (c.in-Some.pass ∷ []) (into_iter_items c.next.new.self) ∙ (ap (λ ps. all ++ ps) (sym c.in-Some.ensures.steps.0) ∙ i.so_far);
    }

pub returns : goal.returns
returns g c =
    let all = c.loop-pass.yielded in
    let none = nil_from_length (into_iter_items c.loop-pass.pass-iterator) (omega (arith, c.in-None.ensures.steps.0, c.loop-pass.pass-iterator.rest.ok)) in
    let whole = sym (append-nil all) ∙ (ap (λ ps. all ++ ps) (sym none) ∙ c.loop-pass.invariant.so_far) in
    record { agree = rw (← whole) c.loop-pass.invariant.stands }
