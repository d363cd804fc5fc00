use Rattle.std.proofs.Common.{◌≡◌, ℕ, ◌-◌, [], ◌∷◌, length, subst, ap, ◌∙◌, arith}
use Rattle.std.proofs.lemmas.List.{length-append}
use Rattle.edit_journal.specs.Turns.{AreFresh}
use Rattle.cut_room.proofs.Stations.{fresh_fewer}
use Rattle.stored_rooms.proofs.remaking.without_reader.Goals as goal

pub returns-clause-fewer : goal.returns-clause-fewer
returns-clause-fewer g c =
    let items = rw c.in-Some.is at c.pop.ensures.items in
    let count = ap length items ∙ length-append c.pop.new.self.items (c.in-Some.reader ∷ []) in
    let same : length c.args.passes.items - 1 ≡ length c.pop.new.self.items = omega (arith, count) in
    subst (λ (n : ℕ). AreFresh g.J.Naming.opening n c.pop.new.self.items) same
    (fresh_fewer g.J.Naming.opening (length c.args.passes.items) c.args.passes.items c.pop.new.self.items c.in-Some.reader c.requires.fresh c.requires.some items).0

pub returns-clause-number : goal.returns-clause-number
returns-clause-number g c =
    let items = rw c.in-Some.is at c.pop.ensures.items in
    let count = ap length items ∙ length-append c.pop.new.self.items (c.in-Some.reader ∷ []) in
    let number = (fresh_fewer g.J.Naming.opening (length c.args.passes.items) c.args.passes.items c.pop.new.self.items c.in-Some.reader c.requires.fresh c.requires.some items).1 in
    omega (arith, count, number)
