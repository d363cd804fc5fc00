use Rattle.std.proofs.Common.{◌≡◌, ◌++◌, All}
use Rattle.std.specs.Vec.Iter.{into_iter_items}
use Rattle.edit_journal.specs.declared.name.Name.TheVariants.{Station}
use Rattle.edit_journal.specs.Turns.{StandsIn}
use Rattle.edit_journal.proofs.journal.take_all_back.Given as goal

abbrev pub invariant-loop-pass : goal.invariant-loop-pass
invariant-loop-pass g l = record {
  stands : All (λ p. StandsIn g.O.PartObject.meaning g.J.Naming.opening l.log.0.entries (Station p.number) p.entries) l.yielded;
  so_far : l.yielded ++ into_iter_items l.pass-iterator ≡ l.fn.passes.items;
}
