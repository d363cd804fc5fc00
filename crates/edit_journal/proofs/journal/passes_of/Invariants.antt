use Rattle.std.proofs.Common.{◌≡◌, ◌<◌, ◌≤◌, ℕ, []}
use Rattle.edit_journal.specs.declared.name.Name.TheVariants.{Station}
use Rattle.edit_journal.specs.Seats.{In}
use Rattle.edit_journal.specs.Turns.{AreFresh}
use Rattle.edit_journal.proofs.journal.passes_of.Given as goal

abbrev pub invariant-loop-station : goal.invariant-loop-station
invariant-loop-station g l = record {
  fresh : AreFresh g.J.Naming.opening l.station l.passes.items;
  names : (n : ℕ) → l.station ≤ n → n < l.stations → In (Station n) l.log.0.names;
  opening : l.log.0.opening ≡ g.J.Naming.opening;
  entries : l.log.0.entries ≡ [];
  within : l.station ≤ l.stations;
}
