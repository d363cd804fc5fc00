use Rattle.std.proofs.Common.{◌≡◌, ◌<◌, ◌≤◌, ℕ, []}
use Rattle.edit_journal.specs.declared.name.Name.TheVariants.{Part, Station}
use Rattle.edit_journal.specs.Seats.{In}
use Rattle.edit_journal.specs.Turns.{AreFresh}
use Rattle.edit_journal.proofs.journal.seats_of.Given as goal

abbrev pub invariant-loop-part : goal.invariant-loop-part
invariant-loop-part g l = record {
  fresh : AreFresh g.J.Naming.opening l.part l.seats.items;
  names : (n : ℕ) → l.part ≤ n → n < l.parts → In (Part n) l.log.0.names;
  stations : (n : ℕ) → In (Station n) l.fn.log.0.names → In (Station n) l.log.0.names;
  opening : l.log.0.opening ≡ g.J.Naming.opening;
  entries : l.log.0.entries ≡ [];
  within : l.part ≤ l.parts;
}
