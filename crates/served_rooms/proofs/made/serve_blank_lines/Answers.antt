use Rattle.std.proofs.Common.{ℕ, subst, sym}
use Rattle.edit_journal.specs.Turns.{AreFresh}
use Rattle.served_rooms.proofs.made.serve_blank_lines.Goals as goal

pub serve_lines-requires-clause-passes : goal.serve_lines-requires-clause-passes
serve_lines-requires-clause-passes g c κs within =
    subst (λ (n : ℕ). AreFresh g.J.Naming.opening n c.in-Ok.passes.items) (sym c.in-Ok.ensures.stations) c.in-Ok.ensures.passes
