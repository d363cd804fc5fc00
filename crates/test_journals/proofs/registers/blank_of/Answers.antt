use Rattle.test_counters.specs.RegisterLaws.{zeros_open}
use Rattle.test_journals.proofs.registers.blank_of.Goals as goal

pub new-blank-requires-clause-opens : goal.new-blank-requires-clause-opens
new-blank-requires-clause-opens c = rw (c.in_ok-parts.ensures.items_if_clones_equal (λ y h. h)) (zeros_open c.args.count c.requires.0 c.requires.1)
