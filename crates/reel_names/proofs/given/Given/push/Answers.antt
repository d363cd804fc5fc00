use Rattle.reel_names.proofs.GivenNames.{names_more}
use Rattle.reel_names.proofs.given.Given.push.Goals as goal

pub invariant_of-self-2 : goal.invariant_of-self-2
invariant_of-self-2 c =
    rw c.in_ok-push.ensures.items
    (names_more c.self.inside.names.items (record { reel = c.args.reel; name = c.args.name }) c.self.invariant c.requires.fits (rw (← c.self.view_is) at c.requires.reel) (rw (← c.self.view_is) at c.requires.name))

pub returns-clause-names : goal.returns-clause-names
returns-clause-names c =
    rw c.in_ok-push.ensures.items
    (names_more c.self.inside.names.items (record { reel = c.args.reel; name = c.args.name }) c.self.invariant c.requires.fits (rw (← c.self.view_is) at c.requires.reel) (rw (← c.self.view_is) at c.requires.name))
