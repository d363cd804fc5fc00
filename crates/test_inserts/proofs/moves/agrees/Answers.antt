use Rattle.test_inserts.proofs.TestTracks.{three-numbers}
use Rattle.test_inserts.proofs.moves.agrees.Goals as goal

pub edited-requires-clause-named : goal.edited-requires-clause-named
edited-requires-clause-named g c =
    three-numbers c.in_ok-named.named.items c.in-Some.a c.in-Some-2.b c.in-Some-3.c c.in_ok-named.ensures
    (rw c.in-Some.is at c.in_ok-a.ensures.number) (rw c.in-Some-2.is at c.in_ok-b.ensures.number) (rw c.in-Some-3.is at c.in_ok-c.ensures.number)
