use Rattle.composables.specs.Good.{IsGood}
use Rattle.test_inserts.proofs.TestTracks.{three-all, three-numbers}
use Rattle.test_inserts.proofs.paged_links.played.Goals as goal

pub put_in-requires-clause-named : goal.put_in-requires-clause-named
put_in-requires-clause-named g c =
    three-numbers c.in_ok-named.named.items c.in-Some.a c.in-Some-2.b c.in-Some-3.c c.in_ok-named.ensures
    (rw c.in-Some.is at c.in_ok-a.ensures.number) (rw c.in-Some-2.is at c.in_ok-b.ensures.number) (rw c.in-Some-3.is at c.in_ok-c.ensures.number)

pub put_in-requires-clause-good : goal.put_in-requires-clause-good
put_in-requires-clause-good g c =
    three-all (IsGood c.in_ok-table.table) c.in_ok-named.named.items c.in-Some.a c.in-Some-2.b c.in-Some-3.c c.in_ok-named.ensures
    (rw c.in-Some.is at c.in_ok-a.ensures.good) (rw c.in-Some-2.is at c.in_ok-b.ensures.good) (rw c.in-Some-3.is at c.in_ok-c.ensures.good)
