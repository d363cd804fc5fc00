use Rattle.std.proofs.Common.{◌≡◌, drop, Ok}
use Rattle.edl_write.specs.Naming.{naming, no_names, reels_of_all}
use Rattle.edl_write.specs.NamingSteps.{AreUsed, names_at}
use Rattle.edl_write.proofs.naming.names_of.Given as goal

abbrev pub invariant-loop-event : goal.invariant-loop-event
invariant-loop-event g l = record {
  rule : (goal.ReelNamer-dyn g l.namer.now).rule l.namer.now.1 ≡ (goal.ReelNamer-dyn g l.fn.namer.now).rule l.fn.namer.now.1;
  used : AreUsed ((goal.ReelNamer-dyn g l.namer.now).given l.namer.now.1) l.used;
  so_far : naming ((goal.ReelNamer-dyn g l.namer.now).rule l.namer.now.1) l.reels (Ok (names_at ((goal.ReelNamer-dyn g l.namer.now).given l.namer.now.1) l.used)) (reels_of_all (drop l.event-index l.events))
      ≡ naming ((goal.ReelNamer-dyn g l.fn.namer.now).rule l.fn.namer.now.1) l.reels (Ok (no_names ((goal.ReelNamer-dyn g l.fn.namer.now).given l.fn.namer.now.1))) (reels_of_all l.events);
}
