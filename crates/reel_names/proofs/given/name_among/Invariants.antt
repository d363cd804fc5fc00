use Rattle.std.proofs.Common.{◌≡◌, drop}
use Rattle.reel_names.specs.Namers.{name_of}
use Rattle.reel_names.proofs.given.name_among.Given as goal

abbrev pub invariant-loop-named : goal.invariant-loop-named
invariant-loop-named l = name_of (drop l.named-index l.names) l.reel ≡ name_of l.names l.reel
