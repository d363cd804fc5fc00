-- Files between two moments, and from one to a third.
use Rattle.std.proofs.Common.{◌∙◌, subst}
use Rattle.room_files.specs.Files.{Content, FilesTold, Untold, Missing, Bytes, IsUnchanged}
use Rattle.command_files.specs.Unopened.{OnlyRead}

pub unchanged_then : (a b c : Content) → IsUnchanged a b → IsUnchanged b c → IsUnchanged a c
unchanged_then a b Untold x y = tt
unchanged_then a b Missing x y = subst (λ (d : Content). IsUnchanged a d) y x
unchanged_then a b (Bytes all) x y = subst (λ (d : Content). IsUnchanged a d) y x

-- read, and then read again
pub read_then : (a b c : FilesTold) → OnlyRead a b → OnlyRead b c → OnlyRead a c
read_then a b c x y = ((λ name. unchanged_then (a.file name) (b.file name) (c.file name) (x.0 name) (y.0 name)), y.1 ∙ x.1)
