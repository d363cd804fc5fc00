use Rattle.std.proofs.Common.{sym, subst}
use Rattle.std.specs.Str.{IsUtf8}
use Rattle.list_import.proofs.ReelFacts.{name_is_text}
use Rattle.list_import.proofs.naming.text_of.Goals as goal

pub unreachable-requires : goal.unreachable-requires
unreachable-requires c = c.in-Err.ensures.cases.0 (subst IsUtf8 (sym c.as_bytes.ensures.text) (name_is_text c.args.name.now c.as_bytes.ensures.name))
