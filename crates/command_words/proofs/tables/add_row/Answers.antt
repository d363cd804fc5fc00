use Rattle.std.proofs.Common.{◌≡◌, Some, None, List, ℕ, cond, ap, ◌∙◌}
use Rattle.reel_names.specs.Names.{is_reel_name}
use Rattle.reel_names.specs.Tables.{NamedText}
use Rattle.command_words.specs.Names.{row_of}
use Rattle.command_words.proofs.NameRows.{named, row_fits}
use Rattle.command_words.proofs.tables.add_row.Goals as goal

pub unwrap-name-requires : goal.unwrap-name-requires
unwrap-name-requires c =
    let row = row_of c.args.word.now in
    let text : row.name ≡ c.row_in.result.1.now = ap (λ (r : NamedText). r.name) c.row_in.ensures in
    let fits = (row_fits c.args.namer.now.table row c.requires).0 in
    named c.of.result c.row_in.result.1.now (c.of.ensures ∙ ap (λ (t : List ℕ). cond (is_reel_name t) (Some t) None) c.as_bytes.ensures.value) (rw text at fits)
