use Rattle.std.proofs.Common.{List, [], ◌∷◌, ◌++◌, sym, ap, ◌∙◌, arith}
use Rattle.reel_names.specs.Tables.{NamedText, TableAndNames}
use Rattle.command_words.specs.Names.{row_of, word_fault}
use Rattle.command_words.proofs.NameRows.{row_taken, rows_next}
use Rattle.command_words.proofs.tables.table_in.Goals as goal

abbrev with_rows : List NamedText → TableAndNames
with_rows rows = record { table = rows; given = [] }

abbrev added : TableAndNames → NamedText → TableAndNames
added t row = record { table = t.table ++ row ∷ []; given = t.given }

pub add_row-requires : goal.add_row-requires
add_row-requires c =
    let free = row_taken c.args.words.now c.loop-i.i c.word.result.now c.loop-i.invariant.within.0 c.word.ensures c.loop-i.invariant.rows in
    ap (λ (t : TableAndNames). word_fault t.table (row_of c.word.result.now)) c.loop-i.invariant.namer ∙ free.0

pub loop-i-preserved : goal.loop-i-preserved
loop-i-preserved c =
    let free = row_taken c.args.words.now c.loop-i.i c.word.result.now c.loop-i.invariant.within.0 c.word.ensures c.loop-i.invariant.rows in
    record {
      within = (omega (arith, c.loop-i.invariant.within.0), omega (arith, c.loop-i-test.true, c.count-i-end.ensures));
      namer =
          c.in_ok-add_row.ensures
          ∙ (ap (λ (t : TableAndNames). added t (row_of c.word.result.now)) c.loop-i.invariant.namer
          ∙ ap with_rows (sym (rows_next c.args.words.now c.loop-i.i c.word.result.now c.loop-i.invariant.within.0 c.word.ensures)));
      rows = free.1;
    }
