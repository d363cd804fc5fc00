use Rattle.test_texts.proofs.Pushed.{IsRow}
use Rattle.test_texts.proofs.editor.track_of_items.Given as goal

abbrev pub invariant-loop-number : goal.invariant-loop-number
invariant-loop-number l = IsRow l.number l.track
