-- What is true of every cut and its text.
use Rattle.std.specs.Prelude.{◌≡◌, ◌<◌, ◌≤◌, ℕ, List, ◌++◌, length, Ok, codes}
use Rattle.json_tree.specs.Tree.{Tree}
use Rattle.json_tree.specs.Sound.{SpellsAgain}
use Rattle.otio_tracks.specs.ReelTexts.{AreTexts}
use Rattle.otio_text.specs.Documents.{timeline_text}
use Rattle.otio_laws.specs.SoundCuts.{IsSoundCut}
use Rattle.otio_json.specs.declared.opening.Opening.{Opening}
use Rattle.otio_json.specs.Timelines.{document_read}
use Rattle.otio_laws.specs.CutTrees.{timeline_tree}
use Rattle.otio_laws.specs.SameCut.{SameCut}

-- the text of the cut
abbrev pub text_of_cut : Opening → List ℕ
text_of_cut o = timeline_text o.table o.tracks o.counting o.start

abbrev pub tree_of_cut : Opening → Tree
tree_of_cut o = timeline_tree o.table o.tracks o.counting o.start

-- The text of a sound cut is JSON with at most 64 levels, which spells the tree of the cut, places aside.
abbrev pub WrittenIsSpelled : Type 0
WrittenIsSpelled = (o : Opening) → IsSoundCut o → AreTexts o.table.reels → SpellsAgain 64 (text_of_cut o) (tree_of_cut o)

-- a text is opened at the counting of a cut as the same cut
abbrev pub OpensAs : Opening → List ℕ → Type 0
OpensAs o bytes = (p : Opening) × (document_read o.counting bytes ≡ Ok p) × SameCut o p

-- the text of a cut with a track, if it has at most 32 MiB, is opened at the same counting as the same cut
abbrev pub IsReadAgain : Opening → Type 0
IsReadAgain o = 0 < length o.tracks → length (text_of_cut o) ≤ 33554432 → OpensAs o (text_of_cut o)

-- The text of each sound cut is.
abbrev pub WrittenIsReadAgain : Type 0
WrittenIsReadAgain = (o : Opening) → IsSoundCut o → AreTexts o.table.reels → IsReadAgain o

-- the text of the cut as a file has it: a line
abbrev pub line_of_cut : Opening → List ℕ
line_of_cut o = text_of_cut o ++ codes "\n"

-- and so is its line, if that has at most 32 MiB
abbrev pub LineIsReadAgain : Type 0
LineIsReadAgain =
    (o : Opening) → IsSoundCut o → AreTexts o.table.reels → 0 < length o.tracks → length (line_of_cut o) ≤ 33554432 → OpensAs o (line_of_cut o)
