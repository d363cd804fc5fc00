-- A cut that was written is read again as the same cut.
use Rattle.std.proofs.Common.{◌≡◌, ℕ, suc, ◌+◌, ◌^◌, ◌<◌, ◌≤◌, true, false, ◌&&◌, pos, List, [], ◌∷◌, ◌++◌, length, Ok, inl, inr, refl, sym, ap, subst, ◌∙◌, arith, if◌then◌else◌}
use Rattle.std.specs.Prelude.{codes}
use Rattle.std.proofs.lemmas.Bool.{le-leb, lt-ltb}
use Rattle.std.proofs.lemmas.List.{append-nil}
use Rattle.timecode12.specs.Numbers.{Counted}
use Rattle.timecode12.specs.declared.rate.SequenceRate.{SequenceRate}
use Rattle.timecode12.specs.Labels.{day_of}
use Rattle.composables.specs.declared.media.Table.{Table}
use Rattle.composables.specs.TrackState.{TrackState}
use Rattle.json_tokens.specs.Grammar.{AreBlanks}
use Rattle.json_tree.specs.Tree.{Tree, At, Null, trees, in_trees}
use Rattle.json_tree.specs.Parts.{place_of, kind_in}
use Rattle.json_tree.specs.Grammar.{Spells}
use Rattle.json_tree.specs.Sound.{IsSound, is_writable}
use Rattle.json_tree.specs.Writing.{tree_text}
use Rattle.json_tree.proofs.WriteLaws.{placed, placed_trees, tree_spelled}
use Rattle.json_tree.proofs.AgainLaws.{document_again}
use Rattle.otio_tracks.specs.declared.faults.DocCode.TheVariants.{O10, O11}
use Rattle.otio_tracks.specs.Reading.{refuse}
use Rattle.otio_tracks.specs.Values.{is_null, needed, expected}
use Rattle.otio_tracks.specs.Times.{frame_read}
use Rattle.otio_laws.specs.SoundCuts.{IsSoundCut}
use Rattle.otio_laws.proofs.DeepTracks.{tracks_deep}
use Rattle.otio_json.specs.declared.opening.Opening.{Opening}
use Rattle.otio_tracks.specs.Clips.{empty_table}
use Rattle.otio_tracks.specs.ReelTexts.{AreTexts}
use Rattle.otio_json.specs.Timelines.{rate_counted, in_day, start_if, start_read, untrimmed, tracks_read, opened, sequence_read, timeline_read, json_read, tree_read, document_read}
use Rattle.otio_laws.specs.CutTrees.{list_tree, time_tree, stack_of_tracks, timeline_of, track_trees}
use Rattle.otio_laws.specs.Meanings.{text_of_cut, tree_of_cut, LineIsReadAgain, OpensAs, WrittenIsReadAgain}
use Rattle.otio_laws.specs.SameCut.{SameCut}
use Rattle.otio_laws.proofs.CutTexts.{timeline_spelled}
use Rattle.otio_laws.proofs.CutLawful.{cut_lawful}
use Rattle.otio_laws.proofs.Spelled.{day_short, start_small}
use Rattle.otio_laws.proofs.Walk.{goes, Has, IsOf, needed_back, given_back, expected_back}
use Rattle.otio_laws.proofs.TimesBack.{not_below, frame_back}
use Rattle.otio_laws.proofs.SequenceBack.{untrimmed_back, some_kinds, tracks_back}

-- ---- the text of a timeline

timeline_is : (start : Tree) (tracks : List Tree) → IsOf (codes "Timeline.1") (timeline_of start tracks)
unfolding timeline_of
timeline_is start tracks = record { object = refl; schema = refl }

timeline_start : (start : Tree) (tracks : List Tree) → Has (codes "global_start_time") (timeline_of start tracks) start
unfolding timeline_of
timeline_start start tracks = refl

timeline_stack : (start : Tree) (tracks : List Tree) → Has (codes "tracks") (timeline_of start tracks) (stack_of_tracks tracks)
unfolding timeline_of
timeline_stack start tracks = refl

stack_is : (tracks : List Tree) → IsOf (codes "Stack.1") (stack_of_tracks tracks)
unfolding stack_of_tracks
stack_is tracks = record { object = refl; schema = refl }

stack_range : (tracks : List Tree) → Has (codes "source_range") (stack_of_tracks tracks) (At 0 Null)
unfolding stack_of_tracks
stack_range tracks = refl

stack_children : (tracks : List Tree) → Has (codes "children") (stack_of_tracks tracks) (list_tree tracks)
unfolding stack_of_tracks
stack_children tracks = refl

-- ---- the start

time_some : (r : SequenceRate) (f : ℕ) → is_null (kind_in (time_tree r f)) ≡ false
unfolding time_tree
time_some r f = refl

day_known : (c : Counted) (s at : ℕ) → s < length (day_of c) → in_day c (pos s) at ≡ Ok s
day_known c s at lt = λ i. if not_below s i then refuse O11 at else (if lt-ltb s (length (day_of c)) lt i then Ok s else refuse O11 at)

start_back : (c : Counted) (s : ℕ) (tracks : List Tree) (at : ℕ) → s < length (day_of c) → start_read c (rate_counted c) (placed at (timeline_of (time_tree c.rate s) tracks)) ≡ Ok s
unfolding start_read
start_back c s tracks at lt =
    let time = time_tree c.rate s in
    let bare = timeline_of time tracks in
    let g = given_back (codes "global_start_time") bare time at (timeline_start time tracks) (time_some c.rate s) in
    ap (start_if c (rate_counted c)) g.1
    ∙ goes (frame_read (rate_counted c) (placed g.0 time)) _ (pos s) _ (frame_back c.rate s g.0 (omega (arith, lt, day_short c))) (day_known c s (place_of (placed g.0 time)) lt)

-- ---- the whole

count_trees : (t : Table) (r : SequenceRate) (i q : ℕ) (xs : List TrackState) → length (in_trees (placed_trees q (trees (track_trees t r i xs)))) ≡ length xs
count_trees t r i q [] = refl
count_trees t r i q (x ∷ xs) = ap suc (count_trees t r (i + 1) _ xs)

sequence_known : (rate : ℕ × ℕ) (children : List Tree) (at : ℕ) → 0 < length children → length children ≤ 32 → sequence_read rate children at ≡ tracks_read rate empty_table children
sequence_known rate children at some few =
    λ i. if lt-ltb 0 (length children) some i && le-leb (length children) 32 few i then tracks_read rate empty_table children else refuse O10 at

timeline_back : (o : Opening) → IsSoundCut o → 0 < length o.tracks → (at : ℕ)
    → (p : Opening) × (timeline_read o.counting (placed at (tree_of_cut o)) ≡ Ok p) × SameCut o p
unfolding timeline_read
timeline_back o sound some at =
    let c = o.counting in
    let r = c.rate in
    let time = time_tree r o.start in
    let tracks = track_trees o.table r 0 o.tracks in
    let bare = timeline_of time tracks in
    let text = placed at bare in
    let st = needed_back (codes "tracks") bare (stack_of_tracks tracks) at (timeline_stack time tracks) in
    let stack = placed st.0 (stack_of_tracks tracks) in
    let ch = needed_back (codes "children") (stack_of_tracks tracks) (list_tree tracks) st.0 (stack_children tracks) in
    let children = in_trees (placed_trees (ch.0 + 1) (trees tracks)) in
    let count = count_trees o.table r 0 (ch.0 + 1) o.tracks in
    let b = tracks_back r o.table sound.table 0 0 o.table.kinds o.tracks empty_table [] (ch.0 + 1) (some_kinds o.table) (tracks_deep o.table sound.table 0 o.table.kinds o.tracks sound.tracks) refl in
    let new = opened c o.start (b.made, b.table) in (
      new,
      goes (expected (codes "Timeline.1") text) _ tt _ (expected_back (codes "Timeline.1") bare at (timeline_is time tracks))
          (goes (start_read c (rate_counted c) text) _ o.start _ (start_back c o.start tracks at sound.start)
          (goes (needed (codes "tracks") text) _ stack _ st.1
          (goes (expected (codes "Stack.1") stack) _ tt _ (expected_back (codes "Stack.1") (stack_of_tracks tracks) st.0 (stack_is tracks))
          (goes (untrimmed stack) _ tt _ (untrimmed_back (stack_of_tracks tracks) st.0 (stack_range tracks))
          (goes (needed (codes "children") stack) _ (placed ch.0 (list_tree tracks)) _ ch.1
          (goes (sequence_read (rate_counted c) children ch.0) _ (b.made, b.table) _
          (sequence_known (rate_counted c) children ch.0 (omega (arith, count)) (omega (arith, count, sound.few)) ∙ b.read) refl)))))),
      record { kinds = sym b.kinds; counting = refl; start = refl; tracks = b.same },
    )

-- the text, with blanks behind it, spells the tree, with its places
text_spelled : (t : Tree) (behind : List ℕ) → AreBlanks behind → is_writable t 64 ≡ true → IsSound t → Spells 64 (tree_text t ++ behind) (placed 0 t)
unfolding Spells
text_spelled t behind blanks w s = record {
  before = [];
  text = tree_text t;
  behind = behind;
  bytes_are = refl;
  blanks_before = tt;
  blanks_behind = blanks;
  value = tree_spelled t 64 0 w s;
}

tree_back : (o : Opening) (behind : List ℕ) → AreBlanks behind → IsSoundCut o → AreTexts o.table.reels → length (text_of_cut o ++ behind) ≤ 33554432
    → tree_read (text_of_cut o ++ behind) ≡ Ok (placed 0 (tree_of_cut o))
unfolding tree_read
tree_back o behind blanks sound texts fits =
    let small : o.start < 10 ^ 18 = omega (arith, start_small o sound) in
    let lawful = cut_lawful o sound texts small in
    let spelled =
    subst (λ (bytes : List ℕ). Spells 64 (bytes ++ behind) (placed 0 (tree_of_cut o))) (timeline_spelled o sound small) (text_spelled (tree_of_cut o) behind blanks lawful.writable lawful.sound)
    in
    ap json_read (document_again (text_of_cut o ++ behind) (placed 0 (tree_of_cut o)) fits spelled)

-- what is written is read again with blanks behind it
read_before : (o : Opening) (behind : List ℕ) → AreBlanks behind → IsSoundCut o → AreTexts o.table.reels → 0 < length o.tracks
    → length (text_of_cut o ++ behind) ≤ 33554432 → OpensAs o (text_of_cut o ++ behind)
unfolding document_read
read_before o behind blanks sound texts some fits =
    let b = timeline_back o sound some 0 in
    (b.0, goes (tree_read (text_of_cut o ++ behind)) _ (placed 0 (tree_of_cut o)) _ (tree_back o behind blanks sound texts fits) b.1, b.2)

pub written_is_read_again : WrittenIsReadAgain
written_is_read_again o sound texts some =
    subst (λ (bytes : List ℕ). length bytes ≤ 33554432 → OpensAs o bytes) (append-nil (text_of_cut o)) (read_before o [] tt sound texts some)

line_feed : AreBlanks (codes "\n")
line_feed = (inr (inr (inl refl)), tt)

pub line_is_read_again : LineIsReadAgain
line_is_read_again o sound texts some fits = read_before o (codes "\n") line_feed sound texts some fits
