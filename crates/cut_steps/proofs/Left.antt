-- What is left of a room's steps, by the law of any object whose calls can be taken back.
use Rattle.std.proofs.Common.{◌≡◌, ℕ, List, [], ◌∷◌, All, Some, None, refl, ap, sym, subst}
use Rattle.std.proofs.lemmas.List.Elements.{All-nil, All-cons}
use Rattle.composables.specs.declared.media.Table.{Table}
use Rattle.composables.specs.TrackState.{TrackState}
use Rattle.cut_steps.specs.CutSteps.{CutStep, KeptTrack, fresh_tracks, left_edits, stepping}
use Rattle.cut_steps.specs.CutLaws.{CutsAreLeft, LeftIsLegal}
use Rattle.edit_apply.specs.Apply.{editing, track_count}
use Rattle.edit_apply.specs.NamingLaws.{editing-named, editing-opens}
use Rattle.edit_apply.specs.RoomTracks.{IsOpening, IsTrackOf}
use Rattle.room_core.specs.History.{IsLegal, replay}
use Rattle.room_core.specs.Whole.{whole}
use Rattle.room_core.specs.declared.entry.Entry.{Entry}
use Rattle.room_core.specs.Parts.{AreGood}
use Rattle.take_back.specs.Parts.{CanOpen, IsGoodKept, fresh, nows}
use Rattle.take_back.specs.RoomyLaws.{left-comes, left-legal}

-- fresh tracks are those tracks
pub nows_fresh : (tracks : List TrackState) → nows (fresh_tracks tracks) ≡ tracks
nows_fresh [] = refl
nows_fresh (t ∷ ts) = ap (λ xs. t ∷ xs) (nows_fresh ts)

abbrev IsFresh : KeptTrack → Type 0
IsFresh k = k.before ≡ None

all_fresh : (tracks : List TrackState) → All IsFresh (fresh_tracks tracks)
all_fresh [] = All-nil IsFresh
all_fresh (t ∷ ts) = All-cons IsFresh (fresh t) (fresh_tracks ts) refl (all_fresh ts)

-- a history of a room can begin with them
pub can_open : (table : Table) (tracks : List TrackState) → IsOpening table tracks → CanOpen (IsOpening table) (fresh_tracks tracks)
can_open table tracks opens = (subst (IsOpening table) (sym (nows_fresh tracks)) opens, all_fresh tracks)

-- good tracks that are kept are good as they are now, and fresh ones are good where the tracks are
pub good_nows : (table : Table) (ns : List ℕ) (ks : List KeptTrack) → AreGood (IsGoodKept (IsTrackOf table)) ns ks → AreGood (IsTrackOf table) ns (nows ks)
good_nows table [] [] good = tt
good_nows table [] (k ∷ ks) good = absurd good
good_nows table (n ∷ ns) [] good = absurd good
good_nows table (n ∷ ns) (k ∷ ks) good = (good.0.0, good_nows table ns ks good.1)

pub good_fresh : (table : Table) (ns : List ℕ) (ts : List TrackState) → AreGood (IsTrackOf table) ns ts → AreGood (IsGoodKept (IsTrackOf table)) ns (fresh_tracks ts)
good_fresh table [] [] good = tt
good_fresh table [] (t ∷ ts) good = absurd good
good_fresh table (n ∷ ns) [] good = absurd good
good_fresh table (n ∷ ns) (t ∷ ts) good = ((good.0, tt), good_fresh table ns ts good.1)

pub cuts_are_left : CutsAreLeft
cuts_are_left table tracks entries kept opens comes =
    subst (λ (ts : List TrackState). replay (whole (editing table)) ts (left_edits entries) ≡ Some (nows kept)) (nows_fresh tracks)
    (left-comes (editing table) (IsTrackOf table) (track_count table) (IsOpening table) (fresh_tracks tracks) kept entries
    (editing-named table) (editing-opens table) (can_open table tracks opens) comes)

pub left_is_legal : LeftIsLegal
left_is_legal table tracks entries kept opens legal comes =
    subst (λ (ts : List TrackState). IsLegal (whole (editing table)) ts (left_edits entries)) (nows_fresh tracks)
    (left-legal (editing table) (IsTrackOf table) (track_count table) (IsOpening table) (fresh_tracks tracks) kept entries
    (editing-named table) (editing-opens table) (can_open table tracks opens) legal comes)
