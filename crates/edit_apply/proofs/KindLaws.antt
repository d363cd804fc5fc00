-- What each track of a room shows at a point of its history it showed before, or it suits the track's kind.
use Rattle.std.proofs.Common.{◌≡◌, ◌⊎◌, inl, inr, ℕ, true, List, [], ◌∷◌, All, fold, Option, Some, None, Ok, Err, slice_get, sym, ◌∙◌, arith, subst}
use Rattle.frame_meaning.specs.declared.cells.What.{What}
use Rattle.composables.specs.declared.media.Table.{Table}
use Rattle.composables.specs.declared.refusals.Refusal.{Refusal}
use Rattle.composables.specs.Answers.{Applied}
use Rattle.composables.specs.TrackState.{TrackState}
use Rattle.edit_insert.specs.Sources.{suits}
use Rattle.room_core.specs.declared.entry.Entry.{Entry}
use Rattle.room_core.specs.History.{after_entry, replay, state_in}
use Rattle.room_core.specs.Whole.{on_whole, picked, unless_refused, whole}
use Rattle.room_core.proofs.WholeParts.{roomy_picked}
use Rattle.track_laws.specs.Shown.{IsShownOn}
use Rattle.track_laws.proofs.ShownLaws.{may-of-shown, shown-of-may}
use Rattle.track_laws.proofs.ShownTracks.{AreShown, IsShown, shown-dissolve, shown-extract, shown-fill, shown-insert, shown-link, shown-overwrite, shown-remove, shown-ripple, shown-roll, shown-slice, shown-slide, shown-slip, shown-trim, shown-undissolve, shown-unlink}
use Rattle.edit_calls.specs.declared.asks.Call.{Call}
use Rattle.edit_calls.specs.declared.asks.Call.TheVariants as call
use Rattle.edit_apply.specs.Apply.{applied_on, editing, names_of, refuse_names_of}
use Rattle.edit_apply.specs.RoomyLaws.{all-put, no_state}
use Rattle.edit_apply.specs.TogetherLaws.{RoomsSuitTheirKinds}

-- where all that suits a track's kind may be shown there
module _ (table : Table) (May : ℕ → What → Type 0) (may : (n : ℕ) (what : What) → suits (slice_get table.kinds n) what ≡ true → May n what) where
  shown_applied : (named : List TrackState) (c : Call) → All (IsShown May) named → AreShown May (applied_on table named c)
  shown_applied named (call.Overwrite c) h = shown-overwrite May table named c (may c.track c.what) h
  shown_applied named (call.Insert c) h = shown-insert May table named c (may c.track c.what) h
  shown_applied named (call.Remove c) h = shown-remove May named c h
  shown_applied named (call.Extract c) h = shown-extract May named c h
  shown_applied named (call.Slice c) h = shown-slice May named c h
  shown_applied named (call.Dissolve c) h = shown-dissolve May table named c h
  shown_applied named (call.Undissolve c) h = shown-undissolve May named c h
  shown_applied named (call.Trim c) h = shown-trim May table named c h
  shown_applied named (call.Slip c) h = shown-slip May table named c h
  shown_applied named (call.Roll c) h = shown-roll May table named c h
  shown_applied named (call.Slide c) h = shown-slide May table named c h
  shown_applied named (call.Fill c) h = shown-fill May table named c (may c.track c.what) h
  shown_applied named (call.Ripple c) h = shown-ripple May table named c h
  shown_applied named (call.Link3 c) h = shown-link May named c h
  shown_applied named (call.Unlink c) h = shown-unlink May named c h

  shown_whole : (ts : List TrackState) (names : List ℕ) (why : Option Refusal) (r : Applied) → All (IsShown May) ts → AreShown May r
      → AreShown May (unless_refused why (on_whole ts names r))
  shown_whole ts names (Some why) r h k = tt
  shown_whole ts names None (Ok (us, d)) h k = all-put (IsShown May) ts names us h k
  shown_whole ts names None (Err r) h k = tt

  shown_call : (ts : List TrackState) (c : Call) → All (IsShown May) ts → AreShown May (whole (editing table) ts c)
  shown_call ts c h =
      shown_whole ts (names_of c) (refuse_names_of table c) (applied_on table (picked ts (names_of c)) c) h
      (shown_applied (picked ts (names_of c)) c (roomy_picked (IsShown May) ts (names_of c) h))

  pub rooms-shown : (ps qs : List TrackState) (es : List (Entry Call)) → All (IsShown May) ps → replay (whole (editing table)) ps es ≡ Some qs → All (IsShown May) qs
  rooms-shown ps qs [] h comes = let same : ps ≡ qs = Prim.grind (arith, comes) in subst (All (IsShown May)) same h
  rooms-shown ps qs (e ∷ es) h comes = by (whole (editing table) ps e.call) (shown_call ps e.call h) comes (λ us. rooms-shown us qs es) where
    by : (r : Applied) → AreShown May r → fold (after_entry (whole (editing table))) (state_in r) es ≡ Some qs
        → ((us : List TrackState) → All (IsShown May) us → replay (whole (editing table)) us es ≡ Some qs → All (IsShown May) qs) → All (IsShown May) qs
    by (Ok (us, d)) k cs later = later us k cs
    by (Err why) k cs later = let none = sym (no_state (whole (editing table)) es) ∙ cs in absurd (Prim.grind (arith, none))

pub rooms-suit : RoomsSuitTheirKinds
rooms-suit table ps qs es n what comes shown =
    may-of-shown (λ (m : ℕ) (w : What). IsShownOn ps m w ⊎ (suits (slice_get table.kinds m) w ≡ true)) qs n what
    (rooms-shown table (λ (m : ℕ) (w : What). IsShownOn ps m w ⊎ (suits (slice_get table.kinds m) w ≡ true)) (λ m w s. inr s) ps qs es
    (shown-of-may (λ (m : ℕ) (w : What). IsShownOn ps m w ⊎ (suits (slice_get table.kinds m) w ≡ true)) ps (λ m w k. inl k)) comes) shown
