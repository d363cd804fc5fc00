-- What an import gives to its document: it has tracks, so its document opens again as the same cut.
use Rattle.std.proofs.Common.{◌≡◌, ℕ, ◌<◌, ◌≤◌, List, [], ◌∷◌, length, Err, inl, inr, refl, arith, subst}
use Rattle.timecode12.specs.Numbers.{Counted}
use Rattle.composables.specs.TrackState.{TrackState}
use Rattle.edl_events.specs.declared.event.Event.{Event}
use Rattle.otio_tracks.specs.ReelTexts.{AreTexts}
use Rattle.otio_json.specs.Soundness.{IsSoundOpening}
use Rattle.otio_json.specs.declared.opening.Opening.{Opening}
use Rattle.otio_text.specs.Documents.{Writes}
use Rattle.otio_text.specs.declared.writing.WriteFault.{WriteFault}
use Rattle.otio_text.specs.declared.writing.WriteFault.TheVariants.{TooLarge}
use Rattle.otio_laws.specs.Meanings.{OpensAs, line_of_cut}
use Rattle.otio_laws.proofs.CutBack.{line_is_read_again}
use Rattle.otio_laws.proofs.SoundOpenings.{openings_are_sound_cuts}
use Rattle.list_import.specs.declared.shots.Shot.{Shot}
use Rattle.list_import.specs.Imports.{Imports, start_of}
use Rattle.list_import.specs.ListReels.{shots_of}
use Rattle.list_import.specs.Refusals.{IsAllowed}
use Rattle.list_import.specs.ShownLists.{ShowsTheTape}
use Rattle.list_import.specs.TrackItems.{AreTracksOf}
use Rattle.command_files.specs.declared.status.Status.{Status}
use Rattle.command_files.specs.Ports.{Change, OutputTold}
use Rattle.list_commands.specs.Imports.{EventsEnd, OpeningEnds, long_line}

-- a text that was not written since it is too long
pub too_long : (o : Opening) (f : WriteFault) → f ≡ TooLarge → Writes (line_of_cut o) (Err f) → 33554432 < length (line_of_cut o)
too_long o f e w = long
  where
    long : Writes (line_of_cut o) (Err TooLarge)
    long = subst (λ (x : WriteFault). Writes (line_of_cut o) (Err x)) e w

has_tracks : (start : ℕ) (shots : List Shot) (ts : List TrackState) → AreTracksOf start shots ts → 0 < length ts
has_tracks start shots [] are = absurd are
has_tracks start shots (t ∷ ts) are = omega arith

-- an opening that a list is
module _ (events : List Event) (counting : Counted) (o : Opening) (imports : Imports events counting o) (sound : IsSoundOpening o) (texts : AreTexts o.table.reels) where
  opens_again : length (line_of_cut o) ≤ 33554432 → OpensAs o (line_of_cut o)
  opens_again within =
      line_is_read_again o (openings_are_sound_cuts o sound) texts (has_tracks (start_of events) (shots_of events) o.tracks imports.tracks) within

  pub events_end : (output : Change OutputTold) (s : Status) → IsAllowed events counting o → ShowsTheTape events o → OpeningEnds o output s → EventsEnd events counting output s
  events_end output s allowed shows (inl put) =
      inl (record { opening = o; imports = imports; allowed = allowed; shows = shows; within = put.0; again = opens_again put.0; put = put.1 })
  events_end output s allowed shows (inr (inl long)) =
      inr (inl (record { line = long_line; why = inr (o, imports, allowed, long.0, refl); put = long.1 }))
  events_end output s allowed shows (inr (inr memory)) = inr (inr memory)
