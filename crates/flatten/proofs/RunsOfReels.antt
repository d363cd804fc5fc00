-- The maximal runs of a channel are its frames.
use Rattle.std.proofs.Common.{◌≡◌, ℕ, ◌+◌, ◌<◌, ◌^◌, Bool, true, false, cond, nat_eq, List, [], ◌∷◌, map, length, refl, sym, ap, arith, subst}
use Rattle.frame_meaning.specs.declared.frames.Frame.{Frame}
use Rattle.frame_meaning.specs.declared.frames.Run.{Run}
use Rattle.frame_meaning.specs.Going.{frame_goes_on}
use Rattle.frame_meaning.specs.Runs.{with_frame}
use Rattle.composables.specs.declared.media.Kind.TheVariants.{Video, Audio}
use Rattle.composables.specs.declared.media.Table.{Table}
use Rattle.composables.specs.TrackState.{TrackState}
use Rattle.flatten.specs.Channels.{EachIsShort, audio_frames, channels, maximal_runs, video_frames}
use Rattle.flatten.specs.Nests.{frames_of_nests}
use Rattle.flatten.specs.Segments.{AreFilled, CanBeCut, EachCanBeCut}
use Rattle.flatten.specs.Strips.{AreBelow, frames_of}
use Rattle.flatten.proofs.Building.{channels_below, video_short}
use Rattle.frame_meaning.proofs.Maximal.{frames-runs, one-number}

filled_with : (f : Frame ℕ) (rs : List (Run ℕ)) → AreFilled rs → AreFilled (with_frame nat_eq f rs)
filled_with f [] h = (omega arith, tt)
filled_with f (r ∷ rs) h = by_test (frame_goes_on nat_eq f r.frame) where
  by_test : (b : Bool) → AreFilled (cond b (record { frame = f; len = r.len + 1 } ∷ rs) (record { frame = f; len = 1 } ∷ r ∷ rs))
  by_test true = let some : 0 < r.len + 1 = omega arith in (some, h.1)
  by_test false = let some : 0 < 1 = omega arith in (some, h)

filled_runs : (fs : List (Frame ℕ)) → AreFilled (maximal_runs fs)
filled_runs [] = tt
filled_runs (f ∷ fs) = filled_with f (maximal_runs fs) (filled_runs fs)

pub frames_runs : (fs : List (Frame ℕ)) → frames_of (maximal_runs fs) ≡ fs
frames_runs fs = frames-runs ℕ nat_eq one-number fs

pub can_be_cut : (rs : List (Run ℕ)) (fs : List (Frame ℕ)) → rs ≡ maximal_runs fs → length fs < 2 ^ 32 → CanBeCut rs
can_be_cut rs fs is short = subst CanBeCut (sym is) (record { filled = filled_runs fs; short = omega (arith, ap length (frames_runs fs), short) })

each_cut : (fss : List (List (Frame ℕ))) → AreBelow (2 ^ 32) fss → EachCanBeCut (map maximal_runs fss)
each_cut [] h = tt
each_cut (fs ∷ fss) h = (can_be_cut (maximal_runs fs) fs refl h.0, each_cut fss h.1)

-- what a cut shows can be cut into segments

pub video_cut : (table : Table) (ts : List TrackState) (rs : List (Run ℕ)) → EachIsShort ts → rs ≡ maximal_runs (video_frames table ts) → CanBeCut rs
video_cut table ts rs e is =
    can_be_cut rs (video_frames table ts) is (video_short (channels Video table ts) (video_frames table ts) refl (channels_below Video table (frames_of_nests table) ts e))

pub audio_cut : (table : Table) (ts : List TrackState) (rss : List (List (Run ℕ))) → EachIsShort ts → rss ≡ map maximal_runs (audio_frames table ts) → EachCanBeCut rss
audio_cut table ts rss e is = subst EachCanBeCut (sym is) (each_cut (audio_frames table ts) (channels_below Audio table (frames_of_nests table) ts e))
