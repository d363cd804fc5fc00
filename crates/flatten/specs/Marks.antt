-- Runs as marks of where a fade hides a picture: pictures of 1 where one does, of 0 where something else is seen, and of 2
-- for what is below while a layer is laid over it.
use Rattle.std.specs.Prelude.{◌≡◌, ℕ, ◌+◌, max, Bool, false, ◌||◌, ◌==◌, List, [], ◌∷◌, map, length, if◌then◌else◌}
use Rattle.frame_meaning.specs.declared.frames.Frame.{Frame}
use Rattle.frame_meaning.specs.declared.frames.Frame.TheVariants as frame
use Rattle.frame_meaning.specs.declared.frames.Run.{Run}
use Rattle.flatten.specs.declared.hiding.HidingFade.{HidingFade}
use Rattle.flatten.specs.declared.sights.Marking.{Marking}
use Rattle.flatten.specs.declared.sights.Marking.TheVariants.{Fades, Below, Open, Within}
use Rattle.flatten.specs.declared.sights.Sights.{Sights}
use Rattle.flatten.specs.Hiding.{Seen, is_black, nothing, seen_on, sight_at}
use Rattle.flatten.specs.Strips.{AreFit, frames_of, laid_over}

abbrev pub marked : Marking → Frame ℕ → Frame ℕ
marked Fades frame.Dark = frame.Dark
marked Fades (frame.Pic reel source) = frame.Pic 0 source
marked Fades (frame.Mix left right num den) = frame.Pic (if is_black left || is_black right then 1 else 0) num
marked Below frame.Dark = frame.Dark
marked Below (frame.Pic reel source) = frame.Pic 2 source
marked Below (frame.Mix left right num den) = frame.Pic 2 num
marked Open frame.Dark = frame.Dark
marked Open (frame.Pic mark source) = if mark == 2 then frame.Dark else frame.Pic 0 source
marked Open (frame.Mix left right num den) = frame.Dark
marked Within frame.Dark = frame.Dark
marked Within (frame.Pic mark source) = if mark == 1 then frame.Pic 1 source else frame.Dark
marked Within (frame.Mix left right num den) = frame.Dark

abbrev pub marked_run : Marking → Run ℕ → Run ℕ
marked_run how r = record { frame = marked how r.frame; len = r.len }

-- whether a fade hides a picture where this is the mark
abbrev pub is_hiding : Frame ℕ → Bool
is_hiding frame.Dark = false
is_hiding (frame.Pic mark source) = mark == 1
is_hiding (frame.Mix left right num den) = false

-- where these marks say that a fade hides a picture
abbrev pub hides_of : List (Run ℕ) → List Bool
hides_of marks = map is_hiding (frames_of marks)

-- what is seen, by frames and marks
abbrev pub seen_of : Sights → Seen
seen_of s = record { frames = frames_of s.frames; hides = hides_of s.marks }

-- marks of a layer over those of what is below it
abbrev pub laid_marks : List (Frame ℕ) → List (Frame ℕ) → List (Frame ℕ) → List (Frame ℕ) → List (Frame ℕ)
laid_marks frames marks frames_below marks_below =
    laid_over (map (marked Within) marks)
    (laid_over (map (marked Open) (laid_over (map (marked Below) frames_below) (map (marked Fades) frames)))
    (laid_over (map (marked Fades) frames) marks_below))

-- the runs of what is seen can be composed
pub record IsComposed (s : Sights) : Type 0 where
  pub frames : AreFit s.frames
  pub marks : AreFit s.marks

abbrev pub AllComposed : List Sights → Type 0
AllComposed [] = Unit {0}
AllComposed (s ∷ ss) = IsComposed s × AllComposed ss

-- these are what is seen of these layers
pub record Shows (s : Sights) (layers : List Seen) : Type 0 where
  pub composed : IsComposed s
  pub sights : (q : ℕ) → sight_at (seen_of s) q ≡ seen_on nothing layers q

-- how many frames the longest of these layers has
abbrev pub extent : List Seen → ℕ
extent [] = 0
extent (l ∷ ls) = max (max (length l.frames) (length l.hides)) (extent ls)

-- where marks say that a fade hides something, with the first of them at this place
abbrev pub fades_from : ℕ → List (Run ℕ) → List HidingFade
fades_from at [] = []
fades_from at (r ∷ rs) = if is_hiding r.frame then record { from = at; to = at + r.len } ∷ fades_from (at + r.len) rs else fades_from (at + r.len) rs
