-- The items and gaps that were read make a track.
use Rattle.std.proofs.Common.{◌≡◌, ◌≢◌, ℕ, ◌+◌, ◌<◌, ◌≤◌, ◌^◌, eqb, false, ◌&&◌, List, [], ◌∷◌, length, Option, Some, None, IfSome, refl, sym, ap, ◌∙◌, arith, subst, if◌then◌else◌}
use Rattle.std.proofs.lemmas.List.{append-nil}
use Rattle.frame_meaning.specs.declared.cells.Mark.{Mark}
use Rattle.frame_meaning.specs.declared.cells.What.{What}
use Rattle.frame_meaning.specs.declared.frames.Side.{Side}
use Rattle.frame_meaning.specs.declared.frames.Side.TheVariants.{Dark, Pic}
use Rattle.frame_meaning.specs.Cells.{same_number}
use Rattle.composables.specs.Items.{cells_of, items_of}
use Rattle.composables.specs.Joined.{IsTight, AllFilled, frames_in}
use Rattle.composables.specs.TrackState.{TrackState, next_past, next_past_all, replaced}
use Rattle.composables.specs.TrackFacts.{left_reach, right_reach, ShowsAsItem, HasSource, Holds, EachHolds, Lacks, Apart, NumbersBelow, IsKept, first_mark as first_view_mark}
use Rattle.composables.proofs.Joining.{items_of-tight, length-cells_of}
use Rattle.otio_tracks.specs.declared.parts.Part.{Part}
use Rattle.otio_tracks.specs.Parts.{is_dark}
use Rattle.otio_tracks.specs.Rows.{frames_in_all}
use Rattle.otio_tracks.specs.SoundParts.{SideLies, IsSoundPart, first_mark, EachIsSound, AreSoundParts}
use Rattle.otio_tracks.specs.Building.{view_of, number_after, views_of, number_behind, track_made}

-- ---- each item and gap

shows : (side : Side What) (n : ℕ) → ShowsAsItem (if is_dark side then None else Some n) side None
shows Dark n = tt
shows (Pic w s) n = tt

source : (side : Side What) (len from to before after : ℕ) → SideLies side len from to before after → HasSource side len before after
source Dark len from to before after h = tt
source (Pic w s) len from to before after h = (omega (arith, h.0), omega (arith, h.1, h.2))

holds : (n : ℕ) (p : Part) (tail : Option Mark) → IsSoundPart p tail → Holds (view_of n p) tail
holds n p tail h = record {
  filled = h.filled;
  shows = shows p.first n;
  mark_filled = h.mark_filled;
  room = h.room;
  source = source p.first p.len p.from p.to (left_reach p.mark) (right_reach tail) h.lies;
  head_no_nest = h.head_no_nest;
  tail_no_nest = h.tail_no_nest;
}

same_first : (n : ℕ) (ps : List Part) → first_view_mark (views_of n ps) ≡ first_mark ps
same_first n [] = refl
same_first n (p ∷ ps) = refl

each_holds : (n : ℕ) (ps : List Part) → EachIsSound ps → EachHolds (views_of n ps)
each_holds n [] h = tt
each_holds n (p ∷ []) h = (holds n p None h.0, tt)
each_holds n (p ∷ q ∷ ps) h = (holds n p q.mark h.0, each_holds (number_after n p) (q ∷ ps) h.2)

filled : (n : ℕ) (ps : List Part) → EachIsSound ps → AllFilled (views_of n ps)
filled n [] h = tt
filled n (p ∷ ps) h = (h.0.filled, filled (number_after n p) ps h.2)

-- ---- no two that meet belong together

next_differs : (n : ℕ) → eqb n (n + 1) ≡ false
next_differs n = grind arith

sides_apart : (a b : Side What) (n : ℕ) → is_dark a && is_dark b ≡ false
    → same_number (if is_dark a then None else Some n) (if is_dark b then None else Some (if is_dark a then n else n + 1)) ≡ false
sides_apart Dark Dark n e = cc
sides_apart Dark (Pic w s) n e = refl
sides_apart (Pic w s) Dark n e = refl
sides_apart (Pic w s) (Pic v t) n e = next_differs n

tight : (n : ℕ) (ps : List Part) → EachIsSound ps → IsTight (views_of n ps)
tight n [] h = tt
tight n (p ∷ []) h = tt
tight n (p ∷ q ∷ ps) h = (sides_apart p.first q.first n h.1, tight (number_after n p) (q ∷ ps) h.2)

-- ---- numbers

lacks_side : (side : Side What) (i m : ℕ) → i < m → ◌≢◌ {A = Option ℕ} (if is_dark side then None else Some m) (Some i)
lacks_side Dark i m h = λ e. cc
lacks_side (Pic w s) i m h = λ e. let same : m ≡ i = cc in absurd (omega (arith, same, h))

after_le : (n : ℕ) (p : Part) → n ≤ number_after n p
after_le n p = by_side p.first where
  by_side : (side : Side What) → n ≤ (if is_dark side then n else n + 1)
  by_side Dark = omega arith
  by_side (Pic w s) = omega arith

lacks : (i m : ℕ) (ps : List Part) → i < m → Lacks i (views_of m ps)
lacks i m [] h = tt
lacks i m (p ∷ ps) h = (lacks_side p.first i m h, lacks i (number_after m p) ps (omega (arith, h, after_le m p)))

behind_le : (n : ℕ) (ps : List Part) → n ≤ number_behind n ps
behind_le n [] = omega arith
behind_le n (p ∷ ps) = omega (arith, after_le n p, behind_le (number_after n p) ps)

apart_side : (side : Side What) (n : ℕ) (ps : List Part) → IfSome (if is_dark side then None else Some n) (λ i. Lacks i (views_of (if is_dark side then n else n + 1) ps))
apart_side Dark n ps = tt
apart_side (Pic w s) n ps = lacks n (n + 1) ps (omega arith)

apart : (n : ℕ) (ps : List Part) → Apart (views_of n ps)
apart n [] = tt
apart n (p ∷ ps) = (apart_side p.first n ps, apart (number_after n p) ps)

below_side : (side : Side What) (n next : ℕ) → (if is_dark side then n else n + 1) ≤ next → IfSome (if is_dark side then None else Some n) (λ i. i < next)
below_side Dark n next h = tt
below_side (Pic w s) n next h = omega (arith, h)

below : (n next : ℕ) (ps : List Part) → number_behind n ps ≤ next → NumbersBelow next (views_of n ps)
below n next [] h = tt
below n next (p ∷ ps) h = (below_side p.first n next (omega (arith, h, behind_le (number_after n p) ps)), below (number_after n p) next ps h)

few_side : (side : Side What) (n : ℕ) → (if is_dark side then n else n + 1) ≤ n + 1
few_side Dark n = omega arith
few_side (Pic w s) n = omega arith

pub few : (n : ℕ) (ps : List Part) → number_behind n ps ≤ n + length ps
few n [] = omega arith
few n (p ∷ ps) = omega (arith, few (number_after n p) ps, few_side p.first n)

past_side : (side : Side What) (n : ℕ) → next_past n (if is_dark side then None else Some n) ≡ (if is_dark side then n else n + 1)
past_side Dark n = refl
past_side (Pic w s) n = omega arith

past : (n : ℕ) (ps : List Part) → next_past_all n (views_of n ps) ≡ number_behind n ps
past n [] = refl
past n (p ∷ ps) = ap (λ m. next_past_all m (views_of (number_after n p) ps)) (past_side p.first n) ∙ past (number_after n p) ps

-- ---- frames

same_frames : (n : ℕ) (ps : List Part) → frames_in (views_of n ps) ≡ frames_in_all ps
same_frames n [] = refl
same_frames n (p ∷ ps) = ap (λ m. p.len + m) (same_frames (number_after n p) ps)

-- ---- the track

abbrev empty : ℕ → TrackState
empty number = record { number = number; cells = []; next_item = 0; next_link = 0 }

pub made_items : (ps : List Part) → AreSoundParts ps → items_of (cells_of (views_of 0 ps)) ≡ views_of 0 ps
made_items ps h = items_of-tight (views_of 0 ps) (filled 0 ps h.each) (tight 0 ps h.each)

pub made_frames : (ps : List Part) → length (cells_of (views_of 0 ps)) ≡ frames_in_all ps
made_frames ps = length-cells_of (views_of 0 ps) ∙ same_frames 0 ps

pub made_kept : (number : ℕ) (ps : List Part) → AreSoundParts ps → frames_in_all ps < 2 ^ 32 → IsKept (track_made number ps)
made_kept number ps h short =
    let views = views_of 0 ps in
    let same : items_of (cells_of views) ≡ views = items_of-tight views (filled 0 ps h.each) (tight 0 ps h.each) in
    record {
      whole = ap cells_of same;
      not_before = ap first_view_mark same ∙ (same_first 0 ps ∙ h.not_before);
      each = subst EachHolds (sym same) (each_holds 0 ps h.each);
      apart = subst Apart (sym same) (apart 0 ps);
      below = subst (NumbersBelow (number_behind 0 ps)) (sym same) (below 0 (number_behind 0 ps) ps (omega arith));
      short = omega (arith, short, length-cells_of views, same_frames 0 ps);
    }

pub made_replaced : (number : ℕ) (ps : List Part) → replaced (empty number) 0 0 (views_of 0 ps) ≡ track_made number ps
made_replaced number ps =
    ap (λ cs. record { number = number; cells = cs; next_item = next_past_all 0 (views_of 0 ps); next_link = 0 }) (append-nil (cells_of (views_of 0 ps)))
    ∙ ap (λ m. record { number = number; cells = cells_of (views_of 0 ps); next_item = m; next_link = 0 }) (past 0 ps)

pub views_filled : (ps : List Part) → AreSoundParts ps → AllFilled (views_of 0 ps)
views_filled ps h = filled 0 ps h.each

pub views_below : (ps : List Part) → length ps ≤ 65536 → NumbersBelow 4294967295 (views_of 0 ps)
views_below ps h = below 0 4294967295 ps (omega (arith, few 0 ps, h))
