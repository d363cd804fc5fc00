-- The frames of the items of a row.
use Rattle.std.proofs.Common.{◌≡◌, ℕ, zero, suc, ◌+◌, ◌<◌, ◌≤◌, List, [], ◌∷◌, ◌++◌, length, drop, get_or, drop-cons, Option, Some, None, IfSome, refl, arith, Bool, true, false, nat_eq, if◌then◌else◌}
use Rattle.otio_tracks.specs.declared.parts.Part.{Part}
use Rattle.frame_meaning.specs.declared.cells.Mark.{Mark}
use Rattle.otio_tracks.specs.Rows.{RowState, all_kept, frames_in_all, longer, kept, row_frames}
use Rattle.otio_tracks.specs.Transitions.{joins}

pub frames-append : (xs ys : List Part) → frames_in_all (xs ++ ys) ≡ frames_in_all xs + frames_in_all ys
frames-append [] ys = omega arith
frames-append (x ∷ xs) ys = omega (arith, frames-append xs ys)

pub last_short : (done : List Part) (last : Option Part) (n : ℕ) → frames_in_all (all_kept done last) < n → IfSome last (λ p. p.len < n)
last_short done None n h = tt
last_short done (Some p) n h = omega (arith, h, frames-append done (p ∷ []))

pub last_fits : (done : List Part) (last : Option Part) (more n : ℕ) → frames_in_all (all_kept done last) + more < n → IfSome last (λ p. p.len + more < n)
last_fits done None more n h = tt
last_fits done (Some p) more n h = omega (arith, h, frames-append done (p ∷ []))

-- one item more, of those from an index on
pub frames-drop : (xs : List Part) (i : ℕ) (d : Part) → i < length xs → frames_in_all (drop i xs) ≡ (get_or xs i d).len + frames_in_all (drop (i + 1) xs)
frames-drop xs i d h =
    let e : i + 1 ≡ suc i = omega arith in
    rw (drop-cons xs i d h, e) refl

pub frames-drop-le : (xs : List Part) (i : ℕ) → frames_in_all (drop i xs) ≤ frames_in_all xs
frames-drop-le [] zero = omega arith
frames-drop-le [] (suc i) = omega arith
frames-drop-le (x ∷ xs) zero = omega arith
frames-drop-le (x ∷ xs) (suc i) = omega (arith, frames-drop-le xs i)

longer_frames : (done : List Part) (last : Option Part) (n : ℕ) → frames_in_all (all_kept done (longer last n)) ≤ frames_in_all (all_kept done last) + n
longer_frames done None n = omega arith
longer_frames done (Some p) n = omega (arith, frames-append done (p ∷ []), frames-append done (record p { len = p.len + n } ∷ []))

kept_by : (row : RowState) (next : Part) (mark : Option Mark) (empty joined : Bool)
    → row_frames (if empty then record row { before = Some next; waiting = None } else if joined then record row { last = longer row.last next.len; before = Some next; waiting = None } else record { done = all_kept row.done row.last; last = Some (record next { mark = mark }); before = Some next; waiting = None }) ≤ row_frames row + next.len
kept_by row next mark true joined = omega arith
kept_by row next mark false true = longer_frames row.done row.last next.len
kept_by row next mark false false = omega (arith, frames-append (all_kept row.done row.last) (record next { mark = mark } ∷ []))

pub kept_frames : (row : RowState) (next : Part) (mark : Option Mark) → row_frames (kept row next mark) ≤ row_frames row + next.len
kept_frames row next mark = kept_by row next mark (nat_eq next.len 0) (joins row.last next)

pub len_below : (xs : List Part) (i : ℕ) (d : Part) → i < length xs → (get_or xs i d).len ≤ frames_in_all xs
len_below xs i d h = omega (arith, frames-drop xs i d h, frames-drop-le xs i)
