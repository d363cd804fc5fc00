-- Runs of cells with one link, after cells were taken out, put in, and cut in two.
use Rattle.std.proofs.Common.{◌≡◌, ℕ, zero, suc, ◌+◌, ◌≤◌, Bool, true, false, List, [], ◌∷◌, ◌++◌, take, drop, length, Option, None, refl, sym, ap, ◌∙◌, arith, subst}
use Rattle.frame_meaning.specs.declared.cells.Cell.{Cell}
use Rattle.frame_meaning.specs.declared.cells.Link.{Link}
use Rattle.frame_meaning.specs.declared.cells.Mark.{Mark}
use Rattle.frame_meaning.specs.declared.cells.What.{What}
use Rattle.frame_meaning.specs.declared.frames.Side.{Side}
use Rattle.frame_meaning.specs.Cells.{next_side, span}
use Rattle.frame_meaning.specs.Render.{cell_at}
use Rattle.composables.specs.declared.items.ItemView.{ItemView}
use Rattle.composables.specs.Good.{AllUnlinked}
use Rattle.composables.specs.Items.{cells_of, marked, view_cells}
use Rattle.composables.specs.TrackState.{TrackState}
use Rattle.edit_splice.specs.Splicing.{spliced_track}
use Rattle.link_laws.specs.Weights.{begins, is_link, runs_in}
use Rattle.link_laws.proofs.Parting.{behind-alike, behind_of, front-alike, front_of}
use Rattle.link_laws.proofs.Sights.{Alike}

-- 1 where it is the link
abbrev pub one : ℕ → ℕ → Option Link → ℕ
one h n o = begins false (is_link h n o)

-- how many of these are the link

abbrev pub count : ℕ → ℕ → List (Option Link) → ℕ
count h n [] = 0
count h n (o ∷ os) = one h n o + count h n os

pub count-append : (h n : ℕ) (os ps : List (Option Link)) → count h n (os ++ ps) ≡ count h n os + count h n ps
count-append h n [] ps = omega arith
count-append h n (o ∷ os) ps = omega (arith, count-append h n os ps)

-- a track with few runs more of each link: those of a list
abbrev pub Grown : TrackState → TrackState → Type 0
Grown t u = (os : List (Option Link)) × (length os ≤ 4) × ((h n : ℕ) → runs_in h n false u.cells ≤ runs_in h n false t.cells + count h n os)

pub grown-self : (t : TrackState) → Grown t t
grown-self t = ([], omega arith, λ h n. omega arith)

pub grown-from : (s t u : TrackState) → ((h n : ℕ) → runs_in h n false t.cells ≤ runs_in h n false s.cells) → Grown t u → Grown s u
grown-from s t u le g = (g.0, g.1, λ h n. omega (arith, le h n, g.2 h n))

begins_most : (b c : Bool) → begins b c ≤ begins false c
begins_most true true = omega arith
begins_most true false = omega arith
begins_most false c = omega arith

module _ (h n : ℕ) where
  abbrev has : Cell → Bool
  has c = is_link h n c.link

  -- a cell before costs a run at most where the first of these has the link
  pub runs-first : (b : Bool) (cs : List Cell) → (runs_in h n b cs ≤ runs_in h n false cs) × (runs_in h n false cs ≤ runs_in h n b cs + one h n (cell_at cs 0).link)
  runs-first b [] = (omega arith, omega arith)
  runs-first b (c ∷ cs) = (omega (arith, begins_most b (has c)), omega arith)

  pub runs-append : (b : Bool) (cs ds : List Cell) → runs_in h n b (cs ++ ds) ≤ runs_in h n b cs + runs_in h n false ds
  runs-append b [] ds = omega (arith, (runs-first b ds).0)
  runs-append b (c ∷ cs) ds = omega (arith, runs-append (has c) cs ds)

  runs_drop : (y : ℕ) (b : Bool) (cs : List Cell) → runs_in h n false (drop y cs) ≤ runs_in h n b cs + one h n (cell_at cs y).link
  runs_drop zero b cs = (runs-first b cs).1
  runs_drop (suc y) b [] = omega arith
  runs_drop (suc y) b (c ∷ cs) = omega (arith, runs_drop y (has c) cs)

  -- a range taken out
  pub runs-cut : (x y : ℕ) (b : Bool) (cs : List Cell) → x ≤ y → runs_in h n b (take x cs) + runs_in h n false (drop y cs) ≤ runs_in h n b cs + one h n (cell_at cs y).link
  runs-cut zero y b cs le = omega (arith, runs_drop y b cs)
  runs-cut (suc x) zero b cs le = absurd (omega (arith, le))
  runs-cut (suc x) (suc y) b [] le = omega arith
  runs-cut (suc x) (suc y) b (c ∷ cs) le = omega (arith, runs-cut x y (has c) cs (omega (arith, le)))

  runs_take : (m : ℕ) (b : Bool) (cs : List Cell) → runs_in h n b (take m cs) ≤ runs_in h n b cs
  runs_take zero b cs = omega arith
  runs_take (suc m) b [] = omega arith
  runs_take (suc m) b (c ∷ cs) = omega (arith, runs_take m (has c) cs)

  -- the first of these cells, where those behind them have not the link
  pub runs-take-more : (m : ℕ) (b : Bool) (cs ds : List Cell) → ((c : Bool) → runs_in h n c ds ≤ 0) → runs_in h n b (take m (cs ++ ds)) ≤ runs_in h n b (take m cs)
  runs-take-more zero b cs ds dark = omega arith
  runs-take-more (suc m) b [] ds dark = omega (arith, runs_take (suc m) b ds, dark b)
  runs-take-more (suc m) b (c ∷ cs) ds dark = omega (arith, runs-take-more m (has c) cs ds dark)

  pub runs-take-left : (m : ℕ) (b : Bool) (cs ds : List Cell) → runs_in h n b (take m cs) ≤ runs_in h n b (take m (cs ++ ds))
  runs-take-left zero b cs ds = omega arith
  runs-take-left (suc m) b [] ds = omega arith
  runs-take-left (suc m) b (c ∷ cs) ds = omega (arith, runs-take-left m (has c) cs ds)

  pub runs-alike : (b : Bool) (cs ds : List Cell) → Alike cs ds → runs_in h n b cs ≡ runs_in h n b ds
  runs-alike b [] [] a = refl
  runs-alike b [] (d ∷ ds) a = absurd a
  runs-alike b (c ∷ cs) [] a = absurd a
  runs-alike b (c ∷ cs) (d ∷ ds) a =
      ap (λ (o : Option Link). begins b (is_link h n o) + runs_in h n (is_link h n o) cs) a.0
      ∙ ap (λ (m : ℕ). begins b (has d) + m) (runs-alike (has d) cs ds a.2)

  -- all of these have one link, or none
  abbrev pub AllHave : Option Link → List Cell → Type 0
  AllHave k [] = Unit {0}
  AllHave k (c ∷ cs) = (c.link ≡ k) × AllHave k cs

  runs_after : (k : Option Link) (cs : List Cell) → AllHave k cs → runs_in h n (is_link h n k) cs ≡ 0
  runs_after k [] a = refl
  runs_after k (c ∷ cs) a =
      ap (λ (o : Option Link). begins (is_link h n k) (is_link h n o) + runs_in h n (is_link h n o) cs) a.0
      ∙ (ap (λ (m : ℕ). begins (is_link h n k) (is_link h n k) + m) (runs_after k cs a.1) ∙ same (is_link h n k)) where
        same : (b : Bool) → begins b b + 0 ≡ 0
        same true = refl
        same false = refl

  pub runs-all : (b : Bool) (k : Option Link) (cs : List Cell) → AllHave k cs → runs_in h n b cs ≤ one h n k
  runs-all b k [] a = omega arith
  runs-all b k (c ∷ cs) a =
      let first : begins b (is_link h n k) + runs_in h n (is_link h n k) cs ≤ one h n k = omega (arith, begins_most b (is_link h n k), runs_after k cs a.1) in
      subst (λ (o : Option Link). begins b (is_link h n o) + runs_in h n (is_link h n o) cs ≤ one h n k) (sym a.0) first

  span_have : (i : Option ℕ) (s : Side What) (k : Option Link) (m : ℕ) → AllHave k (span i s k m)
  span_have i s k zero = tt
  span_have i s k (suc m) = (refl, span_have i (next_side s) k m)

  marked_have : (mark : Option Mark) (k : Option Link) (cs : List Cell) → AllHave k cs → AllHave k (marked mark cs)
  marked_have mark k [] a = tt
  marked_have mark k (c ∷ cs) a = a

  pub view-have : (v : ItemView) → AllHave v.link (view_cells v)
  view-have v = marked_have v.mark v.link (span v.item v.first v.link v.len) (span_have v.item v.first v.link v.len)

  pub runs-one : (v : ItemView) → runs_in h n false (cells_of (v ∷ [])) ≤ one h n v.link
  runs-one v = omega (arith, runs-append false (view_cells v) [], runs-all false v.link (view_cells v) (view-have v))

  one_none : (o : Option Link) → o ≡ None → one h n o ≡ 0
  one_none o e = ap (one h n) e

  pub runs-bare : (vs : List ItemView) → AllUnlinked vs → runs_in h n false (cells_of vs) ≡ 0
  runs-bare [] u = refl
  runs-bare (v ∷ vs) u =
      omega (arith, runs-append false (view_cells v) (cells_of vs), runs-all false v.link (view_cells v) (view-have v), one_none v.link u.0, runs-bare vs u.1)

  -- a splice

  pub runs-spliced : (keep : Bool) (t : TrackState) (x y : ℕ) (views : List ItemView) → x ≤ y
      → runs_in h n false (spliced_track keep t x y views).cells ≤ runs_in h n false t.cells + one h n (cell_at t.cells y).link + runs_in h n false (cells_of views)
  runs-spliced keep t x y views le =
      omega (
        arith,
        runs-append false (front_of keep t x y ++ cells_of views) (behind_of keep t x y views),
        runs-append false (front_of keep t x y) (cells_of views),
        runs-alike false (front_of keep t x y) (take x t.cells) (front-alike keep t x y),
        runs-alike false (behind_of keep t x y views) (drop y t.cells) (behind-alike keep t x y views),
        runs-cut x y false t.cells le,
      )
