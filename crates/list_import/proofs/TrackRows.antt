-- Items and gaps of which those that meet and are dark become one: rows stay rows, with the same cells.
use Rattle.std.proofs.Common.{◌≡◌, ◌≢◌, ℕ, zero, suc, ◌+◌, ◌<◌, ◌≤◌, max, Bool, true, false, cond, List, [], ◌∷◌, ◌++◌, length, Option, Some, None, IfSome, refl, sym, ap, ◌∙◌, subst, arith, append_assoc}
use Rattle.frame_meaning.specs.declared.cells.What.{What}
use Rattle.frame_meaning.specs.declared.cells.What.TheVariants.{Media, Nest}
use Rattle.frame_meaning.specs.declared.cells.Mark.{Mark}
use Rattle.frame_meaning.specs.declared.cells.Link.{Link}
use Rattle.frame_meaning.specs.declared.cells.Cell.{Cell}
use Rattle.frame_meaning.specs.declared.frames.Side.{Side}
use Rattle.frame_meaning.specs.declared.frames.Side.TheVariants.{Dark, Pic}
use Rattle.frame_meaning.specs.Cells.{dark_cell, same_number, span}
use Rattle.composables.specs.declared.items.ItemView.{ItemView}
use Rattle.composables.specs.Items.{cells_of, marked, view_cells}
use Rattle.composables.specs.Joined.{AllFilled, frames_in, joined, with_view}
use Rattle.composables.specs.TrackFacts.{Apart, EachHolds, HasSource, Holds, IsFilled, IsNoNest, Lacks, NumbersBelow, ShowsAsItem, first_mark, left_reach, right_reach}
use Rattle.composables.specs.TrackState.{next_past, next_past_all}
use Rattle.composables.proofs.Joining.{same-is}

-- ---- rows

-- dark, or one of so many media with the source frames shown, this many before them and this many after
abbrev pub SideFits : ℕ → Side What → ℕ → ℕ → ℕ → Type 0
SideFits media Dark len before after = Unit {0}
SideFits media (Pic (Media m) s) len before after = (m < media) × (before ≤ s) × (s + len + after ≤ 16777216)
SideFits media (Pic (Nest j) s) len before after = ⊥

pub record IsRow (media : ℕ) (v : ItemView) (tail : Option Mark) : Type 0 where
  pub filled : 0 < v.len
  pub shows : ShowsAsItem v.item v.first v.link
  pub unlinked : v.link ≡ None
  pub mark_filled : IsFilled v.mark
  pub room : right_reach v.mark + left_reach tail ≤ v.len
  pub side : SideFits media v.first v.len (left_reach v.mark) (right_reach tail)

-- items are numbered one after another
abbrev pub IsNext : Option ℕ → ℕ → Type 0
IsNext None next = Unit {0}
IsNext (Some i) next = i ≡ next

abbrev pub after : Option ℕ → ℕ → ℕ
after None next = next
after (Some i) next = next + 1

-- a gap behind a gap has no mark
abbrev pub IsBare : Option ℕ → List ItemView → Type 0
IsBare None [] = Unit {0}
IsBare None (w ∷ ws) = w.item ≡ None → w.mark ≡ None
IsBare (Some i) vs = Unit {0}

abbrev pub AreRows : ℕ → ℕ → List ItemView → Type 0
AreRows media next [] = Unit {0}
AreRows media next (v ∷ vs) = IsRow media v (first_mark vs) × IsNext v.item next × IsBare v.item vs × AreRows media (after v.item next) vs

pub bare_unmarked : (o : Option ℕ) (vs : List ItemView) → first_mark vs ≡ None → IsBare o vs
bare_unmarked None [] e = tt
bare_unmarked None (w ∷ ws) e = λ none. e
bare_unmarked (Some i) vs e = tt

-- ---- gaps that meet become one

dark_gap : (o : Option ℕ) (s : Side What) (l : Option Link) → o ≡ None → ShowsAsItem o s l → s ≡ Dark
dark_gap None Dark l e h = refl
dark_gap None (Pic w s) l e h = absurd h
dark_gap (Some i) s l e h = absurd cc

merged : (media next : ℕ) (v w : ItemView) (ws : List ItemView) (o p : Option ℕ) → v.item ≡ o → w.item ≡ p → same_number o p ≡ true
    → IsRow media v w.mark → IsNext v.item next → IsBare v.item (w ∷ ws) → AreRows media (after v.item next) (w ∷ ws)
    → AreRows media next (record v { len = v.len + w.len } ∷ ws)
merged media next v w ws None None e f same row num bare rest =
    let dark : v.first ≡ Dark = dark_gap v.item v.first v.link e row.shows in
    let step : after w.item (after v.item next) ≡ next = ap (λ (o : Option ℕ). after o (after v.item next)) f ∙ ap (λ (o : Option ℕ). after o next) e in
    let back : next ≡ after v.item next = ap (λ (o : Option ℕ). after o next) (sym e) in
    let fits : SideFits media v.first (v.len + w.len) (left_reach v.mark) (right_reach (first_mark ws)) =
    subst (λ (s : Side What). SideFits media s (v.len + w.len) (left_reach v.mark) (right_reach (first_mark ws))) (sym dark) tt in
    let own : IsRow media (record v { len = v.len + w.len }) (first_mark ws) = record {
      filled = omega (arith, row.filled);
      shows = row.shows;
      unlinked = row.unlinked;
      mark_filled = row.mark_filled;
      room = omega (arith, row.room, rest.0.room);
      side = fits;
    } in
    (own, num, subst (λ (q : Option ℕ). IsBare q ws) (f ∙ sym e) rest.2, subst (λ (n : ℕ). AreRows media n ws) (step ∙ back) rest.3)
merged media next v w ws None (Some j) e f same row num bare rest = absurd cc
merged media next v w ws (Some i) None e f same row num bare rest = absurd cc
merged media next v w ws (Some i) (Some j) e f same row num bare rest =
    let one : i ≡ next = subst (λ (q : Option ℕ). IsNext q next) e num in
    let past : after v.item next ≡ next + 1 = ap (λ (q : Option ℕ). after q next) e in
    let two : j ≡ after v.item next = subst (λ (q : Option ℕ). IsNext q (after v.item next)) f rest.1 in
    let both : ◌≡◌ {A = Option ℕ} (Some i) (Some j) = same-is (Some i) (Some j) same in
    let number : i ≡ j = cc in
    absurd (omega (arith, one, past, two, number))

rows_with : (media next : ℕ) (v : ItemView) (zs : List ItemView) → IsRow media v (first_mark zs) → IsNext v.item next → IsBare v.item zs → AreRows media (after v.item next) zs
    → AreRows media next (with_view v zs)
rows_with media next v [] row num bare rest = (row, num, bare, rest)
rows_with media next v (w ∷ ws) row num bare rest = by (same_number v.item w.item) refl where
  by : (b : Bool) → same_number v.item w.item ≡ b → AreRows media next (cond b (record v { len = v.len + w.len } ∷ ws) (v ∷ w ∷ ws))
  by true same = merged media next v w ws v.item w.item refl refl same row num bare rest
  by false same = (row, num, bare, rest)

mark_with : (v : ItemView) (zs : List ItemView) → first_mark (with_view v zs) ≡ v.mark
mark_with v [] = refl
mark_with v (w ∷ ws) = by (same_number v.item w.item) where
  by : (b : Bool) → first_mark (cond b (record v { len = v.len + w.len } ∷ ws) (v ∷ w ∷ ws)) ≡ v.mark
  by true = refl
  by false = refl

pub mark_joined : (vs : List ItemView) → first_mark (joined vs) ≡ first_mark vs
mark_joined [] = refl
mark_joined (v ∷ vs) = mark_with v (joined vs)

bare_with : (o : Option ℕ) (v : ItemView) (vs zs : List ItemView) → IsBare o (v ∷ vs) → IsBare o (with_view v zs)
bare_with (Some i) v vs zs h = tt
bare_with None v vs [] h = h
bare_with None v vs (w ∷ ws) h = by (same_number v.item w.item) where
  by : (b : Bool) → IsBare None (cond b (record v { len = v.len + w.len } ∷ ws) (v ∷ w ∷ ws))
  by true = h
  by false = h

bare_joined : (o : Option ℕ) (vs : List ItemView) → IsBare o vs → IsBare o (joined vs)
bare_joined (Some i) vs h = tt
bare_joined None [] h = tt
bare_joined None (v ∷ vs) h = bare_with None v vs (joined vs) h

pub rows_joined : (media next : ℕ) (vs : List ItemView) → AreRows media next vs → AreRows media next (joined vs)
rows_joined media next [] h = tt
rows_joined media next (v ∷ vs) h =
    rows_with media next v (joined vs) (subst (λ (m : Option Mark). IsRow media v m) (sym (mark_joined vs)) h.0) h.1 (bare_joined v.item vs h.2)
    (rows_joined media (after v.item next) vs h.3)

-- ---- with the same cells

abbrev darks : ℕ → List Cell
darks n = span None Dark None n

more_darks : (a b : ℕ) → darks (a + b) ≡ darks a ++ darks b
more_darks zero b = let e : 0 + b ≡ b = omega arith in ap darks e
more_darks (suc n) b = let e : suc n + b ≡ suc (n + b) = omega arith in ap darks e ∙ ap (λ (cs : List Cell). dark_cell ∷ cs) (more_darks n b)

marked_darks : (m : Option Mark) (a b : ℕ) → 0 < a → marked m (darks (a + b)) ≡ marked m (darks a) ++ darks b
marked_darks m zero b h = absurd (omega (arith, h))
marked_darks m (suc n) b h =
    let e : suc n + b ≡ suc (n + b) = omega arith in
    ap (λ (k : ℕ). marked m (darks k)) e ∙ ap (λ (cs : List Cell). record { item = None; side = Dark; mark = m; link = None } ∷ cs) (more_darks n b)

unmarked_darks : (n : ℕ) → marked None (darks n) ≡ darks n
unmarked_darks zero = refl
unmarked_darks (suc n) = refl

gap_cells : (o : Option ℕ) (s : Side What) (l : Option Link) (m : Option Mark) (n : ℕ) → o ≡ None → s ≡ Dark → l ≡ None → marked m (span o s l n) ≡ marked m (darks n)
gap_cells o s l m n e d u =
    ap (λ (q : Option ℕ). marked m (span q s l n)) e
    ∙ (ap (λ (t : Side What). marked m (span None t l n)) d ∙ ap (λ (k : Option Link). marked m (span None Dark k n)) u)

one_gap : (media next : ℕ) (v w : ItemView) (ws : List ItemView) (o p : Option ℕ) → v.item ≡ o → w.item ≡ p → same_number o p ≡ true
    → IsRow media v w.mark → IsNext v.item next → IsBare v.item (w ∷ ws) → AreRows media (after v.item next) (w ∷ ws)
    → cells_of (record v { len = v.len + w.len } ∷ ws) ≡ view_cells v ++ (view_cells w ++ cells_of ws)
one_gap media next v w ws None None e f same row num bare rest =
    let dark : v.first ≡ Dark = dark_gap v.item v.first v.link e row.shows in
    let black : w.first ≡ Dark = dark_gap w.item w.first w.link f rest.0.shows in
    let none : w.mark ≡ None = (subst (λ (q : Option ℕ). IsBare q (w ∷ ws)) e bare) f in
    let first : view_cells v ≡ marked v.mark (darks v.len) = gap_cells v.item v.first v.link v.mark v.len e dark row.unlinked in
    let second : view_cells w ≡ darks w.len =
    gap_cells w.item w.first w.link w.mark w.len f black rest.0.unlinked
    ∙ (ap (λ (m : Option Mark). marked m (darks w.len)) none ∙ unmarked_darks w.len) in
    let whole : view_cells (record v { len = v.len + w.len }) ≡ marked v.mark (darks v.len) ++ darks w.len =
    gap_cells v.item v.first v.link v.mark (v.len + w.len) e dark row.unlinked ∙ marked_darks v.mark v.len w.len row.filled in
    ap (λ (cs : List Cell). cs ++ cells_of ws) whole
    ∙ (append_assoc (marked v.mark (darks v.len)) (darks w.len) (cells_of ws)
    ∙ (ap (λ (cs : List Cell). cs ++ (darks w.len ++ cells_of ws)) (sym first) ∙ ap (λ (cs : List Cell). view_cells v ++ (cs ++ cells_of ws)) (sym second)))
one_gap media next v w ws None (Some j) e f same row num bare rest = absurd cc
one_gap media next v w ws (Some i) None e f same row num bare rest = absurd cc
one_gap media next v w ws (Some i) (Some j) e f same row num bare rest =
    let one : i ≡ next = subst (λ (q : Option ℕ). IsNext q next) e num in
    let past : after v.item next ≡ next + 1 = ap (λ (q : Option ℕ). after q next) e in
    let two : j ≡ after v.item next = subst (λ (q : Option ℕ). IsNext q (after v.item next)) f rest.1 in
    let both : ◌≡◌ {A = Option ℕ} (Some i) (Some j) = same-is (Some i) (Some j) same in
    let number : i ≡ j = cc in
    absurd (omega (arith, one, past, two, number))

cells_with : (media next : ℕ) (v : ItemView) (zs : List ItemView) → IsRow media v (first_mark zs) → IsNext v.item next → IsBare v.item zs → AreRows media (after v.item next) zs
    → cells_of (with_view v zs) ≡ view_cells v ++ cells_of zs
cells_with media next v [] row num bare rest = refl
cells_with media next v (w ∷ ws) row num bare rest = by (same_number v.item w.item) refl where
  by : (b : Bool) → same_number v.item w.item ≡ b → cells_of (cond b (record v { len = v.len + w.len } ∷ ws) (v ∷ w ∷ ws)) ≡ view_cells v ++ (view_cells w ++ cells_of ws)
  by true same = one_gap media next v w ws v.item w.item refl refl same row num bare rest
  by false same = refl

pub cells_joined : (media next : ℕ) (vs : List ItemView) → AreRows media next vs → cells_of (joined vs) ≡ cells_of vs
cells_joined media next [] h = refl
cells_joined media next (v ∷ vs) h =
    cells_with media next v (joined vs) (subst (λ (m : Option Mark). IsRow media v m) (sym (mark_joined vs)) h.0) h.1 (bare_joined v.item vs h.2)
    (rows_joined media (after v.item next) vs h.3)
    ∙ ap (λ (cs : List Cell). view_cells v ++ cs) (cells_joined media (after v.item next) vs h.3)

-- ---- each row holds

source_of : (media : ℕ) (s : Side What) (len before after : ℕ) → SideFits media s len before after → HasSource s len before after
source_of media Dark len before after h = tt
source_of media (Pic (Media m) s) len before after h = (h.1, omega (arith, h.2))
source_of media (Pic (Nest j) s) len before after h = absurd h

no_nest : (media : ℕ) (s : Side What) (m : Option Mark) (len before after : ℕ) → SideFits media s len before after → IsNoNest s m
no_nest media Dark None len before after h = tt
no_nest media Dark (Some m) len before after h = tt
no_nest media (Pic (Media k) s) None len before after h = tt
no_nest media (Pic (Media k) s) (Some m) len before after h = tt
no_nest media (Pic (Nest j) s) m len before after h = absurd h

holds : (media : ℕ) (v : ItemView) (tail : Option Mark) → IsRow media v tail → Holds v tail
holds media v tail h = record {
  filled = h.filled;
  shows = h.shows;
  mark_filled = h.mark_filled;
  room = h.room;
  source = source_of media v.first v.len (left_reach v.mark) (right_reach tail) h.side;
  head_no_nest = no_nest media v.first v.mark v.len (left_reach v.mark) (right_reach tail) h.side;
  tail_no_nest = no_nest media v.first tail v.len (left_reach v.mark) (right_reach tail) h.side;
}

pub each_holds : (media next : ℕ) (vs : List ItemView) → AreRows media next vs → EachHolds vs
each_holds media next [] h = tt
each_holds media next (v ∷ vs) h = (holds media v (first_mark vs) h.0, each_holds media (after v.item next) vs h.3)

pub rows_filled : (media next : ℕ) (vs : List ItemView) → AreRows media next vs → AllFilled vs
rows_filled media next [] h = tt
rows_filled media next (v ∷ vs) h = (h.0.filled, rows_filled media (after v.item next) vs h.3)

-- ---- numbers

rises : (o : Option ℕ) (next : ℕ) → next ≤ after o next
rises None next = omega arith
rises (Some i) next = omega arith

near : (o : Option ℕ) (next : ℕ) → after o next ≤ next + 1
near None next = omega arith
near (Some i) next = omega arith

other_number : (o : Option ℕ) (next i : ℕ) → IsNext o next → i < next → o ≢ Some i
other_number None next i h l e = cc
other_number (Some j) next i h l e = let same : j ≡ i = cc in absurd (omega (arith, h, l, same))

lacks : (media next i : ℕ) (vs : List ItemView) → i < next → AreRows media next vs → Lacks i vs
lacks media next i [] l h = tt
lacks media next i (v ∷ vs) l h = (other_number v.item next i h.1 l, lacks media (after v.item next) i vs (omega (arith, l, rises v.item next)) h.3)

pub rows_apart : (media next : ℕ) (vs : List ItemView) → AreRows media next vs → Apart vs
rows_apart media next [] h = tt
rows_apart media next (v ∷ vs) h = (own v.item refl, rows_apart media (after v.item next) vs h.3) where
  own : (o : Option ℕ) → v.item ≡ o → IfSome o (λ i. Lacks i vs)
  own None e = tt
  own (Some i) e =
      let is : i ≡ next = subst (λ (q : Option ℕ). IsNext q next) e h.1 in
      let past : after v.item next ≡ next + 1 = ap (λ (q : Option ℕ). after q next) e in
      lacks media (after v.item next) i vs (omega (arith, is, past)) h.3

past_rises : (vs : List ItemView) (next : ℕ) → next ≤ next_past_all next vs
past_rises [] next = omega arith
past_rises (v ∷ vs) next = omega (arith, one v.item, past_rises vs (next_past next v.item)) where
  one : (o : Option ℕ) → next ≤ next_past next o
  one None = omega arith
  one (Some i) = omega arith

pub below_past : (vs : List ItemView) (next : ℕ) → NumbersBelow (next_past_all next vs) vs
below_past [] next = tt
below_past (v ∷ vs) next = (own v.item refl, below_past vs (next_past next v.item)) where
  own : (o : Option ℕ) → v.item ≡ o → IfSome o (λ i. i < next_past_all (next_past next v.item) vs)
  own None e = tt
  own (Some i) e =
      let at : next_past next v.item ≡ max next (i + 1) = ap (next_past next) e in
      omega (arith, at, past_rises vs (next_past next v.item))

below_with : (n : ℕ) (v : ItemView) (zs : List ItemView) → IfSome v.item (λ i. i < n) → NumbersBelow n zs → NumbersBelow n (with_view v zs)
below_with n v [] h k = (h, k)
below_with n v (w ∷ ws) h k = by (same_number v.item w.item) where
  by : (b : Bool) → NumbersBelow n (cond b (record v { len = v.len + w.len } ∷ ws) (v ∷ w ∷ ws))
  by true = (h, k.1)
  by false = (h, k)

pub below_joined : (n : ℕ) (vs : List ItemView) → NumbersBelow n vs → NumbersBelow n (joined vs)
below_joined n [] h = tt
below_joined n (v ∷ vs) h = below_with n v (joined vs) h.0 (below_joined n vs h.1)

pub below_weaker : (m n : ℕ) (vs : List ItemView) → m ≤ n → NumbersBelow m vs → NumbersBelow n vs
below_weaker m n [] le h = tt
below_weaker m n (v ∷ vs) le h = (own v.item h.0, below_weaker m n vs le h.1) where
  own : (o : Option ℕ) → IfSome o (λ i. i < m) → IfSome o (λ i. i < n)
  own None k = tt
  own (Some i) k = omega (arith, k, le)

past_is : (o : Option ℕ) (next : ℕ) → IsNext o next → next_past next o ≡ after o next
past_is None next h = refl
past_is (Some i) next h = omega (arith, h)

-- the next number is at most that of the frames, and at most that of the items and gaps
pub past_frames : (media next : ℕ) (vs : List ItemView) → AreRows media next vs → next_past_all next vs ≤ next + frames_in vs
past_frames media next [] h = omega arith
past_frames media next (v ∷ vs) h =
    let more = past_frames media (after v.item next) vs h.3 in
    let same : next_past_all (next_past next v.item) vs ≡ next_past_all (after v.item next) vs = ap (λ (n : ℕ). next_past_all n vs) (past_is v.item next h.1) in
    omega (arith, more, same, near v.item next, h.0.filled)

pub past_count : (media next : ℕ) (vs : List ItemView) → AreRows media next vs → next_past_all next vs ≤ next + length vs
past_count media next [] h = omega arith
past_count media next (v ∷ vs) h =
    let more = past_count media (after v.item next) vs h.3 in
    let same : next_past_all (next_past next v.item) vs ≡ next_past_all (after v.item next) vs = ap (λ (n : ℕ). next_past_all n vs) (past_is v.item next h.1) in
    omega (arith, more, same, near v.item next)

twice : (next : ℕ) (o : Option ℕ) → next_past (next_past next o) o ≡ next_past next o
twice next None = refl
twice next (Some i) = omega arith

past_with : (next : ℕ) (v : ItemView) (zs : List ItemView) → next_past_all next (with_view v zs) ≡ next_past_all (next_past next v.item) zs
past_with next v [] = refl
past_with next v (w ∷ ws) = by (same_number v.item w.item) refl where
  by : (b : Bool) → same_number v.item w.item ≡ b
      → next_past_all next (cond b (record v { len = v.len + w.len } ∷ ws) (v ∷ w ∷ ws)) ≡ next_past_all (next_past (next_past next v.item) w.item) ws
  by true same =
      ap (λ (n : ℕ). next_past_all n ws) (sym (twice next v.item))
      ∙ ap (λ (o : Option ℕ). next_past_all (next_past (next_past next v.item) o) ws) (same-is v.item w.item same)
  by false same = refl

pub past_joined : (next : ℕ) (vs : List ItemView) → next_past_all next (joined vs) ≡ next_past_all next vs
past_joined next [] = refl
past_joined next (v ∷ vs) = past_with next v (joined vs) ∙ past_joined (next_past next v.item) vs
