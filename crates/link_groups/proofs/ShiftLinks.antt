-- A shift leaves the links before its place and behind its range as they were.
use Rattle.std.proofs.Common.{◌≡◌, ℕ, zero, suc, ◌+◌, ◌-◌, ◌<◌, ◌≤◌, ◌⊎◌, inl, inr, Bool, true, false, cond, eqb, ltb, min, List, [], ◌∷◌, ◌++◌, take, drop, map, filter, length, Option, Some, None, refl, sym, ap, ◌∙◌, arith, subst, append_assoc}
use Rattle.std.specs.List.{list_any}
use Rattle.std.proofs.lemmas.Bool.{cases_lt, ltb-false, ltb-true}
use Rattle.std.proofs.lemmas.List.{append-nil, drop-append-le, drop_all, length-append, length-take-le, map-append, take_all, take_at}
use Rattle.frame_meaning.specs.declared.cells.Cell.{Cell}
use Rattle.frame_meaning.specs.declared.cells.Link.{Link}
use Rattle.frame_meaning.specs.declared.cells.Mark.{Mark}
use Rattle.frame_meaning.specs.declared.cells.What.{What}
use Rattle.frame_meaning.specs.declared.frames.Side.{Side}
use Rattle.frame_meaning.specs.Splice.{Rule, rule_of, renumbered, split_item, with_marks}
use Rattle.frame_meaning.specs.Cells.{next_side, same_number, span}
use Rattle.composables.specs.declared.items.ItemView.{ItemView}
use Rattle.composables.specs.Good.{AllUnlinked}
use Rattle.composables.specs.Items.{cells_of, marked, view_cells}
use Rattle.composables.specs.Joined.{frames_in}
use Rattle.composables.specs.Links.{cells_before, cells_from, least_link, least_outside, links_in, links_with, links_with_any, next_link_at, outside, same_link, split_links}
use Rattle.composables.specs.TrackState.{TrackState, next_past_all}
use Rattle.composables.specs.Views.{gap_view, gap_views}
use Rattle.composables.proofs.Joining.{cells_of-append, length-cells_of}
use Rattle.edit_splice.specs.declared.shifting.Shift.{Shift}
use Rattle.edit_splice.specs.Moves.{all_moved, moved}
use Rattle.edit_splice.specs.Padding.{new_len, new_views}
use Rattle.edit_splice.specs.Splicing.{spliced_track}
use Rattle.edit_splice.proofs.Moving.{frames_new}
use Rattle.edit_splice.proofs.Padding.{frames-gap}

-- the links of cells, and those that are there

abbrev pub links : List Cell → List (Option Link)
links cs = map (λ (c : Cell). c.link) cs

abbrev pub there : List (Option Link) → List Link
there [] = []
there (None ∷ ls) = there ls
there (Some l ∷ ls) = l ∷ there ls

abbrev in_order : List Link → List Link
in_order [] = []
in_order (l ∷ ls) = links_with l (in_order ls)

links_in_there : (cs : List Cell) → links_in cs ≡ in_order (there (links cs))
links_in_there [] = refl
links_in_there (c ∷ cs) = by c.link (links_in_there cs) where
  by : (o : Option Link) → links_in cs ≡ in_order (there (links cs)) → links_with_any o (links_in cs) ≡ in_order (there (o ∷ links cs))
  by None e = e
  by (Some l) e = ap (links_with l) e

abbrev least_of : List TrackState → List Link → Option Link
least_of named [] = None
least_of named (l ∷ ls) = least_link (outside named (Some l)) (least_of named ls)

least_there : (named : List TrackState) (cs : List Cell) → least_outside named cs ≡ least_of named (there (links cs))
least_there named [] = refl
least_there named (c ∷ cs) = by c.link (least_there named cs) where
  by : (o : Option Link) → least_outside named cs ≡ least_of named (there (links cs)) → least_link (outside named o) (least_outside named cs) ≡ least_of named (there (o ∷ links cs))
  by None e = e
  by (Some l) e = ap (least_link (outside named (Some l))) e

pub there-append : (ks ls : List (Option Link)) → there (ks ++ ls) ≡ there ks ++ there ls
there-append [] ls = refl
there-append (None ∷ ks) ls = there-append ks ls
there-append (Some k ∷ ks) ls = ap (λ (ms : List Link). k ∷ ms) (there-append ks ls)

pub least-there : (named : List TrackState) (cs ds : List Cell) → there (links cs) ≡ there (links ds) → least_outside named cs ≡ least_outside named ds
least-there named cs ds e = least_there named cs ∙ (ap (least_of named) e ∙ sym (least_there named ds))

pub links-take : (n : ℕ) (cs : List Cell) → links (take n cs) ≡ take n (links cs)
links-take zero cs = refl
links-take (suc n) [] = refl
links-take (suc n) (c ∷ cs) = ap (λ (ls : List (Option Link)). c.link ∷ ls) (links-take n cs)

pub links-drop : (n : ℕ) (cs : List Cell) → links (drop n cs) ≡ drop n (links cs)
links-drop zero cs = refl
links-drop (suc n) [] = refl
links-drop (suc n) (c ∷ cs) = links-drop n cs

long_links : (cs : List Cell) → length (links cs) ≡ length cs
long_links [] = refl
long_links (c ∷ cs) = ap suc (long_links cs)

links_marks : (rule : Rule) (x y p : ℕ) (cs : List Cell) → links (with_marks rule x y p cs) ≡ links cs
links_marks rule x y p [] = refl
links_marks rule x y p (c ∷ cs) = ap (λ (ls : List (Option Link)). c.link ∷ ls) (links_marks rule x y (p + 1) cs)

links_numbers : (s : Option ℕ) (fresh : ℕ) (cs : List Cell) → links (map (renumbered s fresh) cs) ≡ links cs
links_numbers s fresh [] = refl
links_numbers s fresh (c ∷ cs) = ap (λ (l : Option Link). l ∷ links (map (renumbered s fresh) cs)) (one s) ∙ ap (λ (ls : List (Option Link)). c.link ∷ ls) (links_numbers s fresh cs) where
  one : (s : Option ℕ) → (renumbered s fresh c).link ≡ c.link
  one None = refl
  one (Some i) = by (same_number c.item (Some i)) where
    by : (b : Bool) → (cond b (record c { item = Some fresh }) c).link ≡ c.link
    by true = refl
    by false = refl

-- a splice

pub links-spliced : (keep : Bool) (t : TrackState) (x y : ℕ) (views : List ItemView)
    → links (spliced_track keep t x y views).cells ≡ take x (links t.cells) ++ (links (cells_of views) ++ drop y (links t.cells))
links-spliced keep t x y views =
    let all : List Cell = with_marks (rule_of keep) x y 0 t.cells in
    let tail : List Cell = map (renumbered (split_item t.cells x y) (next_past_all t.next_item views)) (drop y all) in
    ap links (append_assoc (take x all) (cells_of views) tail)
    ∙ (map-append (λ (c : Cell). c.link) (take x all) (cells_of views ++ tail)
    ∙ (ap (λ (ls : List (Option Link)). ls ++ links (cells_of views ++ tail)) (links-take x all ∙ ap (take x) (links_marks (rule_of keep) x y 0 t.cells))
    ∙ ap (λ (ls : List (Option Link)). take x (links t.cells) ++ ls)
    (map-append (λ (c : Cell). c.link) (cells_of views) tail
    ∙ ap (λ (ls : List (Option Link)). links (cells_of views) ++ ls)
    (links_numbers (split_item t.cells x y) (next_past_all t.next_item views) (drop y all) ∙ (links-drop y all ∙ ap (drop y) (links_marks (rule_of keep) x y 0 t.cells))))))

abbrev Ends : ℕ → ℕ → ℕ → List (Option Link) → List (Option Link) → Type 0
Ends x y z ls ms = (there (take x ms) ≡ there (take x ls)) × (there (drop z ms) ≡ there (drop y ls))

drop_at : (ks bs : List (Option Link)) (z : ℕ) → length ks ≡ z → drop z (ks ++ bs) ≡ bs
drop_at ks bs z e = drop-append-le z ks bs (omega (arith, e)) ∙ ap (λ (cs : List (Option Link)). cs ++ bs) (drop_all z ks (omega (arith, e)))

-- where the place is on the track
inside : (ls ws : List (Option Link)) (x y past z : ℕ) → x ≤ length ls → drop past ls ≡ drop y ls → x + length ws ≡ z → Ends x y z ls (take x ls ++ (ws ++ drop past ls))
inside ls ws x y past z le same sum =
    let long : length (take x ls) ≡ x = length-take-le x ls le in (
      ap there (take_at (take x ls) (ws ++ drop past ls) x long),
      ap there (ap (drop z) (sym (append_assoc (take x ls) ws (drop past ls))) ∙ (drop_at (take x ls ++ ws) (drop past ls) z (omega (arith, length-append (take x ls) ws, long, sum)) ∙ same)),
    )

-- where the track ends by it, and dark frames are put in up to it
beyond : (ls gap ws : List (Option Link)) (x y k past z : ℕ) → length ls ≤ x → length ls ≤ k → length ls ≤ past → x ≤ y → there gap ≡ [] → (length ls + length gap ≡ x) ⊎ (length gap + length ws ≡ 0)
    → (x + length ws ≡ z) ⊎ (x ≤ z × (length gap + length ws ≡ 0)) → Ends x y z ls (take k ls ++ ((gap ++ ws) ++ drop past ls))
beyond ls gap ws x y k past z short le ends order bare at sum = (front at, behind sum) where
  whole : take k ls ++ ((gap ++ ws) ++ drop past ls) ≡ ls ++ (gap ++ ws)
  whole =
      ap (λ (ks : List (Option Link)). ks ++ ((gap ++ ws) ++ drop past ls)) (take_all k ls le)
      ∙ ap (λ (bs : List (Option Link)). ls ++ bs) (ap (λ (cs : List (Option Link)). (gap ++ ws) ++ cs) (drop_all past ls ends) ∙ append-nil (gap ++ ws))

  all : there (take x ls) ≡ there ls
  all = ap there (take_all x ls short)

  front : (length ls + length gap ≡ x) ⊎ (length gap + length ws ≡ 0) → there (take x (take k ls ++ ((gap ++ ws) ++ drop past ls))) ≡ there (take x ls)
  front (inl e) =
      ap (λ (cs : List (Option Link)). there (take x cs)) (whole ∙ sym (append_assoc ls gap ws))
      ∙ (ap there (take_at (ls ++ gap) ws x (length-append ls gap ∙ e)) ∙ (there-append ls gap ∙ (ap (λ (ms : List Link). there ls ++ ms) bare ∙ (append-nil (there ls) ∙ sym all))))
  front (inr e) =
      ap (λ (cs : List (Option Link)). there (take x cs)) whole
      ∙ (ap there (take_all x (ls ++ (gap ++ ws)) (omega (arith, length-append ls (gap ++ ws), length-append gap ws, short, e)))
      ∙ (there-append ls (gap ++ ws) ∙ (ap (λ (ms : List (Option Link)). there ls ++ there ms) (empty (gap ++ ws) (length-append gap ws ∙ e)) ∙ (append-nil (there ls) ∙ sym all)))) where
        empty : (ms : List (Option Link)) → length ms ≡ 0 → ms ≡ []
        empty [] e = refl
        empty (m ∷ ms) e = absurd (omega (arith, e))

  none : z ≡ z → length ls + length gap + length ws ≤ z → there (drop z (take k ls ++ ((gap ++ ws) ++ drop past ls))) ≡ there (drop y ls)
  none r long =
      ap (λ (cs : List (Option Link)). there (drop z cs)) whole
      ∙ (ap there (drop_all z (ls ++ (gap ++ ws)) (omega (arith, length-append ls (gap ++ ws), length-append gap ws, long))) ∙ sym (ap there (drop_all y ls (omega (arith, short, order)))))

  behind : (x + length ws ≡ z) ⊎ (x ≤ z × (length gap + length ws ≡ 0)) → there (drop z (take k ls ++ ((gap ++ ws) ++ drop past ls))) ≡ there (drop y ls)
  behind (inr e) = none refl (omega (arith, e.0, e.1, short))
  behind (inl e) = by at where
    by : (length ls + length gap ≡ x) ⊎ (length gap + length ws ≡ 0) → there (drop z (take k ls ++ ((gap ++ ws) ++ drop past ls))) ≡ there (drop y ls)
    by (inl f) = none refl (omega (arith, e, f))
    by (inr f) = none refl (omega (arith, e, f, short))

-- what has no links

links_marked : (m : Option Mark) (cs : List Cell) → links (marked m cs) ≡ links cs
links_marked m [] = refl
links_marked m (c ∷ cs) = refl

span_there : (o : Option ℕ) (d : Side What) (l : Option Link) (n : ℕ) → l ≡ None → there (links (span o d l n)) ≡ []
span_there o d l zero e = refl
span_there o d l (suc n) e = ap (λ (k : Option Link). there (k ∷ links (span o (next_side d) l n))) e ∙ span_there o (next_side d) l n e

pub bare-there : (vs : List ItemView) → AllUnlinked vs → there (links (cells_of vs)) ≡ []
bare-there [] h = refl
bare-there (v ∷ vs) h =
    ap there (map-append (λ (c : Cell). c.link) (view_cells v) (cells_of vs))
    ∙ (there-append (links (view_cells v)) (links (cells_of vs))
    ∙ (ap (λ (ls : List Link). ls ++ there (links (cells_of vs))) (ap there (links_marked v.mark (span v.item v.first v.link v.len)) ∙ span_there v.item v.first v.link v.len h.0) ∙ bare-there vs h.1))

pub gap-bare : (n : ℕ) → AllUnlinked (gap_views n)
gap-bare n = by (eqb n 0) where
  by : (b : Bool) → AllUnlinked (cond b [] (gap_view n ∷ []))
  by true = tt
  by false = (refl, tt)

pub gap-there : (n : ℕ) → there (links (cells_of (gap_views n))) ≡ []
gap-there n = bare-there (gap_views n) (gap-bare n)

long_of : (vs : List ItemView) → length (links (cells_of vs)) ≡ frames_in vs
long_of vs = long_links (cells_of vs) ∙ length-cells_of vs

-- a track by a shift

drop_least : (y : ℕ) (ls : List (Option Link)) (n : ℕ) → n ≡ length ls → drop (min y n) ls ≡ drop y ls
drop_least y ls n e = by (cases_lt (length ls) y) where
  by : (length ls < y) ⊎ (y ≤ length ls) → drop (min y n) ls ≡ drop y ls
  by (inl less) = drop_all (min y n) ls (omega (arith, less, e)) ∙ sym (drop_all y ls (omega (arith, less)))
  by (inr le) = let f : min y n ≡ y = omega (arith, le, e) in ap (λ (k : ℕ). drop k ls) f

ends_spliced : (keep : Bool) (t : TrackState) (x y k past z : ℕ) (views : List ItemView)
    → Ends x y z (links t.cells) (take k (links t.cells) ++ (links (cells_of views) ++ drop past (links t.cells))) → Ends x y z (links t.cells) (links (spliced_track keep t k past views).cells)
ends_spliced keep t x y k past z views h = subst (Ends x y z (links t.cells)) (sym (links-spliced keep t k past views)) h

pub ends-moved : (s : Shift) (t : TrackState) → s.x ≤ s.y → Ends s.x s.y (s.x + new_len s.new) (links t.cells) (links (moved s t).cells)
ends-moved s t order = by (eqb t.number s.own) refl (cases_lt (length t.cells) s.x) where
  Goal : List ItemView → Type 0
  Goal vs = Ends s.x s.y (s.x + new_len s.new) (links t.cells) (links (spliced_track s.keep t (min s.x (length t.cells)) (min s.y (length t.cells)) vs).cells)

  long : length (links t.cells) ≡ length t.cells
  long = long_links t.cells

  here : (vs : List ItemView) → s.x ≤ length t.cells → frames_in vs ≡ new_len s.new → Goal vs
  here vs le sum =
      let at : s.x ≡ min s.x (length t.cells) = omega (arith, le) in
      subst (λ (k : ℕ). Ends s.x s.y (s.x + new_len s.new) (links t.cells) (links (spliced_track s.keep t k (min s.y (length t.cells)) vs).cells)) at
      (ends_spliced s.keep t s.x s.y s.x (min s.y (length t.cells)) (s.x + new_len s.new) vs
      (inside (links t.cells) (links (cells_of vs)) s.x s.y (min s.y (length t.cells)) (s.x + new_len s.new) (omega (arith, le, long)) (drop_least s.y (links t.cells) (length t.cells) (sym long)) (omega (arith, sum, long_of vs))))

  own : (length t.cells < s.x) ⊎ (s.x ≤ length t.cells) → Goal (gap_views (s.x - length t.cells) ++ new_views s.new)
  own (inr le) =
      let z : s.x - length t.cells ≡ 0 = omega (arith, le) in
      subst (λ (n : ℕ). Goal (gap_views n ++ new_views s.new)) (sym z) (here (new_views s.new) le (frames_new s.new))
  own (inl less) =
      let dark : List ItemView = gap_views (s.x - length t.cells) in
      let both : cells_of (gap_views (s.x - length t.cells) ++ new_views s.new) ≡ cells_of (gap_views (s.x - length t.cells)) ++ cells_of (new_views s.new) = cells_of-append (gap_views (s.x - length t.cells)) (new_views s.new) in
      let apart : links (cells_of (gap_views (s.x - length t.cells) ++ new_views s.new)) ≡ links (cells_of (gap_views (s.x - length t.cells))) ++ links (cells_of (new_views s.new)) = ap links both ∙ map-append (λ (c : Cell). c.link) (cells_of (gap_views (s.x - length t.cells))) (cells_of (new_views s.new)) in
      ends_spliced s.keep t s.x s.y (min s.x (length t.cells)) (min s.y (length t.cells)) (s.x + new_len s.new) (gap_views (s.x - length t.cells) ++ new_views s.new)
      (subst (λ (ws : List (Option Link)). Ends s.x s.y (s.x + new_len s.new) (links t.cells) (take (min s.x (length t.cells)) (links t.cells) ++ (ws ++ drop (min s.y (length t.cells)) (links t.cells)))) (sym apart)
      (beyond (links t.cells) (links (cells_of (gap_views (s.x - length t.cells)))) (links (cells_of (new_views s.new))) s.x s.y (min s.x (length t.cells)) (min s.y (length t.cells)) (s.x + new_len s.new)
      (omega (arith, less, long)) (omega (arith, less, long)) (omega (arith, less, long, order)) order (gap-there (s.x - length t.cells))
      (inl (omega (arith, less, long, long_of (gap_views (s.x - length t.cells)), frames-gap (s.x - length t.cells))))
      (inl (omega (arith, long_of (new_views s.new), frames_new s.new)))))

  other : (b : Bool) → ltb s.x (length t.cells) ≡ b → Goal (cond b (gap_views (new_len s.new)) [])
  other true e = here (gap_views (new_len s.new)) (omega (arith, ltb-true s.x (length t.cells) e)) (frames-gap (new_len s.new))
  other false e =
      let past : length t.cells ≤ s.x = ltb-false s.x (length t.cells) e in
      let empty : length (links (cells_of [])) ≡ 0 = refl in
      ends_spliced s.keep t s.x s.y (min s.x (length t.cells)) (min s.y (length t.cells)) (s.x + new_len s.new) []
      (beyond (links t.cells) [] [] s.x s.y (min s.x (length t.cells)) (min s.y (length t.cells)) (s.x + new_len s.new)
      (omega (arith, past, long)) (omega (arith, past, long)) (omega (arith, past, long, order)) order refl (inr (omega arith)) (inr (omega arith, omega arith)))

  by : (b : Bool) → eqb t.number s.own ≡ b → (length t.cells < s.x) ⊎ (s.x ≤ length t.cells)
      → Goal (cond b (gap_views (s.x - length t.cells) ++ new_views s.new) (cond (ltb s.x (length t.cells)) (gap_views (new_len s.new)) []))
  by true e w = own w
  by false e w = other (ltb s.x (length t.cells)) refl

-- all named tracks

before_moved : (s : Shift) (ts : List TrackState) → s.x ≤ s.y → there (links (cells_before s.x (all_moved s ts))) ≡ there (links (cells_before s.x ts))
before_moved s [] order = refl
before_moved s (t ∷ ts) order =
    let one : there (links (take s.x (moved s t).cells)) ≡ there (links (take s.x t.cells)) = ap there (links-take s.x (moved s t).cells) ∙ ((ends-moved s t order).0 ∙ sym (ap there (links-take s.x t.cells))) in
    ap there (map-append (λ (c : Cell). c.link) (take s.x (moved s t).cells) (cells_before s.x (all_moved s ts)))
    ∙ (there-append (links (take s.x (moved s t).cells)) (links (cells_before s.x (all_moved s ts)))
    ∙ (ap (λ (ls : List Link). ls ++ there (links (cells_before s.x (all_moved s ts)))) one
    ∙ (ap (λ (ls : List Link). there (links (take s.x t.cells)) ++ ls) (before_moved s ts order)
    ∙ (sym (there-append (links (take s.x t.cells)) (links (cells_before s.x ts))) ∙ ap there (sym (map-append (λ (c : Cell). c.link) (take s.x t.cells) (cells_before s.x ts)))))))

behind_moved : (s : Shift) (ts : List TrackState) → s.x ≤ s.y → there (links (cells_from (s.x + new_len s.new) (all_moved s ts))) ≡ there (links (cells_from s.y ts))
behind_moved s [] order = refl
behind_moved s (t ∷ ts) order =
    let z : ℕ = s.x + new_len s.new in
    let one : there (links (drop (s.x + new_len s.new) (moved s t).cells)) ≡ there (links (drop s.y t.cells)) = ap there (links-drop (s.x + new_len s.new) (moved s t).cells) ∙ ((ends-moved s t order).1 ∙ sym (ap there (links-drop s.y t.cells))) in
    ap there (map-append (λ (c : Cell). c.link) (drop (s.x + new_len s.new) (moved s t).cells) (cells_from (s.x + new_len s.new) (all_moved s ts)))
    ∙ (there-append (links (drop (s.x + new_len s.new) (moved s t).cells)) (links (cells_from (s.x + new_len s.new) (all_moved s ts)))
    ∙ (ap (λ (ls : List Link). ls ++ there (links (cells_from (s.x + new_len s.new) (all_moved s ts)))) one
    ∙ (ap (λ (ls : List Link). there (links (drop s.y t.cells)) ++ ls) (behind_moved s ts order)
    ∙ (sym (there-append (links (drop s.y t.cells)) (links (cells_from s.y ts))) ∙ ap there (sym (map-append (λ (c : Cell). c.link) (drop s.y t.cells) (cells_from s.y ts)))))))

pub splits-moved : (s : Shift) (ts : List TrackState) → s.x ≤ s.y → split_links s.x (s.x + new_len s.new) (all_moved s ts) ≡ split_links s.x s.y ts
splits-moved s ts order =
    let before : links_in (cells_before s.x (all_moved s ts)) ≡ links_in (cells_before s.x ts) = links_in_there (cells_before s.x (all_moved s ts)) ∙ (ap in_order (before_moved s ts order) ∙ sym (links_in_there (cells_before s.x ts))) in
    let behind : links_in (cells_from (s.x + new_len s.new) (all_moved s ts)) ≡ links_in (cells_from s.y ts) = links_in_there (cells_from (s.x + new_len s.new) (all_moved s ts)) ∙ (ap in_order (behind_moved s ts order) ∙ sym (links_in_there (cells_from s.y ts))) in
    ap (λ (ls : List Link). filter (λ (l : Link). list_any (same_link l) ls) (links_in (cells_from (s.x + new_len s.new) (all_moved s ts)))) before
    ∙ ap (filter (λ (l : Link). list_any (same_link l) (links_in (cells_before s.x ts)))) behind

pub next-moved : (home : ℕ) (s : Shift) (ts : List TrackState) → next_link_at home (all_moved s ts) ≡ next_link_at home ts
next-moved home s [] = refl
next-moved home s (t ∷ ts) = ap (λ (n : ℕ). cond (eqb t.number home) t.next_link n) (next-moved home s ts)
