-- Where an item reaches back, its new frames have the link and the offset of its frames that are moved: links are split alike
-- before the shift and after it.
use Rattle.std.proofs.Common.{◌≡◌, ℕ, zero, suc, ◌+◌, ◌≤◌, inl, inr, ℤ, Bool, true, false, cond, eqb, ltb, min, List, [], ◌∷◌, ◌++◌, take, drop, map, filter, length, unwrap_or, Option, Some, None, refl, sym, ap, ◌∙◌, arith, subst}
use Rattle.std.proofs.lemmas.Bool.{eqb-true, ltb-false, ltb-true}
use Rattle.std.proofs.lemmas.List.{drop_all}
use Rattle.std.proofs.lemmas.Option.{same_Some}
use Rattle.std.specs.List.{list_any}
use Rattle.frame_meaning.specs.declared.cells.Cell.{Cell}
use Rattle.frame_meaning.specs.declared.cells.Link.{Link}
use Rattle.frame_meaning.specs.declared.cells.What.{What}
use Rattle.frame_meaning.specs.declared.frames.Side.{Side}
use Rattle.frame_meaning.specs.Render.{cell_at}
use Rattle.composables.specs.declared.items.ItemView.{ItemView}
use Rattle.composables.specs.declared.media.Table.{Table}
use Rattle.composables.specs.Items.{cells_of}
use Rattle.composables.specs.Joined.{frames_in}
use Rattle.composables.specs.Links.{cells_before, cells_from, count_at_home, earlier_at_home, links_in, links_split, links_with_any, moved_cell, moved_link, next_link_at, same_link, split_links, split_track}
use Rattle.composables.specs.OwnTracks.{track_numbered}
use Rattle.composables.specs.Ranges.{offset_of}
use Rattle.composables.specs.TrackState.{TrackState}
use Rattle.composables.specs.Views.{gap_views}
use Rattle.edit_delta.specs.Reaching.{has_before, reaching_back}
use Rattle.edit_splice.specs.Shifts.{shifted, shifted_along, shifted_track}
use Rattle.edit_splice.specs.Splicing.{spliced_track}
use Rattle.edit_splice.proofs.Bridging.{is-numbered}
use Rattle.edit_splice.proofs.Padding.{frames-gap}
use Rattle.edit_trim.specs.Rippling.{as_split}
use Rattle.link_laws.proofs.Parting.{behind-alike, behind_of, drop-least, front-alike, front_of, is-parted, stays-past}
use Rattle.link_laws.proofs.ShiftTracks.{HasPlace, shifted-number}
use Rattle.link_laws.proofs.Sights.{Alike, Shows, alike-length, alike-sym, alike-take, none-some, shows-alike}
use Rattle.link_laws.proofs.Splices.{shows-back}
use Rattle.link_laws.proofs.Splitting.{SeesFrom, split-drop}
use Rattle.link_laws.proofs.Tied.{Each}

-- cells that are alike have one list of links

links_alike : (cs ds : List Cell) → Alike cs ds → links_in cs ≡ links_in ds
links_alike [] [] a = refl
links_alike [] (d ∷ ds) a = absurd a
links_alike (c ∷ cs) [] a = absurd a
links_alike (c ∷ cs) (d ∷ ds) a =
    ap (λ (o : Option Link). links_with_any o (links_in cs)) a.0 ∙ ap (links_with_any d.link) (links_alike cs ds a.2)

alike_append : (xs ys cs ds : List Cell) → Alike xs ys → Alike cs ds → Alike (xs ++ cs) (ys ++ ds)
alike_append [] [] cs ds h k = k
alike_append [] (y ∷ ys) cs ds h k = absurd h
alike_append (x ∷ xs) [] cs ds h k = absurd h
alike_append (x ∷ xs) (y ∷ ys) cs ds h k = (h.0, h.1, alike_append xs ys cs ds h.2 k)

-- cells of one link and side are moved alike

alike_moved : (ts us : List TrackState) (ls : List Link) (cs ds : List Cell) → ((o : Option Link) → moved_link ts ls o ≡ moved_link us ls o) → Alike cs ds
    → Alike (map (moved_cell ts ls) cs) (map (moved_cell us ls) ds)
alike_moved ts us ls [] [] e a = tt
alike_moved ts us ls [] (d ∷ ds) e a = absurd a
alike_moved ts us ls (c ∷ cs) [] e a = absurd a
alike_moved ts us ls (c ∷ cs) (d ∷ ds) e a =
    (ap (moved_link ts ls) a.0 ∙ e d.link, a.1, alike_moved ts us ls cs ds e a.2)

-- two states of the tracks that are alike from a place on, each from its own

pub record Follows (x z : ℕ) (t u : TrackState) : Type 0 where
  pub next : t.next_link ≡ u.next_link
  pub cells : Alike (drop x t.cells) (drop z u.cells)

follows_next : (x z h : ℕ) (ts us : List TrackState) → Each (Follows x z) ts us → next_link_at h ts ≡ next_link_at h us
follows_next x z h [] [] each = refl
follows_next x z h [] (u ∷ us) each = absurd each
follows_next x z h (t ∷ ts) [] each = absurd each
follows_next x z h (t ∷ ts) (u ∷ us) each =
    ap (λ (m : ℕ). cond (eqb m h) t.next_link (next_link_at h ts)) (sym each.0)
    ∙ (ap (λ (m : ℕ). cond (eqb u.number h) m (next_link_at h ts)) each.1.next
    ∙ ap (λ (m : ℕ). cond (eqb u.number h) u.next_link m) (follows_next x z h ts us each.2))

follows_link : (x z : ℕ) (ls : List Link) (ts us : List TrackState) → Each (Follows x z) ts us → (o : Option Link) → moved_link ts ls o ≡ moved_link us ls o
follows_link x z ls ts us each None = refl
follows_link x z ls ts us each (Some l) =
    ap (λ (n : ℕ). cond (list_any (same_link l) ls) (Some (record l { number = n + earlier_at_home ls l })) (Some l)) (follows_next x z l.home ts us each)

follows_one : (x z : ℕ) (ls : List Link) (ts us : List TrackState) (t u : TrackState) → ((o : Option Link) → moved_link ts ls o ≡ moved_link us ls o) → u.number ≡ t.number
    → Follows x z t u → Follows x z (split_track x ts ls t) (split_track z us ls u)
follows_one x z ls ts us t u same e f = record {
  next = ap (λ (m : ℕ). m + count_at_home ls t.number) f.next ∙ ap (λ (m : ℕ). u.next_link + count_at_home ls m) (sym e);
  cells = cells;
} where
  left : drop x (take x t.cells ++ map (moved_cell ts ls) (drop x t.cells)) ≡ map (moved_cell ts ls) (drop x t.cells)
  left = split-drop x (moved_cell ts ls) t.cells

  right : drop z (take z u.cells ++ map (moved_cell us ls) (drop z u.cells)) ≡ map (moved_cell us ls) (drop z u.cells)
  right = split-drop z (moved_cell us ls) u.cells

  cells : Alike (drop x (take x t.cells ++ map (moved_cell ts ls) (drop x t.cells))) (drop z (take z u.cells ++ map (moved_cell us ls) (drop z u.cells)))
  cells =
      subst (λ (cs : List Cell). Alike cs (drop z (take z u.cells ++ map (moved_cell us ls) (drop z u.cells)))) (sym left)
      (subst (Alike (map (moved_cell ts ls) (drop x t.cells))) (sym right) (alike_moved ts us ls (drop x t.cells) (drop z u.cells) same f.cells))

follows_all : (x z : ℕ) (ls : List Link) (ts us ps qs : List TrackState) → ((o : Option Link) → moved_link ts ls o ≡ moved_link us ls o) → Each (Follows x z) ps qs
    → Each (Follows x z) (map (split_track x ts ls) ps) (map (split_track z us ls) qs)
follows_all x z ls ts us [] [] same each = tt
follows_all x z ls ts us [] (q ∷ qs) same each = absurd each
follows_all x z ls ts us (p ∷ ps) [] same each = absurd each
follows_all x z ls ts us (p ∷ ps) (q ∷ qs) same each =
    (each.0, follows_one x z ls ts us p q same each.0 each.1, follows_all x z ls ts us ps qs same each.2)

-- the same links are split

abbrev pub Fronts : ℕ → TrackState → TrackState → Type 0
Fronts x t u = Alike (take x t.cells) (take x u.cells)

from_alike : (x z : ℕ) (ts us : List TrackState) → Each (Follows x z) ts us → Alike (cells_from x ts) (cells_from z us)
from_alike x z [] [] each = tt
from_alike x z [] (u ∷ us) each = absurd each
from_alike x z (t ∷ ts) [] each = absurd each
from_alike x z (t ∷ ts) (u ∷ us) each =
    alike_append (drop x t.cells) (drop z u.cells) (cells_from x ts) (cells_from z us) each.1.cells (from_alike x z ts us each.2)

before_alike : (x : ℕ) (ts us : List TrackState) → Each (Fronts x) ts us → Alike (cells_before x ts) (cells_before x us)
before_alike x [] [] each = tt
before_alike x [] (u ∷ us) each = absurd each
before_alike x (t ∷ ts) [] each = absurd each
before_alike x (t ∷ ts) (u ∷ us) each =
    alike_append (take x t.cells) (take x u.cells) (cells_before x ts) (cells_before x us) each.1 (before_alike x ts us each.2)

same_split : (x z : ℕ) (ts us : List TrackState) → Each (Follows x z) ts us → Each (Fronts x) ts us → split_links x x ts ≡ split_links x z us
same_split x z ts us each fronts =
    ap (λ (bs : List Link). filter (λ (l : Link). list_any (same_link l) bs) (links_in (cells_from x ts))) (links_alike (cells_before x ts) (cells_before x us) (before_alike x ts us fronts))
    ∙ ap (filter (λ (l : Link). list_any (same_link l) (links_in (cells_before x us)))) (links_alike (cells_from x ts) (cells_from z us) (from_alike x z ts us each))

pub follows-splits : (x z : ℕ) (ts us : List TrackState) → Each (Follows x z) ts us → Each (Fronts x) ts us → Each (Follows x z) (links_split x x ts) (links_split x z us)
follows-splits x z ts us each fronts =
    subst (λ (ls : List Link). Each (Follows x z) (links_split x x ts) (map (split_track z us ls) us)) (same_split x z ts us each fronts)
    (follows_all x z (split_links x x ts) ts us ts us (follows_link x z (split_links x x ts) ts us each) each)

-- the tracks after the shift

abbrev Parted : ℕ → ℕ → TrackState → TrackState → Type 0
Parted x z t u = Alike (take x t.cells) (take x u.cells) × Alike (drop x t.cells) (drop z u.cells)

parted_in : (t : TrackState) (x past z : ℕ) (views : List ItemView) → x ≤ length t.cells → drop past t.cells ≡ drop x t.cells → x + frames_in views ≡ z → Parted x z t (spliced_track false t x past views)
parted_in t x past z views le same sum =
    let parts = is-parted false t x past z views le sum in
    let front = alike-sym (front_of false t x past) (take x t.cells) (front-alike false t x past) in
    let behind = alike-sym (behind_of false t x past views) (drop past t.cells) (behind-alike false t x past views) in (
      subst (Alike (take x t.cells)) (sym parts.before) front,
      subst (Alike (drop x t.cells)) (sym parts.behind) (subst (λ (cs : List Cell). Alike cs (behind_of false t x past views)) same behind),
    )

parted_past : (t : TrackState) (x z k past : ℕ) → length t.cells ≤ x → x ≤ z → k ≡ length t.cells → length t.cells ≤ past → Parted x z t (spliced_track false t k past [])
parted_past t x z k past short le is beyond =
    let same = stays-past false t k past is beyond in
    let long = alike-length (spliced_track false t k past []).cells t.cells same in
    let past_end : drop z (spliced_track false t k past []).cells ≡ [] = drop_all z (spliced_track false t k past []).cells (omega (arith, long, short, le)) in (
      alike-take x t.cells (spliced_track false t k past []).cells (alike-sym (spliced_track false t k past []).cells t.cells same),
      subst (λ (cs : List Cell). Alike cs (drop z (spliced_track false t k past []).cells)) (sym (drop_all x t.cells short)) (subst (Alike []) (sym past_end) tt),
    )

parted_along : (t : TrackState) (x n : ℕ) → Parted x (x + n) t (shifted_along false t x x n)
parted_along t x n = by (ltb x (length t.cells)) refl where
  by : (b : Bool) → ltb x (length t.cells) ≡ b → Parted x (x + n) t (spliced_track false t (min x (length t.cells)) (min x (length t.cells)) (cond b (gap_views n) []))
  by true e =
      let inside = ltb-true x (length t.cells) e in
      let at : x ≡ min x (length t.cells) = omega (arith, inside) in
      subst (λ (k : ℕ). Parted x (x + n) t (spliced_track false t k (min x (length t.cells)) (gap_views n))) at
      (parted_in t x (min x (length t.cells)) (x + n) (gap_views n) (omega (arith, inside)) (drop-least x t.cells) (omega (arith, frames-gap n)))
  by false e =
      let past = ltb-false x (length t.cells) e in
      parted_past t x (x + n) (min x (length t.cells)) (min x (length t.cells)) (omega (arith, past)) (omega arith) (omega (arith, past)) (omega (arith, past))

parted_one : (own x : ℕ) (views : List ItemView) (t : TrackState) → (t.number ≡ own → x ≤ length t.cells) → Parted x (x + frames_in views) t (shifted_track false own x x views t)
parted_one own x views t has = by (eqb t.number own) refl where
  by : (b : Bool) → eqb t.number own ≡ b → Parted x (x + frames_in views) t (cond b (spliced_track false t x x views) (shifted_along false t x x (frames_in views)))
  by true e = parted_in t x x (x + frames_in views) views (has (eqb-true t.number own e)) refl refl
  by false e = parted_along t x (frames_in views)

next_shifted : (own x : ℕ) (views : List ItemView) (t : TrackState) → t.next_link ≡ (shifted_track false own x x views t).next_link
next_shifted own x views t = by (eqb t.number own) where
  by : (b : Bool) → t.next_link ≡ (cond b (spliced_track false t x x views) (shifted_along false t x x (frames_in views))).next_link
  by true = refl
  by false = refl

follows_shifted : (own x : ℕ) (views : List ItemView) (ts : List TrackState) → HasPlace own x ts → Each (Follows x (x + frames_in views)) ts (shifted false own x x views ts)
follows_shifted own x views [] has = tt
follows_shifted own x views (t ∷ ts) has =
    (shifted-number false own x x views t, record { next = next_shifted own x views t; cells = (parted_one own x views t has.0).1 }, follows_shifted own x views ts has.1)

fronts_shifted : (own x : ℕ) (views : List ItemView) (ts : List TrackState) → HasPlace own x ts → Each (Fronts x) ts (shifted false own x x views ts)
fronts_shifted own x views [] has = tt
fronts_shifted own x views (t ∷ ts) has =
    (shifted-number false own x x views t, (parted_one own x views t has.0).0, fronts_shifted own x views ts has.1)

-- sides stay

abbrev SameSides : List Cell → List Cell → Type 0
SameSides [] [] = Unit {0}
SameSides [] (d ∷ ds) = ⊥
SameSides (c ∷ cs) [] = ⊥
SameSides (c ∷ cs) (d ∷ ds) = (c.side ≡ d.side) × SameSides cs ds

sides_split : (z : ℕ) (us : List TrackState) (ls : List Link) (cs : List Cell) → SameSides cs (take z cs ++ map (moved_cell us ls) (drop z cs))
sides_split zero us ls [] = tt
sides_split zero us ls (c ∷ cs) = (refl, sides_split zero us ls cs)
sides_split (suc z) us ls [] = tt
sides_split (suc z) us ls (c ∷ cs) = (refl, sides_split z us ls cs)

abbrev Shown : TrackState → TrackState → Type 0
Shown t u = SameSides t.cells u.cells

shown_all : (z : ℕ) (us : List TrackState) (ls : List Link) (ts : List TrackState) → Each Shown ts (map (split_track z us ls) ts)
shown_all z us ls [] = tt
shown_all z us ls (t ∷ ts) = (refl, sides_split z us ls t.cells, shown_all z us ls ts)

sides_at : (cs ds : List Cell) (p : ℕ) → SameSides cs ds → (cell_at cs p).side ≡ (cell_at ds p).side
sides_at [] [] p h = refl
sides_at [] (d ∷ ds) p h = absurd h
sides_at (c ∷ cs) [] p h = absurd h
sides_at (c ∷ cs) (d ∷ ds) zero h = h.0
sides_at (c ∷ cs) (d ∷ ds) (suc p) h = sides_at cs ds p h.1

-- the new frames

shows_from : (q x : ℕ) (cs : List Cell) (l : Link) → (cell_at cs x).link ≡ Some l → Shows q (drop x cs) l (offset_of (cell_at cs x).side q)
shows_from q x [] l e = absurd (none-some l None refl e)
shows_from q zero (c ∷ cs) l e = inl (e, refl)
shows_from q (suc x) (c ∷ cs) l e = shows_from q x cs l e

numbered_from : (n z : ℕ) (ts : List TrackState) (t : TrackState) (l : Link) (o : Option ℤ) → track_numbered n ts ≡ Some t → Shows z (drop z t.cells) l o → SeesFrom z ts l o
numbered_from n z [] t l o e h = absurd cc
numbered_from n z (u ∷ us) t l o e h = by (eqb u.number n) e (λ k. numbered_from n z us t l o k h) where
  by : (b : Bool) → cond b (Some u) (track_numbered n us) ≡ Some t → (track_numbered n us ≡ Some t → SeesFrom z us l o) → SeesFrom z (u ∷ us) l o
  by true k later = inl (subst (λ (v : TrackState). Shows z (drop z v.cells) l o) (sym (same_Some u t k)) h)
  by false k later = inr (later k)

-- a track of the first is followed by one of the second
following : (R : TrackState → TrackState → Type 0) (n : ℕ) (ts us : List TrackState) (t : TrackState) → Each R ts us → track_numbered n ts ≡ Some t → (u : TrackState) × (track_numbered n us ≡ Some u) × R t u
following R n [] us t each e = absurd cc
following R n (t ∷ ts) [] s each e = absurd each
following R n (t ∷ ts) (u ∷ us) s each e = by (eqb t.number n) refl e (λ k. following R n ts us s each.2 k) where
  head : (b : Bool) → eqb t.number n ≡ b → track_numbered n (u ∷ us) ≡ cond b (Some u) (track_numbered n us)
  head b f = ap (λ (m : ℕ). cond (eqb m n) (Some u) (track_numbered n us)) each.0 ∙ ap (λ (c : Bool). cond c (Some u) (track_numbered n us)) f

  by : (b : Bool) → eqb t.number n ≡ b → cond b (Some t) (track_numbered n ts) ≡ Some s → (track_numbered n ts ≡ Some s → (v : TrackState) × (track_numbered n us ≡ Some v) × R s v)
      → (v : TrackState) × (track_numbered n (u ∷ us) ≡ Some v) × R s v
  by true f k later = (u, head true f, subst (λ (w : TrackState). R w u) (same_Some t s k) each.1)
  by false f k later = let r = later k in (r.0, head false f ∙ r.1, r.2)

pub reached : (table : Table) (named : List TrackState) (t : TrackState) (own x n : ℕ) (l : Link) (o : Option ℤ) → track_numbered own named ≡ Some t → HasPlace own x named
    → has_before table (cell_at t.cells x).side n ≡ true
    → Shows x (cells_of (reaching_back (cell_at (as_split x named t).cells x) n ∷ [])) l o
    → SeesFrom (x + (n + 0)) (links_split x (x + (n + 0)) (shifted false own x x (reaching_back (cell_at (as_split x named t).cells x) n ∷ []) named)) l o
reached table named t own x n l o e has before h = numbered_from own z vs after.0 l o after.1 shown where
  z : ℕ
  z = x + (n + 0)

  views : List ItemView
  views = reaching_back (cell_at (as_split x named t).cells x) n ∷ []

  ps : List TrackState
  ps = links_split x x named

  vs : List TrackState
  vs = links_split x z (shifted false own x x views named)

  found : (u : TrackState) × (track_numbered own ps ≡ Some u) × Shown t u
  found = following Shown own named ps t (shown_all x named (split_links x x named) named) e

  is : as_split x named t ≡ found.0
  is =
      ap (λ (m : ℕ). unwrap_or (track_numbered m ps) t) (is-numbered own named t e) ∙ ap (λ (p : Option TrackState). unwrap_or p t) found.1

  side : (cell_at t.cells x).side ≡ (cell_at (as_split x named t).cells x).side
  side = sides_at t.cells found.0.cells x found.2 ∙ ap (λ (u : TrackState). (cell_at u.cells x).side) (sym is)

  put : ((cell_at (as_split x named t).cells x).link ≡ Some l) × (offset_of (cell_at (as_split x named t).cells x).side (x + n) ≡ o)
  put = shows-back table (cell_at (as_split x named t).cells x) x n l o (ap (λ (s : Side What). has_before table s n) (sym side) ∙ before) h

  after : (v : TrackState) × (track_numbered own vs ≡ Some v) × Follows x z found.0 v
  after = following (Follows x z) own ps vs found.0 (follows-splits x z named (shifted false own x x views named) (follows_shifted own x views named has) (fronts_shifted own x views named has)) found.1

  there : Shows z (drop x found.0.cells) l (offset_of (cell_at found.0.cells x).side z)
  there = shows_from z x found.0.cells l (ap (λ (u : TrackState). (cell_at u.cells x).link) (sym is) ∙ put.0)

  at : offset_of (cell_at found.0.cells x).side z ≡ o
  at =
      ap (λ (u : TrackState). offset_of (cell_at u.cells x).side z) (sym is)
      ∙ (let k : x + (n + 0) ≡ x + n = omega arith in ap (offset_of (cell_at (as_split x named t).cells x).side) k ∙ put.1)

  shown : Shows z (drop z after.0.cells) l o
  shown = shows-alike z (drop x found.0.cells) (drop z after.0.cells) l o after.2.cells (subst (λ (a : Option ℤ). Shows z (drop x found.0.cells) l a) at there)
