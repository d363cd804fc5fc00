-- What is not linked.
use Rattle.std.proofs.Common.{◌≡◌, ℕ, zero, suc, ◌-◌, Bool, true, false, cond, ◌||◌, ltb, List, [], ◌∷◌, ◌++◌, drop, take, Option, None, refl, sym, ap, ◌∙◌, subst}
use Rattle.std.specs.List.{list_any}
use Rattle.frame_meaning.specs.declared.cells.Cell.{Cell}
use Rattle.frame_meaning.specs.declared.cells.Link.{Link}
use Rattle.frame_meaning.specs.declared.cells.Mark.{Mark}
use Rattle.frame_meaning.specs.declared.cells.What.{What}
use Rattle.frame_meaning.specs.declared.frames.Side.{Side}
use Rattle.frame_meaning.specs.Cells.{next_side, span}
use Rattle.composables.specs.declared.items.ItemView.{ItemView}
use Rattle.composables.specs.Good.{AllUnlinked}
use Rattle.composables.specs.Items.{cells_of, items_of, marked, view_cells}
use Rattle.composables.specs.Links.{least_link, least_outside, outside}
use Rattle.composables.specs.TrackFacts.{IsKept}
use Rattle.composables.specs.TrackState.{TrackState}
use Rattle.link_groups.specs.declared.splits.Splits.{Splits}
use Rattle.link_groups.specs.ItemLinks.{is_elsewhere}
use Rattle.link_groups.specs.Splits.{given_link, has_key, is_key_of, relinked_cells, relinked_view, relinked_views}

abbrev pub AreBare : List Cell → Type 0
AreBare [] = Unit {0}
AreBare (c ∷ cs) = (c.link ≡ None) × AreBare cs

bare_append : (cs ds : List Cell) → AreBare cs → AreBare ds → AreBare (cs ++ ds)
bare_append [] ds h k = k
bare_append (c ∷ cs) ds h k = (h.0, bare_append cs ds h.1 k)

bare_span : (i : Option ℕ) (s : Side What) (l : Option Link) (n : ℕ) → l ≡ None → AreBare (span i s l n)
bare_span i s l zero e = tt
bare_span i s l (suc n) e = (e, bare_span i (next_side s) l n e)

bare_marked : (m : Option Mark) (cs : List Cell) → AreBare cs → AreBare (marked m cs)
bare_marked m [] h = tt
bare_marked m (c ∷ cs) h = h

pub bare-views : (vs : List ItemView) → AllUnlinked vs → AreBare (cells_of vs)
bare-views [] u = tt
bare-views (v ∷ vs) u =
    bare_append (view_cells v) (cells_of vs) (bare_marked v.mark (span v.item v.first v.link v.len) (bare_span v.item v.first v.link v.len u.0)) (bare-views vs u.1)

pub bare-take : (n : ℕ) (cs : List Cell) → AreBare cs → AreBare (take n cs)
bare-take zero cs h = tt
bare-take (suc n) [] h = tt
bare-take (suc n) (c ∷ cs) h = (h.0, bare-take n cs h.1)

pub bare-drop : (n : ℕ) (cs : List Cell) → AreBare cs → AreBare (drop n cs)
bare-drop zero cs h = h
bare-drop (suc n) [] h = tt
bare-drop (suc n) (c ∷ cs) h = bare-drop n cs h.1

-- the cells of a track without links
pub bare-cells : (t : TrackState) → IsKept t → AllUnlinked (items_of t.cells) → AreBare t.cells
bare-cells t k u = subst AreBare k.whole (bare-views (items_of t.cells) u)

pub bare-outside : (named : List TrackState) (cs : List Cell) → AreBare cs → least_outside named cs ≡ None
bare-outside named [] h = refl
bare-outside named (c ∷ cs) h =
    ap (λ (o : Option Link). least_link (outside named o) (least_outside named cs)) h.0 ∙ bare-outside named cs h.1

pub bare-keys : (q : ℕ × ℕ) (cs : List Cell) → AreBare cs → list_any (has_key q) cs ≡ false
bare-keys q [] h = refl
bare-keys q (c ∷ cs) h = ap (λ (o : Option Link). is_key_of q o || list_any (has_key q) cs) h.0 ∙ bare-keys q cs h.1

pub bare-elsewhere : (l : Link) (own i n : ℕ) (cs : List Cell) → AreBare cs → list_any (λ (c : Cell). is_elsewhere l own i n c.item c.link) cs ≡ false
bare-elsewhere l own i n [] h = refl
bare-elsewhere l own i n (c ∷ cs) h =
    ap (λ (o : Option Link). is_elsewhere l own i n c.item o || list_any (λ (c : Cell). is_elsewhere l own i n c.item c.link) cs) h.0 ∙ bare-elsewhere l own i n cs h.1

-- a track without links gets none
one_bare : (s : Splits) (place : ℕ) (v : ItemView) → v.link ≡ None → relinked_view s place v ≡ v
one_bare s place v e = by (ltb place v.len) where
  same : record v { link = given_link s v.link } ≡ v
  same = ap (λ (o : Option Link). record v { link = given_link s o }) e ∙ ap (λ (o : Option Link). record v { link = o }) (sym e)

  by : (b : Bool) → cond b (record v { link = given_link s v.link }) v ≡ v
  by true = same
  by false = refl

views_bare : (s : Splits) (place : ℕ) (vs : List ItemView) → AllUnlinked vs → relinked_views s place vs ≡ vs
views_bare s place [] u = refl
views_bare s place (v ∷ vs) u =
    ap (λ (w : ItemView). w ∷ relinked_views s (place - v.len) vs) (one_bare s place v u.0) ∙ ap (λ (ws : List ItemView). v ∷ ws) (views_bare s (place - v.len) vs u.1)

pub bare-track : (s : Splits) (place : ℕ) (t : TrackState) → IsKept t → AllUnlinked (items_of t.cells) → t ≡ relinked_cells s place t
bare-track s place t k u =
    sym (ap (λ (vs : List ItemView). record t { cells = cells_of vs }) (views_bare s place (items_of t.cells) u) ∙ ap (λ (cs : List Cell). record t { cells = cs }) k.whole)

pub or_none : (a b : Bool) → b ≡ false → a ≡ (a || b)
or_none true b e = refl
or_none false b e = sym e
