-- Items of which each gets a link, with the home and the tracks of the one that it had: what stays as it was.
use Rattle.std.proofs.Common.{◌≡◌, ℕ, zero, suc, ◌+◌, ◌-◌, ◌<◌, ◌≤◌, Bool, true, false, cond, ltb, List, [], ◌∷◌, length, take, Option, Some, None, IfSome, slice_get, refl, sym, ap, ◌∙◌, arith, subst, IsBitSet}
use Rattle.std.proofs.lemmas.List.{take_all}
use Rattle.std.proofs.lemmas.Option.{slice_get_within}
use Rattle.std.specs.BTreeMap.{get}
use Rattle.std.specs.List.{list_any}
use Rattle.std.proofs.lemmas.Bool.{lt-ltb, ltb-true}
use Rattle.composables.specs.Links.{moved_link, same_link, split_number}
use Rattle.link_groups.specs.LinkedShifts.{moved_views}
use Rattle.frame_meaning.specs.declared.cells.Link.{Link}
use Rattle.frame_meaning.specs.declared.cells.Mark.{Mark}
use Rattle.frame_meaning.specs.declared.cells.What.{What}
use Rattle.frame_meaning.specs.declared.frames.Side.{Side}
use Rattle.frame_meaning.specs.declared.frames.Side.TheVariants.{Dark, Pic}
use Rattle.composables.specs.declared.items.ItemView.{ItemView}
use Rattle.composables.specs.declared.media.Table.{Table}
use Rattle.composables.specs.Changes.{changed_at, changed_track, with_link}
use Rattle.composables.specs.Good.{EachLiesIn, EachLinkOf, IsGood, IsLinkOf, SideLiesIn}
use Rattle.composables.specs.Items.{cells_of, items_of}
use Rattle.composables.specs.Joined.{AllFilled, IsTight, frames_in}
use Rattle.composables.specs.TrackFacts.{Apart, EachHolds, Holds, IsKept, Lacks, NumbersBelow, ShowsAsItem, first_mark, left_reach, right_reach}
use Rattle.composables.specs.TrackState.{TrackState}
use Rattle.composables.proofs.Joining.{items_of-tight, length-cells_of}
use Rattle.composables.proofs.MarkStanding.{filled_of, tight_of}
use Rattle.link_groups.specs.declared.splits.Splits.{Splits}
use Rattle.link_groups.specs.Splits.{key_cmp, key_of, given_link, relinked_cells, relinked_views, with_number}

-- each of these, as far as there are so many links, with its link
abbrev pub linked_each : List (Option Link) → List ItemView → List ItemView
linked_each ls [] = []
linked_each [] (v ∷ vs) = v ∷ vs
linked_each (l ∷ ls) (v ∷ vs) = with_link l v ∷ linked_each ls vs

-- none as before, or one with the same home and tracks
abbrev pub IsLike : Option Link → Option Link → Type 0
IsLike None None = Unit {0}
IsLike None (Some l) = ⊥
IsLike (Some k) None = ⊥
IsLike (Some k) (Some l) = (l.home ≡ k.home) × (l.tracks ≡ k.tracks)

abbrev pub AreLike : List (Option Link) → List ItemView → Type 0
AreLike ls [] = Unit {0}
AreLike [] (v ∷ vs) = Unit {0}
AreLike (l ∷ ls) (v ∷ vs) = IsLike v.link l × AreLike ls vs

first_linked : (ls : List (Option Link)) (vs : List ItemView) → first_mark (linked_each ls vs) ≡ first_mark vs
first_linked ls [] = refl
first_linked [] (v ∷ vs) = refl
first_linked (l ∷ ls) (v ∷ vs) = refl

shows_like : (o : Option ℕ) (d : Side What) (k l : Option Link) → IsLike k l → ShowsAsItem o d k → ShowsAsItem o d l
shows_like None Dark None None i s = tt
shows_like None Dark None (Some l) i s = absurd i
shows_like None Dark (Some k) l i s = absurd s
shows_like None (Pic w f) k l i s = absurd s
shows_like (Some n) Dark k l i s = absurd s
shows_like (Some n) (Pic w f) k l i s = tt

holds_like : (v : ItemView) (tail : Option Mark) (l : Option Link) → IsLike v.link l → Holds v tail → Holds (with_link l v) tail
holds_like v tail l i h = record {
  filled = h.filled;
  shows = shows_like v.item v.first v.link l i h.shows;
  mark_filled = h.mark_filled;
  room = h.room;
  source = h.source;
  head_no_nest = h.head_no_nest;
  tail_no_nest = h.tail_no_nest;
}

each_linked : (ls : List (Option Link)) (vs : List ItemView) → AreLike ls vs → EachHolds vs → EachHolds (linked_each ls vs)
each_linked ls [] a h = tt
each_linked [] (v ∷ vs) a h = h
each_linked (l ∷ ls) (v ∷ vs) a h =
    (subst (Holds (with_link l v)) (sym (first_linked ls vs)) (holds_like v (first_mark vs) l a.0 h.0), each_linked ls vs a.1 h.1)

lacks_linked : (n : ℕ) (ls : List (Option Link)) (vs : List ItemView) → Lacks n vs → Lacks n (linked_each ls vs)
lacks_linked n ls [] h = tt
lacks_linked n [] (v ∷ vs) h = h
lacks_linked n (l ∷ ls) (v ∷ vs) h = (h.0, lacks_linked n ls vs h.1)

if_lacks : (o : Option ℕ) (ls : List (Option Link)) (vs : List ItemView) → IfSome o (λ n. Lacks n vs) → IfSome o (λ n. Lacks n (linked_each ls vs))
if_lacks None ls vs h = tt
if_lacks (Some n) ls vs h = lacks_linked n ls vs h

apart_linked : (ls : List (Option Link)) (vs : List ItemView) → Apart vs → Apart (linked_each ls vs)
apart_linked ls [] h = tt
apart_linked [] (v ∷ vs) h = h
apart_linked (l ∷ ls) (v ∷ vs) h = (if_lacks v.item ls vs h.0, apart_linked ls vs h.1)

below_linked : (next : ℕ) (ls : List (Option Link)) (vs : List ItemView) → NumbersBelow next vs → NumbersBelow next (linked_each ls vs)
below_linked next ls [] h = tt
below_linked next [] (v ∷ vs) h = h
below_linked next (l ∷ ls) (v ∷ vs) h = (h.0, below_linked next ls vs h.1)

ranges_linked : (table : Table) (ls : List (Option Link)) (vs : List ItemView) → EachLiesIn table vs → EachLiesIn table (linked_each ls vs)
ranges_linked table ls [] h = tt
ranges_linked table [] (v ∷ vs) h = h
ranges_linked table (l ∷ ls) (v ∷ vs) h =
    (subst (λ (m : Option Mark). SideLiesIn table v.first v.len (left_reach v.mark) (right_reach m)) (sym (first_linked ls vs)) h.0, ranges_linked table ls vs h.1)

own_like : (n : ℕ) (k l : Option Link) → IsLike k l → IsLinkOf n k → IsLinkOf n l
own_like n None None i h = tt
own_like n None (Some l) i h = absurd i
own_like n (Some k) None i h = absurd i
own_like n (Some k) (Some l) i h =
    (subst (λ (s : ℕ). IsBitSet s n) (sym i.1) h.0, subst (λ (s : ℕ). IsBitSet s l.home) (sym i.1) (subst (IsBitSet k.tracks) (sym i.0) h.1))

links_linked : (n : ℕ) (ls : List (Option Link)) (vs : List ItemView) → AreLike ls vs → EachLinkOf n vs → EachLinkOf n (linked_each ls vs)
links_linked n ls [] a h = tt
links_linked n [] (v ∷ vs) a h = h
links_linked n (l ∷ ls) (v ∷ vs) a h = (own_like n v.link l a.0 h.0, links_linked n ls vs a.1 h.1)

frames_linked : (ls : List (Option Link)) (vs : List ItemView) → frames_in (linked_each ls vs) ≡ frames_in vs
frames_linked ls [] = refl
frames_linked [] (v ∷ vs) = refl
frames_linked (l ∷ ls) (v ∷ vs) = ap (λ (n : ℕ). v.len + n) (frames_linked ls vs)

pub length-linked : (ls : List (Option Link)) (vs : List ItemView) → length (linked_each ls vs) ≡ length vs
length-linked ls [] = refl
length-linked [] (v ∷ vs) = refl
length-linked (l ∷ ls) (v ∷ vs) = ap suc (length-linked ls vs)

filled_linked : (ls : List (Option Link)) (vs : List ItemView) → AllFilled vs → AllFilled (linked_each ls vs)
filled_linked ls [] h = tt
filled_linked [] (v ∷ vs) h = h
filled_linked (l ∷ ls) (v ∷ vs) h = (h.0, filled_linked ls vs h.1)

tight_linked : (ls : List (Option Link)) (vs : List ItemView) → IsTight vs → IsTight (linked_each ls vs)
tight_linked ls [] h = tt
tight_linked [] (v ∷ vs) h = h
tight_linked (l ∷ ls) (v ∷ []) h = tt
tight_linked (l ∷ []) (v ∷ w ∷ vs) h = h
tight_linked (l ∷ m ∷ ls) (v ∷ w ∷ vs) h = (h.0, tight_linked (m ∷ ls) (w ∷ vs) h.1)

-- a track whose items get these links
abbrev pub linked_track : List (Option Link) → TrackState → TrackState
linked_track ls t = record t { cells = cells_of (linked_each ls (items_of t.cells)) }

pub items-linked : (ls : List (Option Link)) (t : TrackState) → IsKept t → items_of (linked_track ls t).cells ≡ linked_each ls (items_of t.cells)
items-linked ls t k =
    items_of-tight (linked_each ls (items_of t.cells)) (filled_linked ls (items_of t.cells) (filled_of (items_of t.cells) k.each)) (tight_linked ls (items_of t.cells) (tight_of t k))

pub long-linked : (ls : List (Option Link)) (t : TrackState) → IsKept t → length (linked_track ls t).cells ≡ length t.cells
long-linked ls t k =
    omega (arith, length-cells_of (linked_each ls (items_of t.cells)), length-cells_of (items_of t.cells), frames_linked ls (items_of t.cells), ap length k.whole)

pub kept-linked : (ls : List (Option Link)) (t : TrackState) → AreLike ls (items_of t.cells) → IsKept t → IsKept (linked_track ls t)
kept-linked ls t a k =
    let same = items-linked ls t k in
    record {
      whole = ap cells_of same;
      not_before = rw same (first_linked ls (items_of t.cells) ∙ k.not_before);
      each = rw same (each_linked ls (items_of t.cells) a k.each);
      apart = rw same (apart_linked ls (items_of t.cells) k.apart);
      below = rw same (below_linked t.next_item ls (items_of t.cells) k.below);
      short = omega (arith, k.short, long-linked ls t k);
    }

pub good-linked : (table : Table) (ls : List (Option Link)) (t : TrackState) → AreLike ls (items_of t.cells) → IsGood table t → IsGood table (linked_track ls t)
good-linked table ls t a g =
    let same = items-linked ls t g.kept in
    record {
      kept = kept-linked ls t a g.kept;
      ranges = rw same (ranges_linked table ls (items_of t.cells) g.ranges);
      links = rw same (links_linked t.number ls (items_of t.cells) a g.links);
      frames = omega (arith, long-linked ls t g.kept, g.frames);
      items = omega (arith, ap length same, length-linked ls (items_of t.cells), g.items);
    }

-- one after another

pub read-linked : (i : ℕ) (ls : List (Option Link)) (vs : List ItemView) → slice_get (linked_each (take i ls) vs) i ≡ slice_get vs i
read-linked i ls [] = refl
read-linked zero ls (v ∷ vs) = refl
read-linked (suc i) [] (v ∷ vs) = refl
read-linked (suc i) (l ∷ ls) (v ∷ vs) = read-linked i ls vs

pub like-first : (i : ℕ) (ls : List (Option Link)) (vs : List ItemView) → AreLike ls vs → AreLike (take i ls) vs
like-first i ls [] a = tt
like-first zero ls (v ∷ vs) a = tt
like-first (suc i) [] (v ∷ vs) a = tt
like-first (suc i) (l ∷ ls) (v ∷ vs) a = (a.0, like-first i ls vs a.1)

pub linked-more : (i : ℕ) (ls : List (Option Link)) (vs : List ItemView) (l : Option Link) → slice_get ls i ≡ Some l → linked_each (take (suc i) ls) vs ≡ changed_at (with_link l) i (linked_each (take i ls) vs)
linked-more i ls [] l e = refl
linked-more i [] (v ∷ vs) l e = absurd (omega (arith, slice_get_within [] i l e))
linked-more zero (k ∷ ls) (v ∷ vs) l e =
    let same : k ≡ l = cc in
    ap (λ (m : Option Link). with_link m v ∷ linked_each [] vs) same ∙ ap (λ (us : List ItemView). with_link l v ∷ us) (bare vs) where
      bare : (vs : List ItemView) → linked_each [] vs ≡ vs
      bare [] = refl
      bare (v ∷ vs) = refl
linked-more (suc i) (k ∷ ls) (v ∷ vs) l e = ap (λ (us : List ItemView). with_link k v ∷ us) (linked-more i ls vs l e)

-- the link that an item has changes nothing
pub own-link : (i : ℕ) (vs : List ItemView) (v : ItemView) → slice_get vs i ≡ Some v → changed_at (with_link v.link) i vs ≡ vs
own-link i [] v e = refl
own-link zero (w ∷ ws) v e = let same : w ≡ v = cc in ap (λ (u : ItemView). with_link u.link w ∷ ws) (sym same)
own-link (suc i) (w ∷ ws) v e = ap (λ (us : List ItemView). w ∷ us) (own-link i ws v e)

pub own-track : (t : TrackState) (i : ℕ) (v : ItemView) → IsKept t → slice_get (items_of t.cells) i ≡ Some v → t ≡ changed_track t i (with_link v.link)
own-track t i v k e =
    sym (ap (λ (vs : List ItemView). record t { cells = cells_of vs }) (own-link i (items_of t.cells) v e) ∙ ap (λ (cs : List _). record t { cells = cs }) k.whole)

pub shows_at : (vs : List ItemView) (i : ℕ) (v : ItemView) → slice_get vs i ≡ Some v → EachHolds vs → ShowsAsItem v.item v.first v.link
shows_at [] i v e h = absurd (omega (arith, slice_get_within [] i v e))
shows_at (w ∷ ws) zero v e h = let same : w ≡ v = cc in subst (λ (u : ItemView). ShowsAsItem u.item u.first u.link) same h.0.shows
shows_at (w ∷ ws) (suc i) v e h = shows_at ws i v e h.1

-- an item that has a link gets another
pub record AsOne (l : Option Link) (i : ℕ) (vs : List ItemView) : Type 0 where
  pub links : List (Option Link)
  pub is : changed_at (with_link l) i vs ≡ linked_each links vs
  pub like : AreLike links vs

like_self : (l : Option Link) → IsLike l l
like_self None = tt
like_self (Some l) = (refl, refl)

pub as-one : (l : Option Link) (i : ℕ) (vs : List ItemView) (v : ItemView) → slice_get vs i ≡ Some v → IsLike v.link l → AsOne l i vs
as-one l i [] v e k = absurd (omega (arith, slice_get_within [] i v e))
as-one l zero (w ∷ ws) v e k =
    let same : w ≡ v = cc in
    record { links = l ∷ []; is = ap (λ (us : List ItemView). with_link l w ∷ us) (sym (bare ws)); like = (subst (λ (u : ItemView). IsLike u.link l) (sym same) k, none ws) } where
      bare : (vs : List ItemView) → linked_each [] vs ≡ vs
      bare [] = refl
      bare (v ∷ vs) = refl

      none : (vs : List ItemView) → AreLike [] vs
      none [] = tt
      none (v ∷ vs) = tt
as-one l (suc i) (w ∷ ws) v e k =
    let rest = as-one l i ws v e k in
    record { links = w.link ∷ rest.links; is = ap (λ (us : List ItemView). w ∷ us) rest.is; like = (like_self w.link, rest.like) }

pub kept-one : (t : TrackState) (i : ℕ) (v : ItemView) (l : Option Link) → IsKept t → slice_get (items_of t.cells) i ≡ Some v → IsLike v.link l → IsKept (changed_track t i (with_link l))
kept-one t i v l kept e k =
    let one = as-one l i (items_of t.cells) v e k in
    subst (λ (vs : List ItemView). IsKept (record t { cells = cells_of vs })) (sym one.is) (kept-linked one.links t one.like kept)

-- the new links of items and gaps, where those get them that end past a place
abbrev pub new_links : (Option Link → Option Link) → ℕ → List ItemView → List (Option Link)
new_links f place [] = []
new_links f place (v ∷ vs) = cond (ltb place v.len) (f v.link) v.link ∷ new_links f (place - v.len) vs

one_linked : (b : Bool) (l : Option Link) (v : ItemView) → cond b (with_link l v) v ≡ with_link (cond b l v.link) v
one_linked true l v = refl
one_linked false l v = refl

pub views-linked : (s : Splits) (place : ℕ) (vs : List ItemView) → relinked_views s place vs ≡ linked_each (new_links (given_link s) place vs) vs
views-linked s place [] = refl
views-linked s place (v ∷ vs) =
    ap (λ (u : ItemView). u ∷ relinked_views s (place - v.len) vs) (one_linked (ltb place v.len) (given_link s v.link) v)
    ∙ ap (λ (us : List ItemView). with_link (cond (ltb place v.len) (given_link s v.link) v.link) v ∷ us) (views-linked s (place - v.len) vs)

pub moved-linked : (tracks : List TrackState) (splits : List Link) (place : ℕ) (vs : List ItemView) → moved_views tracks splits place vs ≡ linked_each (new_links (moved_link tracks splits) place vs) vs
moved-linked tracks splits place [] = refl
moved-linked tracks splits place (v ∷ vs) =
    ap (λ (u : ItemView). u ∷ moved_views tracks splits (place - v.len) vs) (one_linked (ltb place v.len) (moved_link tracks splits v.link) v)
    ∙ ap (λ (us : List ItemView). with_link (cond (ltb place v.len) (moved_link tracks splits v.link) v.link) v ∷ us) (moved-linked tracks splits (place - v.len) vs)

like_number : (l : Link) (n : Option ℕ) → IsLike (Some l) (Some (with_number l n))
like_number l None = (refl, refl)
like_number l (Some n) = (refl, refl)

pub like-new : (s : Splits) (l : Option Link) → IsLike l (given_link s l)
like-new s None = tt
like-new s (Some l) = like_number l (get key_cmp s.numbers (key_of l))

pub like-moved : (tracks : List TrackState) (splits : List Link) (l : Option Link) → IsLike l (moved_link tracks splits l)
like-moved tracks splits None = tt
like-moved tracks splits (Some l) = by (list_any (same_link l) splits) where
  by : (b : Bool) → IsLike (Some l) (cond b (Some (record l { number = split_number tracks splits l })) (Some l))
  by true = (refl, refl)
  by false = (refl, refl)

pub like-links : (f : Option Link → Option Link) → ((l : Option Link) → IsLike l (f l)) → (place : ℕ) (vs : List ItemView) → AreLike (new_links f place vs) vs
like-links f h place [] = tt
like-links f h place (v ∷ vs) = (by (ltb place v.len), like-links f h (place - v.len) vs) where
  by : (b : Bool) → IsLike v.link (cond b (f v.link) v.link)
  by true = h v.link
  by false = like_self v.link

pub link-at : (f : Option Link → Option Link) (place : ℕ) (vs : List ItemView) (i : ℕ) (v : ItemView) → slice_get vs i ≡ Some v
    → slice_get (new_links f place vs) i ≡ Some (cond (ltb (place - frames_in (take i vs)) v.len) (f v.link) v.link)
link-at f place [] i v e = absurd (omega (arith, slice_get_within [] i v e))
link-at f place (w ∷ ws) zero v e =
    let same : w ≡ v = cc in
    let none : place - 0 ≡ place = omega arith in
    ap (λ (u : ItemView). Some (cond (ltb place u.len) (f u.link) u.link)) same ∙ ap (λ (n : ℕ). Some (cond (ltb n v.len) (f v.link) v.link)) (sym none)
link-at f place (w ∷ ws) (suc i) v e =
    let less : (place - w.len) - frames_in (take i ws) ≡ place - (w.len + frames_in (take i ws)) = omega arith in
    link-at f (place - w.len) ws i v e ∙ ap (λ (n : ℕ). Some (cond (ltb n v.len) (f v.link) v.link)) less

pub length-links : (f : Option Link → Option Link) (place : ℕ) (vs : List ItemView) → length (new_links f place vs) ≡ length vs
length-links f place [] = refl
length-links f place (v ∷ vs) = ap suc (length-links f (place - v.len) vs)

-- an item that ends past the place, and one that does not
pub link-met : (f : Option Link → Option Link) (place : ℕ) (vs : List ItemView) (i : ℕ) (v : ItemView) → slice_get vs i ≡ Some v → 0 < v.len → place < frames_in (take i vs) + v.len
    → slice_get (new_links f place vs) i ≡ Some (f v.link)
link-met f place vs i v e some met = link-at f place vs i v e ∙ ap (λ (b : Bool). Some (cond b (f v.link) v.link)) (lt-ltb (place - frames_in (take i vs)) v.len (omega (arith, met, some)))

pub link-passed : (f : Option Link → Option Link) (place : ℕ) (vs : List ItemView) (i : ℕ) (v : ItemView) → slice_get vs i ≡ Some v → frames_in (take i vs) + v.len ≤ place
    → slice_get (new_links f place vs) i ≡ Some v.link
link-passed f place vs i v e passed = link-at f place vs i v e ∙ ap (λ (b : Bool). Some (cond b (f v.link) v.link)) (not_less (place - frames_in (take i vs)) v.len (omega (arith, passed))) where
  not_less : (a b : ℕ) → b ≤ a → ltb a b ≡ false
  not_less a b h = by (ltb a b) refl where
    by : (c : Bool) → ltb a b ≡ c → c ≡ false
    by true k = absurd (omega (arith, ltb-true a b k, h))
    by false k = refl

-- all of them
pub all-links : (s : Splits) (place : ℕ) (t : TrackState) (i : ℕ) → length (items_of t.cells) ≤ i → linked_track (take i (new_links (given_link s) place (items_of t.cells))) t ≡ relinked_cells s place t
all-links s place t i le =
    ap (λ (ls : List (Option Link)). linked_track ls t) (take_all i (new_links (given_link s) place (items_of t.cells)) (omega (arith, le, length-links (given_link s) place (items_of t.cells))))
    ∙ ap (λ (vs : List ItemView). record t { cells = cells_of vs }) (sym (views-linked s place (items_of t.cells)))

-- the items one after another

pub none-there : (vs : List ItemView) (i : ℕ) → i < length vs → slice_get vs i ≡ None → ⊥
none-there [] i h e = absurd (omega (arith, h))
none-there (v ∷ vs) zero h e = absurd cc
none-there (v ∷ vs) (suc i) h e = none-there vs i (omega (arith, h)) e

abbrev pub first_links : Splits → ℕ → TrackState → ℕ → List (Option Link)
first_links s place t i = take i (new_links (given_link s) place (items_of t.cells))

items_now : (s : Splits) (place : ℕ) (t u : TrackState) (i : ℕ) → IsKept t → u ≡ linked_track (first_links s place t i) t → items_of u.cells ≡ linked_each (first_links s place t i) (items_of t.cells)
items_now s place t u i k e = ap (λ (w : TrackState). items_of w.cells) e ∙ items-linked (first_links s place t i) t k

pub read-now : (s : Splits) (place : ℕ) (t u : TrackState) (i : ℕ) → IsKept t → u ≡ linked_track (first_links s place t i) t → slice_get (items_of u.cells) i ≡ slice_get (items_of t.cells) i
read-now s place t u i k e = ap (λ (vs : List ItemView). slice_get vs i) (items_now s place t u i k e) ∙ read-linked i (new_links (given_link s) place (items_of t.cells)) (items_of t.cells)

pub kept-now : (s : Splits) (place : ℕ) (t u : TrackState) (i : ℕ) → IsKept t → u ≡ linked_track (first_links s place t i) t → IsKept u
kept-now s place t u i k e =
    subst IsKept (sym e) (kept-linked (first_links s place t i) t (like-first i (new_links (given_link s) place (items_of t.cells)) (items_of t.cells) (like-links (given_link s) (like-new s) place (items_of t.cells))) k)

filled_at : (vs : List ItemView) (i : ℕ) (v : ItemView) → slice_get vs i ≡ Some v → EachHolds vs → 0 < v.len
filled_at [] i v e h = absurd (omega (arith, slice_get_within [] i v e))
filled_at (w ∷ ws) zero v e h = let same : w ≡ v = cc in subst (λ (u : ItemView). 0 < u.len) same h.0.filled
filled_at (w ∷ ws) (suc i) v e h = filled_at ws i v e h.1

pub more-met : (s : Splits) (place : ℕ) (t u : TrackState) (i : ℕ) (v : ItemView) → IsKept t → u ≡ linked_track (first_links s place t i) t → slice_get (items_of t.cells) i ≡ Some v
    → place < frames_in (take i (items_of t.cells)) + v.len → changed_track u i (with_link (given_link s v.link)) ≡ linked_track (first_links s place t (i + 1)) t
more-met s place t u i v k e read met =
    let ls : List (Option Link) = new_links (given_link s) place (items_of t.cells) in
    let next : suc i ≡ i + 1 = omega arith in
    ap (λ (w : TrackState). changed_track w i (with_link (given_link s v.link))) e
    ∙ (ap (λ (vs : List ItemView). record t { cells = cells_of (changed_at (with_link (given_link s v.link)) i vs) }) (items-linked (first_links s place t i) t k)
    ∙ (ap (λ (vs : List ItemView). record t { cells = cells_of vs }) (sym (linked-more i (new_links (given_link s) place (items_of t.cells)) (items_of t.cells) (given_link s v.link) (link-met (given_link s) place (items_of t.cells) i v read (filled_at (items_of t.cells) i v read k.each) met)))
    ∙ ap (λ (n : ℕ). linked_track (first_links s place t n) t) next))

pub more-past : (s : Splits) (place : ℕ) (t u : TrackState) (i : ℕ) (v : ItemView) → IsKept t → u ≡ linked_track (first_links s place t i) t → slice_get (items_of t.cells) i ≡ Some v
    → frames_in (take i (items_of t.cells)) + v.len ≤ place → u ≡ linked_track (first_links s place t (i + 1)) t
more-past s place t u i v k e read past =
    let next : suc i ≡ i + 1 = omega arith in
    e
    ∙ (ap (λ (vs : List ItemView). record t { cells = cells_of vs })
    (sym (linked-more i (new_links (given_link s) place (items_of t.cells)) (items_of t.cells) v.link (link-passed (given_link s) place (items_of t.cells) i v read past)
    ∙ own-link i (linked_each (first_links s place t i) (items_of t.cells)) v (read-linked i (new_links (given_link s) place (items_of t.cells)) (items_of t.cells) ∙ read)))
    ∙ ap (λ (n : ℕ). linked_track (first_links s place t n) t) next)
