-- A slip: all that has the link of an item shows other source frames, by one delta.
use Rattle.std.proofs.Common.{◌≡◌, ℕ, zero, suc, ◌+◌, ◌-◌, ◌<◌, ◌≤◌, ◌⊎◌, inl, inr, ℤ, pos, negsuc, Bool, true, false, cond, ◌&&◌, List, [], ◌∷◌, ◌++◌, take, drop, map, length, Option, Some, None, refl, sym, ap, ◌∙◌, arith, subst, IsBitSet}
use Rattle.std.proofs.lemmas.Bool.{and_parts}
use Rattle.std.proofs.lemmas.List.{length-append, length-drop, length-map, length-take-le, take_at}
use Rattle.frame_meaning.specs.declared.cells.Cell.{Cell}
use Rattle.frame_meaning.specs.declared.cells.Link.{Link}
use Rattle.frame_meaning.specs.declared.cells.Mark.{Mark}
use Rattle.frame_meaning.specs.declared.cells.What.{What}
use Rattle.frame_meaning.specs.declared.frames.Side.{Side}
use Rattle.frame_meaning.specs.declared.frames.Side.TheVariants.{Dark, Pic}
use Rattle.frame_meaning.specs.Cells.{next_side, same_number, span}
use Rattle.frame_meaning.specs.Render.{cell_at, moved}
use Rattle.composables.specs.declared.calls.Slip.{Slip}
use Rattle.composables.specs.declared.items.ItemView.{ItemView}
use Rattle.composables.specs.declared.media.Table.{Table}
use Rattle.composables.specs.Bounds.{bounds_of}
use Rattle.composables.specs.Good.{IsGood}
use Rattle.composables.specs.Items.{cells_of, items_of, marked, view_cells}
use Rattle.composables.specs.Joined.{AllFilled}
use Rattle.composables.specs.Links.{first_unnamed, is_named, next_link_at, outside_refusal, outside_at, same_link}
use Rattle.composables.specs.OwnTracks.{among_named, track_numbered}
use Rattle.composables.specs.Ranges.{on_range, offset_of, range_from, range_of}
use Rattle.composables.specs.TrackFacts.{first_mark, left_reach}
use Rattle.composables.specs.TrackSets.{tracks_in}
use Rattle.composables.specs.TrackState.{TrackState}
use Rattle.composables.proofs.Joining.{length-view_cells}
use Rattle.edit_delta.specs.Nearest.{nearest}
use Rattle.edit_delta.specs.Reaching.{has_before}
use Rattle.edit_delta.proofs.Greatest.{is-nearest}
use Rattle.edit_trim.specs.Slipping.{cell_moved, each_linked, each_linked_on, item_may_slip_earlier, link_allows, linked_moved, slip_allows, slip_link, slip_link_by, slip_own, slip_range, slip_track, slip_with, slipped, slipped_by, track_moved}
use Rattle.link_groups.specs.ItemLinks.{carries, link_found, link_of}
use Rattle.link_groups.specs.LinkedItems.{item_from}
use Rattle.link_laws.specs.SlipLaws.{SlippingKeepsTogether}
use Rattle.link_laws.specs.Rooms.{AreAmong, AreNamed, AreTracks, IsRoom, LeavesTogether, StaysTogether, with_tracks}
use Rattle.link_laws.specs.Together.{Together}
use Rattle.link_laws.specs.Weights.{begins, is_link, runs_in}
use Rattle.link_laws.proofs.Edits.{KeptOne, among-kept, kept-leaves, room-good, used-kept}
use Rattle.link_laws.proofs.FreeRanges.{end_of, filled-all, first_of, item-range, range-within}
use Rattle.link_laws.proofs.LinkedRuns.{runs-none}
use Rattle.link_laws.proofs.LinkLists.{Carries, Same, all-named, carries-left, carries-right, carries-shows, is-same, same-is-link, shows-carries}
use Rattle.link_laws.proofs.Runs.{count, runs-append, runs-cut}
use Rattle.link_laws.proofs.Shifting.{SeesRest, left-sees, named-found, numbered-sees, rest-all, rest-bit}
use Rattle.link_laws.proofs.ShiftEdits.{own-room, unless-leaves}
use Rattle.link_laws.proofs.Sights.{Shows, int-shift, offset-moved, rebased, shows-append, shows-at, shows-drop, shows-take}
use Rattle.link_laws.proofs.Splices.{has-frames}
use Rattle.link_laws.proofs.Tied.{Each, IsTied, Keeps, Sees, among-numbered, each-left, good-found, next-more, tied-of, together-of}
use Rattle.link_laws.proofs.Weighing.{Light, light-little, light-more, light-none, light-self, numbered-of}

differ : false ≡ true → ⊥
differ e = cc

-- offsets by other source frames

-- as many frames stand before it
abbrev Behind : Side What → ℕ → Type 0
Behind Dark back = Unit {0}
Behind (Pic w s) back = back ≤ s

later_offset : (s : Side What) (n p : ℕ) → offset_of (moved s n 0) p ≡ rebased n 0 (offset_of s p)
later_offset Dark n p = refl
later_offset (Pic w s) n p =
    let a : 0 + p ≡ p = omega arith in
    let b : n + p ≡ p + n = omega arith in
    let c : s + n - 0 ≡ s + n = omega arith in
    ap (λ (k : ℕ). offset_of (Pic w k) p) c
    ∙ (ap (offset_of (Pic w (s + n))) (sym a)
    ∙ (offset-moved (Pic w (s + n)) n 0 p
    ∙ ap (rebased n 0) (ap (offset_of (Pic w (s + n))) b ∙ ap Some (int-shift p s n))))

earlier_offset : (s : Side What) (n p : ℕ) → Behind s n → offset_of (moved s 0 n) p ≡ rebased 0 n (offset_of s p)
earlier_offset Dark n p h = refl
earlier_offset (Pic w s) n p h =
    let a : 0 + p ≡ p = omega arith in
    let b : p + n ≡ n + p = omega arith in
    let c : s + 0 - n ≡ s - n = omega arith in
    let d : s - n + n ≡ s = omega (arith, h) in
    ap (λ (k : ℕ). offset_of (Pic w k) p) c
    ∙ (sym (ap Some (int-shift p (s - n) n))
    ∙ (ap (λ (k : ℕ). offset_of (Pic w k) (p + n)) d
    ∙ (ap (offset_of (Pic w s)) b
    ∙ (offset-moved (Pic w s) 0 n p ∙ ap (rebased 0 n) (ap (offset_of (Pic w s)) a)))))

-- cells with a link that have as many source frames before them

abbrev AllBehind : Link → ℕ → List Cell → Type 0
AllBehind l n [] = Unit {0}
AllBehind l n (c ∷ cs) = (carries l c.link ≡ true → Behind c.side n) × AllBehind l n cs

behind_none : (l : Link) (cs : List Cell) → AllBehind l 0 cs
behind_none l [] = tt
behind_none l (c ∷ cs) = ((λ e. by c.side), behind_none l cs) where
  by : (s : Side What) → Behind s 0
  by Dark = tt
  by (Pic w s) = omega arith

behind_append : (l : Link) (n : ℕ) (cs ds : List Cell) → AllBehind l n cs → AllBehind l n ds → AllBehind l n (cs ++ ds)
behind_append l n [] ds h k = k
behind_append l n (c ∷ cs) ds h k = (h.0, behind_append l n cs ds h.1 k)

behind_next : (s : Side What) (n : ℕ) → Behind s n → Behind (next_side s) n
behind_next Dark n h = tt
behind_next (Pic w s) n h = omega (arith, h)

behind_span : (l : Link) (n : ℕ) (i : Option ℕ) (s : Side What) (k : Option Link) (len : ℕ) → (carries l k ≡ true → Behind s n) → AllBehind l n (span i s k len)
behind_span l n i s k zero h = tt
behind_span l n i s k (suc len) h = (h, behind_span l n i (next_side s) k len (λ e. behind_next s n (h e)))

behind_marked : (l : Link) (n : ℕ) (m : Option Mark) (cs : List Cell) → AllBehind l n cs → AllBehind l n (marked m cs)
behind_marked l n m [] h = tt
behind_marked l n m (c ∷ cs) h = h

side_behind : (table : Table) (s : Side What) (reach n : ℕ) → has_before table s (reach + n) ≡ true → Behind s n
side_behind table Dark reach n h = tt
side_behind table (Pic w s) reach n h = omega (arith, has-frames (bounds_of table w) s (reach + n) h)

behind_views : (table : Table) (l : Link) (n : ℕ) (vs : List ItemView) → each_linked l (item_may_slip_earlier table n) vs ≡ true → AllBehind l n (cells_of vs)
behind_views table l n [] h = tt
behind_views table l n (v ∷ vs) h = by (carries l v.link) refl h (λ k. behind_views table l n vs k) where
  rest : AllBehind l n (cells_of vs) → (carries l v.link ≡ true → Behind v.first n) → AllBehind l n (view_cells v ++ cells_of vs)
  rest k first =
      behind_append l n (view_cells v) (cells_of vs)
      (behind_marked l n v.mark (span v.item v.first v.link v.len) (behind_span l n v.item v.first v.link v.len first)) k

  by : (b : Bool) → carries l v.link ≡ b → (cond b (item_may_slip_earlier table n v (first_mark vs)) true && each_linked l (item_may_slip_earlier table n) vs) ≡ true
      → (each_linked l (item_may_slip_earlier table n) vs ≡ true → AllBehind l n (cells_of vs)) → AllBehind l n (view_cells v ++ cells_of vs)
  by true e k later =
      let r = and_parts (item_may_slip_earlier table n v (first_mark vs)) (each_linked l (item_may_slip_earlier table n) vs) k in
      rest (later r.1) (λ f. side_behind table v.first (left_reach v.mark) n r.0)
  by false e k later = rest (later k) (λ f. absurd (differ (sym e ∙ f)))

-- a track of which the cells with a link are moved

pub record Slips (l : Link) (g : Option ℤ → Option ℤ) (t u : TrackState) : Type 0 where
  pub shows : (m : Link) (o : Option ℤ) → Shows 0 u.cells m o
      → ((same_link l m ≡ true) × (b : Option ℤ) × Shows 0 t.cells m b × (o ≡ g b)) ⊎ ((same_link l m ≡ false) × Shows 0 t.cells m o)
  pub light : Light t u

abbrev Found : Link → (Option ℤ → Option ℤ) → ℕ → List Cell → Link → Option ℤ → Type 0
Found l g p cs m o = ((same_link l m ≡ true) × (b : Option ℤ) × Shows p cs m b × (o ≡ g b)) ⊎ ((same_link l m ≡ false) × Shows p cs m o)

found_on : (l : Link) (g : Option ℤ → Option ℤ) (p : ℕ) (c : Cell) (cs : List Cell) (m : Link) (o : Option ℤ) → Found l g (p + 1) cs m o → Found l g p (c ∷ cs) m o
found_on l g p c cs m o (inl r) = inl (r.0, r.1, inr r.2, r.3)
found_on l g p c cs m o (inr r) = inr (r.0, inr r.1)

moved_shows : (l : Link) (g : Option ℤ → Option ℤ) (on back p : ℕ) (cs : List Cell) (m : Link) (o : Option ℤ)
    → ((s : Side What) (q : ℕ) → Behind s back → offset_of (moved s on back) q ≡ g (offset_of s q)) → AllBehind l back cs
    → Shows p (map (linked_moved l on back) cs) m o → Found l g p cs m o
moved_shows l g on back p [] m o f a h = absurd h
moved_shows l g on back p (c ∷ cs) m o f a h = by (carries l c.link) refl h (λ k. moved_shows l g on back (p + 1) cs m o f a.1 k) where
  here : (b : Bool) → carries l c.link ≡ b → c.link ≡ Some m → same_link l m ≡ b
  here b e k = sym (ap (carries l) k) ∙ e

  by : (b : Bool) → carries l c.link ≡ b → Shows p (cond b (cell_moved on back c) c ∷ map (linked_moved l on back) cs) m o
      → (Shows (p + 1) (map (linked_moved l on back) cs) m o → Found l g (p + 1) cs m o) → Found l g p (c ∷ cs) m o
  by true e (inl k) later = inl (here true e k.0, offset_of c.side p, inl (k.0, refl), sym k.1 ∙ f c.side p (a.0 e))
  by true e (inr k) later = found_on l g p c cs m o (later k)
  by false e (inl k) later = inr (here false e k.0, inl k)
  by false e (inr k) later = found_on l g p c cs m o (later k)

pub moved-runs : (l : Link) (on back h n : ℕ) (b : Bool) (cs : List Cell) → runs_in h n b (map (linked_moved l on back) cs) ≡ runs_in h n b cs
moved-runs l on back h n b [] = refl
moved-runs l on back h n b (c ∷ cs) =
    ap (λ (o : Option Link). begins b (is_link h n o) + runs_in h n (is_link h n o) (map (linked_moved l on back) cs)) (by (carries l c.link))
    ∙ ap (λ (r : ℕ). begins b (is_link h n c.link) + r) (moved-runs l on back h n (is_link h n c.link) cs) where
      by : (q : Bool) → (cond q (cell_moved on back c) c).link ≡ c.link
      by true = refl
      by false = refl

track_slips : (l : Link) (g : Option ℤ → Option ℤ) (on back : ℕ) (t : TrackState)
    → ((s : Side What) (q : ℕ) → Behind s back → offset_of (moved s on back) q ≡ g (offset_of s q)) → AllBehind l back t.cells → Slips l g t (track_moved l on back t)
track_slips l g on back t f a = record {
  shows = λ m o h. moved_shows l g on back 0 t.cells m o f a h;
  light = (refl, ([], omega arith, λ h n. omega (arith, moved-runs l on back h n false t.cells)));
}

-- on all named tracks

abbrev EachBehind : Link → ℕ → List TrackState → Type 0
EachBehind l n [] = Unit {0}
EachBehind l n (t ∷ ts) = AllBehind l n t.cells × EachBehind l n ts

each_slips : (l : Link) (g : Option ℤ → Option ℤ) (on back : ℕ) (ts : List TrackState)
    → ((s : Side What) (q : ℕ) → Behind s back → offset_of (moved s on back) q ≡ g (offset_of s q)) → EachBehind l back ts → Each (Slips l g) ts (map (track_moved l on back) ts)
each_slips l g on back [] f a = tt
each_slips l g on back (t ∷ ts) f a = (refl, track_slips l g on back t f a.0, each_slips l g on back ts f a.1)

none_behind : (l : Link) (ts : List TrackState) → EachBehind l 0 ts
none_behind l [] = tt
none_behind l (t ∷ ts) = (behind_none l t.cells, none_behind l ts)

each_behind : (table : Table) (all : List TrackState) (l : Link) (n : ℕ) (ts : List TrackState) → AreTracks table all → AreAmong all ts
    → each_linked_on l (item_may_slip_earlier table n) ts ≡ true → EachBehind l n ts
each_behind table all l n [] g a h = tt
each_behind table all l n (t ∷ ts) g a h =
    let r = and_parts (each_linked l (item_may_slip_earlier table n) (items_of t.cells)) (each_linked_on l (item_may_slip_earlier table n) ts) h in
    let good : IsGood table t = (good-found table all t.number t g a.0).1 in
    (subst (AllBehind l n) good.kept.whole (behind_views table l n (items_of t.cells) r.0), each_behind table all l n ts g a.1 r.1)

-- all tracks of the room

slips_sees : (l : Link) (g : Option ℤ → Option ℤ) (all ts us : List TrackState) (m : Link) (o : Option ℤ) → AreAmong all ts → Each (Slips l g) ts us → Sees us m o
    → ((same_link l m ≡ true) × (b : Option ℤ) × Sees all m b × (o ≡ g b)) ⊎ ((same_link l m ≡ false) × Sees all m o)
slips_sees l g all [] [] m o a e h = absurd h
slips_sees l g all [] (u ∷ us) m o a e h = absurd e
slips_sees l g all (t ∷ ts) [] m o a e h = absurd h
slips_sees l g all (t ∷ ts) (u ∷ us) m o a e (inl h) = by (e.1.shows m o h) where
  by : ((same_link l m ≡ true) × (b : Option ℤ) × Shows 0 t.cells m b × (o ≡ g b)) ⊎ ((same_link l m ≡ false) × Shows 0 t.cells m o)
      → ((same_link l m ≡ true) × (b : Option ℤ) × Sees all m b × (o ≡ g b)) ⊎ ((same_link l m ≡ false) × Sees all m o)
  by (inl r) = inl (r.0, r.1, numbered-sees t.number all t m r.1 a.0 r.2, r.3)
  by (inr r) = inr (r.0, numbered-sees t.number all t m o a.0 r.1)
slips_sees l g all (t ∷ ts) (u ∷ us) m o a e (inr h) = slips_sees l g all ts us m o a.1 e.2 h

slips_light : (l : Link) (g : Option ℤ → Option ℤ) (ts us : List TrackState) → Each (Slips l g) ts us → Each Light ts us
slips_light l g [] [] e = tt
slips_light l g [] (u ∷ us) e = absurd e
slips_light l g (t ∷ ts) [] e = absurd e
slips_light l g (t ∷ ts) (u ∷ us) e = (e.0, e.1.light, slips_light l g ts us e.2)

slips_stay : (table : Table) (all named us : List TrackState) (l : Link) (g : Option ℤ → Option ℤ) → IsRoom table all → AreAmong all named → Together all → Each (Slips l g) named us
    → ((m : Link) (o : Option ℤ) → SeesRest named all m o → Same l m → ⊥) → StaysTogether all (with_tracks all us)
slips_stay table all named us l g room among together each alone = record {
  together = together-of left (record { one = one; below = below });
  little = light-little all left (numbered-of table all room) lights;
} where
  left : List TrackState
  left = with_tracks all us

  tied : IsTied all
  tied = tied-of all together

  lights : Each Light all (with_tracks all us)
  lights = each-left Light light-self all named us all among (slips_light l g named us each) room.apart

  Was : Link → Option ℤ → Type 0
  Was m o = ((same_link l m ≡ true) × (b : Option ℤ) × Sees all m b × (o ≡ g b)) ⊎ ((same_link l m ≡ false) × Sees all m o)

  was : (m : Link) (o : Option ℤ) → Sees (with_tracks all us) m o → Was m o
  was m o h = by (left-sees named us all m o (λ n e. light-none n named us (slips_light l g named us each) e) h) where
    rest : (b : Bool) → same_link l m ≡ b → SeesRest named all m o → Was m o
    rest true e r = absurd (alone m o r (is-same l m e))
    rest false e r = inr (e, rest-all named all m o r)

    by : SeesRest named all m o ⊎ Sees us m o → Was m o
    by (inl r) = rest (same_link l m) refl r
    by (inr s) = slips_sees l g all named us m o among each s

  apart : (k m : Link) → Same k m → same_link l k ≡ true → same_link l m ≡ false → ⊥
  apart k m s e f =
      let same = is-same l k e in
      differ (sym f ∙ same-is-link l m (same.0 ∙ s.0, same.1 ∙ s.1))

  one : (k m : Link) (a b : Option ℤ) → Sees (with_tracks all us) k a → Sees (with_tracks all us) m b → k.home ≡ m.home → k.number ≡ m.number → (k.tracks ≡ m.tracks) × (a ≡ b)
  one k m a b s t h n = by (was k a s) (was m b t) where
    by : Was k a → Was m b → (k.tracks ≡ m.tracks) × (a ≡ b)
    by (inl x) (inl y) = let r = tied.one k m x.1 y.1 x.2 y.2 h n in (r.0, x.3 ∙ (ap g r.1 ∙ sym y.3))
    by (inl x) (inr y) = absurd (apart k m (h, n) x.0 y.0)
    by (inr x) (inl y) = absurd (apart m k (sym h, sym n) y.0 x.0)
    by (inr x) (inr y) = tied.one k m a b x.1 y.1 h n

  below : (m : Link) (a : Option ℤ) → Sees (with_tracks all us) m a → m.number < next_link_at m.home (with_tracks all us)
  below m a s = by (was m a s) where
    up : next_link_at m.home all ≤ next_link_at m.home (with_tracks all us)
    up = next-more m.home all (with_tracks all us) (light-more all (with_tracks all us) lights)

    by : Was m a → m.number < next_link_at m.home (with_tracks all us)
    by (inl x) = omega (arith, tied.below m x.1 x.2, up)
    by (inr x) = omega (arith, tied.below m a x.1, up)

-- an item's link is that of a cell

found_carries : (vs : List ItemView) (p i : ℕ) (l : Link) → AllFilled vs → link_found (item_from p vs i) ≡ Some l → Carries (cells_of vs) l
found_carries [] p i l e h = absurd cc
found_carries (v ∷ vs) p i l e h = by (same_number v.item (Some i)) h (λ k. found_carries vs (p + v.len) i l e.1 k) where
  first : (n : ℕ) → 0 < n → (m : Option Mark) → v.link ≡ Some l → Carries (marked m (span v.item v.first v.link n)) l
  first zero lt m k = absurd (omega (arith, lt))
  first (suc n) lt m k = inl k

  by : (b : Bool) → link_found (cond b (Some (p, v)) (item_from (p + v.len) vs i)) ≡ Some l → (link_found (item_from (p + v.len) vs i) ≡ Some l → Carries (cells_of vs) l)
      → Carries (view_cells v ++ cells_of vs) l
  by true k later = carries-left (view_cells v) (cells_of vs) l (first v.len e.0 v.mark k)
  by false k later = carries-right (view_cells v) (cells_of vs) l (later k)

pub link-seen : (table : Table) (all : List TrackState) (t : TrackState) (n i : ℕ) (l : Link) → IsGood table t → track_numbered n all ≡ Some t → link_of t i ≡ Some l → (b : Option ℤ) × Sees all l b
link-seen table all t n i l g e h =
    let c : Carries t.cells l = subst (λ (cs : List Cell). Carries cs l) g.kept.whole (found_carries (items_of t.cells) 0 i l (filled-all t.cells) h) in
    let s = carries-shows 0 t.cells l c in
    (s.0, numbered-sees n all t l s.0 e s.1)

-- no other track has the link, where all of its tracks are named

pub alone-named : (table : Table) (all named : List TrackState) (l : Link) (b : Option ℤ) → IsRoom table all → Together all → Sees all l b → outside_refusal named (Some l) ≡ None
    → (m : Link) (o : Option ℤ) → SeesRest named all m o → Same l m → ⊥
alone-named table all named l b room g seen told m o rest same =
    let r = rest-bit table named all m o room.tracks rest in
    let tracks : m.tracks ≡ l.tracks = ((tied-of all g).one m l o b (rest-all named all m o rest) seen (sym same.0) (sym same.1)).0 in
    let inside : is_named named r.0 ≡ true = all-named named l.tracks r.0 (none (first_unnamed named (tracks_in l.tracks)) told) r.1 (subst (λ (v : ℕ). IsBitSet v r.0) tracks r.3) in
    let found = named-found r.0 named inside in
    some (track_numbered r.0 named) found.0 r.2 found.1 where
      none : (o : Option ℕ) → outside_at l o ≡ None → o ≡ None
      none None e = refl
      none (Some n) e = absurd cc

      some : (o : Option TrackState) (u : TrackState) → o ≡ None → o ≡ Some u → ⊥
      some o u e f = Prim.grind (arith, e, f)

-- the call, where the item has a link

link_keeps : (table : Table) (all named : List TrackState) (t : TrackState) (own i : ℕ) (l : Link) (by : ℤ) → IsRoom table all → AreNamed all named → Together all
    → track_numbered own named ≡ Some t → link_of t i ≡ Some l → outside_refusal named (Some l) ≡ None → LeavesTogether all (slip_link table named l by)
link_keeps table all named t own i l by room names g e h told = at (nearest (link_allows table named l) by) (is-nearest (link_allows table named l) by).member where
  seen : (b : Option ℤ) × Sees all l b
  seen = link-seen table all t own i l (room-good table all named own t room names.among e) (among-numbered all named own t names.among e) h

  alone : (m : Link) (o : Option ℤ) → SeesRest named all m o → Same l m → ⊥
  alone = alone-named table all named l seen.0 room g seen.1 told

  at : (d : ℤ) → (d ≡ pos 0) ⊎ (link_allows table named l d ≡ true) → LeavesTogether all (slip_link_by l named d)
  at (pos n) m =
      slips_stay table all named (map (track_moved l n 0) named) l (rebased n 0) room names.among g
      (each_slips l (rebased n 0) n 0 named (λ s q b. later_offset s n q) (none_behind l named)) alone
  at (negsuc n) (inl m) = absurd cc
  at (negsuc n) (inr m) =
      slips_stay table all named (map (track_moved l 0 (suc n)) named) l (rebased 0 (suc n)) room names.among g
      (each_slips l (rebased 0 (suc n)) 0 (suc n) named (λ s q b. earlier_offset s (suc n) q b) (each_behind table all l (suc n) named room.tracks names.among m)) alone

-- the call, where the item has none

drop_nothing : {A : Type 0} (n : ℕ) → drop {A = A} n [] ≡ []
drop_nothing zero = refl
drop_nothing (suc n) = refl

drop_past : (a b : ℕ) (cs ds : List Cell) → length cs ≤ a → drop a (take b (cs ++ ds)) ≡ drop (a - length cs) (take (b - length cs) ds)
drop_past a b [] ds le =
    let x : a ≡ a - 0 = omega arith in
    let y : b ≡ b - 0 = omega arith in
    ap (λ (n : ℕ). drop n (take b ds)) x ∙ ap (λ (n : ℕ). drop (a - 0) (take n ds)) y
drop_past zero b (c ∷ cs) ds le = absurd (omega (arith, le))
drop_past (suc a) zero (c ∷ cs) ds le =
    let y : 0 ≡ 0 - length (c ∷ cs) = omega arith in
    sym (drop_nothing (suc a - length (c ∷ cs))) ∙ ap (λ (n : ℕ). drop (suc a - length (c ∷ cs)) (take n ds)) y
drop_past (suc a) (suc b) (c ∷ cs) ds le =
    let x : a - length cs ≡ suc a - length (c ∷ cs) = omega arith in
    let y : b - length cs ≡ suc b - length (c ∷ cs) = omega arith in
    drop_past a b cs ds (omega (arith, le))
    ∙ (ap (λ (n : ℕ). drop n (take (b - length cs) ds)) x ∙ ap (λ (n : ℕ). drop (suc a - length (c ∷ cs)) (take n ds)) y)

span_carries : (i : Option ℕ) (s : Side What) (k : Option Link) (n : ℕ) (m : Link) → Carries (span i s k n) m → k ≡ Some m
span_carries i s k zero m h = absurd h
span_carries i s k (suc n) m (inl h) = h
span_carries i s k (suc n) m (inr h) = span_carries i (next_side s) k n m h

marked_carries : (mark : Option Mark) (cs : List Cell) (m : Link) → Carries (marked mark cs) m → Carries cs m
marked_carries mark [] m h = h
marked_carries mark (c ∷ cs) m (inl h) = inl h
marked_carries mark (c ∷ cs) m (inr h) = inr h

pub mid-link : (vs : List ItemView) (p i x y : ℕ) (m : Link) → AllFilled vs → range_from p vs i ≡ Some (x, y) → Carries (drop (x - p) (take (y - p) (cells_of vs))) m
    → link_found (item_from p vs i) ≡ Some m
mid-link [] p i x y m g e h = absurd cc
mid-link (v ∷ vs) p i x y m g e h = by (same_number v.item (Some i)) e h (λ k c. mid-link vs (p + v.len) i x y m g.1 k c) where
  long : length (view_cells v) ≡ v.len
  long = length-view_cells v

  own : Carries (view_cells v) m → v.link ≡ Some m
  own c = span_carries v.item v.first v.link v.len m (marked_carries v.mark (span v.item v.first v.link v.len) m c)

  by : (b : Bool) → cond b (Some (p, p + v.len)) (range_from (p + v.len) vs i) ≡ Some (x, y) → Carries (drop (x - p) (take (y - p) (view_cells v ++ cells_of vs))) m
      → (range_from (p + v.len) vs i ≡ Some (x, y) → Carries (drop (x - (p + v.len)) (take (y - (p + v.len)) (cells_of vs))) m → link_found (item_from (p + v.len) vs i) ≡ Some m)
      → link_found (cond b (Some (p, v)) (item_from (p + v.len) vs i)) ≡ Some m
  by true k c later =
      let a : x - p ≡ 0 = omega (arith, ap first_of k) in
      let b : y - p ≡ v.len = omega (arith, ap end_of k) in
      let all : drop (x - p) (take (y - p) (view_cells v ++ cells_of vs)) ≡ view_cells v =
      ap (λ (n : ℕ). drop n (take (y - p) (view_cells v ++ cells_of vs))) a
      ∙ (ap (λ (n : ℕ). take n (view_cells v ++ cells_of vs)) b ∙ take_at (view_cells v) (cells_of vs) v.len long) in
      own (subst (λ (cs : List Cell). Carries cs m) all c)
  by false k c later =
      let r = range-within vs (p + v.len) i x y g.1 k in
      let a : x - p - length (view_cells v) ≡ x - (p + v.len) = omega (arith, long) in
      let b : y - p - length (view_cells v) ≡ y - (p + v.len) = omega (arith, long) in
      let all : drop (x - p) (take (y - p) (view_cells v ++ cells_of vs)) ≡ drop (x - (p + v.len)) (take (y - (p + v.len)) (cells_of vs)) =
      drop_past (x - p) (y - p) (view_cells v) (cells_of vs) (omega (arith, r.0, long))
      ∙ (ap (λ (n : ℕ). drop n (take (y - p - length (view_cells v)) (cells_of vs))) a ∙ ap (λ (n : ℕ). drop (x - (p + v.len)) (take n (cells_of vs))) b) in
      later k (subst (λ (cs : List Cell). Carries cs m) all c)

-- the item's own frames have its link, or none
pub range-link : (table : Table) (t : TrackState) (i x y : ℕ) (m : Link) → IsGood table t → range_of t.cells i ≡ Some (x, y) → Carries (drop x (take y t.cells)) m → link_of t i ≡ Some m
range-link table t i x y m g e h =
    let a : x ≡ x - 0 = omega arith in
    let b : y ≡ y - 0 = omega arith in
    let whole : t.cells ≡ cells_of (items_of t.cells) = sym g.kept.whole in
    mid-link (items_of t.cells) 0 i x y m (filled-all t.cells) e
    (subst (λ (n : ℕ). Carries (drop (x - 0) (take n (cells_of (items_of t.cells)))) m) b
    (subst (λ (n : ℕ). Carries (drop n (take y (cells_of (items_of t.cells)))) m) a (subst (λ (cs : List Cell). Carries (drop x (take y cs)) m) whole h)))

map_carries : (on back : ℕ) (cs : List Cell) (m : Link) → Carries (map (cell_moved on back) cs) m → Carries cs m
map_carries on back [] m h = h
map_carries on back (c ∷ cs) m (inl h) = inl h
map_carries on back (c ∷ cs) m (inr h) = inr (map_carries on back cs m h)

moved_keeps : (t : TrackState) (x y on back : ℕ) → x ≤ y → y ≤ length t.cells → ((m : Link) → Carries (drop x (take y t.cells)) m → ⊥) → Keeps t (slipped_by t x y on back)
moved_keeps t x y on back le within bare = record { shows = shows; next = refl; grown = ((cell_at t.cells y).link ∷ [], omega arith, most) } where
  front : List Cell
  front = take x t.cells

  mid : List Cell
  mid = map (cell_moved on back) (drop x (take y t.cells))

  none : (m : Link) → Carries (map (cell_moved on back) (drop x (take y t.cells))) m → ⊥
  none m h = bare m (map_carries on back (drop x (take y t.cells)) m h)

  long : length (take x t.cells ++ map (cell_moved on back) (drop x (take y t.cells))) ≡ y
  long =
      omega (
        arith,
        length-append (take x t.cells) (map (cell_moved on back) (drop x (take y t.cells))),
        length-map (drop x (take y t.cells)) (cell_moved on back),
        length-drop x (take y t.cells),
        length-take-le y t.cells within,
        length-take-le x t.cells (omega (arith, le, within)),
        le,
      )

  shows : (m : Link) (o : Option ℤ) → Shows 0 ((front ++ mid) ++ drop y t.cells) m o → Shows 0 t.cells m o
  shows m o h = outer (shows-append 0 (front ++ mid) (drop y t.cells) m o h) where
    inner : Shows 0 (take x t.cells) m o ⊎ Shows (0 + length (take x t.cells)) mid m o → Shows 0 t.cells m o
    inner (inl a) = shows-take x 0 t.cells m o a
    inner (inr b) = absurd (none m (shows-carries (0 + length (take x t.cells)) mid m o b))

    outer : Shows 0 (front ++ mid) m o ⊎ Shows (0 + length (front ++ mid)) (drop y t.cells) m o → Shows 0 t.cells m o
    outer (inl a) = inner (shows-append 0 front mid m o a)
    outer (inr b) = shows-drop y 0 t.cells m o (shows-at (0 + length (front ++ mid)) (0 + y) (drop y t.cells) m o (omega (arith, long)) b)

  most : (h n : ℕ) → runs_in h n false ((front ++ mid) ++ drop y t.cells) ≤ runs_in h n false t.cells + count h n ((cell_at t.cells y).link ∷ [])
  most h n =
      omega (
        arith,
        runs-append h n false (front ++ mid) (drop y t.cells),
        runs-append h n false front mid,
        runs-none h n false mid (λ k c e f. none k c),
        runs-cut h n x y false t.cells le,
      )

slipped_keeps : (t : TrackState) (x y : ℕ) (d : ℤ) → x ≤ y → y ≤ length t.cells → ((m : Link) → Carries (drop x (take y t.cells)) m → ⊥)
    → ((slipped t x y d).number ≡ t.number) × Keeps t (slipped t x y d)
slipped_keeps t x y (pos n) le within bare = (refl, moved_keeps t x y n 0 le within bare)
slipped_keeps t x y (negsuc n) le within bare = (refl, moved_keeps t x y 0 (suc n) le within bare)

bare_kept : (table : Table) (c : Slip) (t : TrackState) → IsGood table t → link_of t c.item ≡ None → KeptOne t (slip_track table c t)
bare_kept table c t g e = by (range_of t.cells c.item) refl where
  some : (o : Option Link) (m : Link) → o ≡ None → o ≡ Some m → ⊥
  some o m e f = Prim.grind (arith, e, f)

  by : (o : Option (ℕ × ℕ)) → range_of t.cells c.item ≡ o → KeptOne t (on_range (slip_range table t c.by) o)
  by None f = tt
  by (Some (x, y)) f =
      let r = item-range t c.item x y f in
      used-kept t (slipped t x y) (slip_allows table t x y) c.by
      (λ d a. slipped_keeps t x y d (omega (arith, r.0)) r.1 (λ m h. some (link_of t c.item) m e (range-link table t c.item x y m g f h)))

slip_keeps : (table : Table) (c : Slip) (all named : List TrackState) (t : TrackState) → IsRoom table all → AreNamed all named → Together all → track_numbered c.track named ≡ Some t
    → LeavesTogether all (slip_own table named c t)
slip_keeps table c all named t room names g e = by (link_of t c.item) refl where
  by : (o : Option Link) → link_of t c.item ≡ o → LeavesTogether all (slip_with table named c t o)
  by None f =
      kept-leaves table all named (among_named named (slip_track table c t)) room names.among g
      (among-kept c.track named t (slip_track table c t) e (bare_kept table c t (room-good table all named c.track t room names.among e) f))
  by (Some l) f =
      unless-leaves all (outside_refusal named (Some l)) (slip_link table named l c.by)
      (λ told. link_keeps table all named t c.track c.item l c.by room names g e f told)

pub slipping-keeps : SlippingKeepsTogether
slipping-keeps table c = own-room table c.track (λ named t. slip_own table named c t) (slip_keeps table c)
