-- A link that is new, on items of one offset.
use Rattle.std.proofs.Common.{◌≡◌, ℕ, zero, suc, ◌+◌, ◌*◌, max, ◌<◌, ◌≤◌, ◌⊎◌, inl, inr, ⊎_elim, ℤ, Bool, true, false, cond, eqb, List, [], ◌∷◌, ◌++◌, map, length, unwrap_or, Option, Some, None, refl, sym, ap, ◌∙◌, arith, subst}
use Rattle.std.proofs.lemmas.Bool.Decides.{Decides-int_eq}
use Rattle.std.proofs.lemmas.List.{length-append}
use Rattle.std.proofs.lemmas.Option.{same_Some}
use Rattle.std.specs.Ordering.{int_eq}
use Rattle.frame_meaning.specs.declared.cells.Cell.{Cell}
use Rattle.frame_meaning.specs.declared.cells.Link.{Link}
use Rattle.frame_meaning.specs.declared.cells.Mark.{Mark}
use Rattle.frame_meaning.specs.declared.cells.What.{What}
use Rattle.frame_meaning.specs.declared.frames.Side.{Side}
use Rattle.frame_meaning.specs.declared.frames.Side.TheVariants.{Dark, Pic}
use Rattle.frame_meaning.specs.Cells.{next_side, same_number, span}
use Rattle.composables.specs.declared.calls.Link3.{Link3}
use Rattle.composables.specs.declared.items.ItemView.{ItemView}
use Rattle.composables.specs.declared.media.Table.{Table}
use Rattle.composables.specs.declared.refusals.Refusal.{Refusal}
use Rattle.composables.specs.declared.refusals.Refusal.TheVariants.{NoItem, OffsetsDiffer}
use Rattle.composables.specs.Answers.{unless}
use Rattle.composables.specs.Good.{IsGood}
use Rattle.composables.specs.Items.{cells_of, items_of, marked, view_cells}
use Rattle.composables.specs.Links.{next_link_at}
use Rattle.composables.specs.OwnTracks.{track_numbered}
use Rattle.composables.specs.Ranges.{offset_of}
use Rattle.composables.specs.TrackFacts.{Apart, EachHolds, Lacks, ShowsAsItem}
use Rattle.composables.specs.TrackState.{TrackState}
use Rattle.composables.proofs.Joining.{eqb-refl, length-view_cells, same-is}
use Rattle.link_groups.specs.LinkedItems.{item_from, linked_item}
use Rattle.link_groups.specs.Linking.{all_linked, already_linked, are_there, found_offset, home_risen, item_offset, link_named, linked, new_link, offsets_differ, or_else, other_offset, shown_offset}
use Rattle.link_groups.proofs.Relinked.{lacks_of, linked-is, linked_cell}
use Rattle.link_laws.specs.Laws.{LinkingKeepsTogether}
use Rattle.link_laws.specs.Rooms.{AreAmong, AreNamed, AreTracks, IsNumbered, IsRoom, LeavesTogether, StaysTogether, as_left, with_tracks}
use Rattle.link_laws.specs.Together.{Together}
use Rattle.link_laws.specs.Weights.{given, most_added, runs_on, weight, weight_of}
use Rattle.link_laws.proofs.LinkedRuns.{grown-linked}
use Rattle.link_laws.proofs.Runs.{Grown, count, count-append, grown-self}
use Rattle.link_laws.proofs.Sights.{Shows, offset-next}
use Rattle.link_laws.proofs.Tied.{Each, IsTied, Sees, each-left, good-found, next-more, tied-of, together-of}
use Rattle.link_laws.proofs.Weighing.{Below, count-few, fresh-runs, numbered-of, tracks-few, weight-more}
use Rattle.edit_splice.proofs.Bridging.{is-numbered}

-- the offset of an item is that of each of its frames

-- a cell of the item with this number has this offset
abbrev Has : ℕ → List Cell → ℕ → Option ℤ → Type 0
Has p [] i o = ⊥
Has p (c ∷ cs) i o = ((same_number c.item (Some i) ≡ true) × (offset_of c.side p ≡ o)) ⊎ Has (p + 1) cs i o

has_at : (p q : ℕ) (cs : List Cell) (i : ℕ) (o : Option ℤ) → p ≡ q → Has p cs i o → Has q cs i o
has_at p q cs i o e h = subst (λ (n : ℕ). Has n cs i o) e h

has_append : (p : ℕ) (cs ds : List Cell) (i : ℕ) (o : Option ℤ) → Has p (cs ++ ds) i o → Has p cs i o ⊎ Has (p + length cs) ds i o
has_append p [] ds i o h = inr (has_at p (p + 0) ds i o (omega arith) h)
has_append p (c ∷ cs) ds i o (inl h) = inl (inl h)
has_append p (c ∷ cs) ds i o (inr h) = by (has_append (p + 1) cs ds i o h) where
  by : Has (p + 1) cs i o ⊎ Has (p + 1 + length cs) ds i o → Has p (c ∷ cs) i o ⊎ Has (p + suc (length cs)) ds i o
  by (inl a) = inl (inr a)
  by (inr b) = inr (has_at (p + 1 + length cs) (p + suc (length cs)) ds i o (omega arith) b)

has_span : (p : ℕ) (n : Option ℕ) (s : Side What) (k : Option Link) (len i : ℕ) (o : Option ℤ) → Has p (span n s k len) i o → (same_number n (Some i) ≡ true) × (offset_of s p ≡ o)
has_span p n s k zero i o h = absurd h
has_span p n s k (suc len) i o (inl h) = h
has_span p n s k (suc len) i o (inr h) =
    let r = has_span (p + 1) n (next_side s) k len i o h in
    (r.0, sym (offset-next s p) ∙ r.1)

has_marked : (p : ℕ) (m : Option Mark) (cs : List Cell) (i : ℕ) (o : Option ℤ) → Has p (marked m cs) i o → Has p cs i o
has_marked p m [] i o h = h
has_marked p m (c ∷ cs) i o (inl h) = inl h
has_marked p m (c ∷ cs) i o (inr h) = inr h

has_view : (p : ℕ) (v : ItemView) (i : ℕ) (o : Option ℤ) → Has p (view_cells v) i o → (same_number v.item (Some i) ≡ true) × (offset_of v.first p ≡ o)
has_view p v i o h = has_span p v.item v.first v.link v.len i o (has_marked p v.mark (span v.item v.first v.link v.len) i o h)

has_none : (p : ℕ) (vs : List ItemView) (i : ℕ) (o : Option ℤ) → Lacks i vs → Has p (cells_of vs) i o → ⊥
has_none p [] i o l h = h
has_none p (v ∷ vs) i o l h =
    ⊎_elim (λ a. l.0 (same-is v.item (Some i) (has_view p v i o a).0)) (λ b. has_none (p + length (view_cells v)) vs i o l.1 b) (has_append p (view_cells v) (cells_of vs) i o h)

shown_is : (n : Option ℕ) (i : ℕ) (s : Side What) (l : Option Link) (p : ℕ) → n ≡ Some i → ShowsAsItem n s l → offset_of s p ≡ Some (shown_offset (offset_of s p))
shown_is None i s l p e h = absurd cc
shown_is (Some j) i Dark l p e h = absurd h
shown_is (Some j) i (Pic w f) l p e h = refl

has_item : (p : ℕ) (vs : List ItemView) (i : ℕ) (o : Option ℤ) → Apart vs → EachHolds vs → Has p (cells_of vs) i o → o ≡ Some (found_offset (item_from p vs i))
has_item p [] i o a e h = absurd h
has_item p (v ∷ vs) i o a e h = by (same_number v.item (Some i)) refl (has_append p (view_cells v) (cells_of vs) i o h) (λ k. has_item (p + v.len) vs i o a.1 e.1 k) where
  by : (b : Bool) → same_number v.item (Some i) ≡ b → Has p (view_cells v) i o ⊎ Has (p + length (view_cells v)) (cells_of vs) i o
      → (Has (p + v.len) (cells_of vs) i o → o ≡ Some (found_offset (item_from (p + v.len) vs i))) → o ≡ Some (found_offset (cond b (Some (p, v)) (item_from (p + v.len) vs i)))
  by true f (inl k) later = sym (has_view p v i o k).1 ∙ shown_is v.item i v.first v.link p (same-is v.item (Some i) f) e.0.shows
  by true f (inr k) later = absurd (has_none (p + length (view_cells v)) vs i o (lacks_of v.item i vs a.0 (same-is v.item (Some i) f)) k)
  by false f (inl k) later = absurd (differ (sym f ∙ (has_view p v i o k).0)) where
    differ : false ≡ true → ⊥
    differ z = cc
  by false f (inr k) later = later (has_at (p + length (view_cells v)) (p + v.len) (cells_of vs) i o (omega (arith, length-view_cells v)) k)

-- tracks that get a link

pub record Gains (made : Link) (off : ℤ) (t u : TrackState) : Type 0 where
  pub shows : (l : Link) (o : Option ℤ) → Shows 0 u.cells l o → Shows 0 t.cells l o ⊎ ((l ≡ made) × (o ≡ Some off))
  pub next : (u.next_link ≡ t.next_link) ⊎ ((u.next_link ≡ t.next_link + 1) × (t.number ≡ made.home) × (t.next_link ≡ made.number))
  pub grown : Grown t u

gains_self : (made : Link) (off : ℤ) (t : TrackState) → Gains made off t t
gains_self made off t = record { shows = λ l o h. inl h; next = inl refl; grown = grown-self t }

linked_shows : (made : Link) (i p : ℕ) (cs : List Cell) (l : Link) (o : Option ℤ) → Shows p (map (linked_cell i (Some made)) cs) l o → Shows p cs l o ⊎ ((l ≡ made) × Has p cs i o)
linked_shows made i p [] l o h = absurd h
linked_shows made i p (c ∷ cs) l o h = by (same_number c.item (Some i)) refl h (λ k. linked_shows made i (p + 1) cs l o k) where
  one : Shows (p + 1) cs l o ⊎ ((l ≡ made) × Has (p + 1) cs i o) → Shows p (c ∷ cs) l o ⊎ ((l ≡ made) × Has p (c ∷ cs) i o)
  one (inl a) = inl (inr a)
  one (inr b) = inr (b.0, inr b.1)

  by : (b : Bool) → same_number c.item (Some i) ≡ b → Shows p (cond b (record c { link = Some made }) c ∷ map (linked_cell i (Some made)) cs) l o
      → (Shows (p + 1) (map (linked_cell i (Some made)) cs) l o → Shows (p + 1) cs l o ⊎ ((l ≡ made) × Has (p + 1) cs i o)) → Shows p (c ∷ cs) l o ⊎ ((l ≡ made) × Has p (c ∷ cs) i o)
  by true f (inl k) later = inr (sym (same_Some made l k.0), inl (f, k.1))
  by true f (inr k) later = one (later k)
  by false f (inl k) later = inl (inl k)
  by false f (inr k) later = one (later k)

item_gains : (table : Table) (made : Link) (off : ℤ) (t : TrackState) (i : ℕ) → IsGood table t → item_offset t i ≡ off → Gains made off t (linked_item t i (Some made))
item_gains table made off t i g e = record {
  shows = λ l o h. by l o (linked_shows made i 0 t.cells l o (subst (λ (u : TrackState). Shows 0 u.cells l o) (linked-is t i (Some made) g.kept) h));
  next = inl refl;
  grown = grown-linked t i (Some made);
} where
  by : (l : Link) (o : Option ℤ) → Shows 0 t.cells l o ⊎ ((l ≡ made) × Has 0 t.cells i o) → Shows 0 t.cells l o ⊎ ((l ≡ made) × (o ≡ Some off))
  by l o (inl a) = inl a
  by l o (inr b) =
      let there : Has 0 (cells_of (items_of t.cells)) i o = subst (λ (cs : List Cell). Has 0 cs i o) (sym g.kept.whole) b.1 in
      inr (b.0, has_item 0 (items_of t.cells) i o g.kept.apart g.kept.each there ∙ ap Some e)

all_gain : (table : Table) (all : List TrackState) (made : Link) (off : ℤ) (ts : List TrackState) (is : List ℕ) → AreTracks table all → AreAmong all ts
    → other_offset off ts is ≡ None → Each (Gains made off) ts (all_linked made ts is)
all_gain table all made off [] is g a e = tt
all_gain table all made off (t ∷ ts) [] g a e = each_same (t ∷ ts) where
  each_same : (us : List TrackState) → Each (Gains made off) us us
  each_same [] = tt
  each_same (u ∷ us) = (refl, gains_self made off u, each_same us)
all_gain table all made off (t ∷ ts) (i ∷ is) g a e = by (int_eq (item_offset t i) off) refl e (λ k. all_gain table all made off ts is g a.1 k) where
  by : (b : Bool) → int_eq (item_offset t i) off ≡ b → cond b (other_offset off ts is) (Some (OffsetsDiffer off (item_offset t i))) ≡ None
      → (other_offset off ts is ≡ None → Each (Gains made off) ts (all_linked made ts is)) → Each (Gains made off) (t ∷ ts) (linked_item t i (Some made) ∷ all_linked made ts is)
  by true f k later = (refl, item_gains table made off t i (good_at t.number t a.0) ((Decides-int_eq (item_offset t i) off).0 f), later k) where
    good_at : (n : ℕ) (u : TrackState) → track_numbered n all ≡ Some u → IsGood table u
    good_at n u h = (good-found table all n u g h).1
  by false f k later = absurd cc

-- the home has given its next link number away

pub left-number : (news : List TrackState) (t : TrackState) → (as_left news t).number ≡ t.number
left-number news t = by (track_numbered t.number news) refl where
  by : (o : Option TrackState) → track_numbered t.number news ≡ o → (unwrap_or o t).number ≡ t.number
  by None e = refl
  by (Some u) e = is-numbered t.number news u e

pub numbered-left : (n : ℕ) (news ts : List TrackState) (t : TrackState) → track_numbered n ts ≡ Some t → track_numbered n (with_tracks ts news) ≡ Some (as_left news t)
numbered-left n news [] t e = absurd cc
numbered-left n news (u ∷ us) t e =
    ap (λ (m : ℕ). cond (eqb m n) (Some (as_left news u)) (track_numbered n (with_tracks us news))) (left-number news u) ∙ by (eqb u.number n) e (λ k. numbered-left n news us t k) where
      by : (b : Bool) → cond b (Some u) (track_numbered n us) ≡ Some t → (track_numbered n us ≡ Some t → track_numbered n (with_tracks us news) ≡ Some (as_left news t)) → cond b (Some (as_left news u)) (track_numbered n (with_tracks us news)) ≡ Some (as_left news t)
      by true h later = ap (λ (v : TrackState). Some (as_left news v)) (same_Some u t h)
      by false h later = later h

pub next-numbered : (n : ℕ) (ts : List TrackState) (t : TrackState) → track_numbered n ts ≡ Some t → next_link_at n ts ≡ t.next_link
next-numbered n [] t e = absurd cc
next-numbered n (u ∷ us) t e = by (eqb u.number n) e (λ k. next-numbered n us t k) where
  by : (b : Bool) → cond b (Some u) (track_numbered n us) ≡ Some t → (track_numbered n us ≡ Some t → next_link_at n us ≡ t.next_link) → cond b u.next_link (next_link_at n us) ≡ t.next_link
  by true h later = ap (λ (v : TrackState). v.next_link) (same_Some u t h)
  by false h later = later h

-- all tracks of the room

sees_gain : (made : Link) (off : ℤ) (ts us : List TrackState) (l : Link) (o : Option ℤ) → Each (Gains made off) ts us → Sees us l o → Sees ts l o ⊎ ((l ≡ made) × (o ≡ Some off))
sees_gain made off [] [] l o each h = absurd h
sees_gain made off [] (u ∷ us) l o each h = absurd each
sees_gain made off (t ∷ ts) [] l o each h = absurd h
sees_gain made off (t ∷ ts) (u ∷ us) l o each (inl h) = by (each.1.shows l o h) where
  by : Shows 0 t.cells l o ⊎ ((l ≡ made) × (o ≡ Some off)) → Sees (t ∷ ts) l o ⊎ ((l ≡ made) × (o ≡ Some off))
  by (inl a) = inl (inl a)
  by (inr b) = inr b
sees_gain made off (t ∷ ts) (u ∷ us) l o each (inr h) = by (sees_gain made off ts us l o each.2 h) where
  by : Sees ts l o ⊎ ((l ≡ made) × (o ≡ Some off)) → Sees (t ∷ ts) l o ⊎ ((l ≡ made) × (o ≡ Some off))
  by (inl a) = inl (inr a)
  by (inr b) = inr b

gain_next : (made : Link) (off : ℤ) (ts us : List TrackState) → Each (Gains made off) ts us → Each (λ (t u : TrackState). t.next_link ≤ u.next_link) ts us
gain_next made off [] [] each = tt
gain_next made off [] (u ∷ us) each = absurd each
gain_next made off (t ∷ ts) [] each = absurd each
gain_next made off (t ∷ ts) (u ∷ us) each = (each.0, by each.1.next, gain_next made off ts us each.2) where
  by : (u.next_link ≡ t.next_link) ⊎ ((u.next_link ≡ t.next_link + 1) × (t.number ≡ made.home) × (t.next_link ≡ made.number)) → t.next_link ≤ u.next_link
  by (inl e) = omega (arith, e)
  by (inr e) = omega (arith, e.0)

gained_tied : (made : Link) (off : ℤ) (ts us : List TrackState) → Each (Gains made off) ts us → made.number ≡ next_link_at made.home ts → made.number < next_link_at made.home us
    → IsTied ts → IsTied us
gained_tied made off ts us each fresh risen g = record {
  one = λ k l a b s t h n. one k l a b h n (sees_gain made off ts us k a each s) (sees_gain made off ts us l b each t);
  below = λ l a s. below l a (sees_gain made off ts us l a each s);
} where
  -- no link that was there has its home and number
  apart : (l m : Link) (a : Option ℤ) → Sees ts l a → m ≡ made → l.home ≡ m.home → l.number ≡ m.number → ⊥
  apart l m a s e h n =
      let home : l.home ≡ made.home = h ∙ ap (λ (k : Link). k.home) e in
      omega (arith, g.below l a s, ap (λ (x : ℕ). next_link_at x ts) home, fresh, n, ap (λ (k : Link). k.number) e)

  one : (k l : Link) (a b : Option ℤ) → k.home ≡ l.home → k.number ≡ l.number → Sees ts k a ⊎ ((k ≡ made) × (a ≡ Some off)) → Sees ts l b ⊎ ((l ≡ made) × (b ≡ Some off))
      → (k.tracks ≡ l.tracks) × (a ≡ b)
  one k l a b h n (inl s) (inl t) = g.one k l a b s t h n
  one k l a b h n (inl s) (inr t) = absurd (apart k l a s t.0 h n)
  one k l a b h n (inr s) (inl t) = absurd (apart l k b t s.0 (sym h) (sym n))
  one k l a b h n (inr s) (inr t) = (ap (λ (x : Link). x.tracks) (s.0 ∙ sym t.0), s.1 ∙ sym t.1)

  below : (l : Link) (a : Option ℤ) → Sees ts l a ⊎ ((l ≡ made) × (a ≡ Some off)) → l.number < next_link_at l.home us
  below l a (inl s) = omega (arith, g.below l a s, next-more l.home ts us (gain_next made off ts us each))
  below l a (inr s) = subst (λ (k : Link). k.number < next_link_at k.home us) (sym s.0) risen

-- the weight of all links: the new one has few runs

-- a track with few runs more, or the home of the link that is made, which gives its number away
pub record Rising (made : Link) (t u : TrackState) : Type 0 where
  pub next : (u.next_link ≡ t.next_link) ⊎ ((u.next_link ≡ t.next_link + 1) × (t.number ≡ made.home) × (t.next_link ≡ made.number))
  pub grown : Grown t u

rising_runs : (made : Link) (ts us : List TrackState) → Each (Rising made) ts us
    → (os : List (Option Link)) × (length os ≤ 4 * length ts) × ((h n : ℕ) → runs_on h n us ≤ runs_on h n ts + count h n os)
rising_runs made [] [] e = ([], omega arith, λ h n. omega arith)
rising_runs made [] (u ∷ us) e = absurd e
rising_runs made (t ∷ ts) [] e = absurd e
rising_runs made (t ∷ ts) (u ∷ us) e =
    let a = e.1.grown in
    let r = rising_runs made ts us e.2 in
    (a.0 ++ r.0, omega (arith, length-append a.0 r.0, a.1, r.1), λ h n. omega (arith, count-append h n a.0 r.0, a.2 h n, r.2 h n))

rising_given : (made : Link) (f : ℕ → ℕ → ℕ) (t u : TrackState) → f made.home made.number ≤ 128 → u.number ≡ t.number → Rising made t u
    → given (f u.number) u.next_link ≤ given (f t.number) t.next_link + 129
rising_given made f t u few e g = by g.next where
  number : given (f u.number) u.next_link ≡ given (f t.number) u.next_link
  number = ap (λ (m : ℕ). given (f m) u.next_link) e

  by : (u.next_link ≡ t.next_link) ⊎ ((u.next_link ≡ t.next_link + 1) × (t.number ≡ made.home) × (t.next_link ≡ made.number))
      → given (f u.number) u.next_link ≤ given (f t.number) t.next_link + 129
  by (inl h) = omega (arith, number, ap (given (f t.number)) h)
  by (inr h) =
      let up : u.next_link ≡ suc t.next_link = omega (arith, h.0) in
      let same : f t.number t.next_link ≡ f made.home made.number = ap (λ (m : ℕ). f m t.next_link) h.1 ∙ ap (f made.home) h.2 in
      let more : given (f t.number) u.next_link ≡ max 1 (f t.number t.next_link) + given (f t.number) t.next_link = ap (given (f t.number)) up in
      omega (arith, number, more, same, few)

rising_weight : (made : Link) (f : ℕ → ℕ → ℕ) (ts us : List TrackState) → f made.home made.number ≤ 128 → Each (Rising made) ts us
    → weight_of f us ≤ weight_of f ts + 129 * length ts
rising_weight made f [] [] few e = omega arith
rising_weight made f [] (u ∷ us) few e = absurd e
rising_weight made f (t ∷ ts) [] few e = absurd e
rising_weight made f (t ∷ ts) (u ∷ us) few e =
    omega (arith, rising_given made f t u few e.0 e.1, rising_weight made f ts us few e.2)

pub rising-little : (made : Link) (ts us : List TrackState) → IsNumbered ts → Below ts → made.number ≡ next_link_at made.home ts → Each (Rising made) ts us
    → weight us ≤ weight ts + most_added
rising-little made ts us room g fresh each =
    let r = rising_runs made ts us each in
    let tracks = tracks-few ts room in
    let none : runs_on made.home made.number ts ≡ 0 = fresh-runs ts made.home made.number g (omega (arith, fresh)) in
    let few : runs_on made.home made.number us ≤ 128 = omega (arith, none, r.2 made.home made.number, count-few made.home made.number r.0, r.1, tracks) in
    omega (
      arith,
      rising_weight made (λ (h n : ℕ). runs_on h n us) ts us few each,
      weight-more (λ (h n : ℕ). runs_on h n ts) (λ (h n : ℕ). runs_on h n us) ts r.0 room.ascend r.2,
      r.1,
      tracks,
    )

gained_rising : (made : Link) (off : ℤ) (ts us : List TrackState) → Each (Gains made off) ts us → Each (Rising made) ts us
gained_rising made off [] [] e = tt
gained_rising made off [] (u ∷ us) e = absurd e
gained_rising made off (t ∷ ts) [] e = absurd e
gained_rising made off (t ∷ ts) (u ∷ us) e = (e.0, record { next = e.1.next; grown = e.1.grown }, gained_rising made off ts us e.2)

-- the call

head_gains : (table : Table) (all : List TrackState) (made : Link) (off : ℤ) (t : TrackState) (ts : List TrackState) (is : List ℕ) → AreTracks table all → AreAmong all (t ∷ ts)
    → t.number ≡ made.home → t.next_link ≡ made.number → other_offset off (t ∷ ts) is ≡ None → Each (Gains made off) (t ∷ ts) (home_risen (all_linked made (t ∷ ts) is))
head_gains table all made off t ts [] g a home number e = by (all_gain table all made off (t ∷ ts) [] g a e) where
  by : Each (Gains made off) (t ∷ ts) (t ∷ ts) → Each (Gains made off) (t ∷ ts) (record t { next_link = t.next_link + 1 } ∷ ts)
  by r = (refl, record { shows = λ l o h. inl h; next = inr (refl, home, number); grown = grown-self t }, r.2)
head_gains table all made off t ts (i ∷ is) g a home number e = by (all_gain table all made off (t ∷ ts) (i ∷ is) g a e) where
  by : Each (Gains made off) (t ∷ ts) (linked_item t i (Some made) ∷ all_linked made ts is)
      → Each (Gains made off) (t ∷ ts) (record (linked_item t i (Some made)) { next_link = t.next_link + 1 } ∷ all_linked made ts is)
  by r = (refl, record { shows = λ l o h. r.1.shows l o h; next = inr (refl, home, number); grown = r.1.grown }, r.2)

pub head-is : (made : Link) (t : TrackState) (ts : List TrackState) (is : List ℕ) → (u : TrackState) × (track_numbered t.number (home_risen (all_linked made (t ∷ ts) is)) ≡ Some u) × (u.next_link ≡ t.next_link + 1)
head-is made t ts [] =
    let u : TrackState = record t { next_link = t.next_link + 1 } in
    (u, ap (λ (b : Bool). cond b (Some u) (track_numbered t.number ts)) (eqb-refl t.number), refl)
head-is made t ts (i ∷ is) =
    let u : TrackState = record (linked_item t i (Some made)) { next_link = t.next_link + 1 } in
    (u, ap (λ (b : Bool). cond b (Some u) (track_numbered t.number (all_linked made ts is))) (eqb-refl t.number), refl)

link_done : (table : Table) (all : List TrackState) (t : TrackState) (ts : List TrackState) (c : Link3) (off : ℤ) → IsRoom table all → AreAmong all (t ∷ ts) → Together all
    → other_offset off (t ∷ ts) c.items ≡ None → StaysTogether all (with_tracks all (home_risen (all_linked (new_link t c.tracks) (t ∷ ts) c.items)))
link_done table all t ts c off room among g e =
    let made : Link = new_link t c.tracks in
    let news : List TrackState = home_risen (all_linked made (t ∷ ts) c.items) in
    let each = head_gains table all made off t ts c.items room.tracks among refl refl e in
    let whole = each-left (Gains made off) (gains_self made off) all (t ∷ ts) news all among each room.apart in
    let head = head-is made t ts c.items in
    let left : as_left news t ≡ head.0 = ap (λ (o : Option TrackState). unwrap_or o t) head.1 in
    let there : next_link_at t.number (with_tracks all news) ≡ head.0.next_link =
    next-numbered t.number (with_tracks all news) head.0 (numbered-left t.number news all t among.0 ∙ ap Some left) in
    let tied : IsTied all = tied-of all g in
    let fresh : made.number ≡ next_link_at made.home all = sym (next-numbered t.number all t among.0) in
    record {
      together = together-of (with_tracks all news) (gained_tied made off all (with_tracks all news) whole fresh (omega (arith, there, head.2)) tied);
      little = rising-little made all (with_tracks all news) (numbered-of table all room) tied.below fresh (gained_rising made off all (with_tracks all news) whole);
    }

or_none : (a b : Option Refusal) → or_else a b ≡ None → a ≡ None
or_none None b e = refl
or_none (Some r) b e = absurd cc

link_kept : (table : Table) (c : Link3) (all named : List TrackState) → IsRoom table all → AreNamed all named → Together all → LeavesTogether all (link_named named c)
link_kept table c all [] room names g = tt
link_kept table c all (t ∷ ts) room names g = by (are_there (t ∷ ts) c.items) (or_else (offsets_differ (t ∷ ts) c.items) (already_linked (t ∷ ts) c.items)) refl where
  done : (is : List ℕ) → is ≡ c.items → offsets_differ (t ∷ ts) is ≡ None → LeavesTogether all (linked (t ∷ ts) c)
  done [] e d = link_done table all t ts c start room names.among g (ap (other_offset start (t ∷ ts)) (sym e)) where
    start : ℤ
    start = item_offset t 0
  done (i ∷ is) e d = link_done table all t ts c (item_offset t i) room names.among g (ap (other_offset (item_offset t i) (t ∷ ts)) (sym e) ∙ d)

  by : (b : Bool) (why : Option Refusal) → or_else (offsets_differ (t ∷ ts) c.items) (already_linked (t ∷ ts) c.items) ≡ why
      → LeavesTogether all (unless (cond b why (Some NoItem)) (linked (t ∷ ts) c))
  by true None e = done c.items refl (or_none (offsets_differ (t ∷ ts) c.items) (already_linked (t ∷ ts) c.items) e)
  by true (Some r) e = tt
  by false why e = tt

pub linking-keeps : LinkingKeepsTogether
linking-keeps table c = link_kept table c
