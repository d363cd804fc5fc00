-- A shift of all named tracks of a room: links that it splits, and those of which it moves all.
use Rattle.std.proofs.Common.{◌≡◌, ℕ, zero, suc, ◌+◌, ◌<◌, ◌≤◌, ◌⊎◌, inl, inr, ⊎_elim, ℤ, Bool, true, false, cond, eqb, ◌||◌, List, [], ◌∷◌, take, drop, length, unwrap_or, Option, Some, None, refl, sym, ap, ◌∙◌, arith, subst, IsBitSet}
use Rattle.std.proofs.lemmas.Bool.{eqb-true}
use Rattle.std.proofs.lemmas.Option.{same_Some}
use Rattle.std.specs.List.{list_any}
use Rattle.frame_meaning.specs.declared.cells.Cell.{Cell}
use Rattle.frame_meaning.specs.declared.cells.Link.{Link}
use Rattle.composables.specs.declared.items.ItemView.{ItemView}
use Rattle.composables.specs.declared.media.Table.{Table}
use Rattle.composables.specs.Good.{EachLinkOf, IsGood, IsLinkOf}
use Rattle.composables.specs.Items.{cells_of, items_of, view_cells}
use Rattle.composables.specs.Links.{cells_before, cells_from, is_named, links_in, next_link_at, same_link, split_links}
use Rattle.composables.specs.OwnTracks.{track_numbered}
use Rattle.composables.specs.TrackState.{TrackState}
use Rattle.link_laws.specs.Rooms.{AreAmong, AreTracks, as_left, with_tracks}
use Rattle.link_laws.specs.Weights.{runs_in}
use Rattle.link_laws.proofs.Runs.{count}
use Rattle.link_laws.proofs.LinkLists.{AllLinks, AnySame, Carries, Same, all-filter, all-links, any-same, carries-append, carries-left, carries-right, carries-shows, in-links, same-filter, shows-carries}
use Rattle.link_laws.proofs.Linking.{left-number, next-numbered, numbered-left}
use Rattle.link_laws.proofs.Sights.{Shows, rebased, shows-append, shows-at, shows-drop, shows-take, shows-view}
use Rattle.link_laws.proofs.Splitting.{MaySplit, SameBefore, SeesFrom, Splits}
use Rattle.link_laws.proofs.Tied.{Each, IsTied, Sees, among-numbered}
use Rattle.edit_splice.proofs.Bridging.{is-numbered}

-- a track of which the places [x, y) are replaced, so that what stood from y on stands from z on, by its links and offsets:
-- of what is put in it has those that Put tells. It has few runs more of its links: those of two lists, one for what is put
-- in, and one for what stays and what is moved, apart from each other
pub record Shifts (x y z : ℕ) (Put : Link → Option ℤ → Type 0) (t u : TrackState) : Type 0 where
  pub low : (l : Link) (o : Option ℤ) → Shows 0 (take z u.cells) l o → Shows 0 (take x t.cells) l o ⊎ Put l o
  pub high : (l : Link) (o : Option ℤ) → Shows z (drop z u.cells) l o → (b : Option ℤ) × Shows y (drop y t.cells) l b × (o ≡ rebased y z b)
  pub back : (l : Link) (o : Option ℤ) → Shows 0 (take x t.cells) l o → Shows 0 (take x u.cells) l o
  pub forth : (l : Link) (o : Option ℤ) → Shows 0 (take x u.cells) l o → Shows 0 (take x t.cells) l o
  pub next : u.next_link ≡ t.next_link
  pub put : (ws : List (Option Link)) × (length ws ≤ 4) × ((h n : ℕ) → runs_in h n false (take z u.cells) ≤ runs_in h n false (take x t.cells) + count h n ws)
  pub parts : (os : List (Option Link)) × (length os ≤ 4)
      × ((h n : ℕ) → runs_in h n false (take x t.cells) + runs_in h n false (drop z u.cells) ≤ runs_in h n false t.cells + count h n os)

-- what stays: cells of the named tracks before a place, and of tracks that are not named

abbrev pub SeesBefore : ℕ → List TrackState → Link → Option ℤ → Type 0
SeesBefore x [] l o = ⊥
SeesBefore x (t ∷ ts) l o = Shows 0 (take x t.cells) l o ⊎ SeesBefore x ts l o

abbrev pub SeesRest : List TrackState → List TrackState → Link → Option ℤ → Type 0
SeesRest named [] l o = ⊥
SeesRest named (t ∷ ts) l o = ((track_numbered t.number named ≡ None) × Shows 0 t.cells l o) ⊎ SeesRest named ts l o

abbrev pub Stays : ℕ → List TrackState → List TrackState → Link → Option ℤ → Type 0
Stays x named all l o = SeesBefore x named l o ⊎ SeesRest named all l o

-- all of these stand on tracks of the room

pub numbered-sees : (n : ℕ) (ts : List TrackState) (t : TrackState) (l : Link) (o : Option ℤ) → track_numbered n ts ≡ Some t → Shows 0 t.cells l o → Sees ts l o
numbered-sees n [] t l o e h = absurd cc
numbered-sees n (u ∷ us) t l o e h = by (eqb u.number n) e (λ k. numbered-sees n us t l o k h) where
  by : (b : Bool) → cond b (Some u) (track_numbered n us) ≡ Some t → (track_numbered n us ≡ Some t → Sees us l o) → Sees (u ∷ us) l o
  by true k later = inl (subst (λ (v : TrackState). Shows 0 v.cells l o) (sym (same_Some u t k)) h)
  by false k later = inr (later k)

before_all : (x : ℕ) (all ts : List TrackState) (l : Link) (o : Option ℤ) → AreAmong all ts → SeesBefore x ts l o → Sees all l o
before_all x all [] l o a h = absurd h
before_all x all (t ∷ ts) l o a (inl h) = numbered-sees t.number all t l o a.0 (shows-take x 0 t.cells l o h)
before_all x all (t ∷ ts) l o a (inr h) = before_all x all ts l o a.1 h

pub from-all : (y : ℕ) (all ts : List TrackState) (l : Link) (o : Option ℤ) → AreAmong all ts → SeesFrom y ts l o → Sees all l o
from-all y all [] l o a h = absurd h
from-all y all (t ∷ ts) l o a (inl h) =
    numbered-sees t.number all t l o a.0 (shows-drop y 0 t.cells l o (shows-at y (0 + y) (drop y t.cells) l o (omega arith) h))
from-all y all (t ∷ ts) l o a (inr h) = from-all y all ts l o a.1 h

pub rest-all : (named ts : List TrackState) (l : Link) (o : Option ℤ) → SeesRest named ts l o → Sees ts l o
rest-all named [] l o h = h
rest-all named (t ∷ ts) l o (inl h) = inl h.1
rest-all named (t ∷ ts) l o (inr h) = inr (rest-all named ts l o h)

pub stays-all : (x : ℕ) (named all : List TrackState) (l : Link) (o : Option ℤ) → AreAmong all named → Stays x named all l o → Sees all l o
stays-all x named all l o a (inl h) = before_all x all named l o a h
stays-all x named all l o a (inr h) = rest-all named all l o h

-- numbers of tracks, and links of good tracks

pub named-each : (R : TrackState → TrackState → Type 0) (ts us : List TrackState) (n : ℕ) → Each R ts us → is_named us n ≡ is_named ts n
named-each R [] [] n each = refl
named-each R [] (u ∷ us) n each = absurd each
named-each R (t ∷ ts) [] n each = absurd each
named-each R (t ∷ ts) (u ∷ us) n each =
    ap (λ (m : ℕ). eqb m n || is_named us n) each.0 ∙ ap (λ (b : Bool). eqb t.number n || b) (named-each R ts us n each.2)

pub named-found : (n : ℕ) (ts : List TrackState) → is_named ts n ≡ true → (t : TrackState) × (track_numbered n ts ≡ Some t)
named-found n [] e = absurd cc
named-found n (u ∷ us) e = by (eqb u.number n) e (λ k. named-found n us k) where
  by : (b : Bool) → b || is_named us n ≡ true → (is_named us n ≡ true → (t : TrackState) × (track_numbered n us ≡ Some t)) → (t : TrackState) × (cond b (Some u) (track_numbered n us) ≡ Some t)
  by true k later = (u, refl)
  by false k later = later k

pub found-named : (n : ℕ) (ts : List TrackState) (t : TrackState) → track_numbered n ts ≡ Some t → is_named ts n ≡ true
found-named n [] t e = absurd cc
found-named n (u ∷ us) t e = by (eqb u.number n) e (λ k. found-named n us t k) where
  by : (b : Bool) → cond b (Some u) (track_numbered n us) ≡ Some t → (track_numbered n us ≡ Some t → is_named us n ≡ true) → b || is_named us n ≡ true
  by true k later = refl
  by false k later = later k

pub none-named : (n : ℕ) (ts : List TrackState) → is_named ts n ≡ false → track_numbered n ts ≡ None
none-named n ts e = by (track_numbered n ts) refl where
  differ : false ≡ true → ⊥
  differ z = cc

  by : (o : Option TrackState) → track_numbered n ts ≡ o → o ≡ None
  by None f = refl
  by (Some t) f = absurd (differ (sym e ∙ found-named n ts t f))

pub next-among : (all ts : List TrackState) (h : ℕ) → AreAmong all ts → is_named ts h ≡ true → next_link_at h ts ≡ next_link_at h all
next-among all ts h a e =
    let r = named-found h ts e in
    next-numbered h ts r.0 r.1 ∙ sym (next-numbered h all r.0 (among-numbered all ts h r.0 a r.1))

pub next-shifts : (x y z : ℕ) (Put : Link → Option ℤ → Type 0) (ts us : List TrackState) (h : ℕ) → Each (Shifts x y z Put) ts us → next_link_at h us ≡ next_link_at h ts
next-shifts x y z Put [] [] h each = refl
next-shifts x y z Put [] (u ∷ us) h each = absurd each
next-shifts x y z Put (t ∷ ts) [] h each = absurd each
next-shifts x y z Put (t ∷ ts) (u ∷ us) h each =
    ap (λ (m : ℕ). cond (eqb m h) u.next_link (next_link_at h us)) each.0
    ∙ (ap (λ (m : ℕ). cond (eqb t.number h) m (next_link_at h us)) each.1.next
    ∙ ap (λ (m : ℕ). cond (eqb t.number h) t.next_link m) (next-shifts x y z Put ts us h each.2))

link_of : (n p : ℕ) (vs : List ItemView) (l : Link) (o : Option ℤ) → EachLinkOf n vs → Shows p (cells_of vs) l o → IsLinkOf n (Some l)
link_of n p [] l o e h = absurd h
link_of n p (v ∷ vs) l o e h =
    ⊎_elim (λ a. subst (IsLinkOf n) (shows-view p v l o a).0 e.0) (λ b. link_of n (p + length (view_cells v)) vs l o e.1 b) (shows-append p (view_cells v) (cells_of vs) l o h)

good_link : (table : Table) (t : TrackState) (l : Link) (o : Option ℤ) → IsGood table t → Shows 0 t.cells l o → IsLinkOf t.number (Some l)
good_link table t l o g h = link_of t.number 0 (items_of t.cells) l o g.links (subst (λ (cs : List Cell). Shows 0 cs l o) (sym g.kept.whole) h)

pub home-bit : (table : Table) (ts : List TrackState) (l : Link) (o : Option ℤ) → AreTracks table ts → Sees ts l o → IsBitSet l.tracks l.home
home-bit table [] l o a h = absurd h
home-bit table (t ∷ ts) l o a (inl h) = (good_link table t l o a.1 h).1
home-bit table (t ∷ ts) l o a (inr h) = home-bit table ts l o a.2 h

pub rest-bit : (table : Table) (named ts : List TrackState) (l : Link) (o : Option ℤ) → AreTracks table ts → SeesRest named ts l o
    → (n : ℕ) × (n < 32) × (track_numbered n named ≡ None) × IsBitSet l.tracks n
rest-bit table named [] l o a h = absurd h
rest-bit table named (t ∷ ts) l o a (inl h) = (t.number, a.0, h.0, (good_link table t l o a.1 h.1).0)
rest-bit table named (t ∷ ts) l o a (inr h) = rest-bit table named ts l o a.2 h

home_low : (table : Table) (ts : List TrackState) (h n : ℕ) → AreTracks table ts → n < next_link_at h ts → h < 32
home_low table [] h n a lt = absurd (omega (arith, lt))
home_low table (t ∷ ts) h n a lt = by (eqb t.number h) refl lt (λ k. home_low table ts h n a.2 k) where
  by : (b : Bool) → eqb t.number h ≡ b → n < cond b t.next_link (next_link_at h ts) → (n < next_link_at h ts → h < 32) → h < 32
  by true e k later = omega (arith, eqb-true t.number h e, a.0)
  by false e k later = later k

-- what is moved, and what stays, before and after the shift

pub high-all : (x y z : ℕ) (Put : Link → Option ℤ → Type 0) (ts us : List TrackState) (l : Link) (o : Option ℤ) → Each (Shifts x y z Put) ts us → SeesFrom z us l o
    → (b : Option ℤ) × SeesFrom y ts l b × (o ≡ rebased y z b)
high-all x y z Put [] [] l o each h = absurd h
high-all x y z Put [] (u ∷ us) l o each h = absurd each
high-all x y z Put (t ∷ ts) [] l o each h = absurd h
high-all x y z Put (t ∷ ts) (u ∷ us) l o each (inl h) = let r = each.1.high l o h in (r.0, inl r.1, r.2)
high-all x y z Put (t ∷ ts) (u ∷ us) l o each (inr h) = let r = high-all x y z Put ts us l o each.2 h in (r.0, inr r.1, r.2)

back_all : (x y z : ℕ) (Put : Link → Option ℤ → Type 0) (ts us : List TrackState) (l : Link) (o : Option ℤ) → Each (Shifts x y z Put) ts us → SeesBefore x ts l o → SeesBefore x us l o
back_all x y z Put [] us l o each h = absurd h
back_all x y z Put (t ∷ ts) [] l o each h = absurd each
back_all x y z Put (t ∷ ts) (u ∷ us) l o each (inl h) = inl (each.1.back l o h)
back_all x y z Put (t ∷ ts) (u ∷ us) l o each (inr h) = inr (back_all x y z Put ts us l o each.2 h)

pub from-carries : (z : ℕ) (us : List TrackState) (l : Link) (o : Option ℤ) → SeesFrom z us l o → Carries (cells_from z us) l
from-carries z [] l o h = absurd h
from-carries z (u ∷ us) l o (inl h) = carries-left (drop z u.cells) (cells_from z us) l (shows-carries z (drop z u.cells) l o h)
from-carries z (u ∷ us) l o (inr h) = carries-right (drop z u.cells) (cells_from z us) l (from-carries z us l o h)

pub carries-from : (z : ℕ) (us : List TrackState) (l : Link) → Carries (cells_from z us) l → (o : Option ℤ) × SeesFrom z us l o
carries-from z [] l h = absurd h
carries-from z (u ∷ us) l h = by (carries-append (drop z u.cells) (cells_from z us) l h) (λ k. carries-from z us l k) where
  by : Carries (drop z u.cells) l ⊎ Carries (cells_from z us) l → (Carries (cells_from z us) l → (o : Option ℤ) × SeesFrom z us l o) → (o : Option ℤ) × SeesFrom z (u ∷ us) l o
  by (inl a) later = let r = carries-shows z (drop z u.cells) l a in (r.0, inl r.1)
  by (inr b) later = let r = later b in (r.0, inr r.1)

before_carries : (x : ℕ) (us : List TrackState) (l : Link) (o : Option ℤ) → SeesBefore x us l o → Carries (cells_before x us) l
before_carries x [] l o h = absurd h
before_carries x (u ∷ us) l o (inl h) = carries-left (take x u.cells) (cells_before x us) l (shows-carries 0 (take x u.cells) l o h)
before_carries x (u ∷ us) l o (inr h) = carries-right (take x u.cells) (cells_before x us) l (before_carries x us l o h)

-- the links that are split are those on both sides

pub shift-start : (table : Table) (all named us : List TrackState) (x y z : ℕ) (Put : Link → Option ℤ → Type 0) → AreTracks table all → AreAmong all named → IsTied all
    → Each (Shifts x y z Put) named us
    → ((l : Link) (b : Option ℤ) → SeesFrom y named l b → (n : ℕ) → n < 32 → IsBitSet l.tracks n → is_named named n ≡ true)
    → Splits (Stays x named all) z us (split_links x z us)
shift-start table all named us x y z Put tracks among g each inside = record { after = after; cross = cross; low = low; high = high; each = may } where
  moved : (l : Link) (a : Option ℤ) → SeesFrom z us l a → (b : Option ℤ) × SeesFrom y named l b × (a ≡ rebased y z b)
  moved l a s = high-all x y z Put named us l a each s

  seen : (l : Link) (b : Option ℤ) → SeesFrom y named l b → Sees all l b
  seen l b s = from-all y all named l b among s

  stay : (l : Link) (b : Option ℤ) → Stays x named all l b → Sees all l b
  stay l b s = stays-all x named all l b among s

  next : (h : ℕ) → is_named named h ≡ true → next_link_at h us ≡ next_link_at h all
  next h e = next-shifts x y z Put named us h each ∙ next-among all named h among e

  same : (h : ℕ) → is_named us h ≡ is_named named h
  same h = named-each (Shifts x y z Put) named us h each

  after : (k l : Link) (a b : Option ℤ) → SeesFrom z us k a → SeesFrom z us l b → Same k l → (k.tracks ≡ l.tracks) × (a ≡ b)
  after k l a b s t e =
      let r = moved k a s in
      let q = moved l b t in
      let f = g.one k l r.0 q.0 (seen k r.0 r.1) (seen l q.0 q.1) e.0 e.1 in
      (f.0, r.2 ∙ (ap (rebased y z) f.1 ∙ sym q.2))

  behind : List Link
  behind = links_in (cells_from z us)

  before : List Link
  before = links_in (cells_before x us)

  differ : (o : Option TrackState) (t : TrackState) → o ≡ None → o ≡ Some t → ⊥
  differ o t e f = Prim.grind (arith, e, f)

  cross : (k l : Link) (a b : Option ℤ) → Stays x named all k a → SeesFrom z us l b → Same k l → (k.tracks ≡ l.tracks) × AnySame l (split_links x z us)
  cross k l a b s t e =
      let q = moved l b t in
      let f = g.one k l a q.0 (stay k a s) (seen l q.0 q.1) e.0 e.1 in
      (f.0, same-filter l behind before (in-links (cells_from z us) l (from-carries z us l b t)) (by s q.0 q.1 f.0)) where
        by : Stays x named all k a → (c : Option ℤ) → SeesFrom y named l c → k.tracks ≡ l.tracks → AnySame l before
        by (inl h) c m w = any-same k l before e (in-links (cells_before x us) k (before_carries x us k a (back_all x y z Put named us k a each h)))
        by (inr h) c m w =
            let r = rest-bit table named all k a tracks h in
            let n = named-found r.0 named (inside l c m r.0 r.1 (subst (λ (v : ℕ). IsBitSet v r.0) w r.3)) in
            absurd (differ (track_numbered r.0 named) n.0 r.2 n.1)

  low : (l : Link) (a : Option ℤ) → Stays x named all l a → is_named us l.home ≡ true → l.number < next_link_at l.home us
  low l a s e = omega (arith, g.below l a (stay l a s), next l.home (sym (same l.home) ∙ e))

  high : (l : Link) (a : Option ℤ) → SeesFrom z us l a → (is_named us l.home ≡ true) × (l.number < next_link_at l.home us)
  high l a s =
      let r = moved l a s in
      let below = g.below l r.0 (seen l r.0 r.1) in
      let home = inside l r.0 r.1 l.home (home_low table all l.home l.number tracks below) (home-bit table all l r.0 tracks (seen l r.0 r.1)) in
      (same l.home ∙ home, omega (arith, below, next l.home home))

  one : (l : Link) → Carries (cells_from z us) l → MaySplit us l
  one l h = let r = carries-from z us l h in high l r.0 r.1

  may : AllLinks (MaySplit us) (split_links x z us)
  may = all-filter (MaySplit us) (λ (l : Link). list_any (same_link l) before) behind (all-links (MaySplit us) (cells_from z us) one)

-- they may be split where all that is moved has links that were given away
pub may-split : (x z : ℕ) (us : List TrackState) → ((l : Link) (a : Option ℤ) → SeesFrom z us l a → MaySplit us l) → AllLinks (MaySplit us) (split_links x z us)
may-split x z us high =
    all-filter (MaySplit us) (λ (l : Link). list_any (same_link l) (links_in (cells_before x us))) (links_in (cells_from z us))
    (all-links (MaySplit us) (cells_from z us) (λ l c. high l (carries-from z us l c).0 (carries-from z us l c).1))

-- once they are split all tracks are together

halves : (z p : ℕ) (cs : List Cell) (l : Link) (o : Option ℤ) → Shows p cs l o → Shows p (take z cs) l o ⊎ Shows (p + z) (drop z cs) l o
halves zero p cs l o h = inr (shows-at p (p + 0) cs l o (omega arith) h)
halves (suc z) p [] l o h = absurd h
halves (suc z) p (c ∷ cs) l o (inl h) = inl (inl h)
halves (suc z) p (c ∷ cs) l o (inr h) = by (halves z (p + 1) cs l o h) where
  by : Shows (p + 1) (take z cs) l o ⊎ Shows (p + 1 + z) (drop z cs) l o → Shows p (c ∷ take z cs) l o ⊎ Shows (p + suc z) (drop z cs) l o
  by (inl a) = inl (inr a)
  by (inr b) = inr (shows-at (p + 1 + z) (p + suc z) (drop z cs) l o (omega arith) b)

sides : (x y z : ℕ) (Put : Link → Option ℤ → Type 0) (ts us vs : List TrackState) (l : Link) (o : Option ℤ) → Each (Shifts x y z Put) ts us → Each (SameBefore z) us vs → Sees vs l o
    → (SeesBefore x ts l o ⊎ Put l o) ⊎ SeesFrom z vs l o
sides x y z Put ts us [] l o e f h = absurd h
sides x y z Put ts [] (v ∷ vs) l o e f h = absurd f
sides x y z Put [] (u ∷ us) (v ∷ vs) l o e f h = absurd e
sides x y z Put (t ∷ ts) (u ∷ us) (v ∷ vs) l o e f (inl h) = by (halves z 0 v.cells l o h) where
  lower : Shows 0 (take x t.cells) l o ⊎ Put l o → (SeesBefore x (t ∷ ts) l o ⊎ Put l o) ⊎ SeesFrom z (v ∷ vs) l o
  lower (inl a) = inl (inl (inl a))
  lower (inr p) = inl (inr p)

  by : Shows 0 (take z v.cells) l o ⊎ Shows (0 + z) (drop z v.cells) l o → (SeesBefore x (t ∷ ts) l o ⊎ Put l o) ⊎ SeesFrom z (v ∷ vs) l o
  by (inl a) = lower (e.1.low l o (subst (λ (cs : List Cell). Shows 0 cs l o) f.1 a))
  by (inr b) = inr (inl (shows-at (0 + z) z (drop z v.cells) l o (omega arith) b))
sides x y z Put (t ∷ ts) (u ∷ us) (v ∷ vs) l o e f (inr h) = by (sides x y z Put ts us vs l o e.2 f.2 h) where
  by : (SeesBefore x ts l o ⊎ Put l o) ⊎ SeesFrom z vs l o → (SeesBefore x (t ∷ ts) l o ⊎ Put l o) ⊎ SeesFrom z (v ∷ vs) l o
  by (inl (inl a)) = inl (inl (inr a))
  by (inl (inr p)) = inl (inr p)
  by (inr b) = inr (inr b)

pub left-sees : (named vs ts : List TrackState) (l : Link) (o : Option ℤ) → ((n : ℕ) → track_numbered n vs ≡ None → track_numbered n named ≡ None)
    → Sees (with_tracks ts vs) l o → SeesRest named ts l o ⊎ Sees vs l o
left-sees named vs [] l o none h = absurd h
left-sees named vs (t ∷ ts) l o none (inl h) = by (track_numbered t.number vs) refl h where
  by : (found : Option TrackState) → track_numbered t.number vs ≡ found → Shows 0 (unwrap_or found t).cells l o → SeesRest named (t ∷ ts) l o ⊎ Sees vs l o
  by None e k = inl (inl (none t.number e, k))
  by (Some v) e k = inr (numbered-sees t.number vs v l o e k)
left-sees named vs (t ∷ ts) l o none (inr h) = by (left-sees named vs ts l o none h) where
  by : SeesRest named ts l o ⊎ Sees vs l o → SeesRest named (t ∷ ts) l o ⊎ Sees vs l o
  by (inl a) = inl (inr a)
  by (inr b) = inr b

pub next-named : (all named vs : List TrackState) (h : ℕ) → AreAmong all named → is_named named h ≡ true → is_named vs h ≡ true → next_link_at h (with_tracks all vs) ≡ next_link_at h vs
next-named all named vs h among e f =
    let r = named-found h named e in
    let q = named-found h vs f in
    let there = among-numbered all named h r.0 among r.1 in
    let left : as_left vs r.0 ≡ q.0 = ap (λ (n : ℕ). unwrap_or (track_numbered n vs) r.0) (is-numbered h named r.0 r.1) ∙ ap (λ (o : Option TrackState). unwrap_or o r.0) q.1 in
    next-numbered h (with_tracks all vs) q.0 (numbered-left h vs all r.0 there ∙ ap Some left) ∙ sym (next-numbered h vs q.0 q.1)

next_unnamed : (vs ts : List TrackState) (h : ℕ) → track_numbered h vs ≡ None → next_link_at h (with_tracks ts vs) ≡ next_link_at h ts
next_unnamed vs [] h e = refl
next_unnamed vs (t ∷ ts) h e =
    ap (λ (m : ℕ). cond (eqb m h) (as_left vs t).next_link (next_link_at h (with_tracks ts vs))) (left-number vs t)
    ∙ by (eqb t.number h) refl (next_unnamed vs ts h e) where
      by : (b : Bool) → eqb t.number h ≡ b → next_link_at h (with_tracks ts vs) ≡ next_link_at h ts
          → cond b (as_left vs t).next_link (next_link_at h (with_tracks ts vs)) ≡ cond b t.next_link (next_link_at h ts)
      by true f later =
          let none : track_numbered t.number vs ≡ None = ap (λ (n : ℕ). track_numbered n vs) (eqb-true t.number h f) ∙ e in
          ap (λ (o : Option TrackState). (unwrap_or o t).next_link) none
      by false f later = later

pub end-split : (all named us vs : List TrackState) (x y z : ℕ) (Put : Link → Option ℤ → Type 0) → Each (Shifts x y z Put) named us → Each (SameBefore z) us vs
    → ((l : Link) (o : Option ℤ) → Put l o → Stays x named all l o ⊎ SeesFrom z vs l o)
    → (l : Link) (o : Option ℤ) → Sees (with_tracks all vs) l o → Stays x named all l o ⊎ SeesFrom z vs l o
end-split all named us vs x y z Put each same put = split where
  named_same : (n : ℕ) → is_named vs n ≡ is_named named n
  named_same n = named-each (SameBefore z) us vs n same ∙ named-each (Shifts x y z Put) named us n each

  none : (n : ℕ) → track_numbered n vs ≡ None → track_numbered n named ≡ None
  none n e = by (is_named named n) refl where
    differ : (o : Option TrackState) (t : TrackState) → o ≡ None → o ≡ Some t → ⊥
    differ o t e f = Prim.grind (arith, e, f)

    by : (b : Bool) → is_named named n ≡ b → track_numbered n named ≡ None
    by true f = let r = named-found n vs (named_same n ∙ f) in absurd (differ (track_numbered n vs) r.0 e r.1)
    by false f = none-named n named f

  split : (l : Link) (o : Option ℤ) → Sees (with_tracks all vs) l o → Stays x named all l o ⊎ SeesFrom z vs l o
  split l o s = outer (left-sees named vs all l o none s) where
    inner : (SeesBefore x named l o ⊎ Put l o) ⊎ SeesFrom z vs l o → Stays x named all l o ⊎ SeesFrom z vs l o
    inner (inl (inl a)) = inl (inl a)
    inner (inl (inr p)) = put l o p
    inner (inr b) = inr b

    outer : SeesRest named all l o ⊎ Sees vs l o → Stays x named all l o ⊎ SeesFrom z vs l o
    outer (inl r) = inl (inr r)
    outer (inr s) = inner (sides x y z Put named us vs l o each same s)

pub shift-end : (all named us vs : List TrackState) (x y z : ℕ) (Put : Link → Option ℤ → Type 0) → AreAmong all named → IsTied all
    → Each (Shifts x y z Put) named us → Each (SameBefore z) us vs → Splits (Stays x named all) z vs []
    → ((l : Link) (o : Option ℤ) → Put l o → Stays x named all l o ⊎ SeesFrom z vs l o) → IsTied (with_tracks all vs)
shift-end all named us vs x y z Put among g each same inv put = record {
  one = λ k l a b s t h n. one k l a b h n (split k a s) (split l b t);
  below = λ l a s. below l a (split l a s);
} where
  named_same : (n : ℕ) → is_named vs n ≡ is_named named n
  named_same n = named-each (SameBefore z) us vs n same ∙ named-each (Shifts x y z Put) named us n each

  split : (l : Link) (o : Option ℤ) → Sees (with_tracks all vs) l o → Stays x named all l o ⊎ SeesFrom z vs l o
  split = end-split all named us vs x y z Put each same put

  stay : (l : Link) (b : Option ℤ) → Stays x named all l b → Sees all l b
  stay l b s = stays-all x named all l b among s

  one : (k l : Link) (a b : Option ℤ) → k.home ≡ l.home → k.number ≡ l.number → Stays x named all k a ⊎ SeesFrom z vs k a → Stays x named all l b ⊎ SeesFrom z vs l b
      → (k.tracks ≡ l.tracks) × (a ≡ b)
  one k l a b h n (inl s) (inl t) = g.one k l a b (stay k a s) (stay l b t) h n
  one k l a b h n (inl s) (inr t) = absurd (inv.cross k l a b s t (h, n)).1
  one k l a b h n (inr s) (inl t) = absurd (inv.cross l k b a t s (sym h, sym n)).1
  one k l a b h n (inr s) (inr t) = inv.after k l a b s t (h, n)

  below : (l : Link) (a : Option ℤ) → Stays x named all l a ⊎ SeesFrom z vs l a → l.number < next_link_at l.home (with_tracks all vs)
  below l a (inl s) = by (is_named vs l.home) refl where
    by : (b : Bool) → is_named vs l.home ≡ b → l.number < next_link_at l.home (with_tracks all vs)
    by true e = omega (arith, inv.low l a s e, next-named all named vs l.home among (sym (named_same l.home) ∙ e) e)
    by false e = omega (arith, g.below l a (stay l a s), next_unnamed vs all l.home (none-named l.home vs e))
  below l a (inr s) =
      let p = inv.high l a s in
      omega (arith, p.1, next-named all named vs l.home among (sym (named_same l.home) ∙ p.0) p.0)
