-- Tracks that are together, by their links and offsets alone, and changes of tracks that keep them so.
use Rattle.std.proofs.Common.{◌≡◌, ℕ, zero, suc, ◌+◌, ◌<◌, ◌≤◌, ◌⊎◌, inl, inr, ℤ, Bool, true, false, cond, eqb, List, [], ◌∷◌, slice_get, unwrap_or, Option, Some, None, refl, sym, ap, ◌∙◌, arith, subst}
use Rattle.std.proofs.lemmas.Bool.{eqb-true}
use Rattle.std.proofs.lemmas.Option.{same_Some}
use Rattle.frame_meaning.specs.declared.cells.Cell.{Cell}
use Rattle.frame_meaning.specs.declared.cells.Link.{Link}
use Rattle.composables.specs.declared.media.Table.{Table}
use Rattle.composables.specs.Good.{IsGood}
use Rattle.composables.specs.Links.{next_link_at}
use Rattle.composables.specs.OwnTracks.{track_numbered, with_track}
use Rattle.composables.specs.Ranges.{offset_of}
use Rattle.composables.specs.TrackState.{TrackState}
use Rattle.link_laws.specs.Together.{StandsOn, Together}
use Rattle.link_laws.specs.Rooms.{AreAmong, AreTracks, as_left, with_tracks}
use Rattle.link_laws.specs.Weights.{runs_in}
use Rattle.link_laws.proofs.Runs.{Grown, grown-from, grown-self}
use Rattle.link_laws.proofs.Sights.{Shows}
use Rattle.edit_splice.proofs.Bridging.{is-numbered}

-- a cell of these tracks has this link and this offset
abbrev pub Sees : List TrackState → Link → Option ℤ → Type 0
Sees [] l o = ⊥
Sees (t ∷ ts) l o = Shows 0 t.cells l o ⊎ Sees ts l o

pub record IsTied (ts : List TrackState) : Type 0 where
  pub one : (k l : Link) (a b : Option ℤ) → Sees ts k a → Sees ts l b → k.home ≡ l.home → k.number ≡ l.number → (k.tracks ≡ l.tracks) × (a ≡ b)
  pub below : (l : Link) (a : Option ℤ) → Sees ts l a → l.number < next_link_at l.home ts

shows_found : (p : ℕ) (cs : List Cell) (l : Link) (o : Option ℤ) → Shows p cs l o
    → (k : ℕ) × (c : Cell) × (slice_get cs k ≡ Some c) × (c.link ≡ Some l) × (offset_of c.side (p + k) ≡ o)
shows_found p [] l o h = absurd h
shows_found p (c ∷ cs) l o (inl h) = let z : p + 0 ≡ p = omega arith in (0, c, refl, h.0, ap (λ (n : ℕ). offset_of c.side n) z ∙ h.1)
shows_found p (c ∷ cs) l o (inr h) =
    let r = shows_found (p + 1) cs l o h in
    let z : p + suc r.0 ≡ p + 1 + r.0 = omega arith in
    (suc r.0, r.1, r.2, r.3, ap (λ (n : ℕ). offset_of r.1.side n) z ∙ r.4)

found_shows : (p : ℕ) (cs : List Cell) (k : ℕ) (c : Cell) (l : Link) → slice_get cs k ≡ Some c → c.link ≡ Some l → Shows p cs l (offset_of c.side (p + k))
found_shows p [] k c l e h = absurd cc
found_shows p (d ∷ ds) zero c l e h =
    let same : d ≡ c = cc in
    let z : p ≡ p + 0 = omega arith in
    inl (ap (λ (u : Cell). u.link) same ∙ h, ap (λ (u : Cell). offset_of u.side p) same ∙ ap (λ (n : ℕ). offset_of c.side n) z)
found_shows p (d ∷ ds) (suc k) c l e h =
    let z : p + 1 + k ≡ p + suc k = omega arith in
    inr (subst (λ (n : ℕ). Shows (p + 1) ds l (offset_of c.side n)) z (found_shows (p + 1) ds k c l e h))

pub sees-found : (ts : List TrackState) (l : Link) (o : Option ℤ) → Sees ts l o
    → (p : ℕ) × (c : Cell) × StandsOn ts p c × (c.link ≡ Some l) × (offset_of c.side p ≡ o)
sees-found [] l o h = absurd h
sees-found (t ∷ ts) l o (inl h) =
    let r = shows_found 0 t.cells l o h in
    let z : r.0 ≡ 0 + r.0 = omega arith in
    (r.0, r.1, inl r.2, r.3, ap (λ (n : ℕ). offset_of r.1.side n) z ∙ r.4)
sees-found (t ∷ ts) l o (inr h) = let r = sees-found ts l o h in (r.0, r.1, inr r.2, r.3, r.4)

pub stands-sees : (ts : List TrackState) (p : ℕ) (c : Cell) (l : Link) → StandsOn ts p c → c.link ≡ Some l → Sees ts l (offset_of c.side p)
stands-sees [] p c l h e = absurd h
stands-sees (t ∷ ts) p c l (inl h) e =
    let z : 0 + p ≡ p = omega arith in
    inl (subst (λ (n : ℕ). Shows 0 t.cells l (offset_of c.side n)) z (found_shows 0 t.cells p c l h e))
stands-sees (t ∷ ts) p c l (inr h) e = inr (stands-sees ts p c l h e)

pub tied-of : (ts : List TrackState) → Together ts → IsTied ts
tied-of ts g = record { one = one; below = below } where
  one : (k l : Link) (a b : Option ℤ) → Sees ts k a → Sees ts l b → k.home ≡ l.home → k.number ≡ l.number → (k.tracks ≡ l.tracks) × (a ≡ b)
  one k l a b s t h n =
      let r = sees-found ts k a s in
      let q = sees-found ts l b t in
      let e = g.tied r.0 q.0 r.1 q.1 k l r.2 q.2 r.3 q.3 h n in
      (e.0, sym r.4 ∙ (e.1 ∙ q.4))

  below : (l : Link) (a : Option ℤ) → Sees ts l a → l.number < next_link_at l.home ts
  below l a s = let r = sees-found ts l a s in g.below r.0 r.1 l r.2 r.3

pub together-of : (ts : List TrackState) → IsTied ts → Together ts
together-of ts g = record {
  tied = λ p q c d k l s t e f h n. g.one k l (offset_of c.side p) (offset_of d.side q) (stands-sees ts p c k s e) (stands-sees ts q d l t f) h n;
  below = λ p c l s e. g.below l (offset_of c.side p) (stands-sees ts p c l s e);
}

-- tracks that are changed one by one

abbrev pub Each : (TrackState → TrackState → Type 0) → List TrackState → List TrackState → Type 0
Each R [] [] = Unit {0}
Each R [] (u ∷ us) = ⊥
Each R (t ∷ ts) [] = ⊥
Each R (t ∷ ts) (u ∷ us) = (u.number ≡ t.number) × R t u × Each R ts us

pub each-self : (R : TrackState → TrackState → Type 0) → ((t : TrackState) → R t t) → (ts : List TrackState) → Each R ts ts
each-self R self [] = tt
each-self R self (t ∷ ts) = (refl, self t, each-self R self ts)

pub among-numbered : (all ts : List TrackState) (n : ℕ) (t : TrackState) → AreAmong all ts → track_numbered n ts ≡ Some t → track_numbered n all ≡ Some t
among-numbered all [] n t a e = absurd cc
among-numbered all (u ∷ us) n t a e = by (eqb u.number n) refl e (λ k. among-numbered all us n t a.1 k) where
  by : (b : Bool) → eqb u.number n ≡ b → cond b (Some u) (track_numbered n us) ≡ Some t → (track_numbered n us ≡ Some t → track_numbered n all ≡ Some t) → track_numbered n all ≡ Some t
  by true f h later = ap (λ (m : ℕ). track_numbered m all) (sym (eqb-true u.number n f)) ∙ (a.0 ∙ h)
  by false f h later = later h

pub good-found : (table : Table) (ts : List TrackState) (n : ℕ) (t : TrackState) → AreTracks table ts → track_numbered n ts ≡ Some t → (t.number < 32) × IsGood table t
good-found table [] n t a e = absurd cc
good-found table (u ∷ us) n t a e = by (eqb u.number n) e (λ k. good-found table us n t a.2 k) where
  by : (b : Bool) → cond b (Some u) (track_numbered n us) ≡ Some t → (track_numbered n us ≡ Some t → (t.number < 32) × IsGood table t) → (t.number < 32) × IsGood table t
  by true h later = subst (λ (v : TrackState). (v.number < 32) × IsGood table v) (same_Some u t h) (a.0, a.1)
  by false h later = later h

pub found-of : (R : TrackState → TrackState → Type 0) (n : ℕ) (ts us : List TrackState) (u : TrackState) → Each R ts us → track_numbered n us ≡ Some u
    → (t : TrackState) × (track_numbered n ts ≡ Some t) × R t u
found-of R n [] [] u each e = absurd cc
found-of R n [] (v ∷ vs) u each e = absurd each
found-of R n (t ∷ ts) [] u each e = absurd each
found-of R n (t ∷ ts) (v ∷ vs) u each e = by (eqb v.number n) refl e (λ k. found-of R n ts vs u each.2 k) where
  head : (b : Bool) → eqb v.number n ≡ b → track_numbered n (t ∷ ts) ≡ cond b (Some t) (track_numbered n ts)
  head b f =
      ap (λ (m : ℕ). cond (eqb m n) (Some t) (track_numbered n ts)) (sym each.0)
      ∙ ap (λ (c : Bool). cond c (Some t) (track_numbered n ts)) f

  by : (b : Bool) → eqb v.number n ≡ b → cond b (Some v) (track_numbered n vs) ≡ Some u
      → (track_numbered n vs ≡ Some u → (s : TrackState) × (track_numbered n ts ≡ Some s) × R s u) → (s : TrackState) × (track_numbered n (t ∷ ts) ≡ Some s) × R s u
  by true f h later = (t, head true f, subst (R t) (same_Some v u h) each.1)
  by false f h later = let r = later h in (r.0, head false f ∙ r.1, r.2)

pub as-left : (R : TrackState → TrackState → Type 0) → ((t : TrackState) → R t t) → (all named news : List TrackState) → AreAmong all named → Each R named news
    → (t : TrackState) → track_numbered t.number all ≡ Some t → ((as_left news t).number ≡ t.number) × R t (as_left news t)
as-left R self all named news among each t e = by (track_numbered t.number news) refl where
  by : (o : Option TrackState) → track_numbered t.number news ≡ o → ((unwrap_or o t).number ≡ t.number) × R t (unwrap_or o t)
  by None f = (refl, self t)
  by (Some u) f =
      let r = found-of R t.number named news u each f in
      let same : r.0 ≡ t = same_Some r.0 t (sym (among-numbered all named t.number r.0 among r.1) ∙ e) in
      (is-numbered t.number news u f, subst (λ (s : TrackState). R s u) same r.2)

pub each-left : (R : TrackState → TrackState → Type 0) → ((t : TrackState) → R t t) → (all named news ts : List TrackState) → AreAmong all named → Each R named news
    → AreAmong all ts → Each R ts (with_tracks ts news)
each-left R self all named news [] among each a = tt
each-left R self all named news (t ∷ ts) among each a =
    let r = as-left R self all named news among each t a.0 in
    (r.0, r.1, each-left R self all named news ts among each a.1)

-- one track changed among these
pub each-with : (R : TrackState → TrackState → Type 0) → ((t : TrackState) → R t t) → (ts : List TrackState) (t u : TrackState) → track_numbered u.number ts ≡ Some t
    → u.number ≡ t.number → R t u → Each R ts (with_track ts u)
each-with R self [] t u e n r = absurd cc
each-with R self (w ∷ ws) t u e n r = by (eqb w.number u.number) refl e (λ k. each-with R self ws t u k n r) where
  by : (b : Bool) → eqb w.number u.number ≡ b → cond b (Some w) (track_numbered u.number ws) ≡ Some t → (track_numbered u.number ws ≡ Some t → Each R ws (with_track ws u)) → Each R (w ∷ ws) (cond b (u ∷ ws) (w ∷ with_track ws u))
  by true f h later = (sym (eqb-true w.number u.number f), subst (λ (s : TrackState). R s u) (sym (same_Some w t h)) r, each-self R self ws)
  by false f h later = (refl, self w, later h)

-- a track that has no link with an offset that it had not, few runs more of its links, and gives no link number away
pub record Keeps (t u : TrackState) : Type 0 where
  pub shows : (l : Link) (o : Option ℤ) → Shows 0 u.cells l o → Shows 0 t.cells l o
  pub next : u.next_link ≡ t.next_link
  pub grown : Grown t u

pub keeps-self : (t : TrackState) → Keeps t t
keeps-self t = record { shows = λ l o h. h; next = refl; grown = grown-self t }

-- a track without more runs, and then one that is kept
pub keeps-then : (t u v : TrackState) → Keeps t u → ((h n : ℕ) → runs_in h n false u.cells ≤ runs_in h n false t.cells) → Keeps u v → Keeps t v
keeps-then t u v a le b = record { shows = λ l o h. a.shows l o (b.shows l o h); next = b.next ∙ a.next; grown = grown-from t u v le b.grown }

pub sees-kept : (ts us : List TrackState) (l : Link) (o : Option ℤ) → Each Keeps ts us → Sees us l o → Sees ts l o
sees-kept [] [] l o each h = absurd h
sees-kept [] (u ∷ us) l o each h = absurd each
sees-kept (t ∷ ts) [] l o each h = absurd h
sees-kept (t ∷ ts) (u ∷ us) l o each (inl h) = inl (each.1.shows l o h)
sees-kept (t ∷ ts) (u ∷ us) l o each (inr h) = inr (sees-kept ts us l o each.2 h)

pub next-more : (home : ℕ) (ts us : List TrackState) → Each (λ (t u : TrackState). t.next_link ≤ u.next_link) ts us → next_link_at home ts ≤ next_link_at home us
next-more home [] [] each = omega arith
next-more home [] (u ∷ us) each = absurd each
next-more home (t ∷ ts) [] each = absurd each
next-more home (t ∷ ts) (u ∷ us) each =
    subst (λ (m : ℕ). next_link_at home (t ∷ ts) ≤ cond (eqb m home) u.next_link (next_link_at home us)) (sym each.0) (by (eqb t.number home) (next-more home ts us each.2)) where
      by : (b : Bool) → next_link_at home ts ≤ next_link_at home us → cond b t.next_link (next_link_at home ts) ≤ cond b u.next_link (next_link_at home us)
      by true later = each.1
      by false later = later

each_next : (ts us : List TrackState) → Each Keeps ts us → Each (λ (t u : TrackState). t.next_link ≤ u.next_link) ts us
each_next [] [] each = tt
each_next [] (u ∷ us) each = absurd each
each_next (t ∷ ts) [] each = absurd each
each_next (t ∷ ts) (u ∷ us) each = (each.0, omega (arith, each.1.next), each_next ts us each.2)

pub kept-tied : (ts us : List TrackState) → Each Keeps ts us → IsTied ts → IsTied us
kept-tied ts us each g = record {
  one = λ k l a b s t h n. g.one k l a b (sees-kept ts us k a each s) (sees-kept ts us l b each t) h n;
  below = λ l a s. (let low = g.below l a (sees-kept ts us l a each s) in omega (arith, low, next-more l.home ts us (each_next ts us each)));
}
