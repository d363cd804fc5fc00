-- Every call keeps the links of a room given away, whatever else its tracks are.
use Rattle.std.proofs.Common.{◌≡◌, ℕ, ◌+◌, ◌<◌, ◌≤◌, ◌⊎◌, inl, inr, ℤ, Bool, true, false, cond, eqb, List, [], ◌∷◌, map, Option, Some, None, Ok, Err, refl, sym, ap, ◌∙◌, arith, subst, IsBitSet}
use Rattle.std.proofs.lemmas.Bool.{eqb-true}
use Rattle.frame_meaning.specs.declared.cells.Link.{Link}
use Rattle.composables.specs.declared.refusals.Done.TheVariants.{Plain}
use Rattle.composables.specs.Answers.{Applied}
use Rattle.composables.specs.Joined.{frames_in}
use Rattle.composables.specs.Links.{cells_from, is_named, link_outside, links_split, next_link_at, split_links, split_track}
use Rattle.composables.specs.OwnTracks.{for_own, numbers_of, track_numbered}
use Rattle.composables.specs.Ranges.{offset_of}
use Rattle.composables.specs.TrackState.{TrackState}
use Rattle.dissolves.specs.Marking.{dissolve_named, dissolve_on, undissolve_named, undissolve_on}
use Rattle.edit_insert.specs.Edits.{extracted, inserted, overwrite_named, overwrite_track, remove_named, remove_track, slice_named, slice_track}
use Rattle.edit_insert.specs.Fills.{fill_named, fill_track}
use Rattle.edit_roll.specs.Rolling.{roll_named, roll_track}
use Rattle.edit_splice.specs.Shifts.{shifted}
use Rattle.edit_trim.specs.Rippling.{ripple_own}
use Rattle.edit_trim.specs.Trimming.{trim_named, trim_track}
use Rattle.link_laws.specs.Given.{AreGiven, EditsKeepGiven, KeepsGiven, LeavesGiven, StaysGiven}
use Rattle.link_laws.specs.Rooms.{AreAmong, AreLow, AreNamed, IsNumbered, Leaves, with_tracks}
use Rattle.link_laws.proofs.Edits.{KeptAll, dissolve-one, fill-one, overwrite-one, own-kept, remove-one, roll-one, slice-one, trim-one, undissolve-one}
use Rattle.link_laws.proofs.LinkLists.{AllLinks, named-inside}
use Rattle.link_laws.proofs.RippleCases.{ripple-leaves}
use Rattle.link_laws.proofs.Shifting.{Shifts, Stays, end-split, from-all, from-carries, high-all, may-split, named-each, next-among, next-named, next-shifts, stays-all}
use Rattle.link_laws.proofs.ShiftCases.{ByShifts, PutAt, extract-leaves, insert-leaves, leaves-own, shift-leaves}
use Rattle.link_laws.proofs.ShiftWeight.{shift-little, split-order}
use Rattle.link_laws.proofs.Splitting.{MaySplit, Moves, SameBefore, SeesFrom, from-moves, split-high, splits-before}
use Rattle.link_laws.proofs.Tied.{Each, Keeps, Sees, each-left, each-self, keeps-self, next-more, sees-found, sees-kept, stands-sees}
use Rattle.link_laws.proofs.Weighing.{kept-little}

-- by links and offsets

pub record IsGiven (ts : List TrackState) : Type 0 where
  pub below : (l : Link) (a : Option ℤ) → Sees ts l a → l.number < next_link_at l.home ts
  pub bit : (l : Link) (a : Option ℤ) → Sees ts l a → IsBitSet l.tracks l.home

pub given-of : (ts : List TrackState) → AreGiven ts → IsGiven ts
given-of ts g = record { below = λ l a s. (found l a s).0; bit = λ l a s. (found l a s).1 } where
  found : (l : Link) (a : Option ℤ) → Sees ts l a → (l.number < next_link_at l.home ts) × IsBitSet l.tracks l.home
  found l a s = let r = sees-found ts l a s in g r.0 r.1 l r.2 r.3

pub are-given : (ts : List TrackState) → IsGiven ts → AreGiven ts
are-given ts g p c l s e =
    let seen = stands-sees ts p c l s e in (g.below l (offset_of c.side p) seen, g.bit l (offset_of c.side p) seen)

-- tracks that are kept

pub numbers-each : (R : TrackState → TrackState → Type 0) (ts us : List TrackState) → Each R ts us → numbers_of us ≡ numbers_of ts
numbers-each R [] [] e = refl
numbers-each R [] (u ∷ us) e = absurd e
numbers-each R (t ∷ ts) [] e = absurd e
numbers-each R (t ∷ ts) (u ∷ us) e = ap (λ (n : ℕ). n ∷ numbers_of us) e.0 ∙ ap (λ (ns : List ℕ). t.number ∷ ns) (numbers-each R ts us e.2)

pub kept-given : (all named : List TrackState) (r : Applied) → IsNumbered all → AreAmong all named → AreGiven all → KeptAll named r → LeavesGiven all named r
kept-given all named (Ok (us, d)) room among g k =
    let each = each-left Keeps keeps-self all named us all among k room.apart in
    let old = given-of all g in
    record {
      numbers = numbers-each Keeps named us k;
      given = are-given (with_tracks all us) (record {
        below = λ l a s. (let low = old.below l a (sees-kept all (with_tracks all us) l a each s) in omega (arith, low, up each l.home));
        bit = λ l a s. old.bit l a (sees-kept all (with_tracks all us) l a each s);
      });
      little = kept-little all (with_tracks all us) room each;
    } where
      next : (ts ws : List TrackState) → Each Keeps ts ws → Each (λ (t u : TrackState). t.next_link ≤ u.next_link) ts ws
      next [] [] e = tt
      next [] (w ∷ ws) e = absurd e
      next (t ∷ ts) [] e = absurd e
      next (t ∷ ts) (w ∷ ws) e = (e.0, omega (arith, e.1.next), next ts ws e.2)

      up : Each Keeps all (with_tracks all us) → (h : ℕ) → next_link_at h all ≤ next_link_at h (with_tracks all us)
      up e h = next-more h all (with_tracks all us) (next all (with_tracks all us) e)
kept-given all named (Err r) room among g k = tt

pub given-law : (meant : List TrackState → Applied) → ((named : List TrackState) → KeptAll named (meant named)) → KeepsGiven meant
given-law meant h all named room names g = kept-given all named (meant named) room names.among g (h named)

-- a shift that moves something

low_home : (ts : List TrackState) (h n : ℕ) → AreLow ts → n < next_link_at h ts → h < 32
low_home [] h n a lt = absurd (omega (arith, lt))
low_home (t ∷ ts) h n a lt = by (eqb t.number h) refl lt (λ k. low_home ts h n a.1 k) where
  by : (b : Bool) → eqb t.number h ≡ b → n < cond b t.next_link (next_link_at h ts) → (n < next_link_at h ts → h < 32) → h < 32
  by true e k later = omega (arith, eqb-true t.number h e, a.0)
  by false e k later = later k

abbrev Rises : TrackState → TrackState → Type 0
Rises t u = t.next_link ≤ u.next_link

split_rises : (x y z : ℕ) (Put : Link → Option ℤ → Type 0) (ls : List Link) (us ts vs : List TrackState) → Each (Shifts x y z Put) ts vs → Each Rises ts (map (split_track z us ls) vs)
split_rises x y z Put ls us [] [] e = tt
split_rises x y z Put ls us [] (v ∷ vs) e = absurd e
split_rises x y z Put ls us (t ∷ ts) [] e = absurd e
split_rises x y z Put ls us (t ∷ ts) (v ∷ vs) e = (e.0, omega (arith, e.1.next), split_rises x y z Put ls us ts vs e.2)

rises_self : (t : TrackState) → Rises t t
rises_self t = omega arith

abbrev StayGiven : List TrackState → List TrackState → List TrackState → Type 0
StayGiven all named news = StaysGiven all named news

shifts_given : (keep : Bool) (all named : List TrackState) → IsNumbered all → AreNamed all named → AreGiven all → ByShifts keep (StayGiven all named) all named
shifts_given keep all named room names are ts own x y views done c = shift-leaves keep (StayGiven all named) all named ts own x y views done c stays where
  z : ℕ
  z = x + frames_in views

  us : List TrackState
  us = shifted keep own x y views ts

  ls : List Link
  ls = split_links x z us

  vs : List TrackState
  vs = map (split_track z us ls) us

  g : IsGiven all
  g = given-of all are

  same : (n : ℕ) → is_named us n ≡ is_named named n
  same n = named-each (Shifts x y z (PutAt x views)) named us n c.each

  -- what is moved stood on tracks of the room
  was : (l : Link) (a : Option ℤ) → SeesFrom z us l a → (b : Option ℤ) × SeesFrom y named l b × Sees all l b
  was l a s =
      let r = high-all x y z (PutAt x views) named us l a c.each s in (r.0, r.1, from-all y all named l r.0 names.among r.1)

  high : link_outside ts (cells_from y ts) ≡ None → (l : Link) (a : Option ℤ) → SeesFrom z us l a → MaySplit us l
  high told l a s =
      let r = was l a s in
      let below = g.below l r.0 r.2 in
      let home : is_named named l.home ≡ true =
      sym (c.same l.home) ∙ named-inside ts (cells_from y ts) l l.home told (from-carries y ts l r.0 (c.sees l r.0 r.1)) (low_home all l.home l.number room.low below) (g.bit l r.0 r.2) in
      let next : next_link_at l.home us ≡ next_link_at l.home all =
      next-shifts x y z (PutAt x views) named us l.home c.each ∙ next-among all named l.home names.among home in
      (same l.home ∙ home, omega (arith, below, next))

  rises : Each Rises all (with_tracks all (map (split_track z us ls) us))
  rises = each-left Rises rises_self all named (map (split_track z us ls) us) all names.among (split_rises x y z (PutAt x views) ls us named us c.each) room.apart

  up : (h : ℕ) → next_link_at h all ≤ next_link_at h (with_tracks all (map (split_track z us ls) us))
  up h = next-more h all (with_tracks all (map (split_track z us ls) us)) rises

  stays : link_outside ts (cells_from y ts) ≡ None → StaysGiven all named (links_split x z us)
  stays told = record {
    numbers = numbers-each Rises named vs (split_rises x y z (PutAt x views) ls us named us c.each);
    given = are-given (with_tracks all vs) (record { below = λ l a s. (parts l a s).0; bit = λ l a s. (parts l a s).1 });
    little = shift-little all named us x y z (PutAt x views) room names g.below c.each (high told);
  } where
    mays : AllLinks (MaySplit us) (split_links x z us)
    mays = may-split x z us (high told)

    after : (l : Link) (a : Option ℤ) → SeesFrom z (map (split_track z us ls) us) l a → MaySplit (map (split_track z us ls) us) l
    after l a s = split-high us ls (split-order x z us) mays z (high told) l a s

    bits : (k l : Link) → IsBitSet k.tracks k.home → Moves us ls k l → IsBitSet l.tracks l.home
    bits k l b (inl m) = subst (λ (j : Link). IsBitSet j.tracks j.home) (sym m.1) b
    bits k l b (inr m) = subst (λ (j : Link). IsBitSet j.tracks j.home) (sym m.1) b

    by : (l : Link) (a : Option ℤ) → Stays x named all l a ⊎ SeesFrom z (map (split_track z us ls) us) l a
        → (l.number < next_link_at l.home (with_tracks all (map (split_track z us ls) us))) × IsBitSet l.tracks l.home
    by l a (inl s) =
        let seen = stays-all x named all l a names.among s in
        (omega (arith, g.below l a seen, up l.home), g.bit l a seen)
    by l a (inr s) =
        let p = after l a s in
        let same_name : is_named (map (split_track z us ls) us) l.home ≡ is_named named l.home = named-each (SameBefore z) us (map (split_track z us ls) us) l.home (splits-before us ls z us) ∙ same l.home in
        let home : is_named named l.home ≡ true = sym same_name ∙ p.0 in
        let r = from-moves us ls z us l a s in
        let old = was r.0 a r.1 in
        (omega (arith, p.1, next-named all named (map (split_track z us ls) us) l.home names.among home p.0), bits r.0 l (g.bit r.0 old.0 old.2) r.2)

    parts : (l : Link) (a : Option ℤ) → Sees (with_tracks all (map (split_track z us ls) us)) l a
        → (l.number < next_link_at l.home (with_tracks all (map (split_track z us ls) us))) × IsBitSet l.tracks l.home
    parts l a s = by l a (end-split all named us (map (split_track z us ls) us) x y z (PutAt x views) c.each (splits-before us ls z us) c.put l a s)

-- the calls

pub own-given : (own : ℕ) (meant : List TrackState → TrackState → Applied)
    → ((all named : List TrackState) (t : TrackState) → IsNumbered all → AreNamed all named → AreGiven all → track_numbered own named ≡ Some t → Leaves (StayGiven all named) (meant named t))
    → KeepsGiven (λ named. for_own own (meant named) named)
own-given own meant each all named room names g = leaves-own (StayGiven all named) own (meant named) named (λ t e. each all named t room names g e)

same_given : (all named : List TrackState) → IsNumbered all → AreNamed all named → AreGiven all → StayGiven all named named
same_given all named room names g = kept-given all named (Ok (named, Plain)) room names.among g (each-self Keeps keeps-self named)

pub edits-keep-given : EditsKeepGiven
edits-keep-given = record {
  overwrite = λ table c. given-law (λ named. overwrite_named table named c) (λ named. own-kept c.track (overwrite_track table c) named (λ t e. overwrite-one table c t));
  fill = λ table c. given-law (λ named. fill_named table named c) (λ named. own-kept c.track (fill_track table c) named (λ t e. fill-one table c t));
  remove = λ table c. given-law (λ named. remove_named named c) (λ named. own-kept c.track (remove_track c) named (λ t e. remove-one table c t));
  slice = λ table c. given-law (λ named. slice_named named c) (λ named. own-kept c.track (slice_track c) named (λ t e. slice-one table c t));
  trim = λ table c. given-law (λ named. trim_named table named c) (λ named. own-kept c.track (trim_track table c) named (λ t e. trim-one table c t));
  roll = λ table c. given-law (λ named. roll_named table named c) (λ named. own-kept c.track (roll_track table c) named (λ t e. roll-one table c t));
  dissolve = λ table c. given-law (λ named. dissolve_named table named c) (λ named. own-kept c.track (λ t. dissolve_on table t c) named (λ t e. dissolve-one table c t));
  undissolve = λ table c. given-law (λ named. undissolve_named named c) (λ named. own-kept c.track (λ t. undissolve_on t c) named (λ t e. undissolve-one table c t));
  insert = λ table c. own-given c.track (inserted table c) (λ all named t room names g e. insert-leaves (StayGiven all named) table c all named t names e (shifts_given c.keep all named room names g));
  extract = λ table c. own-given c.track (extracted c) (λ all named t room names g e. extract-leaves (StayGiven all named) c all named t names e (shifts_given c.keep all named room names g));
  ripple = λ table c. own-given c.track (ripple_own table c)
      (λ all named t room names g e. ripple-leaves (StayGiven all named) table c all named t names e (same_given all named room names g) (shifts_given false all named room names g));
}
