-- A table that was read further: what was an entry is one still, by the same number.
use Rattle.std.proofs.Common.{◌≡◌, ℕ, zero, suc, eqb, position, Bool, true, false, ◌&&◌, ◌||◌, List, [], ◌∷◌, ◌++◌, length, slice_get, get_or, Option, Some, None, refl, sym, ap, subst, ◌∙◌, if◌then◌else◌}
use Rattle.std.specs.List.{list_any}
use Rattle.std.specs.Str.{bytes_eq}
use Rattle.std.proofs.lemmas.Bool.{eqb-true, and_parts}
use Rattle.std.proofs.lemmas.List.Quantifiers.{position-Some}
use Rattle.std.proofs.lemmas.Option.{slice_get-get_or}
use Rattle.std.proofs.lemmas.Slice.Eq.{bytes_eq-Decides}
use Rattle.frame_meaning.specs.declared.cells.What.{What}
use Rattle.frame_meaning.specs.declared.cells.What.TheVariants.{Media as MediaOf, Nest as NestOf}
use Rattle.frame_meaning.specs.declared.cells.Cell.{Cell}
use Rattle.frame_meaning.specs.declared.frames.Side.{Side}
use Rattle.frame_meaning.specs.declared.frames.Side.TheVariants.{Dark, Pic}
use Rattle.composables.specs.declared.media.Table.{Table}
use Rattle.composables.specs.declared.media.Media.{Media}
use Rattle.composables.specs.declared.media.Layer.{Layer}
use Rattle.composables.specs.declared.media.Nest.{Nest}
use Rattle.reel_table.specs.ReelNames.{with_name}
use Rattle.otio_tracks.specs.declared.clips.Frames.{Frames}
use Rattle.otio_tracks.specs.Clips.{name_at, same_media, number_or, entry_number, unless_there, with_entry, entry_of, entered}
use Rattle.otio_json.proofs.Growth.{get_left, get_last}
use Rattle.otio_laws.specs.SameCut.{SameSide, SameFrames, SameCells, SameLayer, SameLayers, SameNest, SameEntry, SameThing}

pub record Extends (old new : Table) : Type 0 where
  pub reels : (i : ℕ) (x : List ℕ) → slice_get old.reels i ≡ Some x → slice_get new.reels i ≡ Some x
  pub media : (i : ℕ) (x : Media) → slice_get old.media i ≡ Some x → slice_get new.media i ≡ Some x
  pub nests : (i : ℕ) (x : Nest) → slice_get old.nests i ≡ Some x → slice_get new.nests i ≡ Some x
  pub kinds : new.kinds ≡ old.kinds

-- the same, whatever the kinds of tracks are
pub record Keeps (old new : Table) : Type 0 where
  pub reels : (i : ℕ) (x : List ℕ) → slice_get old.reels i ≡ Some x → slice_get new.reels i ≡ Some x
  pub media : (i : ℕ) (x : Media) → slice_get old.media i ≡ Some x → slice_get new.media i ≡ Some x
  pub nests : (i : ℕ) (x : Nest) → slice_get old.nests i ≡ Some x → slice_get new.nests i ≡ Some x

pub keeps_self : (t : Table) → Keeps t t
keeps_self t = record { reels = λ i x e. e; media = λ i x e. e; nests = λ i x e. e }

pub keeps_on : (a b c : Table) → Keeps a b → Keeps b c → Keeps a c
keeps_on a b c h k = record {
  reels = λ i x e. k.reels i x (h.reels i x e);
  media = λ i x e. k.media i x (h.media i x e);
  nests = λ i x e. k.nests i x (h.nests i x e);
}

pub keeps_of : (a b : Table) → Extends a b → Keeps a b
keeps_of a b h = record { reels = h.reels; media = h.media; nests = h.nests }

pub extends_self : (t : Table) → Extends t t
extends_self t = record { reels = λ i x e. e; media = λ i x e. e; nests = λ i x e. e; kinds = refl }

pub extends_on : (a b c : Table) → Extends a b → Extends b c → Extends a c
extends_on a b c h k = record {
  reels = λ i x e. k.reels i x (h.reels i x e);
  media = λ i x e. k.media i x (h.media i x e);
  nests = λ i x e. k.nests i x (h.nests i x e);
  kinds = k.kinds ∙ h.kinds;
}

pub nest_extends : (t : Table) (nest : Nest) → Extends t (record t { nests = t.nests ++ nest ∷ [] })
nest_extends t nest = record {
  reels = λ i x e. e;
  media = λ i x e. e;
  nests = λ i x e. get_left t.nests (nest ∷ []) i x e;
  kinds = refl;
}

-- ---- reels

name_kept : (names : List (List ℕ)) (name : List ℕ) (i : ℕ) (x : List ℕ) → slice_get names i ≡ Some x → slice_get (with_name names name) i ≡ Some x
name_kept names name i x e = by_test (list_any (bytes_eq name) names) where
  by_test : (b : Bool) → slice_get (if b then names else names ++ name ∷ []) i ≡ Some x
  by_test true = e
  by_test false = get_left names (name ∷ []) i x e

pushed_if : (b : Bool) (x name : List ℕ) (xs : List (List ℕ)) (n : ℕ) → slice_get (if b then x ∷ xs else x ∷ (xs ++ name ∷ [])) (suc n) ≡ slice_get (if b then xs else xs ++ name ∷ []) n
pushed_if true x name xs n = refl
pushed_if false x name xs n = refl

name_found : (names : List (List ℕ)) (name : List ℕ) → slice_get (with_name names name) (name_at names name) ≡ Some name
name_found [] name = refl
name_found (x ∷ xs) name = by_test (bytes_eq name x) refl (name_found xs name) where
  by_test : (b : Bool) → bytes_eq name x ≡ b → slice_get (with_name xs name) (name_at xs name) ≡ Some name → slice_get (if b || list_any (bytes_eq name) xs then x ∷ xs else x ∷ (xs ++ name ∷ [])) (if b then 0 else suc (name_at xs name)) ≡ Some name
  by_test true e rest = ap Some (sym ((bytes_eq-Decides name x).0 e))
  by_test false e rest = pushed_if (list_any (bytes_eq name) xs) x name xs (name_at xs name) ∙ rest

-- ---- media

entry_kept : (media : List Media) (e : Media) (i : ℕ) (m : Media) → slice_get media i ≡ Some m → slice_get (with_entry media e) i ≡ Some m
entry_kept media e i m h = by_place (position (same_media e) media) where
  by_place : (o : Option ℕ) → slice_get (unless_there o media e) i ≡ Some m
  by_place (Some j) = h
  by_place None = get_left media (e ∷ []) i m h

same_entry : (e m : Media) → same_media e m ≡ true → m ≡ e
same_entry e m h =
    let p = and_parts (eqb e.reel m.reel && eqb e.from m.from) (eqb e.to m.to) h in
    let q = and_parts (eqb e.reel m.reel) (eqb e.from m.from) p.0 in
    λ i. record { reel = sym (eqb-true e.reel m.reel q.0) i; from = sym (eqb-true e.from m.from q.1) i; to = sym (eqb-true e.to m.to p.1) i }

entry_found : (media : List Media) (e : Media) → slice_get (with_entry media e) (entry_number media e) ≡ Some e
entry_found media e = by_place (position (same_media e) media) refl where
  by_place : (o : Option ℕ) → position (same_media e) media ≡ o → slice_get (unless_there o media e) (number_or o (length media)) ≡ Some e
  by_place (Some i) h =
      let p = position-Some (same_media e) media i e h in
      slice_get-get_or media i e p.0 ∙ ap Some (same_entry e (get_or media i e) p.1)
  by_place None h = get_last media e

pub entered_extends : (t : Table) (reel : List ℕ) (f : Frames) → Extends t (entered t reel f).1
entered_extends t reel f = record {
  reels = λ i x e. name_kept t.reels reel i x e;
  media = λ i x e. entry_kept t.media (entry_of t reel f) i x e;
  nests = λ i x e. e;
  kinds = refl;
}

-- an entry of one table, and the one that was entered in another with the same reel and range
pub entered_same : (t u : Table) (levels i : ℕ) (entry : Media) (reel : List ℕ) (f : Frames) → slice_get t.media i ≡ Some entry → slice_get t.reels entry.reel ≡ Some reel → entry.from ≡ f.from → entry.to ≡ f.to
    → SameThing t (entered u reel f).1 levels (MediaOf i) (MediaOf (entry_number u.media (entry_of u reel f)))
entered_same t u levels i entry reel f there named from to =
    let new = (entered u reel f).1 in
    subst (λ (o : Option Media). SameEntry t.reels new.reels o (slice_get new.media (entry_number u.media (entry_of u reel f)))) (sym there)
    (subst (λ (o : Option Media). SameEntry t.reels new.reels (Some entry) o) (sym (entry_found u.media (entry_of u reel f)))
    (reel, named, name_found u.reels reel, from, to))

-- ---- what is the same stays so

pub side_on : (P Q : What → What → Type 0) → ((w x : What) → P w x → Q w x) → (a b : Side What) → SameSide P a b → SameSide Q a b
side_on P Q f Dark Dark h = tt
side_on P Q f Dark (Pic x r) h = h
side_on P Q f (Pic w s) Dark h = h
side_on P Q f (Pic w s) (Pic x r) h = (f w x h.0, h.1)

frames_on : (P Q : What → What → Type 0) → ((w x : What) → P w x → Q w x) → (cs ds : List Cell) → SameFrames P cs ds → SameFrames Q cs ds
frames_on P Q f [] [] h = tt
frames_on P Q f [] (d ∷ ds) h = h
frames_on P Q f (c ∷ cs) [] h = h
frames_on P Q f (c ∷ cs) (d ∷ ds) h = (side_on P Q f c.side d.side h.0, h.1, frames_on P Q f cs ds h.2)

pub cells_on : (P Q : What → What → Type 0) → ((w x : What) → P w x → Q w x) → (cs ds : List Cell) → SameCells P cs ds → SameCells Q cs ds
cells_on P Q f cs ds h = record { frames = frames_on P Q f cs ds h.frames; items = h.items }

layer_on : (P Q : What → What → Type 0) → ((w x : What) → P w x → Q w x) → (l k : Layer) → SameLayer P l k → SameLayer Q l k
layer_on P Q f l k h = record { from = h.from; to = h.to; cells = cells_on P Q f l.track.cells k.track.cells h.cells }

pub layers_on : (P Q : What → What → Type 0) → ((w x : What) → P w x → Q w x) → (ls ks : List Layer) → SameLayers P ls ks → SameLayers Q ls ks
layers_on P Q f [] [] h = tt
layers_on P Q f [] (k ∷ ks) h = h
layers_on P Q f (l ∷ ls) [] h = h
layers_on P Q f (l ∷ ls) (k ∷ ks) h = (layer_on P Q f l k h.0, layers_on P Q f ls ks h.1)

entry_on : (t a b : Table) → Keeps a b → (o : Option Media) (j : ℕ) (found : Option Media) → slice_get a.media j ≡ found → SameEntry t.reels a.reels o found → SameEntry t.reels b.reels o (slice_get b.media j)
entry_on t a b h None j found e s = absurd s
entry_on t a b h (Some m) j None e s = absurd s
entry_on t a b h (Some m) j (Some n) e s =
    subst (λ (q : Option Media). SameEntry t.reels b.reels (Some m) q) (sym (h.media j n e)) (s.0, s.1, h.reels n.reel s.0 s.2, s.3, s.4)

nest_on : (P Q : What → What → Type 0) → ((w x : What) → P w x → Q w x) → (a b : Table) → Keeps a b → (o : Option Nest) (j : ℕ) (found : Option Nest) → slice_get a.nests j ≡ found → SameNest P o found → SameNest Q o (slice_get b.nests j)
nest_on P Q f a b h None j found e s = absurd s
nest_on P Q f a b h (Some m) j None e s = absurd s
nest_on P Q f a b h (Some m) j (Some n) e s =
    subst (λ (q : Option Nest). SameNest Q (Some m) q) (sym (h.nests j n e)) (s.0, layers_on P Q f m.layers n.layers s.1)

pub thing_keeps : (t a b : Table) → Keeps a b → (levels : ℕ) (w x : What) → SameThing t a levels w x → SameThing t b levels w x
thing_keeps t a b h levels (MediaOf i) (MediaOf j) s = entry_on t a b h (slice_get t.media i) j (slice_get a.media j) refl s
thing_keeps t a b h levels (MediaOf i) (NestOf j) s = s
thing_keeps t a b h levels (NestOf i) (MediaOf j) s = s
thing_keeps t a b h zero (NestOf i) (NestOf j) s = s
thing_keeps t a b h (suc levels) (NestOf i) (NestOf j) s =
    nest_on (SameThing t a levels) (SameThing t b levels) (thing_keeps t a b h levels) a b h (slice_get t.nests i) j (slice_get a.nests j) refl s

pub thing_on : (t a b : Table) → Extends a b → (levels : ℕ) (w x : What) → SameThing t a levels w x → SameThing t b levels w x
thing_on t a b h = thing_keeps t a b (keeps_of a b h)
