-- The ranks of the items of a track: one after another, whatever their numbers are.
use Rattle.std.proofs.Common.{◌≡◌, ◌≢◌, ℕ, zero, suc, ◌+◌, ◌<◌, nat_eq, Bool, true, false, ◌||◌, List, [], ◌∷◌, ◌++◌, length, replicate, Option, Some, None, IfSome, refl, ap, ◌∙◌, arith, if◌then◌else◌}
use Rattle.std.specs.List.{list_any}
use Rattle.std.proofs.lemmas.Bool.{eq-eqb, ne_eqb}
use Rattle.std.proofs.lemmas.List.{length-append}
use Rattle.frame_meaning.specs.declared.cells.Cell.{Cell}
use Rattle.frame_meaning.specs.declared.cells.Mark.{Mark}
use Rattle.frame_meaning.specs.declared.cells.Link.{Link}
use Rattle.frame_meaning.specs.declared.cells.What.{What}
use Rattle.frame_meaning.specs.declared.frames.Side.{Side}
use Rattle.frame_meaning.specs.Cells.{next_side, span}
use Rattle.composables.specs.declared.items.ItemView.{ItemView}
use Rattle.composables.specs.Items.{marked, cells_of}
use Rattle.composables.specs.TrackFacts.{Lacks, Apart}
use Rattle.otio_laws.specs.SameCut.{rank, ranks}

-- a number that is not there has the next rank
rank_new : (seen : List ℕ) (i : ℕ) → list_any (nat_eq i) seen ≡ false → rank seen i ≡ length seen
rank_new [] i e = refl
rank_new (j ∷ js) i e = by_test (nat_eq i j) (list_any (nat_eq i) js) refl e (rank_new js i) where
  by_test : (b c : Bool) → nat_eq i j ≡ b → (b || c) ≡ false → (c ≡ false → rank js i ≡ length js) → (if b then 0 else suc (rank js i)) ≡ suc (length js)
  by_test true c f g h = cc
  by_test false c f g h = ap suc (h g)

-- once it is there it keeps it
rank_last : (seen : List ℕ) (i : ℕ) → list_any (nat_eq i) seen ≡ false → rank (seen ++ i ∷ []) i ≡ length seen
rank_last [] i e = ap (λ (b : Bool). if b then 0 else 1) (eq-eqb i i refl)
rank_last (j ∷ js) i e = by_test (nat_eq i j) (list_any (nat_eq i) js) refl e (rank_last js i) where
  by_test : (b c : Bool) → nat_eq i j ≡ b → (b || c) ≡ false → (c ≡ false → rank (js ++ i ∷ []) i ≡ length js) → (if b then 0 else suc (rank (js ++ i ∷ []) i)) ≡ suc (length js)
  by_test true c f g h = cc
  by_test false c f g h = ap suc (h g)

or_true : (b : Bool) → (b || true) ≡ true
or_true true = refl
or_true false = refl

seen_last : (seen : List ℕ) (i : ℕ) → list_any (nat_eq i) (seen ++ i ∷ []) ≡ true
seen_last [] i = ap (λ (b : Bool). b || false) (eq-eqb i i refl)
seen_last (j ∷ js) i = ap (λ (b : Bool). nat_eq i j || b) (seen_last js i) ∙ or_true (nat_eq i j)

-- ---- an item or gap

ranks_marked : (mark : Option Mark) (cs ds : List Cell) (seen : List ℕ) → ranks seen (marked mark cs ++ ds) ≡ ranks seen (cs ++ ds)
ranks_marked mark [] ds seen = refl
ranks_marked mark (c ∷ cs) ds seen = refl

ranks_gap : (n : ℕ) (side : Side What) (link : Option Link) (seen : List ℕ) (ds : List Cell) → ranks seen (span None side link n ++ ds) ≡ replicate n None ++ ranks seen ds
ranks_gap zero side link seen ds = refl
ranks_gap (suc n) side link seen ds = ap (λ (l : List (Option ℕ)). None ∷ l) (ranks_gap n (next_side side) link seen ds)

ranks_again : (n i k : ℕ) (side : Side What) (link : Option Link) (seen : List ℕ) (ds : List Cell) → rank seen i ≡ k → list_any (nat_eq i) seen ≡ true
    → ranks seen (span (Some i) side link n ++ ds) ≡ replicate n (Some k) ++ ranks seen ds
ranks_again zero i k side link seen ds r s = refl
ranks_again (suc n) i k side link seen ds r s =
    (λ e. Some (r e) ∷ ranks (if s e then seen else seen ++ i ∷ []) (span (Some i) (next_side side) link n ++ ds))
    ∙ ap (λ (l : List (Option ℕ)). Some k ∷ l) (ranks_again n i k (next_side side) link seen ds r s)

ranks_new : (n i : ℕ) (side : Side What) (link : Option Link) (seen : List ℕ) (ds : List Cell) → list_any (nat_eq i) seen ≡ false
    → ranks seen (span (Some i) side link (suc n) ++ ds) ≡ Some (length seen) ∷ (replicate n (Some (length seen)) ++ ranks (seen ++ i ∷ []) ds)
ranks_new n i side link seen ds e =
    (λ t. Some (rank_new seen i e t) ∷ ranks (if e t then seen else seen ++ i ∷ []) (span (Some i) (next_side side) link n ++ ds))
    ∙ ap (λ (l : List (Option ℕ)). Some (length seen) ∷ l) (ranks_again n i (length seen) (next_side side) link (seen ++ i ∷ []) ds (rank_last seen i e) (seen_last seen i))

-- ---- items and gaps

-- the item's number was not seen
abbrev pub IsNew : List ℕ → Option ℕ → Type 0
IsNew seen None = Unit {0}
IsNew seen (Some i) = list_any (nat_eq i) seen ≡ false

abbrev pub added : List ℕ → Option ℕ → List ℕ
added seen None = seen
added seen (Some i) = seen ++ i ∷ []

-- no item's number was seen, or comes again
abbrev pub AreNew : List ℕ → List ItemView → Type 0
AreNew seen [] = Unit {0}
AreNew seen (v ∷ vs) = (0 < v.len) × IsNew seen v.item × AreNew (added seen v.item) vs

-- the rank of an item or gap, where k items came before
abbrev pub rank_at : ℕ → Option ℕ → Option ℕ
rank_at k None = None
rank_at k (Some i) = Some k

abbrev pub rank_past : ℕ → Option ℕ → ℕ
rank_past k None = k
rank_past k (Some i) = k + 1

-- the ranks of the cells of items and gaps, one after another
abbrev pub view_ranks : ℕ → List ItemView → List (Option ℕ)
view_ranks k [] = []
view_ranks k (v ∷ vs) = replicate v.len (rank_at k v.item) ++ view_ranks (rank_past k v.item) vs

item_ranks : (item : Option ℕ) (side : Side What) (link : Option Link) (n : ℕ) (seen : List ℕ) (ds : List Cell) → 0 < n → IsNew seen item
    → ranks seen (span item side link n ++ ds) ≡ replicate n (rank_at (length seen) item) ++ ranks (added seen item) ds
item_ranks item side link zero seen ds some new = absurd (omega arith)
item_ranks None side link (suc n) seen ds some new = ranks_gap (suc n) side link seen ds
item_ranks (Some i) side link (suc n) seen ds some new = ranks_new n i side link seen ds new

past_added : (seen : List ℕ) (item : Option ℕ) → length (added seen item) ≡ rank_past (length seen) item
past_added seen None = refl
past_added seen (Some i) = length-append seen (i ∷ [])

pub ranks_are : (vs : List ItemView) (seen : List ℕ) → AreNew seen vs → ranks seen (cells_of vs) ≡ view_ranks (length seen) vs
ranks_are [] seen h = refl
ranks_are (v ∷ vs) seen h =
    ranks_marked v.mark (span v.item v.first v.link v.len) (cells_of vs) seen
    ∙ item_ranks v.item v.first v.link v.len seen (cells_of vs) h.0 h.1
    ∙ ap (λ (l : List (Option ℕ)). replicate v.len (rank_at (length seen) v.item) ++ l)
    (ranks_are vs (added seen v.item) h.2 ∙ ap (λ (k : ℕ). view_ranks k vs) (past_added seen v.item))

-- ---- those of a track

-- no item's number was seen
abbrev pub NotSeen : List ℕ → List ItemView → Type 0
NotSeen seen [] = Unit {0}
NotSeen seen (v ∷ vs) = IsNew seen v.item × NotSeen seen vs

pub none_seen : (vs : List ItemView) → NotSeen [] vs
none_seen [] = tt
none_seen (v ∷ vs) = (by_item v.item, none_seen vs) where
  by_item : (item : Option ℕ) → IsNew [] item
  by_item None = tt
  by_item (Some i) = refl

pub not_in_more : (seen : List ℕ) (i j : ℕ) → list_any (nat_eq j) seen ≡ false → j ≢ i → list_any (nat_eq j) (seen ++ i ∷ []) ≡ false
not_in_more [] i j e ne = ap (λ (b : Bool). b || false) (ne_eqb j i ne)
not_in_more (k ∷ ks) i j e ne = by_test (nat_eq j k) (list_any (nat_eq j) ks) e (λ f. not_in_more ks i j f ne) where
  by_test : (b c : Bool) → (b || c) ≡ false → (c ≡ false → list_any (nat_eq j) (ks ++ i ∷ []) ≡ false) → (b || list_any (nat_eq j) (ks ++ i ∷ [])) ≡ false
  by_test true c f g = cc
  by_test false c f g = g f

new_more : (seen : List ℕ) (i : ℕ) (item : Option ℕ) → IsNew seen item → item ≢ Some i → IsNew (seen ++ i ∷ []) item
new_more seen i None h ne = tt
new_more seen i (Some j) h ne = not_in_more seen i j h (λ e. ne (ap Some e))

not_seen_more : (vs : List ItemView) (seen : List ℕ) (i : ℕ) → NotSeen seen vs → Lacks i vs → NotSeen (seen ++ i ∷ []) vs
not_seen_more [] seen i h l = tt
not_seen_more (v ∷ vs) seen i h l = (new_more seen i v.item h.0 l.0, not_seen_more vs seen i h.1 l.1)

not_seen_past : (vs : List ItemView) (seen : List ℕ) (item : Option ℕ) → NotSeen seen vs → IfSome item (λ i. Lacks i vs) → NotSeen (added seen item) vs
not_seen_past vs seen None h l = h
not_seen_past vs seen (Some i) h l = not_seen_more vs seen i h l

-- no item is empty
abbrev pub EachFilled : List ItemView → Type 0
EachFilled [] = Unit {0}
EachFilled (v ∷ vs) = (0 < v.len) × EachFilled vs

pub apart_new : (vs : List ItemView) (seen : List ℕ) → EachFilled vs → NotSeen seen vs → Apart vs → AreNew seen vs
apart_new [] seen f h a = tt
apart_new (v ∷ vs) seen f h a = (f.0, h.0, apart_new vs (added seen v.item) f.1 (not_seen_past vs seen v.item h.1 a.0) a.1)
