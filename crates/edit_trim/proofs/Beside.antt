-- How many dark places stand beside an item.
use Rattle.std.proofs.Common.{◌≡◌, ◌≢◌, ℕ, zero, suc, ◌+◌, ◌-◌, ◌<◌, ◌≤◌, ⊎_elim, Bool, true, false, ◌&&◌, leb, List, [], ◌∷◌, length, take, Option, Some, None, slice_get, refl, sym, ap, ◌∙◌, arith, subst, get_or}
use Rattle.std.proofs.lemmas.Bool.{le-leb, lt-leb, cases_lt}
use Rattle.std.proofs.lemmas.List.{take_all}
use Rattle.std.proofs.lemmas.Option.{slice_get_within, slice_get-get_or, get_or_from_slice_get}
use Rattle.frame_meaning.specs.declared.cells.Cell.{Cell}
use Rattle.frame_meaning.specs.Cells.{dark_cell, same_number}
use Rattle.frame_meaning.specs.Render.{cell_at}
use Rattle.composables.specs.declared.items.ItemView.{ItemView}
use Rattle.composables.specs.declared.items.Place.{Place}
use Rattle.composables.specs.Places.{StandsAt}
use Rattle.composables.specs.declared.TheConstants.{MAX_FRAMES}
use Rattle.composables.specs.Items.{items_of}
use Rattle.composables.specs.Joined.{AllFilled, IsTight, frames_in}
use Rattle.composables.specs.TrackFacts.{IsKept}
use Rattle.composables.specs.TrackState.{TrackState}
use Rattle.composables.proofs.Frames.{frames_in-take_more, frames_in-take_le, no_view}
use Rattle.edit_delta.proofs.Spots.{apart-next, cell-there, length-frames}
use Rattle.edit_splice.proofs.Keeping.{stand_of}
use Rattle.edit_splice.proofs.Meeting.{filled-each}
use Rattle.edit_trim.specs.Darkness.{all_of, is_dark, dark_before, dark_behind}

all_true : (f : ℕ → Bool) (n : ℕ) → ((k : ℕ) → k < n → f k ≡ true) → all_of f n ≡ true
all_true f zero h = refl
all_true f (suc n) h = ap (λ (b : Bool). b && f n) (all_true f n (λ k lt. h k (omega (arith, lt)))) ∙ h n (omega arith)

and_false : (b : Bool) → b && false ≡ false
and_false true = refl
and_false false = refl

all_false : (f : ℕ → Bool) (n m : ℕ) → m < n → f m ≡ false → all_of f n ≡ false
all_false f zero m lt e = absurd (omega (arith, lt))
all_false f (suc n) m lt e =
    ⊎_elim
    (λ (less : m < n). ap (λ (b : Bool). b && f n) (all_false f n m less e))
    (λ (le : n ≤ m). (let same : n ≡ m = omega (arith, le, lt) in ap (λ (b : Bool). all_of f n && b) (ap f same ∙ e) ∙ and_false (all_of f n)))
    (cases_lt m n)

-- up to the first number of which it does not hold
all_upto : (f : ℕ → Bool) (m n : ℕ) → ((k : ℕ) → k < m → f k ≡ true) → f m ≡ false → all_of f n ≡ leb n m
all_upto f m n h e =
    ⊎_elim
    (λ (less : m < n). all_false f n m less e ∙ sym (lt-leb n m less))
    (λ (le : n ≤ m). all_true f n (λ k lt. h k (omega (arith, lt, le))) ∙ sym (le-leb n m le))
    (cases_lt m n)

-- whichever bound is nearer
ahead : (y n m : ℕ) (b : Bool) → y + m ≤ MAX_FRAMES → b ≡ leb n m → leb (y + n) MAX_FRAMES && b ≡ leb n m
ahead y n m b le e =
    ⊎_elim
    (λ (less : m < n). ap (λ (c : Bool). leb (y + n) MAX_FRAMES && c) (e ∙ lt-leb n m less) ∙ (and_false (leb (y + n) MAX_FRAMES) ∙ sym (lt-leb n m less)))
    (λ (under : n ≤ m). ap (λ (c : Bool). c && b) (le-leb (y + n) MAX_FRAMES (omega (arith, under, le))) ∙ e)
    (cases_lt m n)

shifted : (y n m : ℕ) → y ≤ m → leb (y + n) m ≡ leb n (m - y)
shifted y n m le =
    ⊎_elim
    (λ (less : m - y < n). lt-leb (y + n) m (omega (arith, less, le)) ∙ sym (lt-leb n (m - y) less))
    (λ (under : n ≤ m - y). le-leb (y + n) m (omega (arith, under, le)) ∙ sym (le-leb n (m - y) under))
    (cases_lt (m - y) n)

both_same : (n x m : ℕ) (b : Bool) → m ≤ x → b ≡ leb n m → leb n x && b ≡ leb n m
both_same n x m b le e =
    ⊎_elim
    (λ (less : m < n). ap (λ (c : Bool). leb n x && c) (e ∙ lt-leb n m less) ∙ (and_false (leb n x) ∙ sym (lt-leb n m less)))
    (λ (under : n ≤ m). ap (λ (c : Bool). c && b) (le-leb n x (omega (arith, under, le))) ∙ e)
    (cases_lt m n)

left_only : (n m : ℕ) (b : Bool) → (n ≤ m → b ≡ true) → leb n m && b ≡ leb n m
left_only n m b h =
    ⊎_elim
    (λ (less : m < n). ap (λ (c : Bool). c && b) (lt-leb n m less) ∙ sym (lt-leb n m less))
    (λ (under : n ≤ m). ap (λ (c : Bool). leb n m && c) (h under) ∙ and_true (leb n m))
    (cases_lt m n) where
      and_true : (c : Bool) → c && true ≡ c
      and_true true = refl
      and_true false = refl

-- the place of an item or gap, and its cells
pub record There (t : TrackState) (i : ℕ) (v : ItemView) (x : ℕ) : Type 0 where
  pub read : slice_get (items_of t.cells) i ≡ Some v
  pub starts : x ≡ frames_in (take i (items_of t.cells))
  pub stops : x + v.len ≡ frames_in (take (i + 1) (items_of t.cells))

number_there : (t : TrackState) (i : ℕ) (v : ItemView) (x k : ℕ) → IsKept t → There t i v x → k < v.len → (cell_at t.cells (x + k)).item ≡ v.item
number_there t i v x k kept h lt =
    ap (λ (p : ℕ). (cell_at t.cells (p + k)).item) h.starts
    ∙ (ap (λ (cs : List Cell). (cell_at cs (frames_in (take i (items_of t.cells)) + k)).item) (sym kept.whole)
    ∙ ap (λ (c : Cell). c.item) (cell-there (items_of t.cells) i k v h.read lt))

pub there-of : (t : TrackState) (i : ℕ) (v : ItemView) (x : ℕ) → slice_get (items_of t.cells) i ≡ Some v → x ≡ frames_in (take i (items_of t.cells)) → There t i v x
there-of t i v x read starts =
    let vs = items_of t.cells in
    record {
      read = read;
      starts = starts;
      stops = omega (arith, starts, frames_in-take_more vs i no_view (slice_get_within vs i v read), ap (λ (u : ItemView). u.len) (get_or_from_slice_get vs i v no_view read));
    }

filled_there : (t : TrackState) (i : ℕ) (v : ItemView) → IsKept t → slice_get (items_of t.cells) i ≡ Some v → 0 < v.len
filled_there t i v kept read = by (items_of t.cells) i read (filled-each (items_of t.cells) kept.each) where
  by : (vs : List ItemView) (i : ℕ) → slice_get vs i ≡ Some v → AllFilled vs → 0 < v.len
  by [] i e f = absurd (omega (arith, slice_get_within [] i v e))
  by (w ∷ ws) zero e f = let same : w ≡ v = cc in omega (arith, f.0, ap (λ (u : ItemView). u.len) same)
  by (w ∷ ws) (suc i) e f = by ws i e f.1

-- of two neighbours not both are gaps
apart_there : (vs : List ItemView) (i : ℕ) (v w : ItemView) → IsTight vs → slice_get vs i ≡ Some v → slice_get vs (i + 1) ≡ Some w → same_number v.item w.item ≡ false
apart_there vs i v w h e f =
    let next : i + 1 ≡ suc i = omega arith in
    apart-next vs i v w h e (subst (λ (k : ℕ). slice_get vs k ≡ Some w) next f)

some_not_dark : (o : Option ℕ) → o ≢ None → same_number o None ≡ false
some_not_dark None h = absurd (h refl)
some_not_dark (Some j) h = refl

beside_gap : (o p : Option ℕ) → o ≡ None → same_number o p ≡ false → same_number p None ≡ false
beside_gap o None e h = absurd (differ (sym (ap (λ (q : Option ℕ). same_number q None) e) ∙ h)) where
  differ : true ≡ false → ⊥
  differ q = cc
beside_gap o (Some j) e h = refl

gap_beside : (o p : Option ℕ) → p ≡ None → same_number o p ≡ false → same_number o None ≡ false
gap_beside o p e h = sym (ap (same_number o) e) ∙ h

none_dark : (o : Option ℕ) → o ≡ None → same_number o None ≡ true
none_dark o e = ap (λ (q : Option ℕ). same_number q None) e

-- behind an item's end at y
behind : TrackState → ℕ → ℕ → Bool
behind t y = λ k. is_dark t.cells (y + k)

dark_there : (t : TrackState) (i : ℕ) (v : ItemView) (y k : ℕ) → IsKept t → There t i v y → v.item ≡ None → k < v.len → is_dark t.cells (y + k) ≡ true
dark_there t i v y k kept h none lt = none_dark (cell_at t.cells (y + k)).item (number_there t i v y k kept h lt ∙ none)

pub item-behind : (t : TrackState) (i : ℕ) (v : ItemView) (y n : ℕ) → IsKept t → There t i v y → v.item ≢ None → y ≤ MAX_FRAMES → dark_behind t.cells y n ≡ leb n 0
item-behind t i v y n kept h some short =
    let f : ℕ → Bool = λ k. is_dark t.cells (y + k) in
    let first : f 0 ≡ false = ap (λ (o : Option ℕ). same_number o None) (number_there t i v y 0 kept h (filled_there t i v kept h.read)) ∙ some_not_dark v.item some in
    ahead y n 0 (all_of f n) (omega (arith, short)) (all_upto f 0 n (λ k lt. absurd (omega (arith, lt))) first)

pub gap-behind : (t : TrackState) (i : ℕ) (v w : ItemView) (y n : ℕ) → IsKept t → There t i v y → v.item ≡ None → slice_get (items_of t.cells) (i + 1) ≡ Some w → length t.cells ≤ MAX_FRAMES → dark_behind t.cells y n ≡ leb n v.len
gap-behind t i v w y n kept h none next short =
    let f : ℕ → Bool = λ k. is_dark t.cells (y + k) in
    let there : There t (i + 1) w (y + v.len) = there-of t (i + 1) w (y + v.len) next h.stops in
    let z : y + v.len + 0 ≡ y + v.len = omega arith in
    let first : f v.len ≡ false =
    ap (λ (p : ℕ). same_number (cell_at t.cells p).item None) (sym z)
    ∙ (ap (λ (o : Option ℕ). same_number o None) (number_there t (i + 1) w (y + v.len) 0 kept there (filled_there t (i + 1) w kept next))
    ∙ beside_gap v.item w.item none (apart_there (items_of t.cells) i v w (stand_of t kept).tight h.read next)) in
    ahead y n v.len (all_of f n) (omega (arith, short, h.stops, frames_in-take_le (i + 1) (items_of t.cells), length-frames t kept))
    (all_upto f v.len n (λ k lt. dark_there t i v y k kept h none lt) first)

-- beyond the end of the track
pub beyond : (cs : List Cell) (p : ℕ) → length cs ≤ p → cell_at cs p ≡ dark_cell
beyond [] p h = refl
beyond (c ∷ cs) zero h = absurd (omega (arith, h))
beyond (c ∷ cs) (suc p) h = beyond cs p (omega (arith, h))

all_dark : (t : TrackState) (y n : ℕ) → ((k : ℕ) → is_dark t.cells (y + k) ≡ true) → y ≤ MAX_FRAMES → dark_behind t.cells y n ≡ leb n (MAX_FRAMES - y)
all_dark t y n h short =
    let f : ℕ → Bool = λ k. is_dark t.cells (y + k) in
    ap (λ (b : Bool). leb (y + n) MAX_FRAMES && b) (all_true f n (λ k lt. h k)) ∙ (and_true (leb (y + n) MAX_FRAMES) ∙ shifted y n MAX_FRAMES short) where
      and_true : (c : Bool) → c && true ≡ c
      and_true true = refl
      and_true false = refl

pub end-behind : (t : TrackState) (y n : ℕ) → length t.cells ≤ y → y ≤ MAX_FRAMES → dark_behind t.cells y n ≡ leb n (MAX_FRAMES - y)
end-behind t y n h short = all_dark t y n (λ k. ap (λ (c : Cell). same_number c.item None) (beyond t.cells (y + k) (omega (arith, h)))) short

pub last-behind : (t : TrackState) (i : ℕ) (v : ItemView) (y n : ℕ) → IsKept t → There t i v y → v.item ≡ None → length (items_of t.cells) ≤ i + 1 → y ≤ MAX_FRAMES → dark_behind t.cells y n ≡ leb n (MAX_FRAMES - y)
last-behind t i v y n kept h none last short =
    let end : length t.cells ≡ y + v.len = length-frames t kept ∙ sym (h.stops ∙ ap frames_in (take_all (i + 1) (items_of t.cells) last)) in
    all_dark t y n
    (λ k. ⊎_elim
    (λ (less : k < v.len). dark_there t i v y k kept h none less)
    (λ (le : v.len ≤ k). ap (λ (c : Cell). same_number c.item None) (beyond t.cells (y + k) (omega (arith, le, end))))
    (cases_lt k v.len))
    short

-- before an item's head at x
pub first-before : (cs : List Cell) (x n : ℕ) → x ≡ 0 → dark_before cs x n ≡ leb n 0
first-before cs x zero e = left_only 0 x true (λ h. refl) ∙ (le-leb 0 x (omega arith) ∙ sym (le-leb 0 0 (omega arith)))
first-before cs x (suc n) e =
    ap (λ (c : Bool). c && all_of (λ k. is_dark cs (x - suc k)) (suc n)) (lt-leb (suc n) x (omega (arith, e))) ∙ sym (lt-leb (suc n) 0 (omega arith))

pub item-before : (t : TrackState) (i : ℕ) (v : ItemView) (x n : ℕ) → IsKept t → There t i v (x - v.len) → v.len ≤ x → v.item ≢ None → dark_before t.cells x n ≡ leb n 0
item-before t i v x n kept h le some =
    let f : ℕ → Bool = λ k. is_dark t.cells (x - suc k) in
    let long = filled_there t i v kept h.read in
    let p : x - suc 0 ≡ x - v.len + (v.len - 1) = omega (arith, le, long) in
    let first : f 0 ≡ false =
    ap (λ (q : ℕ). same_number (cell_at t.cells q).item None) p
    ∙ (ap (λ (o : Option ℕ). same_number o None) (number_there t i v (x - v.len) (v.len - 1) kept h (omega (arith, long))) ∙ some_not_dark v.item some) in
    both_same n x 0 (all_of f n) (omega arith) (all_upto f 0 n (λ k lt. absurd (omega (arith, lt))) first)

before_dark : (t : TrackState) (i : ℕ) (v : ItemView) (x k : ℕ) → IsKept t → There t i v (x - v.len) → v.len ≤ x → v.item ≡ None → k < v.len → is_dark t.cells (x - suc k) ≡ true
before_dark t i v x k kept h le none lt =
    let p : x - suc k ≡ x - v.len + (v.len - suc k) = omega (arith, le, lt) in
    ap (λ (q : ℕ). is_dark t.cells q) p ∙ dark_there t i v (x - v.len) (v.len - suc k) kept h none (omega (arith, lt))

-- a gap that begins the track
pub opening-before : (t : TrackState) (i : ℕ) (v : ItemView) (x n : ℕ) → IsKept t → There t i v (x - v.len) → x ≡ v.len → v.item ≡ None → dark_before t.cells x n ≡ leb n v.len
opening-before t i v x n kept h is none =
    let f : ℕ → Bool = λ k. is_dark t.cells (x - suc k) in
    left_only n x (all_of f n) (λ under. all_true f n (λ k lt. before_dark t i v x k kept h (omega (arith, is)) none (omega (arith, lt, under, is)))) ∙ ap (leb n) is

-- a gap behind an item
pub gap-before : (t : TrackState) (i : ℕ) (u v : ItemView) (x n : ℕ) → IsKept t → There t (i + 1) v (x - v.len) → v.len ≤ x → v.item ≡ None → slice_get (items_of t.cells) i ≡ Some u → dark_before t.cells x n ≡ leb n v.len
gap-before t i u v x n kept h le none earlier =
    let f : ℕ → Bool = λ k. is_dark t.cells (x - suc k) in
    let vs = items_of t.cells in
    let long = filled_there t i u kept earlier in
    let there : There t i u (frames_in (take i vs)) = there-of t i u (frames_in (take i vs)) earlier refl in
    let p : x - suc v.len ≡ frames_in (take i vs) + (u.len - 1) = omega (arith, le, long, there.stops, h.starts) in
    let first : f v.len ≡ false =
    ap (λ (q : ℕ). same_number (cell_at t.cells q).item None) p
    ∙ (ap (λ (o : Option ℕ). same_number o None) (number_there t i u (frames_in (take i vs)) (u.len - 1) kept there (omega (arith, long)))
    ∙ gap_beside u.item v.item none (apart_there vs i u v (stand_of t kept).tight earlier h.read)) in
    both_same n x v.len (all_of f n) le (all_upto f v.len n (λ k lt. before_dark t (i + 1) v x k kept h le none lt) first)

-- as the code looks at the neighbours of an item's place
place_after : (t : TrackState) (p : Place) (v : ItemView) → StandsAt (items_of t.cells) p → slice_get (items_of t.cells) (p.index + 1) ≡ Some v → There t (p.index + 1) v p.to
place_after t p v stands read = there-of t (p.index + 1) v p.to read stands.to

pub ends-within : (t : TrackState) (p : Place) → IsKept t → StandsAt (items_of t.cells) p → p.to ≤ length t.cells
ends-within t p kept stands = omega (arith, stands.to, frames_in-take_le (p.index + 1) (items_of t.cells), length-frames t kept)

pub found-item-behind : (t : TrackState) (p : Place) (v : ItemView) (j n : ℕ) → IsKept t → StandsAt (items_of t.cells) p → slice_get (items_of t.cells) (p.index + 1) ≡ Some v → v.item ≡ Some j → length t.cells ≤ MAX_FRAMES
    → dark_behind t.cells p.to n ≡ leb n 0
found-item-behind t p v j n kept stands read is short =
    item-behind t (p.index + 1) v p.to n kept (place_after t p v stands read) (λ none. differ j (sym is ∙ none)) (omega (arith, short, ends-within t p kept stands)) where
      differ : (j : ℕ) → Some j ≡ None → ⊥
      differ j e = cc

pub found-gap-behind : (t : TrackState) (p : Place) (v : ItemView) (n m : ℕ) → IsKept t → StandsAt (items_of t.cells) p → slice_get (items_of t.cells) (p.index + 1) ≡ Some v → v.item ≡ None → length t.cells ≤ MAX_FRAMES
    → m ≡ length (items_of t.cells) → p.index + 2 < m → dark_behind t.cells p.to n ≡ leb n v.len
found-gap-behind t p v n m kept stands read is short count lt =
    let e : p.index + 1 + 1 < length (items_of t.cells) = omega (arith, count, lt) in
    gap-behind t (p.index + 1) v (get_or (items_of t.cells) (p.index + 1 + 1) v) p.to n kept (place_after t p v stands read) is (slice_get-get_or (items_of t.cells) (p.index + 1 + 1) v e) short

pub found-last-behind : (t : TrackState) (p : Place) (v : ItemView) (n m : ℕ) → IsKept t → StandsAt (items_of t.cells) p → slice_get (items_of t.cells) (p.index + 1) ≡ Some v → v.item ≡ None → length t.cells ≤ MAX_FRAMES
    → m ≡ length (items_of t.cells) → m ≤ p.index + 2 → dark_behind t.cells p.to n ≡ leb n (MAX_FRAMES - p.to)
found-last-behind t p v n m kept stands read is short count le =
    last-behind t (p.index + 1) v p.to n kept (place_after t p v stands read) is (omega (arith, count, le)) (omega (arith, short, ends-within t p kept stands))

pub none-past : (vs : List ItemView) (i : ℕ) → slice_get vs i ≡ None → length vs ≤ i
none-past [] i e = omega arith
none-past (v ∷ vs) zero e = absurd cc
none-past (v ∷ vs) (suc i) e = omega (arith, none-past vs i e)

pub found-end-behind : (t : TrackState) (p : Place) (n : ℕ) → IsKept t → StandsAt (items_of t.cells) p → slice_get (items_of t.cells) (p.index + 1) ≡ None → length t.cells ≤ MAX_FRAMES
    → dark_behind t.cells p.to n ≡ leb n (MAX_FRAMES - p.to)
found-end-behind t p n kept stands none short =
    let end : length t.cells ≡ p.to = length-frames t kept ∙ sym (stands.to ∙ ap frames_in (take_all (p.index + 1) (items_of t.cells) (none-past (items_of t.cells) (p.index + 1) none))) in
    end-behind t p.to n (omega (arith, end)) (omega (arith, short, end))

place_before : (t : TrackState) (p : Place) (v : ItemView) (k : ℕ) → StandsAt (items_of t.cells) p → p.index ≡ k + 1 → slice_get (items_of t.cells) k ≡ Some v → There t k v (p.from - v.len) × (v.len ≤ p.from)
place_before t p v k stands is read =
    let vs = items_of t.cells in
    let h = there-of t k v (frames_in (take k vs)) read refl in
    let e : p.from ≡ frames_in (take k vs) + v.len = stands.from ∙ (ap (λ (i : ℕ). frames_in (take i vs)) is ∙ sym h.stops) in
    let begin : p.from - v.len ≡ frames_in (take k vs) = omega (arith, e) in
    (there-of t k v (p.from - v.len) read begin, omega (arith, e))

pub found-item-before : (t : TrackState) (p : Place) (v : ItemView) (j n : ℕ) → IsKept t → StandsAt (items_of t.cells) p → 0 < p.index → slice_get (items_of t.cells) (p.index - 1) ≡ Some v → v.item ≡ Some j
    → dark_before t.cells p.from n ≡ leb n 0
found-item-before t p v j n kept stands some read is =
    let h = place_before t p v (p.index - 1) stands (omega (arith, some)) read in
    item-before t (p.index - 1) v p.from n kept h.0 h.1 (λ none. differ j (sym is ∙ none)) where
      differ : (j : ℕ) → Some j ≡ None → ⊥
      differ j e = cc

gap_before_at : (t : TrackState) (p : Place) (v : ItemView) (k n : ℕ) → IsKept t → StandsAt (items_of t.cells) p → p.index ≡ k + 1 → slice_get (items_of t.cells) k ≡ Some v → v.item ≡ None
    → dark_before t.cells p.from n ≡ leb n v.len
gap_before_at t p v zero n kept stands is read none =
    let h = place_before t p v 0 stands is read in
    let e : p.from - v.len ≡ 0 = h.0.starts in
    opening-before t 0 v p.from n kept h.0 (omega (arith, e, h.1)) none
gap_before_at t p v (suc i) n kept stands is read none =
    let h = place_before t p v (suc i) stands is read in
    let inside = slice_get_within (items_of t.cells) (suc i) v read in
    let next : suc i ≡ i + 1 = omega arith in
    gap-before t i (get_or (items_of t.cells) i v) v p.from n kept (subst (λ (k : ℕ). There t k v (p.from - v.len)) next h.0) h.1 none (slice_get-get_or (items_of t.cells) i v (omega (arith, inside)))

pub found-gap-before : (t : TrackState) (p : Place) (v : ItemView) (n : ℕ) → IsKept t → StandsAt (items_of t.cells) p → 0 < p.index → slice_get (items_of t.cells) (p.index - 1) ≡ Some v → v.item ≡ None
    → dark_before t.cells p.from n ≡ leb n v.len
found-gap-before t p v n kept stands some read none = gap_before_at t p v (p.index - 1) n kept stands (omega (arith, some)) read none

pub found-there : (t : TrackState) (p : Place) → StandsAt (items_of t.cells) p → slice_get (items_of t.cells) (p.index - 1) ≡ None → ⊥
found-there t p stands none = omega (arith, stands.index, none-past (items_of t.cells) (p.index - 1) none)
