-- The gap that holds a place, and what a fill puts into it.
use Rattle.std.proofs.Common.{◌≡◌, ℕ, zero, suc, ◌+◌, ◌-◌, ◌<◌, ◌≤◌, ◌^◌, Bool, true, false, cond, ltb, min, List, [], ◌∷◌, ◌++◌, length, take, slice_get, Option, Some, None, IfSome, option_map, Err, refl, sym, ap, ◌∙◌, arith, subst}
use Rattle.std.proofs.lemmas.Bool.{lt-ltb, le-ltb}
use Rattle.std.proofs.lemmas.Option.{slice_get_within, get_or_from_slice_get}
use Rattle.frame_meaning.specs.declared.cells.What.{What}
use Rattle.frame_meaning.specs.Cells.{same_number}
use Rattle.composables.specs.declared.calls.Fill.{Fill}
use Rattle.composables.specs.declared.items.ItemView.{ItemView}
use Rattle.composables.specs.declared.items.Place.{Place}
use Rattle.composables.specs.declared.media.Table.{Table}
use Rattle.composables.specs.declared.refusals.Done.TheVariants.{Item}
use Rattle.composables.specs.declared.refusals.Refusal.{Refusal}
use Rattle.composables.specs.Answers.{unless}
use Rattle.composables.specs.Bounds.{bounds_of}
use Rattle.composables.specs.Good.{LiesIn}
use Rattle.composables.specs.Items.{items_of}
use Rattle.composables.specs.Joined.{AllFilled, frames_in}
use Rattle.composables.specs.Limits.{track_within_limits}
use Rattle.composables.specs.Places.{StandsAt}
use Rattle.composables.specs.Ranges.{gap_at, gap_from}
use Rattle.composables.specs.TrackFacts.{IsKept}
use Rattle.composables.specs.TrackState.{TrackState}
use Rattle.composables.specs.Views.{clip_view, gap_views}
use Rattle.composables.proofs.Frames.{frames_in-take_more, no_view}
use Rattle.composables.proofs.Joining.{length-cells_of}
use Rattle.edit_splice.specs.Padding.{new_views}
use Rattle.edit_splice.specs.Splicing.{spliced_track}
use Rattle.edit_splice.proofs.Meeting.{filled-each}
use Rattle.edit_splice.proofs.Put.{Clip, PutIn, put-clip}
use Rattle.edit_insert.specs.Fills.{fill_gap, filled, frames_asked}
use Rattle.edit_insert.specs.Sources.{source_refusal}
use Rattle.edit_insert.proofs.SourceRanges.{source-clip}

-- what holds a place, if it is a gap
gap_there : (vs : List ItemView) (base i : ℕ) (v : ItemView) (q : ℕ) → slice_get vs i ≡ Some v → frames_in (take i vs) ≤ q → q < frames_in (take i vs) + v.len
    → gap_from base vs q ≡ cond (same_number v.item None) (Some (base + frames_in (take i vs), base + frames_in (take i vs) + v.len)) None
gap_there [] base i v q e lo hi = absurd (omega (arith, slice_get_within [] i v e))
gap_there (w ∷ ws) base zero v q e lo hi =
    let same : w ≡ v = cc in
    let z : base ≡ base + 0 = omega arith in
    let inside : ltb q w.len ≡ true = lt-ltb q w.len (omega (arith, hi, ap (λ (u : ItemView). u.len) same)) in
    ap (λ (b : Bool). cond b (cond (same_number w.item None) (Some (base, base + w.len)) None) (gap_from (base + w.len) ws (q - w.len))) inside
    ∙ (ap (λ (u : ItemView). cond (same_number u.item None) (Some (base, base + u.len)) None) same
    ∙ ap (λ (n : ℕ). cond (same_number v.item None) (Some (n, n + v.len)) None) z)
gap_there (w ∷ ws) base (suc i) v q e lo hi =
    let out : ltb q w.len ≡ false = le-ltb q w.len (omega (arith, lo)) in
    let p : base + w.len + frames_in (take i ws) ≡ base + (w.len + frames_in (take i ws)) = omega arith in
    ap (λ (b : Bool). cond b (cond (same_number w.item None) (Some (base, base + w.len)) None) (gap_from (base + w.len) ws (q - w.len))) out
    ∙ (gap_there ws (base + w.len) i v (q - w.len) e (omega (arith, lo)) (omega (arith, lo, hi))
    ∙ ap (λ (n : ℕ). cond (same_number v.item None) (Some (n, n + v.len)) None) p)

gap_past : (vs : List ItemView) (base q : ℕ) → frames_in vs ≤ q → gap_from base vs q ≡ None
gap_past [] base q h = refl
gap_past (w ∷ ws) base q h =
    let out : ltb q w.len ≡ false = le-ltb q w.len (omega (arith, h)) in
    ap (λ (b : Bool). cond b (cond (same_number w.item None) (Some (base, base + w.len)) None) (gap_from (base + w.len) ws (q - w.len))) out
    ∙ gap_past ws (base + w.len) (q - w.len) (omega (arith, h))

pub past-gap : (t : TrackState) (q : ℕ) → IsKept t → length t.cells ≤ q → gap_at t.cells q ≡ None
past-gap t q kept h = gap_past (items_of t.cells) 0 q (omega (arith, h, ap length kept.whole, length-cells_of (items_of t.cells)))

stops_of : (vs : List ItemView) (i : ℕ) (v : ItemView) → slice_get vs i ≡ Some v → frames_in (take (i + 1) vs) ≡ frames_in (take i vs) + v.len
stops_of vs i v read =
    omega (arith, frames_in-take_more vs i no_view (slice_get_within vs i v read), ap (λ (u : ItemView). u.len) (get_or_from_slice_get vs i v no_view read))

gap_place : (t : TrackState) (p : Place) (v : ItemView) (q : ℕ) → StandsAt (items_of t.cells) p → slice_get (items_of t.cells) p.index ≡ Some v → p.from ≤ q → q < p.to
    → gap_at t.cells q ≡ cond (same_number v.item None) (Some (p.from, p.to)) None
gap_place t p v q stands read lo hi =
    let vs = items_of t.cells in
    let f = frames_in (take p.index vs) in
    let stop = stops_of vs p.index v read in
    let a : 0 + f ≡ p.from = omega (arith, stands.from) in
    let b : 0 + f + v.len ≡ p.to = omega (arith, stands.to, stop) in
    gap_there vs 0 p.index v q read (omega (arith, stands.from, lo)) (omega (arith, stands.to, stop, hi))
    ∙ (ap (λ (n : ℕ). cond (same_number v.item None) (Some (n, 0 + f + v.len)) None) a ∙ ap (λ (n : ℕ). cond (same_number v.item None) (Some (p.from, n)) None) b)

map_cond : {A B : Type 0} (f : A → B) (x : A) (b : Bool) → cond b (Some (f x)) None ≡ option_map f (cond b (Some x) None)
map_cond f x true = refl
map_cond f x false = refl

abbrev frames_of : Place → ℕ × ℕ
frames_of p = (p.from, p.to)

pub found-gap : (t : TrackState) (p : Place) (v : ItemView) (q : ℕ) (r : Option Place) → StandsAt (items_of t.cells) p → slice_get (items_of t.cells) p.index ≡ Some v → p.from ≤ q → q < p.to
    → r ≡ cond (same_number v.item None) (Some p) None → gap_at t.cells q ≡ option_map (λ (p : Place). (p.from, p.to)) r
found-gap t p v q r stands read lo hi is =
    gap_place t p v q stands read lo hi ∙ (map_cond frames_of p (same_number v.item None) ∙ ap (option_map frames_of) (sym is))

pub gap-stands : (t : TrackState) (p : Place) (b : Bool) (r : Option Place) → StandsAt (items_of t.cells) p → r ≡ cond b (Some p) None → IfSome r (λ (p : Place). StandsAt (items_of t.cells) p)
gap-stands t p b r stands is = subst (λ (o : Option Place). IfSome o (λ (p : Place). StandsAt (items_of t.cells) p)) (sym is) (by b) where
  by : (b : Bool) → IfSome (cond b (Some p) None) (λ (p : Place). StandsAt (items_of t.cells) p)
  by true = stands
  by false = tt

-- fewer source frames than asked for
pub fewer : (table : Table) (what : What) (from asked len : ℕ) → Clip table what from asked → 0 < len → len ≤ asked → Clip table what from len
fewer table what from asked len c some le = record { filled = some; source = omega (arith, c.source, le); lies = less (bounds_of table what) c.lies } where
  less : (o : Option (ℕ × ℕ)) → LiesIn o from asked 0 0 → LiesIn o from len 0 0
  less None h = absurd h
  less (Some r) h = (omega (arith, h.0), omega (arith, h.1, le))

-- what the code puts in
pub fill-parts : (table : Table) (c : Fill) (t : TrackState) (g h len number : ℕ) (items : List ItemView) → source_refusal table t.number c.what c.from (frames_asked c.length (h - g)) ≡ None
    → len ≡ min (frames_asked c.length (h - g)) (h - g) → number ≡ t.next_item → items ≡ gap_views 0 ++ new_views (Some (clip_view number c.what c.from len))
    → fill_gap table c t g h ≡ track_within_limits (spliced_track c.keep t g (g + len) items) (Item number)
fill-parts table c t g h len number items none is next all =
    ap (λ (r : Option Refusal). unless r (track_within_limits (filled t c g (min (frames_asked c.length (h - g)) (h - g))) (Item t.next_item))) none
    ∙ (ap (λ (n : ℕ). track_within_limits (filled t c g n) (Item t.next_item)) (sym is)
    ∙ (ap (λ (n : ℕ). track_within_limits (spliced_track c.keep t g (g + len) (clip_view n c.what c.from len ∷ [])) (Item n)) (sym next)
    ∙ ap (λ (vs : List ItemView). track_within_limits (spliced_track c.keep t g (g + len) vs) (Item number)) (sym all)))

pub fill-refused : (table : Table) (c : Fill) (t : TrackState) (g h : ℕ) (why : Refusal) → source_refusal table t.number c.what c.from (frames_asked c.length (h - g)) ≡ Some why → fill_gap table c t g h ≡ Err why
fill-refused table c t g h why e = ap (λ (r : Option Refusal). unless r (track_within_limits (filled t c g (min (frames_asked c.length (h - g)) (h - g))) (Item t.next_item))) e

pub fill-put : (table : Table) (c : Fill) (t : TrackState) (track number asked room len : ℕ) (items : List ItemView) → source_refusal table track c.what c.from asked ≡ None → 0 < asked → c.from + asked ≤ 2 ^ 32
    → 0 < room → len ≡ min asked room → number ≡ t.next_item → items ≡ gap_views 0 ++ new_views (Some (clip_view number c.what c.from len)) → PutIn table t items
fill-put table c t track number asked room len items none some small more is next all =
    subst (PutIn table t) (sym all)
    (put-clip table t 0 number c.what c.from len next
    (fewer table c.what c.from asked len (source-clip table track c.what c.from asked none some small) (omega (arith, some, more, is)) (omega (arith, is))))

-- a gap that was found has a frame
filled_there : (vs : List ItemView) (i : ℕ) → AllFilled vs → i < length vs → frames_in (take i vs) < frames_in (take (suc i) vs)
filled_there [] i f h = absurd (omega (arith, h))
filled_there (v ∷ vs) zero f h = omega (arith, f.0)
filled_there (v ∷ vs) (suc i) f h = omega (arith, filled_there vs i f.1 (omega (arith, h)))

pub place-some : (t : TrackState) (p : Place) → IsKept t → StandsAt (items_of t.cells) p → p.from < p.to
place-some t p kept stands =
    let next : p.index + 1 ≡ suc p.index = omega arith in
    omega (arith, stands.from, stands.to, ap (λ (k : ℕ). frames_in (take k (items_of t.cells))) next, filled_there (items_of t.cells) p.index (filled-each (items_of t.cells) kept.each) stands.index)
