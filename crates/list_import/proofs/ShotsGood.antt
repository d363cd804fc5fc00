-- The shots of a list that was read and that has nothing to refuse.
use Rattle.std.proofs.Common.{◌≡◌, ℕ, ◌+◌, ◌<◌, ◌≤◌, Bool, true, false, cond, eqb, min, ◌&&◌, List, [], ◌∷◌, length, map, Option, Some, None, nat_le, nat_lt, slice_get, inl, inr, refl, sym, ap, ◌∙◌, arith}
use Rattle.std.specs.List.{All}
use Rattle.std.proofs.lemmas.Bool.{and_from, and_parts, both_ways, cases_Bool, cases_lt, eq-eqb, leb-true, ltb-true}
use Rattle.std.proofs.lemmas.List.Elements.{All-cons, All-nil}
use Rattle.std.proofs.lemmas.List.Sums.{sum_by-cons}
use Rattle.timecode12.specs.declared.counting.TheConstants.{MAX_DAY_FRAMES}
use Rattle.frame_meaning.specs.declared.cells.What.TheVariants.{Media as MediaOf}
use Rattle.frame_meaning.specs.declared.frames.Side.TheVariants.{Dark, Pic}
use Rattle.reel_names.specs.Names.{is_black}
use Rattle.edl_events.specs.declared.channel.Channel.{Channel}
use Rattle.edl_events.specs.declared.event.Event.{Event}
use Rattle.edl_events.specs.declared.event.FromLine.{FromLine}
use Rattle.edl_events.specs.Channels.{is_on}
use Rattle.edl_events.specs.Events.{AreEvents, IsDissolve, IsEvent}
use Rattle.edl_read.specs.Overlaps.{AreApart, first_overlap, overlap}
use Rattle.edl_read.specs.ReadLists.{CanBeRead}
use Rattle.edl_read.proofs.ApartFacts.{first_none, overlap_from}
use Rattle.otio_tracks.specs.Clips.{name_at}
use Rattle.list_import.specs.declared.fault.ImportCode.{ImportCode}
use Rattle.list_import.specs.declared.fault.ImportCode.TheVariants.{I1, I2}
use Rattle.list_import.specs.declared.shots.Shot.{Shot}
use Rattle.list_import.specs.ListReels.{from_in, reels_of, shot_of, shots_of, side_in}
use Rattle.list_import.specs.Imports.{least_from, start_of}
use Rattle.list_import.specs.Refusals.{code_by, event_code, first_refused, told_at}
use Rattle.list_import.specs.ShotFacts.{CanBeOrdered, HasRoom, IsNotDark, IsShot, IsSideOf, count_there, is_there}
use Rattle.list_import.proofs.Orders.{counted, uncounted}
use Rattle.list_import.proofs.ReelFacts.{AllKnown, AreKnown, all_known, is_known, known_below}

-- ---- where the first begins

abbrev pub EachFrom : ℕ → List Event → Type 0
EachFrom at [] = Unit {0}
EachFrom at (e ∷ es) = (at ≤ e.place) × EachFrom at es

least_le : (n : ℕ) (es : List Event) → least_from n es ≤ n
least_le n [] = omega arith
least_le n (e ∷ es) = omega (arith, least_le (min n e.place) es)

least_each : (n : ℕ) (es : List Event) → EachFrom (least_from n es) es
least_each n [] = tt
least_each n (e ∷ es) = (omega (arith, least_le (min n e.place) es), least_each (min n e.place) es)

-- the least of the first and of all is the least of all
pub first_start : (es : List Event) (e : Event) → slice_get es 0 ≡ Some e → least_from e.place es ≡ start_of es
first_start [] e h = absurd cc
first_start (f ∷ fs) e h =
    let same : f ≡ e = cc in
    let twice : min f.place f.place ≡ f.place = omega arith in
    ap (λ (x : Event). least_from x.place (f ∷ fs)) (sym same) ∙ ap (λ (n : ℕ). least_from n fs) twice

pub each_from : (es : List Event) → EachFrom (start_of es) es
each_from [] = tt
each_from (e ∷ es) = (least_le e.place es, least_each e.place es)

-- ---- nothing is refused

none_told : (o : Option ImportCode) (line : ℕ) (rest : Option (ImportCode × ℕ)) → told_at o line rest ≡ None → (o ≡ None) × (rest ≡ None)
none_told None line rest h = (refl, h)
none_told (Some code) line rest h = absurd cc

neither : (a b : Bool) → cond a (Some I1) (cond b (Some I2) None) ≡ None → (a ≡ false) × (b ≡ false)
neither true b h = absurd cc
neither false true h = absurd cc
neither false false h = (refl, refl)

two_frames : (n len : ℕ) → (eqb n 1 && eqb len 1) ≡ false → 0 < n → n ≤ len → 1 < len
two_frames n len h some within = elim (cases_lt 1 len) [
  | inl more ↦ more
  | inr one ↦ absurd (both_ways (eqb n 1 && eqb len 1) h (and_from (eqb n 1) (eqb len 1) (eq-eqb n 1 (omega (arith, some, within, one))) (eq-eqb len 1 (omega (arith, some, within, one)))))
]

not_dark : (a b : Bool) (m n s t : ℕ) → (a && b) ≡ false → IsNotDark (cond a Dark (Pic (MediaOf m) s)) (cond b Dark (Pic (MediaOf n) t))
not_dark true true m n s t h = absurd cc
not_dark true false m n s t h = tt
not_dark false b m n s t h = tt

side_fits : (reels : List (List ℕ)) (name : List ℕ) (source len : ℕ) → is_known reels name ≡ true → source + len ≤ 16777216 → IsSideOf (length reels) (side_in reels name source) len
side_fits reels name source len known fits = by (is_black name) refl where
  by : (b : Bool) → is_black name ≡ b → IsSideOf (length reels) (cond b Dark (Pic (MediaOf (name_at reels name)) source)) len
  by true e = tt
  by false e = (known_below reels name known e, fits)

room : (reels : List (List ℕ)) (o : Option FromLine) (n len source : ℕ) (reel : List ℕ) → code_by o n len reel ≡ None → IsDissolve o n len → len < MAX_DAY_FRAMES
    → ((from : FromLine) → o ≡ Some from → is_known reels from.reel ≡ true) → HasRoom (length reels) (from_in reels o) n (side_in reels reel source) len
room reels None n len source reel none d short known = d
room reels (Some from) n len source reel none d short known =
    let both = neither (eqb n 1 && eqb len 1) (is_black from.reel && is_black reel) none in (
      d.0,
      d.1,
      two_frames n len both.0 d.0 d.1,
      side_fits reels from.reel from.source len (known from refl) (omega (arith, d.2, short)),
      not_dark (is_black from.reel) (is_black reel) (name_at reels from.reel) (name_at reels reel) from.source source both.1,
    )

shot_good : (reels : List (List ℕ)) (start : ℕ) (e : Event) → IsEvent e → event_code e ≡ None → AreKnown reels e → start ≤ e.place → IsShot (length reels) start (shot_of reels e)
shot_good reels start e h none known low = record {
  filled = h.filled;
  begins = low;
  ends = h.place;
  side = side_fits reels e.reel e.source e.len known.reel (omega (arith, h.source));
  dissolve = room reels e.from e.frames e.len e.source e.reel none h.dissolve (omega (arith, h.place)) known.from;
}

shots_good : (reels : List (List ℕ)) (start : ℕ) (es : List Event) → AreEvents es → first_refused es ≡ None → AllKnown reels es → EachFrom start es → All (IsShot (length reels) start) (map (shot_of reels) es)
shots_good reels start [] h none known low = All-nil (IsShot (length reels) start)
shots_good reels start (e ∷ es) h none known low =
    let told = none_told (event_code e) e.line (first_refused es) none in
    All-cons (IsShot (length reels) start) (shot_of reels e) (map (shot_of reels) es)
    (shot_good reels start e h.0 told.0 known.0 low.0)
    (shots_good reels start es h.1 told.1 known.1 low.1)

-- ---- no two are on a channel at one record frame

there_told : (c : Channel) (q : ℕ) (s : Shot) → is_there c q s ≡ true → (is_on c s.channels ≡ true) × (s.place ≤ q) × (q < s.place + s.len)
there_told c q s h =
    let both = and_parts (is_on c s.channels) (nat_le s.place q && nat_lt q (s.place + s.len)) h in
    let ends = and_parts (nat_le s.place q) (nat_lt q (s.place + s.len)) both.1 in
    (both.0, leb-true s.place q ends.0, ltb-true q (s.place + s.len) ends.1)

none_there : (c : Channel) (q : ℕ) (reels : List (List ℕ)) (e : Event) (es : List Event) → first_overlap es e ≡ None → is_there c q (shot_of reels e) ≡ true → count_there c q (map (shot_of reels) es) ≡ 0
none_there c q reels e [] none h = refl
none_there c q reels e (f ∷ fs) none h =
    let parts = first_none f fs e none in
    let rest = none_there c q reels e fs parts.1 h in
    let whole = sum_by-cons (λ (s : Shot). cond (is_there c q s) 1 0) (shot_of reels f) (map (shot_of reels) fs) in
    elim (cases_Bool (is_there c q (shot_of reels f))) [
      | inl t ↦
          let here = there_told c q (shot_of reels e) h in
          let there = there_told c q (shot_of reels f) t in
          absurd (both_ways (overlap f e) parts.0 (overlap_from c f e there.0 here.0 (omega (arith, there.1, here.2)) (omega (arith, here.1, there.2))))
      | inr t ↦ omega (arith, whole, uncounted (is_there c q (shot_of reels f)) (count_there c q (map (shot_of reels) fs)) t, rest)
    ]

pub one_there : (c : Channel) (q : ℕ) (reels : List (List ℕ)) (es : List Event) → AreApart es → count_there c q (map (shot_of reels) es) ≤ 1
one_there c q reels [] h = omega arith
one_there c q reels (e ∷ es) h =
    let whole = sum_by-cons (λ (s : Shot). cond (is_there c q s) 1 0) (shot_of reels e) (map (shot_of reels) es) in
    elim (cases_Bool (is_there c q (shot_of reels e))) [
      | inl t ↦ omega (arith, whole, counted (is_there c q (shot_of reels e)) (count_there c q (map (shot_of reels) es)) t, none_there c q reels e es h.0 t)
      | inr t ↦ omega (arith, whole, uncounted (is_there c q (shot_of reels e)) (count_there c q (map (shot_of reels) es)) t, one_there c q reels es h.1)
    ]

-- they can be put in order, as media of the table
pub can_be_ordered : (events : List Event) → CanBeRead events → first_refused events ≡ None → (h : CanBeOrdered (start_of events) (shots_of events)) × (h.media ≡ length (reels_of events))
can_be_ordered events read none = (
  record {
    media = length (reels_of events);
    each = shots_good (reels_of events) (start_of events) events read.each none (all_known [] events) (each_from events);
    apart = λ c q. one_there c q (reels_of events) events read.apart;
  },
  refl,
)
