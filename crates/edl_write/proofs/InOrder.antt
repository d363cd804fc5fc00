-- Events in order: three channels made one list.
use Rattle.std.proofs.Common.{◌≡◌, ℕ, ◌+◌, ◌*◌, ◌<◌, ◌≤◌, Bool, true, false, cond, ◌&&◌, ◌||◌, ◌==◌, List, [], ◌∷◌, ◌++◌, map, nat_lt, refl, sym, ap, ◌∙◌, arith, inl, inr}
use Rattle.std.proofs.lemmas.Bool.{cases_Bool, eq-eqb, ne_eqb}
use Rattle.std.proofs.lemmas.Bool.Decides.{nat_tests}
use Rattle.flatten.specs.declared.cutting.Segment.{Segment}
use Rattle.flatten.specs.Segments.{ArePlaced, EachIsSegment}
use Rattle.edl_events.specs.declared.channel.Channel.{Channel}
use Rattle.edl_events.specs.declared.channel.Channel.TheVariants.{V, A, A2}
use Rattle.edl_write.specs.declared.ordering.ChannelSegment.{ChannelSegment}
use Rattle.edl_write.specs.Order.{AreInOrder, comes_before, is_dark, on_channel, rank, same_channel, shown}
use Rattle.edl_write.specs.Merging.{before, behind, events_on, merged, on, ordered}

-- places of events: those at one record in stand by channel
abbrev pub place_of : ChannelSegment → ℕ
place_of e = 3 * e.segment.at + rank e.channel

abbrev pub IsAscending : ℕ → List ChannelSegment → Type 0
IsAscending n [] = Unit {0}
IsAscending n (e ∷ es) = (n ≤ place_of e) × IsAscending (place_of e + 1) es

pub rank_below : (c : Channel) → rank c < 3
rank_below V = omega arith
rank_below A = omega arith
rank_below A2 = omega arith

numbers_before : (a b r s : ℕ) → r < 3 → s < 3 → (nat_lt a b || (a == b && nat_lt r s)) ≡ true → 3 * a + r < 3 * b + s
numbers_before a b r s h k e = grind (arith, nat_tests)

before_numbers : (a b r s : ℕ) → r < 3 → s < 3 → 3 * a + r < 3 * b + s → (nat_lt a b || (a == b && nat_lt r s)) ≡ true
before_numbers a b r s h k e = grind (arith, nat_tests)

numbers_behind : (a b r s : ℕ) → r < 3 → s < 3 → (nat_lt a b || (a == b && nat_lt r s)) ≡ false → 3 * b + s ≤ 3 * a + r
numbers_behind a b r s h k e = grind (arith, nat_tests)

pub earlier : (e f : ChannelSegment) → comes_before e f ≡ true → place_of e < place_of f
earlier e f h = numbers_before e.segment.at f.segment.at (rank e.channel) (rank f.channel) (rank_below e.channel) (rank_below f.channel) h

pub comes_first : (e f : ChannelSegment) → place_of e < place_of f → comes_before e f ≡ true
comes_first e f h = before_numbers e.segment.at f.segment.at (rank e.channel) (rank f.channel) (rank_below e.channel) (rank_below f.channel) h

later : (e f : ChannelSegment) → comes_before e f ≡ false → place_of f ≤ place_of e
later e f h = numbers_behind e.segment.at f.segment.at (rank e.channel) (rank f.channel) (rank_below e.channel) (rank_below f.channel) h

pub ascending_from : (m n : ℕ) (es : List ChannelSegment) → m ≤ n → IsAscending n es → IsAscending m es
ascending_from m n [] h a = tt
ascending_from m n (e ∷ es) h a = let first : m ≤ place_of e = omega (arith, h, a.0) in (first, a.1)

pub in_order : (n : ℕ) (es : List ChannelSegment) → IsAscending n es → AreInOrder es
in_order n [] a = tt
in_order n (e ∷ []) a = tt
in_order n (e ∷ f ∷ es) a =
    let next : place_of e < place_of f = omega (arith, a.1.0) in
    (comes_first e f next, in_order (place_of e + 1) (f ∷ es) a.1)

pub from_order : (e : ChannelSegment) (es : List ChannelSegment) → AreInOrder (e ∷ es) → IsAscending (place_of e) (e ∷ es)
from_order e [] h = let same : place_of e ≤ place_of e = omega arith in (same, tt)
from_order e (f ∷ es) h =
    let same : place_of e ≤ place_of e = omega arith in
    let next : place_of e + 1 ≤ place_of f = omega (arith, earlier e f h.0) in
    (same, ascending_from (place_of e + 1) (place_of f) (f ∷ es) next (from_order f es h.1))

-- each event is of a channel before one, or of it

abbrev pub AreBefore : ℕ → List ChannelSegment → Type 0
AreBefore r [] = Unit {0}
AreBefore r (e ∷ es) = (rank e.channel < r) × AreBefore r es

abbrev pub AreAt : ℕ → List ChannelSegment → Type 0
AreAt r [] = Unit {0}
AreAt r (e ∷ es) = (rank e.channel ≡ r) × AreAt r es

front_ascending : (n : ℕ) (e : ChannelSegment) (fs zs : List ChannelSegment) → IsAscending n fs → n ≤ place_of e → IsAscending (place_of e + 1) zs
    → IsAscending n (before e fs ++ e ∷ zs)
front_ascending n e [] zs a h z = (h, z)
front_ascending n e (f ∷ fs) zs a h z =
    elim (cases_Bool (comes_before f e)) [
      | inl t ↦
          let next : place_of f + 1 ≤ place_of e = omega (arith, earlier f e t) in
          rw t (a.0, front_ascending (place_of f + 1) e fs zs a.1 next z)
      | inr t ↦ rw t (h, z)
    ]

rest_ascending : (n r : ℕ) (e : ChannelSegment) (fs : List ChannelSegment) → IsAscending n fs → rank e.channel < r → AreAt r fs → IsAscending (place_of e + 1) (behind e fs)
rest_ascending n r e [] a h k = tt
rest_ascending n r e (f ∷ fs) a h k =
    elim (cases_Bool (comes_before f e)) [
      | inl t ↦ rw t (rest_ascending (place_of f + 1) r e fs a.1 h k.1)
      | inr t ↦
          let next : place_of e + 1 ≤ place_of f = omega (arith, later f e t, h, k.0, rank_below f.channel) in
          rw t (next, a.1)
    ]

behind_at : (r : ℕ) (e : ChannelSegment) (fs : List ChannelSegment) → AreAt r fs → AreAt r (behind e fs)
behind_at r e [] k = tt
behind_at r e (f ∷ fs) k = elim (cases_Bool (comes_before f e)) [ inl t ↦ rw t (behind_at r e fs k.1) | inr t ↦ rw t k ]

merged_ascending : (n r : ℕ) (es fs : List ChannelSegment) → IsAscending n es → IsAscending n fs → AreBefore r es → AreAt r fs → IsAscending n (merged es fs)
merged_ascending n r [] fs a b h k = b
merged_ascending n r (e ∷ es) fs a b h k =
    front_ascending n e fs (merged es (behind e fs)) b a.0
    (merged_ascending (place_of e + 1) r es (behind e fs) a.1 (rest_ascending n r e fs b h.0 k) h.1 (behind_at r e fs k))

before_append : (r : ℕ) (es fs : List ChannelSegment) → AreBefore r es → AreBefore r fs → AreBefore r (es ++ fs)
before_append r [] fs h k = k
before_append r (e ∷ es) fs h k = (h.0, before_append r es fs h.1 k)

before_both : (r : ℕ) (e : ChannelSegment) (fs : List ChannelSegment) → AreBefore r fs → AreBefore r (before e fs) × AreBefore r (behind e fs)
before_both r e [] k = (tt, tt)
before_both r e (f ∷ fs) k =
    elim (cases_Bool (comes_before f e)) [
      | inl t ↦ let both = before_both r e fs k.1 in rw t ((k.0, both.0), both.1)
      | inr t ↦ rw t (tt, k)
    ]

merged_before : (r : ℕ) (es fs : List ChannelSegment) → AreBefore r es → AreBefore r fs → AreBefore r (merged es fs)
merged_before r [] fs h k = k
merged_before r (e ∷ es) fs h k =
    let both = before_both r e fs k in
    before_append r (before e fs) (e ∷ merged es (behind e fs)) both.0 (h.0, merged_before r es (behind e fs) h.1 both.1)

-- the events of a channel

on_append : (c : Channel) (es fs : List ChannelSegment) → on_channel c (es ++ fs) ≡ on_channel c es ++ on_channel c fs
on_append c [] fs = refl
on_append c (e ∷ es) fs =
    elim (cases_Bool (same_channel e.channel c)) [
      | inl t ↦ rw (t, on_append c es fs) refl
      | inr t ↦ rw (t, on_append c es fs) refl
    ]

parted : (e : ChannelSegment) (fs : List ChannelSegment) → before e fs ++ behind e fs ≡ fs
parted e [] = refl
parted e (f ∷ fs) = elim (cases_Bool (comes_before f e)) [ inl t ↦ rw t (ap (λ zs. f ∷ zs) (parted e fs)) | inr t ↦ rw t refl ]

none_at : (c : Channel) (r : ℕ) (fs : List ChannelSegment) → AreAt r fs → (r ≡ rank c → ⊥) → on_channel c fs ≡ []
none_at c r [] k ne = refl
none_at c r (f ∷ fs) k ne =
    let other : same_channel f.channel c ≡ false = ne_eqb (rank f.channel) (rank c) (λ e. ne (sym k.0 ∙ e)) in
    rw (other, none_at c r fs k.1 ne) refl

none_before : (c : Channel) (r : ℕ) (es : List ChannelSegment) → AreBefore r es → r ≡ rank c → on_channel c es ≡ []
none_before c r [] h is = refl
none_before c r (e ∷ es) h is =
    let other : same_channel e.channel c ≡ false = ne_eqb (rank e.channel) (rank c) (λ q. omega (arith, q, h.0, is)) in
    rw (other, none_before c r es h.1 is) refl

-- those of channels before, where the others are at another
merged_own : (c : Channel) (r : ℕ) (es fs : List ChannelSegment) → AreAt r fs → (r ≡ rank c → ⊥) → on_channel c (merged es fs) ≡ on_channel c es
merged_own c r [] fs k ne = none_at c r fs k ne
merged_own c r (e ∷ es) fs k ne =
    let front : on_channel c (before e fs) ≡ [] = front_none e fs k in
    let rest = merged_own c r es (behind e fs) (behind_at r e fs k) ne in
    on_append c (before e fs) (e ∷ merged es (behind e fs))
    ∙ (ap (λ zs. zs ++ on_channel c (e ∷ merged es (behind e fs))) front
    ∙ ap (λ zs. cond (same_channel e.channel c) (e.segment ∷ zs) zs) rest)
  where
    front_none : (e : ChannelSegment) (fs : List ChannelSegment) → AreAt r fs → on_channel c (before e fs) ≡ []
    front_none e [] k = refl
    front_none e (f ∷ fs) k =
        let other : same_channel f.channel c ≡ false = ne_eqb (rank f.channel) (rank c) (λ q. ne (sym k.0 ∙ q)) in
        elim (cases_Bool (comes_before f e)) [ inl t ↦ rw (t, other, front_none e fs k.1) refl | inr t ↦ rw t refl ]

merged_other : (c : Channel) (es fs : List ChannelSegment) → AreBefore (rank c) es → on_channel c (merged es fs) ≡ on_channel c fs
merged_other c [] fs h = refl
merged_other c (e ∷ es) fs h =
    let other : same_channel e.channel c ≡ false = ne_eqb (rank e.channel) (rank c) (λ q. omega (arith, q, h.0)) in
    let rest = merged_other c es (behind e fs) h.1 in
    on_append c (before e fs) (e ∷ merged es (behind e fs))
    ∙ (ap (λ (b : Bool). on_channel c (before e fs) ++ cond b (e.segment ∷ on_channel c (merged es (behind e fs))) (on_channel c (merged es (behind e fs)))) other
    ∙ (ap (λ zs. on_channel c (before e fs) ++ zs) rest
    ∙ (sym (on_append c (before e fs) (behind e fs)) ∙ ap (on_channel c) (parted e fs))))

own_channel : (c : Channel) (ss : List Segment) → on_channel c (map (on c) ss) ≡ ss
own_channel c [] = refl
own_channel c (s ∷ ss) = let same : same_channel c c ≡ true = eq-eqb (rank c) (rank c) refl in rw (same, own_channel c ss) refl

all_at : (c : Channel) (ss : List Segment) → AreAt (rank c) (map (on c) ss)
all_at c [] = tt
all_at c (s ∷ ss) = (refl, all_at c ss)

all_before : (c : Channel) (r : ℕ) (ss : List Segment) → rank c < r → AreBefore r (map (on c) ss)
all_before c r [] h = tt
all_before c r (s ∷ ss) h = (h, all_before c r ss h)

channel_ascending : (c : Channel) (at : ℕ) (ss : List Segment) → ArePlaced at ss → EachIsSegment ss → IsAscending (3 * at + rank c) (events_on c ss)
channel_ascending c at [] p h = tt
channel_ascending c at (s ∷ ss) p h =
    let rest = channel_ascending c (at + s.len) ss p.1 h.1 in
    let e : ℕ = place_of (on c s) in
    let place : e ≡ 3 * at + rank c = omega (arith, p.0) in
    let next : e + 1 ≤ 3 * (at + s.len) + rank c = omega (arith, place, h.0.filled) in
    let here : 3 * at + rank c ≤ e = omega (arith, place) in
    let skip : 3 * at + rank c ≤ 3 * (at + s.len) + rank c = omega arith in
    elim (cases_Bool (is_dark s)) [
      | inl t ↦ rw t (ascending_from (3 * at + rank c) (3 * (at + s.len) + rank c) (events_on c ss) skip rest)
      | inr t ↦ rw t (here, ascending_from (e + 1) (3 * (at + s.len) + rank c) (events_on c ss) next rest)
    ]

pub record AreOrdered (picture sound second_sound : List Segment) (es : List ChannelSegment) : Type 0 where
  pub picture_on : on_channel V es ≡ shown picture
  pub sound_on : on_channel A es ≡ shown sound
  pub second_on : on_channel A2 es ≡ shown second_sound
  pub order : AreInOrder es

pub are_ordered : (picture sound second_sound : List Segment) → ArePlaced 0 picture → EachIsSegment picture → ArePlaced 0 sound → EachIsSegment sound
    → ArePlaced 0 second_sound → EachIsSegment second_sound → AreOrdered picture sound second_sound (ordered picture sound second_sound)
are_ordered picture sound second_sound p h q k r l =
    let v = events_on V picture in
    let a = events_on A sound in
    let b = events_on A2 second_sound in
    let one = merged v a in
    let v_before : AreBefore 1 v = all_before V 1 (shown picture) (omega arith) in
    let v_low : AreBefore 2 v = all_before V 2 (shown picture) (omega arith) in
    let a_low : AreBefore 2 a = all_before A 2 (shown sound) (omega arith) in
    let a_at : AreAt 1 a = all_at A (shown sound) in
    let b_at : AreAt 2 b = all_at A2 (shown second_sound) in
    let low : AreBefore 2 one = merged_before 2 v a v_low a_low in
    let up = ascending_from 0 (3 * 0 + rank V) v (omega arith) (channel_ascending V 0 picture p h) in
    let up_a = ascending_from 0 (3 * 0 + rank A) a (omega arith) (channel_ascending A 0 sound q k) in
    let up_b = ascending_from 0 (3 * 0 + rank A2) b (omega arith) (channel_ascending A2 0 second_sound r l) in
    record {
      picture_on = merged_own V 2 one b b_at (λ e. omega (arith, e)) ∙ (merged_own V 1 v a a_at (λ e. omega (arith, e)) ∙ own_channel V (shown picture));
      sound_on = merged_own A 2 one b b_at (λ e. omega (arith, e)) ∙ (merged_other A v a v_before ∙ own_channel A (shown sound));
      second_on = merged_other A2 one b low ∙ own_channel A2 (shown second_sound);
      order = in_order 0 (merged one b) (merged_ascending 0 2 one b (merged_ascending 0 1 v a up up_a v_before a_at) up_b low b_at);
    }
