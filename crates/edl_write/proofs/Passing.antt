-- What is looked at before names are asked for.
use Rattle.std.proofs.Common.{◌≡◌, ℕ, zero, suc, get_or, ◌+◌, ◌<◌, ◌≤◌, ◌^◌, Bool, false, cond, ◌&&◌, List, [], ◌∷◌, ◌++◌, Option, Some, None, length, nat_le, nat_lt, refl, sym, ap, ◌∙◌, arith, inl, inr}
use Rattle.std.proofs.lemmas.Bool.{cases_Bool, eq-eqb, leb-false, ltb-false}
use Rattle.std.specs.Option.{option_or}
use Rattle.composables.specs.declared.TheConstants.{MAX_FRAMES}
use Rattle.edl_events.specs.declared.channel.Channel.{Channel}
use Rattle.edl_events.specs.declared.channel.Channel.TheVariants.{V, A, A2}
use Rattle.edl_write.specs.declared.ordering.ChannelSegment.{ChannelSegment}
use Rattle.edl_write.specs.Limits.{AreShort, CanBeWritten, EachCanBeWritten}
use Rattle.edl_write.specs.Lines.{line_times}
use Rattle.edl_write.specs.ListEvents.{left_times, source_of, times_of, times_of_all}
use Rattle.edl_write.specs.Order.{rank, same_channel}
use Rattle.edl_write.specs.Refusals.{first_past, long_in, long_on, over_999}

some_none : (n : ℕ) → Some n ≡ None → ⊥
some_none n h = absurd cc

pub count_small : (n : ℕ) → over_999 n ≡ None → n < 1000
count_small n h =
    elim (cases_Bool (nat_lt 999 n)) [
      | inl t ↦ absurd (some_none n (sym (ap (λ (b : Bool). cond b (Some n) None) t) ∙ h))
      | inr t ↦ let le : n ≤ 999 = ltb-false 999 n t in omega (arith, le)
    ]

none_or : (a b : Option ℕ) → option_or a b ≡ None → (a ≡ None) × (b ≡ None)
none_or None b h = (refl, h)
none_or (Some n) b h = absurd (some_none n h)

pub past_append : (day : ℕ) (xs ys : List ℕ) → first_past day (xs ++ ys) ≡ option_or (first_past day xs) (first_past day ys)
past_append day [] ys = refl
past_append day (x ∷ xs) ys = elim (cases_Bool (nat_le day x)) [ inl t ↦ rw t refl | inr t ↦ rw t (past_append day xs ys) ]

-- the first of an order of times
below : (day x : ℕ) (xs : List ℕ) → first_past day (x ∷ xs) ≡ None → (x < day) × (first_past day xs ≡ None)
below day x xs h =
    elim (cases_Bool (nat_le day x)) [
      | inl t ↦ absurd (some_none x (sym (ap (λ (b : Bool). cond b (Some x) (first_past day xs)) t) ∙ h))
      | inr t ↦ (leb-false day x t, sym (ap (λ (b : Bool). cond b (Some x) (first_past day xs)) t) ∙ h)
    ]

record OnDay (day source place len : ℕ) : Type 0 where
  source_out : source + len < day
  record_out : place + len < day

on_day : (day source place len : ℕ) → first_past day (line_times source place len) ≡ None → OnDay day source place len
on_day day source place len h =
    let a = below day source ((source + len) ∷ place ∷ (place + len) ∷ []) h in
    let b = below day (source + len) (place ∷ (place + len) ∷ []) a.1 in
    let c = below day place ((place + len) ∷ []) b.1 in
    let d = below day (place + len) [] c.1 in
    record { source_out = b.0; record_out = d.0 }

-- the events of a channel have no long dissolve

abbrev NoneLong : ℕ → List ChannelSegment → Type 0
NoneLong r [] = Unit {0}
NoneLong r (e ∷ es) = (rank e.channel ≡ r → e.segment.frames < 1000) × NoneLong r es

none_long : (c : Channel) (es : List ChannelSegment) → long_on c es ≡ None → NoneLong (rank c) es
none_long c [] h = tt
none_long c (e ∷ es) h =
    elim (cases_Bool (same_channel e.channel c && nat_lt 999 e.segment.frames)) [
      | inl t ↦ absurd (some_none e.segment.at (sym (ap (λ (b : Bool). cond b (Some e.segment.at) (long_on c es)) t) ∙ h))
      | inr t ↦ (
        (λ (same : rank e.channel ≡ rank c). short same t),
        none_long c es (sym (ap (λ (b : Bool). cond b (Some e.segment.at) (long_on c es)) t) ∙ h),
      )
    ]
  where
    short : rank e.channel ≡ rank c → (same_channel e.channel c && nat_lt 999 e.segment.frames) ≡ false → e.segment.frames < 1000
    short same t =
        let test : nat_lt 999 e.segment.frames ≡ false = sym (ap (λ (b : Bool). b && nat_lt 999 e.segment.frames) (eq-eqb (rank e.channel) (rank c) same)) ∙ t in
        let le : e.segment.frames ≤ 999 = ltb-false 999 e.segment.frames test in omega (arith, le)

short_dissolve : (c : Channel) (frames : ℕ) → (rank c ≡ rank V → frames < 1000) → (rank c ≡ rank A → frames < 1000) → (rank c ≡ rank A2 → frames < 1000) → frames < 1000
short_dissolve V frames v a b = v refl
short_dissolve A frames v a b = a refl
short_dissolve A2 frames v a b = b refl

each_written : (day start : ℕ) (es : List ChannelSegment) → day ≤ MAX_FRAMES → NoneLong (rank V) es → NoneLong (rank A) es → NoneLong (rank A2) es
    → first_past day (times_of_all start es) ≡ None → EachCanBeWritten start es
each_written day start [] small v a b h = tt
each_written day start (e ∷ es) small v a b h =
    let parts = none_or (first_past day (times_of start e)) (first_past day (times_of_all start es)) (sym (past_append day (times_of start e) (times_of_all start es)) ∙ h) in
    let left : List ℕ = left_times e.segment.from (start + e.segment.at) in
    let own : List ℕ = line_times (source_of e.segment.side) (start + e.segment.at) e.segment.len in
    let line = none_or (first_past day left) (first_past day own) (sym (past_append day left own) ∙ parts.0) in
    let times = on_day day (source_of e.segment.side) (start + e.segment.at) e.segment.len line.1 in
    let source : source_of e.segment.side + e.segment.len < 2 ^ 32 = omega (arith, times.source_out, small) in
    let place : start + e.segment.at + e.segment.len < 2 ^ 32 = omega (arith, times.record_out, small) in (
      record { dissolve = short_dissolve e.channel e.segment.frames v.0 a.0 b.0; source = source; place = place },
      each_written day start es small v.1 a.1 b.1 parts.1,
    )

-- events that pass can be written
pub can_be_written : (day start : ℕ) (es : List ChannelSegment) → day ≤ MAX_FRAMES → long_in es ≡ None → first_past day (times_of_all start es) ≡ None → EachCanBeWritten start es
can_be_written day start es small long past =
    let v = none_or (long_on V es) (option_or (long_on A es) (long_on A2 es)) long in
    let a = none_or (long_on A es) (long_on A2 es) v.1 in
    each_written day start es small (none_long V es v.0) (none_long A es a.0) (none_long A2 es a.1) past

-- of one of some events

pub short_get : (es : List ChannelSegment) (i : ℕ) (d : ChannelSegment) → i < length es → AreShort es → (get_or es i d).segment.at + (get_or es i d).segment.len ≤ MAX_FRAMES
short_get [] i d h s = absurd (omega arith)
short_get (e ∷ es) zero d h s = s.0
short_get (e ∷ es) (suc i) d h s = short_get es i d (omega arith) s.1

pub written_get : (start : ℕ) (es : List ChannelSegment) (i : ℕ) (d : ChannelSegment) → i < length es → EachCanBeWritten start es → CanBeWritten start (get_or es i d)
written_get start [] i d h w = absurd (omega arith)
written_get start (e ∷ es) zero d h w = w.0
written_get start (e ∷ es) (suc i) d h w = written_get start es i d (omega arith) w.1
