-- A cut has one list of events.
use Rattle.std.proofs.Common.{◌≡◌, ℕ, ◌+◌, ◌*◌, ◌≤◌, Bool, true, false, cond, List, [], ◌∷◌, refl, sym, ap, ◌∙◌, arith, subst, inl, inr}
use Rattle.std.proofs.lemmas.Bool.{cases_Bool, eq-eqb, eqb-true}
use Rattle.composables.specs.declared.media.Table.{Table}
use Rattle.composables.specs.TrackState.{TrackState}
use Rattle.frame_meaning.specs.declared.frames.Frame.{Frame}
use Rattle.flatten.specs.declared.cutting.Segment.{Segment}
use Rattle.flatten.specs.Channels.{video_frames}
use Rattle.flatten.proofs.OneCutting.{cut_one_way}
use Rattle.edl_events.specs.declared.channel.Channel.{Channel}
use Rattle.edl_events.specs.declared.channel.Channel.TheVariants.{V, A, A2}
use Rattle.edl_write.specs.declared.ordering.ChannelSegment.{ChannelSegment}
use Rattle.edl_write.specs.Order.{AreEventsOf, AreInOrder, IsOn, audio_channel, on_channel, rank, same_channel, shown}
use Rattle.edl_write.proofs.InOrder.{IsAscending, ascending_from, from_order, place_of, rank_below}

abbrev EachFrom : ℕ → Channel → List Segment → Type 0
EachFrom n c [] = Unit {0}
EachFrom n c (s ∷ ss) = (n ≤ 3 * s.at + rank c) × EachFrom n c ss

on_from : (n : ℕ) (c : Channel) (fs : List ChannelSegment) → IsAscending n fs → EachFrom n c (on_channel c fs)
on_from n c [] h = tt
on_from n c (f ∷ fs) h =
    let past : n ≤ place_of f + 1 = omega (arith, h.0) in
    let rest = on_from n c fs (ascending_from n (place_of f + 1) fs past h.1) in
    elim (cases_Bool (same_channel f.channel c)) [
      | inl t ↦
          let here : n ≤ 3 * f.segment.at + rank c = omega (arith, h.0, eqb-true (rank f.channel) (rank c) t) in
          rw t (here, rest)
      | inr t ↦ rw t rest
    ]

own : (e : ChannelSegment) (es : List ChannelSegment) → on_channel e.channel (e ∷ es) ≡ e.segment ∷ on_channel e.channel es
own e es = let same : same_channel e.channel e.channel ≡ true = eq-eqb (rank e.channel) (rank e.channel) refl in rw same refl

-- the first event of one list is not before that of another with the same channels
first_behind : (e f : ChannelSegment) (es fs : List ChannelSegment) → AreInOrder (f ∷ fs) → on_channel e.channel (e ∷ es) ≡ on_channel e.channel (f ∷ fs) → place_of f ≤ place_of e
first_behind e f es fs order same =
    (subst (EachFrom (place_of f) e.channel) (sym same ∙ own e es) (on_from (place_of f) e.channel (f ∷ fs) (from_order f fs order))).0

one_rank : (c d : Channel) → rank c ≡ rank d → c ≡ d
one_rank V V h = refl
one_rank V A h = absurd (omega (arith, h))
one_rank V A2 h = absurd (omega (arith, h))
one_rank A V h = absurd (omega (arith, h))
one_rank A A h = refl
one_rank A A2 h = absurd (omega (arith, h))
one_rank A2 V h = absurd (omega (arith, h))
one_rank A2 A h = absurd (omega (arith, h))
one_rank A2 A2 h = refl

parts : (s t : Segment) (ss ts : List Segment) → s ∷ ss ≡ t ∷ ts → (s ≡ t) × (ss ≡ ts)
parts s t ss ts h = (cc, cc)

nothing : (s : Segment) (ss : List Segment) → [] ≡ s ∷ ss → ⊥
nothing s ss h = absurd cc

abbrev event_with : Channel → Segment → ChannelSegment
event_with c s = record { channel = c; segment = s }

same_events : (c d : Channel) (s t : Segment) → c ≡ d → s ≡ t → event_with c s ≡ event_with d t
same_events c d s t e f = ap (λ (x : Channel). event_with x s) e ∙ ap (event_with d) f

pub one_list : (es fs : List ChannelSegment) → AreInOrder es → AreInOrder fs → ((c : Channel) → on_channel c es ≡ on_channel c fs) → es ≡ fs
one_list [] [] o p h = refl
one_list [] (f ∷ fs) o p h = absurd (nothing f.segment (on_channel f.channel fs) (h f.channel ∙ own f fs))
one_list (e ∷ es) [] o p h = absurd (nothing e.segment (on_channel e.channel es) (sym (h e.channel) ∙ own e es))
one_list (e ∷ es) (f ∷ fs) o p h =
    let places : place_of e ≡ place_of f = omega (arith, first_behind e f es fs p (h e.channel), first_behind f e fs es o (sym (h f.channel))) in
    let ranks : rank e.channel ≡ rank f.channel = omega (arith, places, rank_below e.channel, rank_below f.channel) in
    let channel : e.channel ≡ f.channel = one_rank e.channel f.channel ranks in
    let other : on_channel e.channel (f ∷ fs) ≡ f.segment ∷ on_channel e.channel fs = subst (λ (c : Channel). on_channel c (f ∷ fs) ≡ f.segment ∷ on_channel c fs) (sym channel) (own f fs) in
    let both = parts e.segment f.segment (on_channel e.channel es) (on_channel e.channel fs) (sym (own e es) ∙ (h e.channel ∙ other)) in
    let first : e ≡ f = same_events e.channel f.channel e.segment f.segment channel both.0 in
    let rest : es ≡ fs = one_list es fs (order_rest e es o) (order_rest f fs p) (λ (c : Channel). tail c channel (h c)) in
    cc
  where
    order_rest : (x : ChannelSegment) (xs : List ChannelSegment) → AreInOrder (x ∷ xs) → AreInOrder xs
    order_rest x [] q = tt
    order_rest x (y ∷ ys) q = q.1

    tail : (c : Channel) → e.channel ≡ f.channel → on_channel c (e ∷ es) ≡ on_channel c (f ∷ fs) → on_channel c es ≡ on_channel c fs
    tail c channel k =
        elim (cases_Bool (same_channel e.channel c)) [
          | inl t ↦
              let u : same_channel f.channel c ≡ true = ap (λ (d : Channel). same_channel d c) (sym channel) ∙ t in
              (parts e.segment f.segment (on_channel c es) (on_channel c fs)
              (sym (ap (λ (b : Bool). cond b (e.segment ∷ on_channel c es) (on_channel c es)) t) ∙ (k ∙ ap (λ (b : Bool). cond b (f.segment ∷ on_channel c fs) (on_channel c fs)) u))).1
          | inr t ↦
              let u : same_channel f.channel c ≡ false = ap (λ (d : Channel). same_channel d c) (sym channel) ∙ t in
              sym (ap (λ (b : Bool). cond b (e.segment ∷ on_channel c es) (on_channel c es)) t) ∙ (k ∙ ap (λ (b : Bool). cond b (f.segment ∷ on_channel c fs) (on_channel c fs)) u)
        ]

one_channel : (c : Channel) (frames : List (Frame ℕ)) (es fs : List ChannelSegment) → IsOn c frames es → IsOn c frames fs → on_channel c es ≡ on_channel c fs
one_channel c frames es fs h k = h.2 ∙ (ap shown (cut_one_way h.0 k.0 frames h.1 k.1) ∙ sym k.2)

pub one_list_of_events : (table : Table) (tracks : List TrackState) (es fs : List ChannelSegment) → AreEventsOf table tracks es → AreEventsOf table tracks fs → es ≡ fs
one_list_of_events table tracks es fs h k = one_list es fs h.order k.order by_channel
  where
    by_channel : (c : Channel) → on_channel c es ≡ on_channel c fs
    by_channel V = one_channel V (video_frames table tracks) es fs h.picture k.picture
    by_channel A = one_channel A (audio_channel table tracks 0) es fs h.sound k.sound
    by_channel A2 = one_channel A2 (audio_channel table tracks 1) es fs h.second_sound k.second_sound
