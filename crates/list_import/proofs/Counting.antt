-- A list that was read has at most as many events as three channels have frames in a day.
use Rattle.std.proofs.Common.{◌≡◌, ℕ, zero, suc, ◌+◌, ◌*◌, ◌<◌, ◌≤◌, Bool, true, false, cond, ◌&&◌, List, [], ◌∷◌, length, map, nat_lt, ◌⊎◌, inl, inr, refl, ap, ◌∙◌, arith}
use Rattle.std.proofs.lemmas.Bool.{and_from, and_parts, cases_Bool, cases_lt, le-ltb, lt-ltb, ltb-true}
use Rattle.std.proofs.lemmas.List.Sums.{sum_by-cons}
use Rattle.timecode12.specs.declared.counting.TheConstants.{MAX_DAY_FRAMES}
use Rattle.edl_events.specs.declared.channel.Channel.{Channel}
use Rattle.edl_events.specs.declared.channel.Channel.TheVariants.{V, A, A2}
use Rattle.edl_events.specs.declared.event.Event.{Event}
use Rattle.edl_events.specs.Channels.{is_on}
use Rattle.edl_events.specs.Events.{AreEvents}
use Rattle.edl_read.specs.ReadLists.{CanBeRead}
use Rattle.list_import.specs.declared.shots.Shot.{Shot}
use Rattle.list_import.specs.ListReels.{shot_of}
use Rattle.list_import.specs.ShotFacts.{count_there, is_there}
use Rattle.list_import.proofs.Orders.{counted, there_at, uncounted}
use Rattle.list_import.proofs.ShotsGood.{one_there}

-- how many events of a channel begin before a record frame
abbrev begun : Channel → ℕ → List Event → ℕ
begun c q [] = 0
begun c q (e ∷ es) = cond (is_on c e.channels && nat_lt e.place q) 1 0 + begun c q es

none_begun : (c : Channel) (es : List Event) → begun c 0 es ≡ 0
none_begun c [] = refl
none_begun c (e ∷ es) =
    let early : nat_lt e.place 0 ≡ false = le-ltb e.place 0 (omega arith) in
    let off : (is_on c e.channels && nat_lt e.place 0) ≡ false = ap (λ (b : Bool). is_on c e.channels && b) early ∙ never (is_on c e.channels) in
    omega (arith, uncounted (is_on c e.channels && nat_lt e.place 0) (begun c 0 es) off, none_begun c es)
  where
    never : (b : Bool) → (b && false) ≡ false
    never true = refl
    never false = refl

-- one more at each record frame, if any
begun_more : (c : Channel) (q : ℕ) (reels : List (List ℕ)) (es : List Event) → AreEvents es → begun c (q + 1) es ≤ begun c q es + count_there c q (map (shot_of reels) es)
begun_more c q reels [] h = omega arith
begun_more c q reels (e ∷ es) h =
    let rest = begun_more c q reels es h.1 in
    let whole = sum_by-cons (λ (s : Shot). cond (is_there c q s) 1 0) (shot_of reels e) (map (shot_of reels) es) in
    let later : Bool = is_on c e.channels && nat_lt e.place (q + 1) in
    let before : Bool = is_on c e.channels && nat_lt e.place q in
    elim (cases_Bool later) [
      | inl t ↦
          let parts = and_parts (is_on c e.channels) (nat_lt e.place (q + 1)) t in
          let low : e.place < q + 1 = ltb-true e.place (q + 1) parts.1 in
          elim (cases_lt e.place q) [
            | inl past ↦
                let was : before ≡ true = and_from (is_on c e.channels) (nat_lt e.place q) parts.0 (lt-ltb e.place q past) in
                omega (arith, rest, whole, counted later (begun c (q + 1) es) t, counted before (begun c q es) was)
            | inr now ↦
                let there : is_there c q (shot_of reels e) ≡ true = there_at c q (shot_of reels e) parts.0 (omega (arith, low)) (omega (arith, now, h.0.filled)) in
                omega (arith, rest, whole, counted later (begun c (q + 1) es) t, counted (is_there c q (shot_of reels e)) (count_there c q (map (shot_of reels) es)) there)
          ]
      | inr t ↦ omega (arith, rest, whole, uncounted later (begun c (q + 1) es) t)
    ]

few_begun : (c : Channel) (q : ℕ) (reels : List (List ℕ)) (es : List Event) → CanBeRead es → begun c q es ≤ q
few_begun c zero reels es h = omega (arith, none_begun c es)
few_begun c (suc q) reels es h =
    let next : suc q ≡ q + 1 = omega arith in
    omega (arith, few_begun c q reels es h, begun_more c q reels es h.each, one_there c q reels es h.apart, ap (λ (n : ℕ). begun c n es) next)

-- each event is on some channel
some_channel : (n : ℕ) → 0 < n → n < 8 → (is_on V n ≡ true) ⊎ ((is_on A n ≡ true) ⊎ (is_on A2 n ≡ true))
some_channel zero h k = absurd (omega (arith, h))
some_channel (suc zero) h k = inl refl
some_channel (suc (suc zero)) h k = inr (inl refl)
some_channel (suc (suc (suc zero))) h k = inl refl
some_channel (suc (suc (suc (suc zero)))) h k = inr (inr refl)
some_channel (suc (suc (suc (suc (suc zero))))) h k = inl refl
some_channel (suc (suc (suc (suc (suc (suc zero)))))) h k = inr (inl refl)
some_channel (suc (suc (suc (suc (suc (suc (suc zero))))))) h k = inl refl
some_channel (suc (suc (suc (suc (suc (suc (suc (suc n)))))))) h k = absurd (omega (arith, k))

each_begun : (day : ℕ) (es : List Event) → day ≡ MAX_DAY_FRAMES → AreEvents es → length es ≤ begun V day es + (begun A day es + begun A2 day es)
each_begun day [] is h = omega arith
each_begun day (e ∷ es) is h =
    let rest = each_begun day es is h.1 in
    let low : nat_lt e.place day ≡ true = lt-ltb e.place day (omega (arith, h.0.place, is)) in
    elim (some_channel e.channels h.0.channel h.0.channels) [
      | inl v ↦ omega (arith, rest, counted (is_on V e.channels && nat_lt e.place day) (begun V day es) (and_from (is_on V e.channels) (nat_lt e.place day) v low))
      | inr more ↦ elim more [
        | inl a ↦ omega (arith, rest, counted (is_on A e.channels && nat_lt e.place day) (begun A day es) (and_from (is_on A e.channels) (nat_lt e.place day) a low))
        | inr a2 ↦ omega (arith, rest, counted (is_on A2 e.channels && nat_lt e.place day) (begun A2 day es) (and_from (is_on A2 e.channels) (nat_lt e.place day) a2 low))
      ]
    ]

pub few_events : (es : List Event) → CanBeRead es → 2 * length es < 4294967295
few_events es h = by MAX_DAY_FRAMES refl where
  by : (day : ℕ) → day ≡ MAX_DAY_FRAMES → 2 * length es < 4294967295
  by day is = omega (arith, is, each_begun day es is h.each, few_begun V day [] es h, few_begun A day [] es h, few_begun A2 day [] es h)
