-- The shots of a channel have one order, so that its track is one only.
use Rattle.std.proofs.Common.{◌≡◌, ℕ, zero, suc, ◌+◌, ◌<◌, ◌≤◌, List, [], ◌∷◌, length, get_or, refl, sym, ap, ◌∙◌, arith}
use Rattle.std.specs.List.{Contains}
use Rattle.std.proofs.lemmas.List.Elements.{Contains-append_right}
use Rattle.std.proofs.lemmas.Map.Made.{Contains-tail}
use Rattle.composables.specs.TrackState.{TrackState}
use Rattle.edl_events.specs.declared.channel.Channel.{Channel}
use Rattle.edl_events.specs.declared.channel.Channel.TheVariants.{V, A, A2}
use Rattle.list_import.specs.declared.shots.Shot.{Shot}
use Rattle.list_import.specs.TrackItems.{AreShotsOn, AreTracksOf, IsTrackOn, track_views, track_with}
use Rattle.list_import.specs.ShotFacts.{AreLaid, CanBeOrdered}
use Rattle.list_import.proofs.Orders.{laid_on}

-- a shot among those that are laid begins where they do, or later
laid_after : (media at : ℕ) (ss : List Shot) (d x : Shot) (k : ℕ) → AreLaid media at ss → k < length ss → get_or ss k d ≡ x → at ≤ x.place
laid_after media at [] d x k h low e = absurd (omega (arith, low))
laid_after media at (s ∷ ss) d x zero h low e = let here : s.place ≡ x.place = ap (λ (y : Shot). y.place) e in omega (arith, here, h.0.begins)
laid_after media at (s ∷ ss) d x (suc k) h low e =
    let later = laid_after media (s.place + s.len) ss d x k h.1 (omega (arith, low)) e in
    omega (arith, later, h.0.begins)

later_than : (media at : ℕ) (s : Shot) (ss : List Shot) (x : Shot) → AreLaid media at (s ∷ ss) → Contains ss x → s.place < x.place
later_than media at s ss x h has = omega (arith, laid_after media (s.place + s.len) ss x x has.0 h.1 has.1 has.2, h.0.filled)

-- two such lists with the same shots have the same first
first_is : (media at n : ℕ) (s : Shot) (ss : List Shot) (t : Shot) (ts : List Shot) (d e : Shot) (i j : ℕ) → AreLaid media at (s ∷ ss) → AreLaid media n (t ∷ ts)
    → i < length (t ∷ ts) → get_or (t ∷ ts) i d ≡ s → j < length (s ∷ ss) → get_or (s ∷ ss) j e ≡ t → s ≡ t
first_is media at n s ss t ts d e zero j h k low is low2 is2 = sym is
first_is media at n s ss t ts d e (suc i) zero h k low is low2 is2 = is2
first_is media at n s ss t ts d e (suc i) (suc j) h k low is low2 is2 =
    let right = laid_after media (t.place + t.len) ts d s i k.1 (omega (arith, low)) is in
    let left = laid_after media (s.place + s.len) ss e t j h.1 (omega (arith, low2)) is2 in
    absurd (omega (arith, right, left, h.0.filled, k.0.filled))

head_in : (s : Shot) (ss : List Shot) → Contains (s ∷ ss) s
head_in s ss = (0, omega arith, refl)

none_in : (x : Shot) → Contains [] x → ⊥
none_in x has = omega (arith, has.1)

-- and so have what is behind it
behind_in : (media at : ℕ) (s : Shot) (ss : List Shot) (t : Shot) (ts : List Shot) → AreLaid media at (s ∷ ss) → s ≡ t → ((x : Shot) → Contains (s ∷ ss) x → Contains (t ∷ ts) x)
    → (x : Shot) → Contains ss x → Contains ts x
behind_in media at s ss t ts h same there x has =
    let later = later_than media at s ss x h has in
    let here : s.place ≡ t.place = ap (λ (y : Shot). y.place) same in
    Contains-tail t ts x (λ e. let own : t.place ≡ x.place = ap (λ (y : Shot). y.place) e in omega (arith, later, here, own)) (there x (Contains-append_right (s ∷ []) ss x has))

one_order : (media at n : ℕ) (ss ts : List Shot) → AreLaid media at ss → AreLaid media n ts → ((x : Shot) → Contains ss x → Contains ts x) → ((x : Shot) → Contains ts x → Contains ss x) → ss ≡ ts
one_order media at n [] [] h k there back = refl
one_order media at n [] (t ∷ ts) h k there back = absurd (none_in t (back t (head_in t ts)))
one_order media at n (s ∷ ss) [] h k there back = absurd (none_in s (there s (head_in s ss)))
one_order media at n (s ∷ ss) (t ∷ ts) h k there back =
    let to : Contains (t ∷ ts) s = there s (head_in s ss) in
    let from : Contains (s ∷ ss) t = back t (head_in t ts) in
    let same : s ≡ t = first_is media at n s ss t ts s t to.0 from.0 h k to.1 to.2 from.1 from.2 in
    let rest : ss ≡ ts =
    one_order media (s.place + s.len) (t.place + t.len) ss ts h.1 k.1 (behind_in media at s ss t ts h same there) (behind_in media n t ts s ss k (sym same) back) in
    ap (λ (x : Shot). x ∷ ss) same ∙ ap (λ (l : List Shot). t ∷ l) rest

one_track : (c : Channel) (number start : ℕ) (shots : List Shot) (t u : TrackState) → CanBeOrdered start shots → IsTrackOn c number start shots t → IsTrackOn c number start shots u → t ≡ u
one_track c number start shots t u h a b =
    let left : AreShotsOn c shots a.0 = a.1 in
    let right : AreShotsOn c shots b.0 = b.1 in
    let same : a.0 ≡ b.0 =
    one_order h.media start start a.0 b.0 (laid_on c start shots a.0 h left) (laid_on c start shots b.0 h right)
    (λ x has. let own = left.own x has in right.all x own.0 own.1)
    (λ x has. let own = right.own x has in left.all x own.0 own.1) in
    a.2 ∙ (ap (λ (l : List Shot). track_with number (track_views start 0 l)) same ∙ sym b.2)

record Three (start : ℕ) (shots : List Shot) (ts : List TrackState) : Type 0 where
  pub v : TrackState
  pub a : TrackState
  pub a2 : TrackState
  pub are : ts ≡ v ∷ a ∷ a2 ∷ []
  pub on_v : IsTrackOn V 0 start shots v
  pub on_a : IsTrackOn A 1 start shots a
  pub on_a2 : IsTrackOn A2 2 start shots a2

three : (start : ℕ) (shots : List Shot) (ts : List TrackState) → AreTracksOf start shots ts → Three start shots ts
three start shots [] h = absurd h
three start shots (v ∷ []) h = absurd h
three start shots (v ∷ a ∷ []) h = absurd h
three start shots (v ∷ a ∷ a2 ∷ []) h = record { v = v; a = a; a2 = a2; are = refl; on_v = h.0; on_a = h.1; on_a2 = h.2 }
three start shots (v ∷ a ∷ a2 ∷ t ∷ ts) h = absurd h

pub one_tracks : (start : ℕ) (shots : List Shot) (ts us : List TrackState) → CanBeOrdered start shots → AreTracksOf start shots ts → AreTracksOf start shots us → ts ≡ us
one_tracks start shots ts us h is js =
    let l : Three start shots ts = three start shots ts is in
    let r : Three start shots us = three start shots us js in
    l.are
    ∙ (ap (λ (t : TrackState). t ∷ l.a ∷ l.a2 ∷ []) (one_track V 0 start shots l.v r.v h l.on_v r.on_v)
    ∙ (ap (λ (t : TrackState). r.v ∷ t ∷ l.a2 ∷ []) (one_track A 1 start shots l.a r.a h l.on_a r.on_a)
    ∙ (ap (λ (t : TrackState). r.v ∷ r.a ∷ t ∷ []) (one_track A2 2 start shots l.a2 r.a2 h l.on_a2 r.on_a2)
    ∙ sym r.are)))
