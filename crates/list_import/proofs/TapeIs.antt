-- The tape of a list, and the shots of its channels.
use Rattle.std.proofs.Common.{◌≡◌, ℕ, zero, suc, ◌+◌, ◌-◌, ◌<◌, ◌≤◌, Bool, true, false, cond, ◌&&◌, List, [], ◌∷◌, Some, length, get_or, map, nat_le, nat_lt, slice_get, ◌⊎◌, inl, inr, refl, sym, ap, ◌∙◌, subst, arith}
use Rattle.std.specs.List.{Contains}
use Rattle.std.proofs.lemmas.Bool.{and_from, and_parts, both_ways, cond-false, false_from_ne_true, le-leb, leb-true, lt-ltb, ltb-true}
use Rattle.std.proofs.lemmas.List.Elements.{Contains-append_right}
use Rattle.frame_meaning.specs.declared.frames.Frame.TheVariants as frame
use Rattle.edl_events.specs.declared.channel.Channel.{Channel}
use Rattle.edl_events.specs.declared.event.Event.{Event}
use Rattle.edl_events.specs.Channels.{is_on}
use Rattle.edl_events.specs.Tape.{covers, event_frame, tape_at}
use Rattle.edl_read.specs.ReadLists.{CanBeRead}
use Rattle.edl_read.proofs.LaidFacts.{shown_at}
use Rattle.list_import.specs.declared.shots.Shot.{Shot}
use Rattle.list_import.specs.ListReels.{reels_of, shot_of, shots_of, table_of}
use Rattle.list_import.specs.TrackItems.{AreShotsOn}
use Rattle.list_import.proofs.NamedFrames.{event_is, frame_shown}
use Rattle.list_import.proofs.ReelFacts.{AllKnown, AreKnown, all_known}
use Rattle.list_import.proofs.ShotFrames.{frame_k, lasts, strip_at}

-- ---- elements

holds : {A : Type 0} (x y : A) → Some x ≡ Some y → x ≡ y
holds x y h = cc

there_in_map : {X Y : Type 0} (g : X → Y) (xs : List X) (i : ℕ) (x : X) → slice_get xs i ≡ Some x → Contains (map g xs) (g x)
there_in_map g [] i x h = absurd cc
there_in_map g (y ∷ ys) zero x h = (0, omega arith, ap g (holds y x h))
there_in_map g (y ∷ ys) (suc i) x h = Contains-append_right (g y ∷ []) (map g ys) (g x) (there_in_map g ys i x h)

-- an element of a map is that of one
record IsOf {X Y : Type 0} (g : X → Y) (xs : List X) (y : Y) : Type 0 where
  index : ℕ
  one : X
  there : slice_get xs index ≡ Some one
  is : g one ≡ y

from_map : {X Y : Type 0} (g : X → Y) (xs : List X) (y : Y) (k : ℕ) → k < length (map g xs) → get_or (map g xs) k y ≡ y → IsOf g xs y
from_map g [] y k low is = absurd (omega (arith, low))
from_map g (x ∷ xs) y zero low is = record { index = 0; one = x; there = refl; is = is }
from_map g (x ∷ xs) y (suc k) low is =
    let rest = from_map g xs y k (omega (arith, low)) is in
    record { index = suc rest.index; one = rest.one; there = rest.there; is = rest.is }

known_at : (reels : List (List ℕ)) (es : List Event) (i : ℕ) (e : Event) → AllKnown reels es → slice_get es i ≡ Some e → AreKnown reels e
known_at reels [] i e h at = absurd cc
known_at reels (f ∷ fs) zero e h at = subst (λ (x : Event). AreKnown reels x) (holds f e at) h.0
known_at reels (f ∷ fs) (suc i) e h at = known_at reels fs i e h.1 at

-- ---- dark where no event is

covers_told : (e : Event) (c : Channel) (q : ℕ) → covers e c q ≡ true → (is_on c e.channels ≡ true) × (e.place ≤ q) × (q < e.place + e.len)
covers_told e c q h =
    let both = and_parts (is_on c e.channels) (nat_le e.place q && nat_lt q (e.place + e.len)) h in
    let ends = and_parts (nat_le e.place q) (nat_lt q (e.place + e.len)) both.1 in
    (both.0, leb-true e.place q ends.0, ltb-true q (e.place + e.len) ends.1)

abbrev pub AreOff : List Event → Channel → ℕ → Type 0
AreOff es c q = (i : ℕ) (f : Event) → slice_get es i ≡ Some f → is_on c f.channels ≡ true → f.place ≤ q → q < f.place + f.len → ⊥

pub dark_where : (es : List Event) (c : Channel) (q : ℕ) → AreOff es c q → tape_at es c q ≡ frame.Dark
dark_where [] c q off = refl
dark_where (f ∷ fs) c q off =
    let not_here : covers f c q ≡ false = false_from_ne_true (covers f c q) (λ h. let told = covers_told f c q h in off 0 f refl told.0 told.1 told.2) in
    cond-false (covers f c q) (event_frame f (q - f.place)) (tape_at fs c q) not_here ∙ dark_where fs c q (λ i g at. off (suc i) g at)

-- ---- which shot is at a record frame

record IsAt (ss : List Shot) (q : ℕ) : Type 0 where
  shot : Shot
  there : Contains ss shot
  during : lasts shot q ≡ true
  shown : strip_at ss q ≡ frame_k shot.from shot.frames shot.side (q - shot.place)

record IsOff (ss : List Shot) (q : ℕ) : Type 0 where
  none : (s : Shot) → Contains ss s → lasts s q ≡ false
  dark : strip_at ss q ≡ frame.Dark

find : (ss : List Shot) (q : ℕ) → IsAt ss q ⊎ IsOff ss q
find [] q = inr (record { none = λ s h. absurd (omega (arith, h.1)); dark = refl })
find (s ∷ ss) q = by (lasts s q) refl (find ss q) where
  strip : (b : Bool) → lasts s q ≡ b → strip_at (s ∷ ss) q ≡ cond b (frame_k s.from s.frames s.side (q - s.place)) (strip_at ss q)
  strip b e = ap (λ (t : Bool). cond t (frame_k s.from s.frames s.side (q - s.place)) (strip_at ss q)) e

  none_of : lasts s q ≡ false → ((t : Shot) → Contains ss t → lasts t q ≡ false) → (t : Shot) (k : ℕ) → k < suc (length ss) → get_or (s ∷ ss) k t ≡ t → lasts t q ≡ false
  none_of e rest t zero low is = ap (λ (x : Shot). lasts x q) (sym is) ∙ e
  none_of e rest t (suc k) low is = rest t (k, omega (arith, low), is)

  by : (b : Bool) → lasts s q ≡ b → IsAt ss q ⊎ IsOff ss q → IsAt (s ∷ ss) q ⊎ IsOff (s ∷ ss) q
  by true e rest = inl (record { shot = s; there = (0, omega arith, refl); during = e; shown = strip true e })
  by false e (inl x) = inl (record { shot = x.shot; there = Contains-append_right (s ∷ []) ss x.shot x.there; during = x.during; shown = strip false e ∙ x.shown })
  by false e (inr x) = inr (record { none = λ t h. none_of e x.none t h.0 h.1 h.2; dark = strip false e ∙ x.dark })

-- the shots of a channel show what its tape shows
pub strip_shown : (events : List Event) (c : Channel) (ss : List Shot) (q : ℕ) → CanBeRead events → AreShotsOn c (shots_of events) ss → frame_shown (table_of events) (strip_at ss q) ≡ tape_at events c q
strip_shown events c ss q read are = elim (find ss q) [
  | inl x ↦
      let own = are.own x.shot x.there in
      let of = from_map (shot_of (reels_of events)) events x.shot own.0.0 own.0.1 own.0.2 in
      let e : Event = of.one in
      let s : Shot = shot_of (reels_of events) e in
      let ends = and_parts (nat_le x.shot.place q) (nat_lt q (x.shot.place + x.shot.len)) x.during in
      let on : is_on c e.channels ≡ true = subst (λ (t : Shot). is_on c t.channels ≡ true) (sym of.is) own.1 in
      let low : e.place ≤ q = subst (λ (t : Shot). t.place ≤ q) (sym of.is) (leb-true x.shot.place q ends.0) in
      let high : q < e.place + e.len = subst (λ (t : Shot). q < t.place + t.len) (sym of.is) (ltb-true q (x.shot.place + x.shot.len) ends.1) in
      let shown : strip_at ss q ≡ frame_k s.from s.frames s.side (q - s.place) = x.shown ∙ ap (λ (t : Shot). frame_k t.from t.frames t.side (q - t.place)) (sym of.is) in
      ap (frame_shown (table_of events)) shown
      ∙ (event_is events e (q - e.place) (known_at (reels_of events) events of.index e (all_known [] events) of.there)
      ∙ sym (shown_at events c q of.index e read of.there on low high))
  | inr x ↦
      ap (frame_shown (table_of events)) x.dark
      ∙ sym (dark_where events c q (λ i f there on low high.
      let s : Shot = shot_of (reels_of events) f in
      let in_list : Contains ss s = are.all s (there_in_map (shot_of (reels_of events)) events i f there) on in
      both_ways (lasts s q) (x.none s in_list) (and_from (nat_le f.place q) (nat_lt q (f.place + f.len)) (le-leb f.place q low) (lt-ltb q (f.place + f.len) high))))
]
