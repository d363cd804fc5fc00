-- Events as they lie on their channels.
use Rattle.std.proofs.Common.{◌≡◌, ℕ, zero, suc, ◌+◌, ◌-◌, ◌<◌, ◌≤◌, Bool, true, false, cond, ◌&&◌, eqb, List, [], ◌∷◌, ◌++◌, Option, Some, None, length, map, get_or, take, nat_le, nat_lt, ◌⊎◌, inl, inr, refl, sym, ap, ◌∙◌, subst, arith}
use Rattle.std.specs.Prelude.{slice_get, IsSome, is_some}
use Rattle.std.specs.List.{range_with_len}
use Rattle.std.proofs.lemmas.Bool.{cases_Bool, cases_lt, and_parts, and_from, cond-false, eq-eqb, eqb-true, le-leb, leb-true, lt-ltb, ltb-true, both_ways, false_from_ne_true}
use Rattle.std.proofs.lemmas.Option.{slice_get_within, slice_get-get_or}
use Rattle.timecode12.specs.declared.counting.TheConstants.{MAX_DAY_FRAMES}
use Rattle.frame_meaning.specs.declared.frames.Frame.{Frame}
use Rattle.frame_meaning.specs.declared.frames.Frame.TheVariants.{Dark}
use Rattle.frame_meaning.specs.RunFrames.{frames_from}
use Rattle.edl_events.specs.declared.channel.Channel.{Channel}
use Rattle.edl_events.specs.declared.channel.Channel.TheVariants.{V, A, A2}
use Rattle.edl_events.specs.declared.event.Event.{Event}
use Rattle.edl_events.specs.Channels.{is_on}
use Rattle.edl_events.specs.Events.{AreEvents, IsEvent}
use Rattle.edl_events.specs.Tape.{covers, event_frame, tape_at}
use Rattle.edl_read.specs.Laying.{AreClearOf, AreLaid, AreStarts, BeginsAt, HaveEnded, start_of, start_with}
use Rattle.edl_read.specs.declared.starts.Starts.{Starts}
use Rattle.edl_read.specs.Overlaps.{AreApart, first_overlap, overlap, record_out}
use Rattle.edl_read.specs.Pieces.{event_frames}
use Rattle.edl_read.specs.ReadLists.{CanBeRead}
use Rattle.edl_read.specs.TapeText.{frames_on}
use Rattle.edl_read.proofs.ApartFacts.{first_none, none_first, overlap_either, overlap_from, overlap_told, read_more}
use Rattle.edl_read.proofs.EventFrames.{dark_later, even_frames, same_frames, two_ranges}

-- ---- one event among others

pub event_at : (es : List Event) (i : ℕ) (e : Event) → AreEvents es → slice_get es i ≡ Some e → IsEvent e
event_at [] i e are h = absurd cc
event_at (f ∷ fs) zero e are h = let same : f ≡ e = cc in subst IsEvent same are.0
event_at (f ∷ fs) (suc i) e are h = event_at fs i e are.1 h

none_at : (es : List Event) (e : Event) (i : ℕ) (f : Event) → first_overlap es e ≡ None → slice_get es i ≡ Some f → overlap f e ≡ false
none_at [] e i f none h = absurd cc
none_at (g ∷ gs) e zero f none h =
    let same : g ≡ f = cc in
    subst (λ (x : Event). overlap x e ≡ false) same (first_none g gs e none).0
none_at (g ∷ gs) e (suc i) f none h = none_at gs e i f (first_none g gs e none).1 h

none_over : (es : List Event) (e : Event) → ((i : ℕ) (f : Event) → slice_get es i ≡ Some f → overlap f e ≡ false) → first_overlap es e ≡ None
none_over [] e h = refl
none_over (g ∷ gs) e h = none_first g gs e (h 0 g refl) (none_over gs e (λ i f at. h (suc i) f at))

-- two that overlap are one
over_same : (es : List Event) (i j : ℕ) (e f : Event) → AreApart es → slice_get es i ≡ Some e → slice_get es j ≡ Some f → overlap e f ≡ true → e ≡ f
over_same [] i j e f apart a b over = absurd cc
over_same (g ∷ gs) zero zero e f apart a b over = cc
over_same (g ∷ gs) zero (suc j) e f apart a b over =
    let same : g ≡ e = cc in
    let off : overlap f e ≡ false = subst (λ (x : Event). overlap f x ≡ false) same (none_at gs g j f apart.0 b) in
    absurd (both_ways (overlap e f) (overlap_either f e off) over)
over_same (g ∷ gs) (suc i) zero e f apart a b over =
    let same : g ≡ f = cc in
    let off : overlap e f ≡ false = subst (λ (x : Event). overlap e x ≡ false) same (none_at gs g i e apart.0 a) in
    absurd (both_ways (overlap e f) off over)
over_same (g ∷ gs) (suc i) (suc j) e f apart a b over = over_same gs i j e f apart.1 a b over

-- and so are two on one channel whose record frames meet
one_event : (es : List Event) (c : Channel) (i j : ℕ) (e f : Event) → CanBeRead es → slice_get es i ≡ Some e → slice_get es j ≡ Some f → is_on c e.channels ≡ true → is_on c f.channels ≡ true
    → e.place < record_out f → f.place < record_out e → e ≡ f
one_event es c i j e f read a b x y low high = over_same es i j e f read.apart a b (overlap_from c e f x y low high)

-- ---- what is shown where

covers_told : (e : Event) (c : Channel) (q : ℕ) → covers e c q ≡ true → (is_on c e.channels ≡ true) × (e.place ≤ q) × (q < record_out e)
covers_told e c q h =
    let both = and_parts (is_on c e.channels) (nat_le e.place q && nat_lt q (e.place + e.len)) h in
    let ends = and_parts (nat_le e.place q) (nat_lt q (e.place + e.len)) both.1 in
    (both.0, leb-true e.place q ends.0, ltb-true q (e.place + e.len) ends.1)

covers_from : (e : Event) (c : Channel) (q : ℕ) → is_on c e.channels ≡ true → e.place ≤ q → q < record_out e → covers e c q ≡ true
covers_from e c q on low high =
    and_from (is_on c e.channels) (nat_le e.place q && nat_lt q (e.place + e.len)) on
    (and_from (nat_le e.place q) (nat_lt q (e.place + e.len)) (le-leb e.place q low) (lt-ltb q (e.place + e.len) high))

-- no event of a channel is at a record frame
abbrev pub AreOff : List Event → Channel → ℕ → Type 0
AreOff es c q = (i : ℕ) (f : Event) → slice_get es i ≡ Some f → is_on c f.channels ≡ true → f.place ≤ q → q < record_out f → ⊥

dark_where : (es : List Event) (c : Channel) (q : ℕ) → AreOff es c q → tape_at es c q ≡ Dark
dark_where [] c q off = refl
dark_where (f ∷ fs) c q off =
    let not_here : covers f c q ≡ false = false_from_ne_true (covers f c q) (λ h. let told = covers_told f c q h in off 0 f refl told.0 told.1 told.2) in
    cond-false (covers f c q) (event_frame f (q - f.place)) (tape_at fs c q) not_here ∙ dark_where fs c q (λ i g at. off (suc i) g at)

shown_where : (es : List Event) (c : Channel) (q i : ℕ) (e : Event) → slice_get es i ≡ Some e → covers e c q ≡ true
    → ((j : ℕ) (f : Event) → slice_get es j ≡ Some f → covers f c q ≡ true → f ≡ e) → tape_at es c q ≡ event_frame e (q - e.place)
shown_where [] c q i e at on only = absurd cc
shown_where (f ∷ fs) c q i e at on only = by (λ k a. shown_where fs c q k e a on (λ j g b o. only (suc j) g b o)) (covers f c q) refl i at where
  by : ((k : ℕ) → slice_get fs k ≡ Some e → tape_at fs c q ≡ event_frame e (q - e.place))
      → (b : Bool) → covers f c q ≡ b → (i : ℕ) → slice_get (f ∷ fs) i ≡ Some e → cond b (event_frame f (q - f.place)) (tape_at fs c q) ≡ event_frame e (q - e.place)
  by rest true h k a = ap (λ (x : Event). event_frame x (q - x.place)) (only 0 f refl h)
  by rest false h zero a = let same : f ≡ e = cc in absurd (both_ways (covers f c q) h (subst (λ (x : Event). covers x c q ≡ true) (sym same) on))
  by rest false h (suc k) a = rest k a

pub shown_at : (es : List Event) (c : Channel) (q i : ℕ) (e : Event) → CanBeRead es → slice_get es i ≡ Some e → is_on c e.channels ≡ true → e.place ≤ q → q < record_out e → tape_at es c q ≡ event_frame e (q - e.place)
shown_at es c q i e read at on low high =
    shown_where es c q i e at (covers_from e c q on low high) (λ j f b o.
    let told = covers_told f c q o in
    one_event es c j i f e read b at told.0 on (omega (arith, told.1, high)) (omega (arith, told.2, low)))

-- ---- one event more

holds : {A : Type 0} (x y : A) → Some x ≡ Some y → x ≡ y
holds x y h = cc

get_front : (es : List Event) (e : Event) (i : ℕ) (f : Event) → slice_get es i ≡ Some f → slice_get (es ++ e ∷ []) i ≡ Some f
get_front [] e i f h = absurd cc
get_front (g ∷ gs) e zero f h = h
get_front (g ∷ gs) e (suc i) f h = get_front gs e i f h

get_last : (es : List Event) (e : Event) → slice_get (es ++ e ∷ []) (length es) ≡ Some e
get_last [] e = refl
get_last (g ∷ gs) e = get_last gs e

-- which of them an event is
which : (es : List Event) (e : Event) (i : ℕ) (f : Event) → slice_get (es ++ e ∷ []) i ≡ Some f → (slice_get es i ≡ Some f) ⊎ ((i ≡ length es) × (e ≡ f))
which [] e zero f h = inr (refl, holds e f h)
which [] e (suc i) f h = absurd cc
which (g ∷ gs) e zero f h = inl h
which (g ∷ gs) e (suc i) f h = elim (which gs e i f h) [
  | inl front ↦ inl front
  | inr last ↦ inr (let k : i ≡ length gs = last.0 in ap suc k, last.1)
]

start_here : (c : Channel) (e : Event) (i : ℕ) (starts : ℕ → Option ℕ) (place : ℕ) → is_on c e.channels ≡ true → place ≡ e.place → start_with c e i starts place ≡ Some i
start_here c e i starts place on at =
    ap (λ (b : Bool). cond b (Some i) (starts place)) (and_from (is_on c e.channels) (eqb place e.place) on (eq-eqb place e.place at))

start_past : (c : Channel) (e : Event) (i : ℕ) (starts : ℕ → Option ℕ) (place : ℕ) → (is_on c e.channels && eqb place e.place) ≡ false → start_with c e i starts place ≡ starts place
start_past c e i starts place h = ap (λ (b : Bool). cond b (Some i) (starts place)) h

begins_more : (c : Channel) (es : List Event) (e : Event) (place i : ℕ) → BeginsAt c es place i → BeginsAt c (es ++ e ∷ []) place i
begins_more c es e place i h = (h.0, get_front es e i h.0 h.1, h.2, h.3)

pub starts_more : (c : Channel) (es : List Event) (e : Event) (old new : ℕ → Option ℕ) → AreStarts c es old → IsEvent e → AreEvents es → first_overlap es e ≡ None
    → ((place : ℕ) → new place ≡ start_with c e (length es) old place) → AreStarts c (es ++ e ∷ []) new
starts_more c es e old new h good are none made = record {
  begins = λ place i at.
      elim (cases_Bool (is_on c e.channels && eqb place e.place)) [
        | inl here ↦
            let both = and_parts (is_on c e.channels) (eqb place e.place) here in
            let same : place ≡ e.place = eqb-true place e.place both.1 in
            let index : length es ≡ i = holds (length es) i (sym (made place ∙ start_here c e (length es) old place both.0 same) ∙ at) in
            (e, subst (λ (k : ℕ). slice_get (es ++ e ∷ []) k ≡ Some e) index (get_last es e), both.0, sym same)
        | inr past ↦ begins_more c es e place i (h.begins place i (sym (made place ∙ start_past c e (length es) old place past) ∙ at))
      ];
  each = λ i f at on.
      elim (which es e i f at) [
        | inl front ↦
            let other : (is_on c e.channels && eqb f.place e.place) ≡ false =
            false_from_ne_true (is_on c e.channels && eqb f.place e.place) (λ same.
            let both = and_parts (is_on c e.channels) (eqb f.place e.place) same in
            let one : f.place ≡ e.place = eqb-true f.place e.place both.1 in
            let own = event_at es i f are front in
            both_ways (overlap f e) (none_at es e i f none front) (overlap_from c f e on both.0 (omega (arith, one, good.filled)) (omega (arith, one, own.filled)))) in
            made f.place ∙ (start_past c e (length es) old f.place other ∙ h.each i f front on)
        | inr last ↦
            let place : f.place ≡ e.place = ap (λ (x : Event). x.place) (sym last.1) in
            let on_own : is_on c e.channels ≡ true = subst (λ (x : Event). is_on c x.channels ≡ true) (sym last.1) on in
            made f.place ∙ (start_here c e (length es) old f.place on_own place ∙ ap (λ (k : ℕ). Some k) (sym last.0))
      ];
}

pub laid_more : (es more : List Event) (e : Event) (p s t p' s' t' : Starts) → AreLaid es p s t → IsEvent e → first_overlap es e ≡ None → more ≡ es ++ e ∷ []
    → ((place : ℕ) → start_of p' place ≡ start_with V e (length es) (start_of p) place) → ((place : ℕ) → start_of s' place ≡ start_with A e (length es) (start_of s) place)
    → ((place : ℕ) → start_of t' place ≡ start_with A2 e (length es) (start_of t) place) → AreLaid more p' s' t'
laid_more es more e p s t p' s' t' h good none is x y z =
    let P : List Event → Type 0 = λ l. AreLaid l p' s' t' in
    subst P (sym is) (record {
      read = read_more es (es ++ e ∷ []) e h.read good none refl;
      picture = starts_more V es e (start_of p) (start_of p') h.picture good h.read.each none x;
      sound = starts_more A es e (start_of s) (start_of s') h.sound good h.read.each none y;
      second_sound = starts_more A2 es e (start_of t) (start_of t') h.second_sound good h.read.each none z;
    })

pub none_begin : (c : Channel) (starts : ℕ → Option ℕ) → ((place : ℕ) → starts place ≡ None) → AreStarts c [] starts
none_begin c starts none = record {
  begins = λ place i at. let n = none place in absurd cc;
  each = λ i e at on. absurd cc;
}

-- ---- the next event of a channel

some_there : (o : Option ℕ) (i : ℕ) → o ≡ Some i → IsSome o
some_there o i h = ap is_some h

-- the event that begins first from a record frame on
pub record IsNext (es : List Event) (c : Channel) (at : ℕ) (e : Event) : Type 0 where
  pub index : ℕ
  pub there : slice_get es index ≡ Some e
  pub on : is_on c e.channels ≡ true
  pub order : at ≤ e.place
  pub first : (i : ℕ) (f : Event) → slice_get es i ≡ Some f → is_on c f.channels ≡ true → at ≤ f.place → e.place ≤ f.place

next_ended : (es : List Event) (c : Channel) (at : ℕ) (e : Event) → CanBeRead es → HaveEnded es c at → IsNext es c at e → HaveEnded es c (record_out e)
next_ended es c at e read ended n i f there on low =
    elim (cases_lt f.place at) [
      | inl before ↦ omega (arith, ended i f there on before, n.order)
      | inr later ↦
          let own = event_at es n.index e read.each n.there in
          let other = event_at es i f read.each there in
          let first = n.first i f there on later in
          let same : e ≡ f = one_event es c n.index i e f read n.there there n.on on (omega (arith, first, other.filled)) low in
          let out : record_out e ≡ record_out f = ap (λ (x : Event). record_out x) same in
          omega (arith, out)
    ]

dark_before : (es : List Event) (c : Channel) (at : ℕ) (e : Event) (q : ℕ) → HaveEnded es c at → IsNext es c at e → at ≤ q → q < e.place → tape_at es c q ≡ Dark
dark_before es c at e q ended n low high =
    dark_where es c q (λ i f there on begun past.
    elim (cases_lt f.place at) [
      | inl before ↦ absurd (omega (arith, ended i f there on before, low, past))
      | inr later ↦ absurd (omega (arith, n.first i f there on later, begun, high))
    ])

dark_after : (es : List Event) (c : Channel) (at q : ℕ) → HaveEnded es c at → ((i : ℕ) (f : Event) → slice_get es i ≡ Some f → is_on c f.channels ≡ true → at ≤ f.place → ⊥) → at ≤ q → tape_at es c q ≡ Dark
dark_after es c at q ended none low =
    dark_where es c q (λ i f there on begun past.
    elim (cases_lt f.place at) [
      | inl before ↦ absurd (omega (arith, ended i f there on before, low, past))
      | inr later ↦ none i f there on later
    ])

pub day_split : (es : List Event) (c : Channel) (at n : ℕ) → at + n ≤ MAX_DAY_FRAMES → frames_on es c at ≡ map (tape_at es c) (range_with_len at n) ++ frames_on es c (at + n)
unfolding frames_on
day_split es c at n h =
    let e : MAX_DAY_FRAMES - at ≡ n + (MAX_DAY_FRAMES - (at + n)) = omega (arith, h) in
    ap (λ (k : ℕ). map (tape_at es c) (range_with_len at k)) e ∙ two_ranges (tape_at es c) at n (MAX_DAY_FRAMES - (at + n))

all_dark : (es : List Event) (c : Channel) (at : ℕ) → ((q : ℕ) → at ≤ q → tape_at es c q ≡ Dark) → frames_on es c at ≡ frames_from Dark (MAX_DAY_FRAMES - at)
unfolding frames_on
all_dark es c at dark = even_frames (tape_at es c) at (MAX_DAY_FRAMES - at) Dark (λ k low. dark (at + k) (omega arith) ∙ sym (dark_later k))

pub day_end : (es : List Event) (c : Channel) → frames_on es c MAX_DAY_FRAMES ≡ []
unfolding frames_on
day_end es c = let e : MAX_DAY_FRAMES - MAX_DAY_FRAMES ≡ 0 = omega arith in ap (λ (k : ℕ). map (tape_at es c) (range_with_len MAX_DAY_FRAMES k)) e

next_frames : (es : List Event) (c : Channel) (at : ℕ) (e : Event) → CanBeRead es → HaveEnded es c at → IsNext es c at e
    → frames_on es c at ≡ frames_from Dark (e.place - at) ++ (event_frames e ++ frames_on es c (e.place + e.len))
next_frames es c at e read ended n =
    let own = event_at es n.index e read.each n.there in
    let gap : ℕ = e.place - at in
    let place : at + gap ≡ e.place = omega (arith, n.order) in
    let before : map (tape_at es c) (range_with_len at gap) ≡ frames_from Dark gap =
    even_frames (tape_at es c) at gap Dark (λ k low. dark_before es c at e (at + k) ended n (omega arith) (omega (arith, low, n.order)) ∙ sym (dark_later k)) in
    let shown : map (tape_at es c) (range_with_len e.place e.len) ≡ event_frames e =
    same_frames (tape_at es c) (event_frame e) e.place 0 e.len (λ k low.
    let past : e.place + k - e.place ≡ 0 + k = omega arith in
    shown_at es c (e.place + k) n.index e read n.there n.on (omega arith) (omega (arith, low)) ∙ ap (event_frame e) past) in
    day_split es c at gap (omega (arith, place, own.place))
    ∙ (ap (λ (fs : List (Frame (List ℕ))). fs ++ frames_on es c (at + gap)) before
    ∙ ap (λ (fs : List (Frame (List ℕ))). frames_from Dark gap ++ fs)
    (ap (frames_on es c) place
    ∙ (day_split es c e.place e.len (omega (arith, own.place))
    ∙ ap (λ (fs : List (Frame (List ℕ))). fs ++ frames_on es c (e.place + e.len)) shown)))

-- what an event is that begins first
pub next_is : (es : List Event) (c : Channel) (starts : ℕ → Option ℕ) (at place i : ℕ) (e : Event) → AreStarts c es starts → starts place ≡ Some i → slice_get es i ≡ Some e → at ≤ place
    → ((q : ℕ) → at ≤ q → IsSome (starts q) → place ≤ q) → IsNext es c at e
next_is es c starts at place i e h begun there order first =
    let b = h.begins place i begun in
    let same : b.0 ≡ e = holds b.0 e (sym b.1 ∙ there) in
    let own : e.place ≡ place = ap (λ (x : Event). x.place) (sym same) ∙ b.3 in
    record {
      index = i;
      there = there;
      on = subst (λ (x : Event). is_on c x.channels ≡ true) same b.2;
      order = omega (arith, order, own);
      first = λ j f at_j on low. let least = first f.place low (some_there (starts f.place) j (h.each j f at_j on)) in omega (arith, least, own);
    }

-- an event begins where there is a start
pub start_within : (es : List Event) (c : Channel) (starts : ℕ → Option ℕ) (place i : ℕ) → AreStarts c es starts → starts place ≡ Some i → i < length es
start_within es c starts place i h begun = let b = h.begins place i begun in slice_get_within es i b.0 b.1

pub record NextShown (es : List Event) (c : Channel) (at : ℕ) (e : Event) : Type 0 where
  pub event : IsEvent e
  pub order : at ≤ e.place
  pub frames : frames_on es c at ≡ frames_from Dark (e.place - at) ++ (event_frames e ++ frames_on es c (e.place + e.len))
  pub ended : HaveEnded es c (e.place + e.len)

pub next_shown : (es : List Event) (c : Channel) (at : ℕ) (e : Event) → CanBeRead es → HaveEnded es c at → IsNext es c at e → NextShown es c at e
next_shown es c at e read ended n = record {
  event = event_at es n.index e read.each n.there;
  order = n.order;
  frames = next_frames es c at e read ended n;
  ended = next_ended es c at e read ended n;
}

pub next_of_starts : (es : List Event) (c : Channel) (starts : ℕ → Option ℕ) (at place i : ℕ) (e : Event) → CanBeRead es → AreStarts c es starts → HaveEnded es c at → (at ≤ place) × (starts place ≡ Some i)
    → slice_get es i ≡ Some e → ((q : ℕ) → at ≤ q → IsSome (starts q) → place ≤ q) → NextShown es c at e
next_of_starts es c starts at place i e read h ended begun there first =
    next_shown es c at e read ended (next_is es c starts at place i e h begun.1 there begun.0 first)

pub none_next : (es : List Event) (c : Channel) (starts : ℕ → Option ℕ) (at : ℕ) → AreStarts c es starts → HaveEnded es c at → ((q : ℕ) → at ≤ q → starts q ≡ None) → frames_on es c at ≡ frames_from Dark (MAX_DAY_FRAMES - at)
none_next es c starts at h ended none =
    all_dark es c at (λ q low. dark_after es c at q ended (λ i f there on later. let n = none f.place later in let s = h.each i f there on in absurd cc) low)

-- ---- the last event that begins up to a record frame

last_same : (es : List Event) (c : Channel) (starts : ℕ → Option ℕ) (place i : ℕ) (e : Event) → AreStarts c es starts → starts place ≡ Some i → slice_get es i ≡ Some e → (e.place ≡ place) × (is_on c e.channels ≡ true)
last_same es c starts place i e h begun there =
    let b = h.begins place i begun in
    let same : b.0 ≡ e = holds b.0 e (sym b.1 ∙ there) in
    (ap (λ (x : Event). x.place) (sym same) ∙ b.3, subst (λ (x : Event). is_on c x.channels ≡ true) same b.2)

pub last_shown : (es : List Event) (c : Channel) (starts : ℕ → Option ℕ) (at place i : ℕ) (e : Event) → CanBeRead es → AreStarts c es starts → starts place ≡ Some i → slice_get es i ≡ Some e → place ≤ at → at < record_out e
    → tape_at es c at ≡ event_frame e (at - e.place)
last_shown es c starts at place i e read h begun there low high =
    let own = last_same es c starts place i e h begun there in
    shown_at es c at i e read there own.1 (omega (arith, own.0, low)) high

pub last_ended : (es : List Event) (c : Channel) (starts : ℕ → Option ℕ) (at place i : ℕ) (e : Event) → CanBeRead es → AreStarts c es starts → starts place ≡ Some i → slice_get es i ≡ Some e → place ≤ at
    → ((q : ℕ) → q ≤ at → IsSome (starts q) → q ≤ place) → record_out e ≤ at → tape_at es c at ≡ Dark
last_ended es c starts at place i e read h begun there low last past =
    let own = last_same es c starts place i e h begun there in
    let good = event_at es i e read.each there in
    dark_where es c at (λ j f there_f on first out.
    let up = last f.place first (some_there (starts f.place) j (h.each j f there_f on)) in
    let same : e ≡ f = one_event es c i j e f read there there_f own.1 on (omega (arith, own.0, low, out)) (omega (arith, up, own.0, good.filled)) in
    let ends : record_out e ≡ record_out f = ap (λ (x : Event). record_out x) same in
    absurd (omega (arith, ends, past, out)))

pub none_last : (es : List Event) (c : Channel) (starts : ℕ → Option ℕ) (at : ℕ) → AreStarts c es starts → ((q : ℕ) → q ≤ at → starts q ≡ None) → tape_at es c at ≡ Dark
none_last es c starts at h none =
    dark_where es c at (λ i f there on first out. let n = none f.place first in let s = h.each i f there on in absurd cc)

-- ---- overlaps

pub clear_off : (es : List Event) (c : Channel) (e : Event) → is_on c e.channels ≡ false → AreClearOf es c e
clear_off es c e off i f there on on_f low = absurd (both_ways (is_on c e.channels) off on)

pub clear_none : (es : List Event) (c : Channel) (starts : ℕ → Option ℕ) (e : Event) (at : ℕ) → AreStarts c es starts → IsEvent e → at ≡ e.place + (e.len - 1) → ((q : ℕ) → q ≤ at → starts q ≡ None) → AreClearOf es c e
clear_none es c starts e at h good is none i f there on on_f low =
    let n = none f.place (omega (arith, is, low, good.filled)) in
    let s = h.each i f there on_f in
    absurd cc

pub clear_last : (es : List Event) (c : Channel) (starts : ℕ → Option ℕ) (e : Event) (at place i : ℕ) (o : Event) → CanBeRead es → AreStarts c es starts → IsEvent e → at ≡ e.place + (e.len - 1)
    → starts place ≡ Some i → slice_get es i ≡ Some o → ((q : ℕ) → q ≤ at → IsSome (starts q) → q ≤ place) → record_out o ≤ e.place → AreClearOf es c e
clear_last es c starts e at place i o read h good is begun there last past j f there_f on on_f low =
    let own = last_same es c starts place i o h begun there in
    let o_good = event_at es i o read.each there in
    let up = last f.place (omega (arith, is, low, good.filled)) (some_there (starts f.place) j (h.each j f there_f on_f)) in
    elim (cases_lt o.place (record_out f)) [
      | inl meets ↦
          let same : o ≡ f = one_event es c i j o f read there there_f own.1 on_f meets (omega (arith, up, own.0, o_good.filled)) in
          let ends : record_out o ≡ record_out f = ap (λ (x : Event). record_out x) same in
          omega (arith, ends, past)
      | inr ended ↦ omega (arith, ended, past, o_good.filled)
    ]

clear_of : (es : List Event) (e : Event) (c : Channel) → AreClearOf es V e → AreClearOf es A e → AreClearOf es A2 e → AreClearOf es c e
clear_of es e V v a a2 = v
clear_of es e A v a a2 = a
clear_of es e A2 v a a2 = a2

pub clear_of_all : (es : List Event) (e : Event) → AreClearOf es V e → AreClearOf es A e → AreClearOf es A2 e → first_overlap es e ≡ None
clear_of_all es e v a a2 =
    none_over es e (λ i f there.
    false_from_ne_true (overlap f e) (λ over.
    let told = overlap_told f e over in
    let ended = clear_of es e told.0 v a a2 i f there told.2 told.1 told.3 in
    absurd (omega (arith, ended, told.4))))

-- each of a list overlaps with none of those before it
pub apart_before : (es : List Event) (i : ℕ) (e : Event) → AreApart es → slice_get es i ≡ Some e → first_overlap (take i es) e ≡ None
apart_before es i e apart there = none_over (take i es) e (λ j f at. off es i j e f apart there at) where
  off : (es : List Event) (i j : ℕ) (e f : Event) → AreApart es → slice_get es i ≡ Some e → slice_get (take i es) j ≡ Some f → overlap f e ≡ false
  off [] i j e f apart there at = absurd cc
  off (g ∷ gs) zero j e f apart there at = absurd cc
  off (g ∷ gs) (suc i) zero e f apart there at =
      let same : g ≡ f = cc in
      subst (λ (x : Event). overlap x e ≡ false) same (overlap_either e g (none_at gs g i e apart.0 there))
  off (g ∷ gs) (suc i) (suc j) e f apart there at = off gs i j e f apart.1 there at

-- no event, and no start
pub none_laid : (v a a2 : Starts) → ((place : ℕ) → start_of v place ≡ None) → ((place : ℕ) → start_of a place ≡ None) → ((place : ℕ) → start_of a2 place ≡ None) → AreLaid [] v a a2
none_laid v a a2 x y z = record {
  read = record { each = tt; apart = tt };
  picture = none_begin V (start_of v) x;
  sound = none_begin A (start_of a) y;
  second_sound = none_begin A2 (start_of a2) z;
}

pub laid_more_at : (es more : List Event) (e : Event) (n : ℕ) (p s t p' s' t' : Starts) → n ≡ length es → AreLaid es p s t → IsEvent e → first_overlap es e ≡ None → more ≡ es ++ e ∷ []
    → ((place : ℕ) → start_of p' place ≡ start_with V e n (start_of p) place) → ((place : ℕ) → start_of s' place ≡ start_with A e n (start_of s) place)
    → ((place : ℕ) → start_of t' place ≡ start_with A2 e n (start_of t) place) → AreLaid more p' s' t'
laid_more_at es more e n p s t p' s' t' count h good none is x y z =
    laid_more es more e p s t p' s' t' h good none is
    (λ place. x place ∙ ap (λ (k : ℕ). start_with V e k (start_of p) place) count)
    (λ place. y place ∙ ap (λ (k : ℕ). start_with A e k (start_of s) place) count)
    (λ place. z place ∙ ap (λ (k : ℕ). start_with A2 e k (start_of t) place) count)

pub last_begins : (es : List Event) (c : Channel) (starts : ℕ → Option ℕ) (at place i : ℕ) (e : Event) → AreStarts c es starts → (place ≤ at) × (starts place ≡ Some i) → slice_get es i ≡ Some e → e.place ≤ at
last_begins es c starts at place i e h begun there = let own = last_same es c starts place i e h begun.1 there in omega (arith, own.0, begun.0)

-- an item of a loop stands in its list
pub item_there : (es : List Event) (i : ℕ) (d e : Event) → i < length es → e ≡ get_or es i d → slice_get es i ≡ Some e
item_there es i d e inside is = slice_get-get_or es i d inside ∙ ap (λ (x : Event). Some x) (sym is)
