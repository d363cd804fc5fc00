-- The reels of a list: where each name stands, whatever comes in behind it.
use Rattle.std.proofs.Common.{◌≡◌, ℕ, zero, suc, ◌+◌, ◌<◌, ◌≤◌, Bool, true, false, cond, ◌||◌, ◌&&◌, List, [], ◌∷◌, ◌++◌, drop, get_or, length, Option, Some, None, map, nat_le, slice_get, inl, inr, refl, sym, ap, ◌∙◌, subst, arith, append_assoc}
use Rattle.std.specs.List.{list_all, list_any}
use Rattle.std.specs.Str.{IsAscii, IsUtf8, bytes_eq}
use Rattle.std.proofs.lemmas.Bool.{and_parts, leb-true, or_left, or_right, or_cases}
use Rattle.std.proofs.lemmas.List.{drop_more, length-append}
use Rattle.std.proofs.lemmas.Slice.Eq.{bytes_eq-Decides}
use Rattle.std.proofs.lemmas.Str.{IsUtf8-from_ascii}
use Rattle.frame_meaning.specs.declared.cells.What.{What}
use Rattle.frame_meaning.specs.declared.cells.What.TheVariants.{Media as MediaOf}
use Rattle.frame_meaning.specs.declared.frames.Side.{Side}
use Rattle.frame_meaning.specs.declared.frames.Side.TheVariants.{Dark, Pic}
use Rattle.reel_table.specs.ReelNames.{with_name}
use Rattle.reel_names.specs.Names.{is_black, is_printable, is_reel_name}
use Rattle.edl_events.specs.declared.event.Event.{Event}
use Rattle.edl_events.specs.declared.event.FromLine.{FromLine}
use Rattle.composables.specs.declared.media.Table.{Table}
use Rattle.otio_tracks.specs.Clips.{name_at, with_reel as reel_entered}
use Rattle.list_import.specs.declared.shots.Shot.{Shot}
use Rattle.list_import.specs.ListReels.{from_in, reels_behind, shot_of, side_in, with_event, with_from, with_reel, with_reels}

-- ---- a name among names

abbrev pub has : List (List ℕ) → List ℕ → Bool
has reels name = list_any (bytes_eq name) reels

same_name : (name : List ℕ) → bytes_eq name name ≡ true
same_name name = (bytes_eq-Decides name name).1 refl

has_last : (names : List (List ℕ)) (name : List ℕ) → has (names ++ name ∷ []) name ≡ true
has_last [] name = or_left (bytes_eq name name) false (same_name name)
has_last (n ∷ ns) name = or_right (bytes_eq name n) (has (ns ++ name ∷ []) name) (has_last ns name)

has_front : (names more : List (List ℕ)) (name : List ℕ) → has names name ≡ true → has (names ++ more) name ≡ true
has_front [] more name h = absurd cc
has_front (n ∷ ns) more name h = elim (or_cases (bytes_eq name n) (has ns name) h) [
  | inl here ↦ or_left (bytes_eq name n) (has (ns ++ more) name) here
  | inr there ↦ or_right (bytes_eq name n) (has (ns ++ more) name) (has_front ns more name there)
]

or_rest : (b c : Bool) → b ≡ false → (b || c) ≡ true → c ≡ true
or_rest true c e k = absurd cc
or_rest false c e k = k

place_front : (names more : List (List ℕ)) (name : List ℕ) → has names name ≡ true → name_at (names ++ more) name ≡ name_at names name
place_front [] more name h = absurd cc
place_front (n ∷ ns) more name h = by (λ k. place_front ns more name k) (bytes_eq name n) refl where
  by : (has ns name ≡ true → name_at (ns ++ more) name ≡ name_at ns name)
      → (b : Bool) → bytes_eq name n ≡ b → cond b 0 (suc (name_at (ns ++ more) name)) ≡ cond b 0 (suc (name_at ns name))
  by rest true e = refl
  by rest false e = ap suc (rest (or_rest (bytes_eq name n) (has ns name) e h))

place_below : (names : List (List ℕ)) (name : List ℕ) → has names name ≡ true → name_at names name < length names
place_below [] name h = absurd cc
place_below (n ∷ ns) name h = by (λ k. place_below ns name k) (bytes_eq name n) h where
  by : (has ns name ≡ true → name_at ns name < length ns) → (b : Bool) → (b || has ns name) ≡ true → cond b 0 (suc (name_at ns name)) < suc (length ns)
  by rest true k = omega arith
  by rest false k = omega (arith, rest k)

pub place_there : (names : List (List ℕ)) (name : List ℕ) → has names name ≡ true → slice_get names (name_at names name) ≡ Some name
place_there [] name h = absurd cc
place_there (n ∷ ns) name h = by (λ k. place_there ns name k) (bytes_eq name n) refl h where
  by : (has ns name ≡ true → slice_get ns (name_at ns name) ≡ Some name)
      → (b : Bool) → bytes_eq name n ≡ b → (b || has ns name) ≡ true → slice_get (n ∷ ns) (cond b 0 (suc (name_at ns name))) ≡ Some name
  by rest true e k = ap Some (sym ((bytes_eq-Decides name n).0 e))
  by rest false e k = rest k

-- ---- one more

has_own : (names : List (List ℕ)) (name : List ℕ) → has (with_name names name) name ≡ true
has_own names name = by (has names name) refl where
  by : (b : Bool) → has names name ≡ b → has (cond b names (names ++ name ∷ [])) name ≡ true
  by true e = e
  by false e = has_last names name

has_still : (names : List (List ℕ)) (name other : List ℕ) → has names name ≡ true → has (with_name names other) name ≡ true
has_still names name other h = by (has names other) where
  by : (b : Bool) → has (cond b names (names ++ other ∷ [])) name ≡ true
  by true = h
  by false = has_front names (other ∷ []) name h

place_still : (names : List (List ℕ)) (name other : List ℕ) → has names name ≡ true → name_at (with_name names other) name ≡ name_at names name
place_still names name other h = by (has names other) where
  by : (b : Bool) → name_at (cond b names (names ++ other ∷ [])) name ≡ name_at names name
  by true = refl
  by false = place_front names (other ∷ []) name h

-- a new name goes where it is looked for
new_place : (names : List (List ℕ)) (name : List ℕ) → has names name ≡ false → name_at (names ++ name ∷ []) name ≡ name_at names name
new_place [] name none = ap (λ (b : Bool). cond b 0 (suc 0)) (same_name name)
new_place (n ∷ ns) name none = by (λ k. new_place ns name k) (bytes_eq name n) none where
  by : (has ns name ≡ false → name_at (ns ++ name ∷ []) name ≡ name_at ns name)
      → (b : Bool) → (b || has ns name) ≡ false → cond b 0 (suc (name_at (ns ++ name ∷ []) name)) ≡ cond b 0 (suc (name_at ns name))
  by rest true k = absurd cc
  by rest false k = ap suc (rest k)

own_place : (names : List (List ℕ)) (name : List ℕ) → name_at (with_name names name) name ≡ name_at names name
own_place names name = by (has names name) refl where
  by : (b : Bool) → has names name ≡ b → name_at (cond b names (names ++ name ∷ [])) name ≡ name_at names name
  by true e = refl
  by false e = new_place names name e

one_longer : (names : List (List ℕ)) (name : List ℕ) → length (with_name names name) ≤ length names + 1
one_longer names name = by (has names name) where
  by : (b : Bool) → length (cond b names (names ++ name ∷ [])) ≤ length names + 1
  by true = omega arith
  by false = omega (arith, length-append names (name ∷ []))

-- ---- reels, of which black is none

-- a name is there, or is black
abbrev pub is_known : List (List ℕ) → List ℕ → Bool
is_known reels name = is_black name || has reels name

known_own : (reels : List (List ℕ)) (name : List ℕ) → is_known (with_reel reels name) name ≡ true
known_own reels name = by (is_black name) where
  by : (b : Bool) → (b || has (cond b reels (with_name reels name)) name) ≡ true
  by true = refl
  by false = has_own reels name

known_still : (reels : List (List ℕ)) (name other : List ℕ) → is_known reels name ≡ true → is_known (with_reel reels other) name ≡ true
known_still reels name other h = by (is_black name) h where
  more : has reels name ≡ true → (c : Bool) → has (cond c reels (with_name reels other)) name ≡ true
  more k true = k
  more k false = has_still reels name other k

  by : (b : Bool) → (b || has reels name) ≡ true → (b || has (with_reel reels other) name) ≡ true
  by true k = refl
  by false k = more k (is_black other)

side_still : (reels : List (List ℕ)) (name other : List ℕ) (source : ℕ) → is_known reels name ≡ true → side_in (with_reel reels other) name source ≡ side_in reels name source
side_still reels name other source h = by (is_black name) h where
  same : has reels name ≡ true → (c : Bool) → name_at (cond c reels (with_name reels other)) name ≡ name_at reels name
  same k true = refl
  same k false = place_still reels name other k

  by : (b : Bool) → (b || has reels name) ≡ true → cond b Dark (Pic (MediaOf (name_at (with_reel reels other) name)) source) ≡ cond b Dark (Pic (MediaOf (name_at reels name)) source)
  by true k = refl
  by false k = ap (λ (m : ℕ). Pic (MediaOf m) source) (same k (is_black other))

pub reel_longer : (reels : List (List ℕ)) (name : List ℕ) → length (with_reel reels name) ≤ length reels + 1
reel_longer reels name = by (is_black name) where
  by : (b : Bool) → length (cond b reels (with_name reels name)) ≤ length reels + 1
  by true = omega arith
  by false = one_longer reels name

pub from_longer : (reels : List (List ℕ)) (o : Option FromLine) → length (with_from reels o) ≤ length reels + 1
from_longer reels None = omega arith
from_longer reels (Some from) = reel_longer reels from.reel

pub event_longer : (reels : List (List ℕ)) (e : Event) → length (with_event reels e) ≤ length reels + 2
event_longer reels e = omega (arith, reel_longer (with_from reels e.from) e.reel, from_longer reels e.from)

-- what is entered is what is looked for
pub side_entered : (reels new : List (List ℕ)) (name : List ℕ) (n source : ℕ) → is_black name ≡ false → new ≡ with_name reels name → n ≡ name_at reels name → Pic (MediaOf n) source ≡ side_in new name source
side_entered reels new name n source light e at =
    let number : n ≡ name_at new name = at ∙ (sym (own_place reels name) ∙ ap (λ (ns : List (List ℕ)). name_at ns name) (sym e)) in
    ap (λ (m : ℕ). Pic (MediaOf m) source) number
    ∙ ap (λ (b : Bool). cond b Dark (Pic (MediaOf (name_at new name)) source)) (sym light)

-- ---- the sides of an event

-- both reels of an event are there, or black
pub record AreKnown (reels : List (List ℕ)) (e : Event) : Type 0 where
  pub reel : is_known reels e.reel ≡ true
  pub from : (from : FromLine) → e.from ≡ Some from → is_known reels from.reel ≡ true

from_known : (reels : List (List ℕ)) (o : Option FromLine) (from : FromLine) → o ≡ Some from → is_known (with_from reels o) from.reel ≡ true
from_known reels None from e = absurd cc
from_known reels (Some f) from e = let same : f ≡ from = cc in subst (λ (x : FromLine). is_known (with_from reels (Some f)) x.reel ≡ true) same (known_own reels f.reel)

pub event_known : (reels : List (List ℕ)) (e : Event) → AreKnown (with_event reels e) e
event_known reels e = record {
  reel = known_own (with_from reels e.from) e.reel;
  from = λ from is. known_still (with_from reels e.from) from.reel e.reel (from_known reels e.from from is);
}

known_more : (reels : List (List ℕ)) (name : List ℕ) (e : Event) → AreKnown reels e → AreKnown (with_reel reels name) e
known_more reels name e h = record {
  reel = known_still reels e.reel name h.reel;
  from = λ from is. known_still reels from.reel name (h.from from is);
}

known_from : (reels : List (List ℕ)) (o : Option FromLine) (e : Event) → AreKnown reels e → AreKnown (with_from reels o) e
known_from reels None e h = h
known_from reels (Some from) e h = known_more reels from.reel e h

from_still : (reels : List (List ℕ)) (name : List ℕ) (o : Option FromLine) → ((from : FromLine) → o ≡ Some from → is_known reels from.reel ≡ true) → from_in (with_reel reels name) o ≡ from_in reels o
from_still reels name None h = refl
from_still reels name (Some from) h = ap Some (side_still reels from.reel name from.source (h from refl))

-- the outgoing side is as it was when the reel of the event comes in
pub from_entered : (reels : List (List ℕ)) (e : Event) → from_in (with_from reels e.from) e.from ≡ from_in (with_event reels e) e.from
from_entered reels e = sym (from_still (with_from reels e.from) e.reel e.from (from_known reels e.from))

shot_more : (reels : List (List ℕ)) (name : List ℕ) (e : Event) → AreKnown reels e → shot_of (with_reel reels name) e ≡ shot_of reels e
shot_more reels name e h =
    ap (λ (o : Option (Side What)). record { channels = e.channels; place = e.place; len = e.len; from = o; frames = e.frames; side = side_in (with_reel reels name) e.reel e.source })
    (from_still reels name e.from h.from)
    ∙ ap (λ (s : Side What). record { channels = e.channels; place = e.place; len = e.len; from = from_in reels e.from; frames = e.frames; side = s })
    (side_still reels e.reel name e.source h.reel)

shot_from : (reels : List (List ℕ)) (o : Option FromLine) (e : Event) → AreKnown reels e → shot_of (with_from reels o) e ≡ shot_of reels e
shot_from reels None e h = refl
shot_from reels (Some from) e h = shot_more reels from.reel e h

known_event : (reels : List (List ℕ)) (f e : Event) → AreKnown reels e → AreKnown (with_event reels f) e
known_event reels f e h = known_more (with_from reels f.from) f.reel e (known_from reels f.from e h)

shot_event : (reels : List (List ℕ)) (f e : Event) → AreKnown reels e → shot_of (with_event reels f) e ≡ shot_of reels e
shot_event reels f e h = shot_more (with_from reels f.from) f.reel e (known_from reels f.from e h) ∙ shot_from reels f.from e h

-- whatever events come in behind, the event shows what it did, and its reels are there
pub shot_behind : (reels : List (List ℕ)) (es : List Event) (e : Event) → AreKnown reels e → shot_of (reels_behind reels es) e ≡ shot_of reels e
shot_behind reels [] e h = refl
shot_behind reels (f ∷ fs) e h = shot_behind (with_event reels f) fs e (known_event reels f e h) ∙ shot_event reels f e h

pub known_behind : (reels : List (List ℕ)) (es : List Event) (e : Event) → AreKnown reels e → AreKnown (reels_behind reels es) e
known_behind reels [] e h = h
known_behind reels (f ∷ fs) e h = known_behind (with_event reels f) fs e (known_event reels f e h)

abbrev pub AllKnown : List (List ℕ) → List Event → Type 0
AllKnown reels [] = Unit {0}
AllKnown reels (e ∷ es) = AreKnown reels e × AllKnown reels es

pub all_known : (reels : List (List ℕ)) (es : List Event) → AllKnown (reels_behind reels es) es
all_known reels [] = tt
all_known reels (e ∷ es) = (known_behind (with_event reels e) es e (event_known reels e), all_known (with_event reels e) es)

pub known_place : (reels : List (List ℕ)) (name : List ℕ) → is_known reels name ≡ true → is_black name ≡ false → has reels name ≡ true
known_place reels name h light = or_rest (is_black name) (has reels name) light h

pub known_below : (reels : List (List ℕ)) (name : List ℕ) → is_known reels name ≡ true → is_black name ≡ false → name_at reels name < length reels
known_below reels name h light = place_below reels name (known_place reels name h light)

-- ---- a name is a text

ascii_all : (bytes : List ℕ) → list_all is_printable bytes ≡ true → IsAscii bytes
ascii_all [] h i = omega arith
ascii_all (b ∷ bs) h zero =
    let own = (and_parts (is_printable b) (list_all is_printable bs) h).0 in
    let high = leb-true b 126 (and_parts (nat_le 33 b) (nat_le b 126) own).1 in
    omega (arith, high)
ascii_all (b ∷ bs) h (suc i) = ascii_all bs (and_parts (is_printable b) (list_all is_printable bs) h).1 i

pub name_is_text : (name : List ℕ) → is_reel_name name ≡ true → IsUtf8 name
name_is_text name h =
    let parts = and_parts (nat_le 1 (length name) && nat_le (length name) 32) (list_all is_printable name) h in
    IsUtf8-from_ascii name (ascii_all name parts.1)

-- ---- the table, step by step

-- black changes nothing, and is dark
pub table_black : (t : Table) (name : List ℕ) → is_black name ≡ true → t ≡ with_reels t (with_reel t.reels name)
table_black t name h = ap (λ (b : Bool). with_reels t (cond b t.reels (with_name t.reels name))) (sym h)

pub side_black : (reels : List (List ℕ)) (name : List ℕ) (source : ℕ) → is_black name ≡ true → Dark ≡ side_in reels name source
side_black reels name source h = ap (λ (b : Bool). cond b Dark (Pic (MediaOf (name_at reels name)) source)) (sym h)

-- another name is entered
pub table_entered : (old new : Table) (name text : List ℕ) → is_black name ≡ false → text ≡ name → new ≡ reel_entered old text → new ≡ with_reels old (with_reel old.reels name)
table_entered old new name text light same e =
    e ∙ (ap (λ (n : List ℕ). with_reels old (with_name old.reels n)) same
    ∙ ap (λ (b : Bool). with_reels old (cond b old.reels (with_name old.reels name))) (sym light))

pub side_there : (old new : Table) (name text : List ℕ) (n source : ℕ) → is_black name ≡ false → text ≡ name → new ≡ reel_entered old text → n ≡ name_at old.reels text
    → Pic (MediaOf n) source ≡ side_in new.reels name source
side_there old new name text n source light same e at =
    side_entered old.reels new.reels name n source light
    (ap (λ (t : Table). t.reels) e ∙ ap (with_name old.reels) same)
    (at ∙ ap (name_at old.reels) same)

pub table_event : (old mid new : Table) (e : Event) → mid ≡ with_reels old (with_from old.reels e.from) → new ≡ with_reels mid (with_reel mid.reels e.reel) → new ≡ with_reels old (with_event old.reels e)
table_event old mid new e h k = k ∙ ap (λ (t : Table). with_reels t (with_reel t.reels e.reel)) h

pub shot_entered : (old mid new : Table) (e : Event) (from : Option (Side What)) (side : Side What) → mid ≡ with_reels old (with_from old.reels e.from) → new ≡ with_reels mid (with_reel mid.reels e.reel)
    → from ≡ from_in mid.reels e.from → side ≡ side_in new.reels e.reel e.source
    → ◌≡◌ {A = Shot} (record { channels = e.channels; place = e.place; len = e.len; from = from; frames = e.frames; side = side }) (shot_of new.reels e)
shot_entered old mid new e from side h k is_from is_side =
    let middle : mid.reels ≡ with_from old.reels e.from = ap (λ (t : Table). t.reels) h in
    let last : new.reels ≡ with_event old.reels e = ap (λ (t : Table). t.reels) (table_event old mid new e h k) in
    let outgoing : from ≡ from_in new.reels e.from =
    is_from ∙ (ap (λ (rs : List (List ℕ)). from_in rs e.from) middle ∙ (from_entered old.reels e ∙ ap (λ (rs : List (List ℕ)). from_in rs e.from) (sym last))) in
    ap (λ (o : Option (Side What)). record { channels = e.channels; place = e.place; len = e.len; from = o; frames = e.frames; side = side }) outgoing
    ∙ ap (λ (s : Side What). record { channels = e.channels; place = e.place; len = e.len; from = from_in new.reels e.from; frames = e.frames; side = s }) is_side

-- ---- an event more

pub next_reels : (reels new all : List (List ℕ)) (es : List Event) (i : ℕ) (d e : Event) → i < length es → e ≡ get_or es i d → reels_behind reels (drop i es) ≡ all → new ≡ with_event reels e → reels_behind new (drop (i + 1) es) ≡ all
next_reels reels new all es i d e inside there so_far is =
    ap (λ (rs : List (List ℕ)). reels_behind rs (drop (i + 1) es)) is
    ∙ (ap (λ (x : Event). reels_behind (with_event reels x) (drop (i + 1) es)) there
    ∙ (ap (reels_behind reels) (sym (drop_more es i d inside)) ∙ so_far))

pub next_shots : (reels new all : List (List ℕ)) (es : List Event) (i : ℕ) (d e : Event) (shot : Shot) (acc after whole : List Shot) → i < length es → e ≡ get_or es i d
    → reels_behind reels (drop i es) ≡ all → new ≡ with_event reels e → shot ≡ shot_of new e → after ≡ acc ++ shot ∷ [] → acc ++ map (shot_of all) (drop i es) ≡ whole
    → after ++ map (shot_of all) (drop (i + 1) es) ≡ whole
next_shots reels new all es i d e shot acc after whole inside there so_far is shown more done =
    let rest : List Event = drop (i + 1) es in
    let known : AreKnown new e = subst (λ (rs : List (List ℕ)). AreKnown rs e) (sym is) (event_known reels e) in
    let last : reels_behind new rest ≡ all = next_reels reels new all es i d e inside there so_far is in
    let stays : shot ≡ shot_of all e = shown ∙ (sym (shot_behind new rest e known) ∙ ap (λ (rs : List (List ℕ)). shot_of rs e) last) in
    ap (λ (ss : List Shot). ss ++ map (shot_of all) rest) more
    ∙ (append_assoc acc (shot ∷ []) (map (shot_of all) rest)
    ∙ (ap (λ (s : Shot). acc ++ s ∷ map (shot_of all) rest) (stays ∙ ap (shot_of all) there)
    ∙ (ap (λ (xs : List Event). acc ++ map (shot_of all) xs) (sym (drop_more es i d inside)) ∙ done)))
