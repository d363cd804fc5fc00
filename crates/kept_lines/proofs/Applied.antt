-- What is known of a step that is done, where it is a call: it is not refused for its tracks, and a link has at most one item for each of them.
use Rattle.std.proofs.Common.{◌≡◌, ℕ, ◌+◌, ◌≤◌, Bool, true, false, cond, List, [], ◌∷◌, Option, Some, None, Result, Ok, Err, length, is_some, option_map, slice_get, refl, arith}
use Rattle.std.proofs.lemmas.Bool.{and_parts}
use Rattle.std.proofs.lemmas.List.{length-map}
use Rattle.composables.specs.declared.calls.Link3.{Link3}
use Rattle.composables.specs.declared.media.Table.{Table}
use Rattle.composables.specs.declared.refusals.Done.{Done}
use Rattle.composables.specs.declared.refusals.Refusal.{Refusal}
use Rattle.composables.specs.declared.refusals.Refusal.TheVariants.{NoItem}
use Rattle.composables.specs.Answers.{unless}
use Rattle.composables.specs.TrackSets.{tracks_in}
use Rattle.composables.specs.TrackState.{TrackState}
use Rattle.edit_calls.specs.declared.asks.Call.{Call}
use Rattle.edit_calls.specs.declared.asks.Call.TheVariants as call
use Rattle.room_core.specs.Whole.{Meaning, on_whole, picked, set_of, unless_refused, whole, with_picked}
use Rattle.link_groups.specs.Linking.{already_linked, are_there, linked as linked_to, link_named, offsets_differ, or_else}
use Rattle.link_groups.specs.LinkedItems.{item_of}
use Rattle.cut_steps.specs.CutSteps.{CutStep, KeptTrack, StepDone, stepping}
use Rattle.edit_apply.specs.Apply.{editing, names_of, refuse_names_of, track_count}
use Rattle.line_table.specs.CallTexts.{linked}
use Rattle.line_table.proofs.TrackSets.{tracks_in_count}
use Rattle.take_back.specs.Parts.{nows}
use Rattle.take_back.specs.Steps.{applied_to, done_by, names_of as deed_names, refusal_of}
use Rattle.take_back.specs.declared.answers.BackRefusal.TheVariants.{Own as OwnRefusal}
use Rattle.take_back.specs.declared.step.Deed.{Deed}
use Rattle.take_back.specs.declared.step.Deed.TheVariants.{Do, Back}

not_refused : {A R : Type 0} (o : Option R) (r : Result A R) (a : A) → unless_refused o r ≡ Ok a → (o ≡ None) × (r ≡ Ok a)
not_refused None r a h = (refl, h)
not_refused (Some why) r a h = absurd (Prim.grind (arith, h))

named_ok : {P D R : Type 0} (parts : List P) (names : List ℕ) (r : Result (List P × D) R) (a : List P × D) → on_whole parts names r ≡ Ok a → (b : List P × D) × (r ≡ Ok b)
named_ok parts names (Ok b) a h = (b, refl)
named_ok parts names (Err why) a h = absurd (Prim.grind (arith, h))

-- of an object of any kind
pub whole_ok : {P C D R : Type 0} (m : Meaning P C D R) (parts : List P) (c : C) (a : List P × D) → whole m parts c ≡ Ok a
    → (m.refuses c ≡ None) × ((b : List P × D) × (m.applied (picked parts (m.names c)) c ≡ Ok b))
whole_ok m parts c a h =
    let p = not_refused (m.refuses c) (on_whole parts (m.names c) (m.applied (picked parts (m.names c)) c)) a h in
    (p.0, named_ok parts (m.names c) (m.applied (picked parts (m.names c)) c) a p.1)

with_few : {P : Type 0} (o : Option P) (ps : List P) (n : ℕ) → length ps ≤ n → length (with_picked o ps) ≤ n + 1
with_few None ps n h = omega (arith, h)
with_few (Some p) ps n h = omega (arith, h)

picked_few : {P : Type 0} (parts : List P) (names : List ℕ) → length (picked parts names) ≤ length names
picked_few parts [] = omega arith
picked_few parts (n ∷ ns) = omega (arith, with_few (slice_get parts n) (picked parts ns) (length ns) (picked_few parts ns))

-- an item for each track
as_many : (named : List TrackState) (is : List ℕ) → are_there named is ≡ true → length is ≡ length named
as_many [] [] h = refl
as_many [] (i ∷ is) h = absurd (Prim.grind (arith, h))
as_many (t ∷ ts) [] h = absurd (Prim.grind (arith, h))
as_many (t ∷ ts) (i ∷ is) h = let rest : length is ≡ length ts = as_many ts is (and_parts (is_some (item_of t i)) (are_there ts is) h).1 in omega (arith, rest)

link_even : (named : List TrackState) (c : Link3) (a : List TrackState × Done) → link_named named c ≡ Ok a → length c.items ≡ length named
link_even [] c a h = absurd (Prim.grind (arith, h))
link_even (t ∷ ts) c a h = by (are_there (t ∷ ts) c.items) refl h where
  by : (b : Bool) → are_there (t ∷ ts) c.items ≡ b
      → unless (cond b (or_else (offsets_differ (t ∷ ts) c.items) (already_linked (t ∷ ts) c.items)) (Some NoItem)) (linked_to (t ∷ ts) c) ≡ Ok a
      → length c.items ≡ length (t ∷ ts)
  by true e h = as_many (t ∷ ts) c.items e
  by false e h = absurd (Prim.grind (arith, h))

-- on at most as many tracks as it names
few : (table : Table) (named : List TrackState) (c : Call) (b : List TrackState × Done) → length named ≤ length (names_of c) → (editing table).applied named c ≡ Ok b → linked c ≤ 32
few table named (call.Link3 c) b short h =
    let even = link_even named c b h in
    let least : length named ≤ length (tracks_in c.tracks) = short in
    omega (arith, even, least, tracks_in_count c.tracks)
few table named other b short h = omega arith

-- what is known of a deed that was done
abbrev pub IsKnown : Table → Deed Call → Type 0
IsKnown table (Do c) = (refuse_names_of table c ≡ None) × (linked c ≤ 32)
IsKnown table (Back tracks) = Unit {0}

own_none : (o : Option Refusal) → option_map OwnRefusal o ≡ None → o ≡ None
own_none None h = refl
own_none (Some r) h = absurd (Prim.grind (arith, h))

own_done : (names by : ℕ) (ks : List KeptTrack) (r : Result (List TrackState × Done) Refusal) (b : List KeptTrack × StepDone) → done_by names by ks r ≡ Ok b
    → (x : List TrackState × Done) × (r ≡ Ok x)
own_done names by ks (Ok x) b h = (x, refl)
own_done names by ks (Err why) b h = absurd (Prim.grind (arith, h))

known : (table : Table) (by : ℕ) (d : Deed Call) (ks : List KeptTrack) (b : List KeptTrack × StepDone) → refusal_of (track_count table) (refuse_names_of table) d ≡ None
    → length ks ≤ length (deed_names names_of d) → applied_to (editing table) ks by d ≡ Ok b → IsKnown table d
known table by (Do c) ks b none short h =
    let done = own_done (set_of (names_of c)) by ks ((editing table).applied (nows ks) c) b h in
    (own_none (refuse_names_of table c) none, few table (nows ks) c done.0 (omega (arith, length-map ks (λ (k : KeptTrack). k.now), short)) done.1)
known table by (Back tracks) ks b none short h = tt

pub applied : (table : Table) (tracks : List KeptTrack) (s : CutStep) (a : List KeptTrack × StepDone) → whole (stepping table) tracks s ≡ Ok a → IsKnown table s.act
applied table tracks s a h =
    let p = whole_ok (stepping table) tracks s a h in
    known table s.by s.act (picked tracks ((stepping table).names s)) p.1.0 p.0 (picked_few tracks ((stepping table).names s)) p.1.1
