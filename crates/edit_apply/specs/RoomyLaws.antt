-- The law of an editor as an object that all tracks of a history have room among their numbers for one edit more: each
-- entry raises the next item number of a track by two at most, and link numbers do not run out.
use Rattle.std.proofs.Common.{◌≡◌, ℕ, zero, suc, ◌+◌, ◌*◌, ◌^◌, ◌≤◌, List, [], ◌∷◌, All, fold, length, Option, Some, None, Result, Ok, Err, slice_set, refl, sym, ◌∙◌, arith, subst}
use Rattle.std.proofs.lemmas.List.Elements.{All-cons}
use Rattle.frame_meaning.specs.declared.cells.Cell.{Cell}
use Rattle.composables.specs.declared.media.Table.{Table}
use Rattle.composables.specs.declared.refusals.Refusal.{Refusal}
use Rattle.composables.specs.Answers.{Applied}
use Rattle.composables.specs.Good.{IsGood}
use Rattle.composables.specs.Items.{items_of}
use Rattle.composables.specs.Roomy.{IsRoomy}
use Rattle.composables.specs.TrackState.{TrackState}
use Rattle.edit_splice.proofs.Standing.{all_head, all_none, all_tail}
use Rattle.room_core.specs.declared.entry.Entry.{Entry}
use Rattle.room_core.specs.History.{IsLegal, after_entry, replay, state_in}
use Rattle.room_core.specs.Parts.{numbers}
use Rattle.room_core.specs.Whole.{on_whole, picked, put_back, unless_refused, whole}
use Rattle.room_core.proofs.WholeParts.{roomy_picked}
use Rattle.link_laws.specs.Weights.{NextsWithin}
use Rattle.edit_calls.specs.declared.asks.Call.{Call}
use Rattle.edit_calls.specs.declared.asks.Call.TheVariants as call
use Rattle.edit_apply.specs.Apply.{applied_on, editing, names_of, refuse_names_of, track_count}
use Rattle.edit_apply.specs.LinkLaws.{links-last, tracks-good}
use Rattle.track_laws.proofs.PlainCells.{ArePlain, plain-more, plain-views}
use Rattle.edit_apply.specs.RoomTracks.{IsOpening}
use Rattle.track_laws.proofs.YoungTracks.{AreYoung, IsYoung, all-more, young-dissolve, young-extract, young-fill, young-insert, young-link, young-overwrite, young-remove, young-ripple, young-roll, young-slice, young-slide, young-slip, young-trim, young-undissolve, young-unlink}

-- a call on the named tracks
young_applied : (n : ℕ) (table : Table) (ts : List TrackState) (c : Call) → All (IsYoung n) ts → AreYoung (n + 2) (applied_on table ts c)
young_applied n table ts (call.Overwrite c) h = young-overwrite n table ts c h
young_applied n table ts (call.Insert c) h = young-insert n table ts c h
young_applied n table ts (call.Remove c) h = young-remove n ts c h
young_applied n table ts (call.Extract c) h = young-extract n ts c h
young_applied n table ts (call.Slice c) h = young-slice n ts c h
young_applied n table ts (call.Dissolve c) h = young-dissolve n table ts c h
young_applied n table ts (call.Undissolve c) h = young-undissolve n ts c h
young_applied n table ts (call.Trim c) h = young-trim n table ts c h
young_applied n table ts (call.Slip c) h = young-slip n table ts c h
young_applied n table ts (call.Roll c) h = young-roll n table ts c h
young_applied n table ts (call.Slide c) h = young-slide n table ts c h
young_applied n table ts (call.Fill c) h = young-fill n table ts c h
young_applied n table ts (call.Ripple c) h = young-ripple n table ts c h
young_applied n table ts (call.Link3 c) h = young-link n ts c h
young_applied n table ts (call.Unlink c) h = young-unlink n ts c h

-- and on all: what each track has it keeps where those that are put back have it
pub all-set : (P : TrackState → Type 0) (ts : List TrackState) (i : ℕ) (u : TrackState) → All P ts → P u → All P (slice_set ts i u)
all-set P [] i u h y = h
all-set P (t ∷ ts) zero u h y = All-cons P u ts y (all_tail P t ts h)
all-set P (t ∷ ts) (suc i) u h y = All-cons P t (slice_set ts i u) (all_head P t ts h) (all-set P ts i u (all_tail P t ts h) y)

pub all-put : (P : TrackState → Type 0) (ts : List TrackState) (names : List ℕ) (us : List TrackState) → All P ts → All P us → All P (put_back ts names us)
all-put P ts [] us h k = h
all-put P ts (i ∷ is) [] h k = h
all-put P ts (i ∷ is) (u ∷ us) h k = all-put P (slice_set ts i u) is us (all-set P ts i u h (all_head P u us k)) (all_tail P u us k)

young_whole : (n : ℕ) (ts : List TrackState) (names : List ℕ) (why : Option Refusal) (r : Applied) → All (IsYoung n) ts → AreYoung (n + 2) r
    → AreYoung (n + 2) (unless_refused why (on_whole ts names r))
young_whole n ts names (Some why) r h k = tt
young_whole n ts names None (Ok (us, d)) h k = all-put (IsYoung (n + 2)) ts names us (all-more n (n + 2) ts (omega arith) h) k
young_whole n ts names None (Err r) h k = tt

young_call : (n : ℕ) (table : Table) (ts : List TrackState) (c : Call) → All (IsYoung n) ts → AreYoung (n + 2) (whole (editing table) ts c)
young_call n table ts c h =
    young_whole n ts (names_of c) (refuse_names_of table c) (applied_on table (picked ts (names_of c)) c) h
    (young_applied n table (picked ts (names_of c)) c (roomy_picked (IsYoung n) ts (names_of c) h))

-- a history
pub no_state : {S C D R : Type 0} (apply : S → C → Result (S × D) R) (entries : List (Entry C)) → fold (after_entry apply) None entries ≡ None
no_state apply [] = refl
no_state apply (e ∷ es) = no_state apply es

raised : (n m : ℕ) (qs : List TrackState) → n ≡ m → All (IsYoung n) qs → All (IsYoung m) qs
raised n m qs e h = subst (λ (k : ℕ). All (IsYoung k) qs) e h

young_next : (n : ℕ) (table : Table) (qs : List TrackState) (e : Entry Call) (es : List (Entry Call)) (r : Applied)
    → ((ts : List TrackState) → All (IsYoung (n + 2)) ts → replay (whole (editing table)) ts es ≡ Some qs → All (IsYoung (n + 2 + 2 * length es)) qs)
    → AreYoung (n + 2) r → fold (after_entry (whole (editing table))) (state_in r) es ≡ Some qs → All (IsYoung (n + 2 * length (e ∷ es))) qs
young_next n table qs e es (Ok (ts, d)) later h comes =
    let same : n + 2 + 2 * length es ≡ n + 2 * length (e ∷ es) = omega arith in
    raised (n + 2 + 2 * length es) (n + 2 * length (e ∷ es)) qs same (later ts h comes)
young_next n table qs e es (Err r) later h comes =
    let none = sym (no_state (whole (editing table)) es) ∙ comes in absurd (Prim.grind (arith, none))

young_history : (n : ℕ) (table : Table) (ps qs : List TrackState) (es : List (Entry Call)) → All (IsYoung n) ps
    → replay (whole (editing table)) ps es ≡ Some qs → All (IsYoung (n + 2 * length es)) qs
young_history n table ps qs [] h comes =
    let same : ps ≡ qs = Prim.grind (arith, comes) in
    let e : n ≡ n + 2 * length {A = Entry Call} [] = omega arith in
    raised n (n + 2 * length {A = Entry Call} []) qs e (subst (All (IsYoung n)) same h)
young_history n table ps qs (e ∷ es) h comes =
    young_next n table qs e es (whole (editing table) ps e.call) (λ ts y c. young_history (n + 2) table ts qs es y c) (young_call n table ps e.call h) comes

-- an opening: its cells have the numbers that were given away
plain_good : (table : Table) (t : TrackState) → IsGood table t → ArePlain t.next_item t.cells
plain_good table t g =
    subst (λ (cs : List Cell). ArePlain t.next_item cs) g.kept.whole (plain-views t.next_item (items_of t.cells) g.kept.below)

young_opening : (table : Table) (ts : List TrackState) → All (λ (t : TrackState). t.next_item ≤ 65536) ts → All (λ (t : TrackState). IsGood table t) ts → All (IsYoung 65536) ts
young_opening table [] i g = all_none (IsYoung 65536)
young_opening table (t ∷ ts) i g =
    let item = all_head (λ (t : TrackState). t.next_item ≤ 65536) t ts i in
    All-cons (IsYoung 65536) t ts
    (record { item = item; plain = plain-more t.next_item 65536 t.cells item (plain_good table t (all_head (IsGood table) t ts g)) })
    (young_opening table ts (all_tail (λ (t : TrackState). t.next_item ≤ 65536) t ts i) (all_tail (IsGood table) t ts g))

-- all together
roomy_young : (n : ℕ) (ts : List TrackState) → n ≤ 2 ^ 31 → All (IsYoung n) ts → NextsWithin (2 ^ 31) ts → All IsRoomy ts
roomy_young n [] le h l = all_none IsRoomy
roomy_young n (t ∷ ts) le h l =
    let y = all_head (IsYoung n) t ts h in
    All-cons IsRoomy t ts (record { item = omega (arith, le, y.item); link = l.0 }) (roomy_young n ts le (all_tail (IsYoung n) t ts h) l.1)

-- the tracks that a legal history comes to have room
pub editing-roomy : (table : Table) (ps qs : List TrackState) (entries : List (Entry Call)) → IsOpening table ps → IsLegal (whole (editing table)) ps entries
    → replay (whole (editing table)) ps entries ≡ Some qs → All IsRoomy qs
editing-roomy table ps qs entries opens legal comes =
    let names : List ℕ = numbers 0 (track_count table) in
    let young = young_opening table ps opens.items (tracks-good table names ps opens.good) in
    roomy_young (65536 + 2 * length entries) qs (omega (arith, legal.within)) (young_history 65536 table ps qs entries young comes) (links-last table ps qs entries opens legal.within comes)
