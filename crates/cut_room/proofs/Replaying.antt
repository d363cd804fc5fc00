-- A cut that is begun from one that is kept, and gone on from there.
use Rattle.std.proofs.Common.{◌≡◌, ℕ, zero, suc, ◌+◌, ◌-◌, ◌<◌, ◌≤◌, List, [], ◌∷◌, ◌++◌, length, take, drop, Vec, Option, Some, None, Result, Ok, Err, IfOk, IfErr, IsSome, refl, sym, ap, ◌∙◌, arith, subst}
use Rattle.std.specs.Global.{Global}
use Rattle.std.proofs.lemmas.List.{take-take, drop-drop, drop-take, length-append, length-take-le, length-drop, take-append-le}
use Rattle.std.specs.List.{fold}
use Rattle.std.proofs.lemmas.List.Sums.{fold-append}
use Rattle.std.proofs.Math.Seq.{take-add}
use Rattle.room_core.specs.declared.entry.Entry.{Entry}
use Rattle.room_core.specs.History.{after_entry, replay, IsLegal}
use Rattle.room_core.specs.Parts.{AreGood, numbers}
use Rattle.room_core.specs.Projection.{of_station}
use Rattle.room_core.specs.Whole.{Meaning, whole}
use Rattle.edit_journal.specs.Seats.{Begins, Opening}
use Rattle.edit_journal.specs.declared.name.Name.{Name}
use Rattle.edit_journal.specs.Turns.{IsJournal, Known, StandsIn}
use Rattle.edit_journal.specs.Faults.{SaysNoPoint}
use Rattle.edit_journal.specs.declared.log.CopyFault.{CopyFault}
use Rattle.edit_journal.specs.declared.log.CopyFault.TheVariants.{NoPoint, Memory}
use Rattle.history_points.specs.KeptCuts.{IsCutOf}
use Rattle.history_points.specs.Reached.{IsReached}
use Rattle.history_points.specs.Replays.{IsFirstRefused}
use Rattle.history_points.proofs.Renumbered.{comes_further}
use Rattle.cut_room.specs.Rooms.{GoesOn, IsAtPoint, IsCut, Stays}
use Rattle.cut_room.proofs.Journals.{front_applies}
use Rattle.cut_room.proofs.Passes.{comes_to, one_opening}

some_of : {A : Type 0} (o : Option A) → (o ≡ None → ⊥) → IsSome o
some_of None h = absurd (h refl)
some_of (Some a) h = refl

append_again : {A : Type 0} (xs ys zs : List A) → (xs ++ ys) ++ zs ≡ xs ++ (ys ++ zs)
append_again [] ys zs = refl
append_again (x ∷ xs) ys zs = ap (λ l. x ∷ l) (append_again xs ys zs)

-- what begins what begins a list begins it
begins_then : {A : Type 0} (first then_so last : List A) → Begins then_so first → Begins last then_so → Begins last first
begins_then {A} first then_so last a b = (a.0 ++ b.0, b.1 ∙ (ap (λ (l : List A). l ++ b.0) a.1 ∙ append_again first a.0 b.0))

-- the same journal
pub journal_of : {O P C D R : Type 0} (meaning : O → Meaning P C D R) (opens : O → List P → Type 0) (stations : ℕ) (now opening : Option (Opening O P)) (entries log : List (Entry C))
    → now ≡ opening → entries ≡ log → IsJournal meaning opens stations now entries → IsJournal meaning opens stations opening log
journal_of {O} {P} {C} meaning opens stations now opening entries log opened same h =
    subst (λ (o : Option (Opening O P)). IsJournal meaning opens stations o log) opened
    (subst (λ (l : List (Entry C)). IsJournal meaning opens stations now l) same h)

pub stands_there : {O P C D R : Type 0} (meaning : O → Meaning P C D R) (opening : Option (Opening O P)) (entries log : List (Entry C)) (x : Name) (known : List (Entry C))
    → entries ≡ log → StandsIn meaning opening entries x known → StandsIn meaning opening log x known
stands_there {O} {P} {C} meaning opening entries log x known same h = subst (λ (l : List (Entry C)). StandsIn meaning opening l x known) same h

-- a pass that stays twice stays
pub stays_then : {O P C D R : Type 0} (m : Meaning P C D R) (opening : List P) (before between after : Known O P C) → Stays m opening before between → Stays m opening between after
    → Stays m opening before after
stays_then {O} {P} {C} m opening before between after a b = record {
  goes_on = record {
    number_is = b.goes_on.number_is ∙ a.goes_on.number_is;
    opening_is = b.goes_on.opening_is ∙ a.goes_on.opening_is;
    front = begins_then before.entries between.entries after.entries a.goes_on.front b.goes_on.front;
    legal = λ h. b.goes_on.legal (a.goes_on.legal h);
  };
  own = ap (λ n. of_station n after.entries) (sym a.goes_on.number_is) ∙ (b.own ∙ (ap (λ n. of_station n between.entries) a.goes_on.number_is ∙ a.own));
}

-- the entries of a chunk, among those from a point on
pub chunk : {A : Type 0} (all entries rest : List A) (from at next n : ℕ) → from ≤ at → at ≤ next → next ≤ n → entries ≡ take (n - from) (drop from all) → rest ≡ drop (at - from) entries
    → take (next - at) rest ≡ take (next - at) (drop at all)
chunk {A} all entries rest from at next n low high top are is =
    let count : n - from ≡ (at - from) + (n - at) = omega (arith, low, high, top) in
    let there : from + (at - from) ≡ at = omega (arith, low) in
    let behind : rest ≡ take (n - at) (drop at all) =
    is ∙ (ap (λ (l : List A). drop (at - from) l) (are ∙ ap (λ k. take k (drop from all)) count)
    ∙ (drop-take (at - from) (n - at) (drop from all)
    ∙ (ap (λ (l : List A). take (n - at) l) (drop-drop (at - from) from all) ∙ ap (λ k. take (n - at) (drop k all)) there))) in
    ap (λ (l : List A). take (next - at) l) behind ∙ take-take (next - at) (n - at) (drop at all) (omega (arith, high, top))

pub chunk_length : {A : Type 0} (all entries rest : List A) (from at next n : ℕ) → from ≤ at → at ≤ next → next ≤ n → n ≤ length all → entries ≡ take (n - from) (drop from all)
    → rest ≡ drop (at - from) entries → next - at ≤ length rest
chunk_length all entries rest from at next n low high top within are is =
    let count = ap length are in
    let left = ap length is in
    omega (arith, low, high, top, within, count, left, length-drop (at - from) entries, length-drop from all, length-take-le (n - from) (drop from all) (omega (arith, within, low, high, top, length-drop from all)))

-- a history that comes to no state where it goes on comes to none at all
comes_nowhere : {S C D R : Type 0} (apply : S → C → Result (S × D) R) (s t : S) (es fs : List (Entry C)) → replay apply s es ≡ Some t → replay apply t fs ≡ None
    → replay apply s (es ++ fs) ≡ None
comes_nowhere apply s t es fs first none = fold-append (after_entry apply) (Some s) es fs ∙ (ap (λ r. fold (after_entry apply) r fs) first ∙ none)

-- entries up to a later point
further : {A : Type 0} (all : List A) (at next : ℕ) → at ≤ next → take next all ≡ take at all ++ take (next - at) (drop at all)
further {A} all at next high =
    let sum : next ≡ at + (next - at) = omega (arith, high) in
    ap (λ k. take k all) sum ∙ take-add at (next - at) all

module _ {O P C D R : Type 0} (meaning : O → Meaning P C D R) (good : O → ℕ → P → Type 0) (count : O → ℕ) (opening : Option (Opening O P)) where
  -- the opening is the cut at 0
  pub opening_is_cut : (o : Opening O P) (entries : List (Entry C)) → opening ≡ Some o → AreGood (good o.0) (numbers 0 (count o.0)) o.1 → IsCutOf meaning good count opening entries 0 o.1
  opening_is_cut o entries is fine = λ p other.
      subst (λ (q : Opening O P). (replay (whole (meaning q.0)) q.1 (take 0 entries) ≡ Some o.1) × AreGood (good q.0) (numbers 0 (count q.0)) o.1) (one_opening opening o p is other) (refl, fine)

  -- a cut of a list is one of the same list
  pub cut_there : (entries log : List (Entry C)) (point : ℕ) (parts : List P) → entries ≡ log → IsCutOf meaning good count opening entries point parts
      → IsCutOf meaning good count opening log point parts
  cut_there entries log point parts same cut = subst (λ (l : List (Entry C)). IsCutOf meaning good count opening l point parts) same cut

  -- it is reached by a history that has room for those behind it
  pub reached : (opens : O → List P → Type 0) (o : Opening O P) (entries : List (Entry C)) (at next : ℕ) (parts : List P) → opening ≡ Some o → opens o.0 o.1
      → IsLegal (whole (meaning o.0)) o.1 entries → at ≤ next → next ≤ length entries → IsCutOf meaning good count opening entries at parts
      → IsReached (meaning o.0) (opens o.0) (next - at) parts
  reached opens o entries at next parts is can legal high within cut = record {
    opening = o.1;
    entries = take at entries;
    opens_so = can;
    comes = (cut o is).0;
    room = omega (arith, high, within, legal.within, length-take-le at entries (omega (arith, high, within)));
  }

  -- the entries up to a later point apply there
  pub chunk_applies : (o : Opening O P) (entries rest : List (Entry C)) (at next : ℕ) (parts : List P) → opening ≡ Some o → IsLegal (whole (meaning o.0)) o.1 entries → at ≤ next
      → IsCutOf meaning good count opening entries at parts → take (next - at) rest ≡ take (next - at) (drop at entries)
      → IsSome (replay (whole (meaning o.0)) parts (take (next - at) rest))
  chunk_applies o entries rest at next parts is legal high cut same =
      let apply = whole (meaning o.0) in
      let now = comes_to (replay apply o.1 entries) legal.applies in
      subst (λ (l : List (Entry C)). IsSome (replay apply parts l)) (sym same)
      (some_of (replay apply parts (take (next - at) (drop at entries)))
      (λ none. front_applies apply o.1 now.0 entries next now.1
      (ap (λ (l : List (Entry C)). replay apply o.1 l) (further entries at next high) ∙ comes_nowhere apply o.1 parts (take at entries) (take (next - at) (drop at entries)) (cut o is).0 none)))

  -- and what they come to is the cut at that point
  pub cut_on : (o : Opening O P) (entries rest : List (Entry C)) (at next : ℕ) (parts after : List P) → opening ≡ Some o → at ≤ next → IsCutOf meaning good count opening entries at parts
      → take (next - at) rest ≡ take (next - at) (drop at entries) → replay (whole (meaning o.0)) parts (take (next - at) rest) ≡ Some after
      → AreGood (good o.0) (numbers 0 (count o.0)) after → IsCutOf meaning good count opening entries next after
  cut_on o entries rest at next parts after is high cut same comes fine = λ p other.
      let apply = whole (meaning o.0) in
      let all : replay apply o.1 (take next entries) ≡ Some after =
      ap (λ (l : List (Entry C)). replay apply o.1 l) (further entries at next high)
      ∙ comes_further apply o.1 parts after (take at entries) (take (next - at) (drop at entries)) (cut o is).0 (ap (λ (l : List (Entry C)). replay apply parts l) (sym same) ∙ comes) in
      subst (λ (q : Opening O P). (replay (whole (meaning q.0)) q.1 (take next entries) ≡ Some after) × AreGood (good q.0) (numbers 0 (count q.0)) after) (one_opening opening o p is other) (all, fine)

-- of entries that apply none is refused
pub none_refused : {P C D R : Type 0} (m : Meaning P C D R) (from : List P) (entries : List (Entry C)) (n k : ℕ) → IsSome (replay (whole m) from (take n entries))
    → IsFirstRefused m from entries n k → ⊥
none_refused {P} {C} m from entries n k applies refused =
    let now = comes_to (replay (whole m) from (take n entries)) applies in
    front_applies (whole m) from now.0 (take n entries) (k + 1) now.1
    (ap (λ (l : List (Entry C)). replay (whole m) from l) (take-take (k + 1) n entries (omega (arith, refused.within))) ∙ refused.refused)

-- what another list of the same entries begins with
pub longer_point : {A : Type 0} (entries log known : List A) (point : ℕ) → point ≤ length entries → Begins log entries → known ≡ log → point ≤ length known
longer_point entries log known point within front is =
    let more = ap length front.1 in
    let same = ap length is in
    omega (arith, within, more, same, length-append entries front.0)

-- the cut that was gone on to is what the pass knows then comes to
pub cut_given : {O P C D R : Type 0} (m : Meaning P C D R) (opening : List P) (before between after : Known O P C) (n : ℕ) (r : Result (Vec P Global) CopyFault)
    → IsAtPoint m opening before between (length between.entries) → Stays m opening between after → n ≤ length between.entries
    → IfOk r (λ ps. replay (whole m) opening (take n between.entries) ≡ Some ps.items) → IfErr r (λ f. f ≡ Memory) → IsCut m opening n before after r
cut_given {O} {P} {C} m opening before between after n (Ok parts) at on le comes fault =
    let front = on.goes_on.front in
    let more = ap (λ (l : List (Entry C)). length l) front.1 in
    let same : take n after.entries ≡ take n between.entries = ap (λ (l : List (Entry C)). take n l) front.1 ∙ take-append-le n between.entries front.0 le in (
      stays_then m opening before between after at.stays on,
      omega (arith, le, more, length-append between.entries front.0),
      ap (λ (l : List (Entry C)). replay (whole m) opening l) same ∙ comes,
    )
cut_given {O} {P} {C} m opening before between after n (Err f) at on le comes fault =
    let front = on.goes_on.front in
    let more = ap (λ (l : List (Entry C)). length l) front.1 in
    subst (λ (f : CopyFault). IsCut m opening n before after (Err f)) (sym fault)
    (stays_then m opening before between after at.stays on, omega (arith, le, more, length-append between.entries front.0))

-- why entries from one point up to another were not copied, where there are so many
pub no_memory : (f : CopyFault) (from n count : ℕ) → from ≤ n → n ≤ count → SaysNoPoint f from count → SaysNoPoint f n count
no_memory (NoPoint length) from n count low high says = absurd (omega (arith, low, high, says.0))
no_memory Memory from n count low high says = high
