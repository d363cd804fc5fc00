-- The cut as it stands: all parts of what a history comes to.
use Rattle.std.proofs.Common.{◌≡◌, ℕ, zero, suc, ◌+◌, ◌-◌, ◌*◌, ◌%◌, ◌^◌, ◌<◌, ◌≤◌, List, [], ◌∷◌, length, take, Bool, true, cond, Vec, Option, Some, None, Result, Ok, Err, slice_get, fold, refl, sym, ap, ◌∙◌, subst, arith}
use Rattle.std.specs.Prelude.{nat_lt, slice_set}
use Rattle.std.specs.Global.{Global}
use Rattle.std.proofs.Math.Nat.{pow-succ'}
use Rattle.std.proofs.lemmas.Nat.{pow_below}
use Rattle.std.proofs.Math.Seq.{take-length}
use Rattle.std.proofs.lemmas.Bool.Decides.{nat_tests}
use Rattle.std.proofs.lemmas.List.{length-set}
use Rattle.room_core.specs.declared.entry.Entry.{Entry}
use Rattle.room_core.specs.History.{after_entry, replay, state_in}
use Rattle.room_core.specs.Parts.{AreGood, AscendBetween, numbers}
use Rattle.room_core.specs.Whole.{Meaning, picked, put_back, set_of, whole, with_picked}
use Rattle.room_core.proofs.WholeParts.{whole_done}
use Rattle.edit_journal.specs.Seats.{Opening}
use Rattle.edit_journal.specs.Turns.{Known}
use Rattle.edit_journal.specs.declared.log.CopyFault.{CopyFault}
use Rattle.edit_journal.specs.declared.log.CopyFault.TheVariants.{NoPoint, Memory}
use Rattle.history_points.specs.KeptCuts.{IsCutOf}
use Rattle.history_points.proofs.NamedCalls.{good-count}
use Rattle.cut_room.specs.Gathered.{ComesTo}
use Rattle.cut_room.specs.Rooms.{IsAtPoint, IsCut, Stays}
use Rattle.cut_room.proofs.Passes.{one_opening}
use Rattle.cut_room.proofs.Replaying.{stays_then}

length-put_back : {P : Type 0} (ps : List P) (names : List ℕ) (ts : List P) → length (put_back ps names ts) ≡ length ps
length-put_back ps [] ts = refl
length-put_back ps (n ∷ ns) [] = refl
length-put_back ps (n ∷ ns) (t ∷ ts) = length-put_back (slice_set ps n t) ns ts ∙ length-set ps n t

no_state : {S C D R : Type 0} (apply : S → C → Result (S × D) R) (entries : List (Entry C)) → fold (after_entry apply) None entries ≡ None
no_state apply [] = refl
no_state apply (e ∷ es) = no_state apply es

many_next : {P C D R : Type 0} (m : Meaning P C D R) (ps rs : List P) (e : Entry C) (es : List (Entry C)) (r : Result (List P × D) R)
    → ((qs : List P) → replay (whole m) qs es ≡ Some rs → length rs ≡ length qs)
    → whole m ps e.call ≡ r → fold (after_entry (whole m)) (state_in r) es ≡ Some rs → length rs ≡ length ps
many_next m ps rs e es (Ok (qs, d)) rest is comes =
    let done = whole_done ps (m.names e.call) (m.refuses e.call) (m.applied (picked ps (m.names e.call)) e.call) qs d is in
    rest qs comes ∙ (ap length (sym done.3) ∙ length-put_back ps (m.names e.call) done.1)
many_next m ps rs e es (Err r) rest is comes = let none = sym (no_state (whole m) es) ∙ comes in absurd (Prim.grind (arith, none))

-- a history leaves as many parts
pub as_many : {P C D R : Type 0} (m : Meaning P C D R) (ps rs : List P) (entries : List (Entry C)) → replay (whole m) ps entries ≡ Some rs → length rs ≡ length ps
as_many m ps rs [] comes = let same : ps ≡ rs = Prim.grind (arith, comes) in ap length (sym same)
as_many m ps rs (e ∷ es) comes = many_next m ps rs e es (whole m ps e.call) (λ qs. as_many m qs rs es) refl comes

one_further : {P : Type 0} (x : P) (xs : List P) (k c : ℕ) → picked (x ∷ xs) (numbers (suc k) c) ≡ picked xs (numbers k c)
one_further x xs k zero = refl
one_further x xs k (suc c) =
    let e : suc k + 1 ≡ suc (k + 1) = omega arith in
    ap (λ l. with_picked (slice_get xs k) l) (ap (λ j. picked (x ∷ xs) (numbers j c)) e ∙ one_further x xs (k + 1) c)

-- all parts are picked by all numbers
pub picked_all : {P : Type 0} (xs : List P) (c : ℕ) → length xs ≡ c → picked xs (numbers 0 c) ≡ xs
picked_all [] zero h = refl
picked_all [] (suc c) h = absurd (omega (arith, h))
picked_all (x ∷ xs) zero h = absurd (omega (arith, h))
picked_all (x ∷ xs) (suc c) h = ap (λ l. x ∷ l) (one_further x xs 0 c ∙ picked_all xs c (omega (arith, h)))

-- numbers from one on ascend
pub ascends : (k c n : ℕ) → k + c ≤ n → AscendBetween k n (numbers k c)
ascends k zero n h = tt
ascends k (suc c) n h = (omega arith, omega (arith, h), ascends (k + 1) c n (omega (arith, h)))

bits : (k c : ℕ) → k + c ≤ 32 → set_of (numbers k c) + 2 ^ k ≡ 2 ^ (k + c)
bits k zero h =
    let e : k ≡ k + 0 = omega arith in
    let power : 2 ^ k ≡ 2 ^ (k + 0) = ap (λ (j : ℕ). 2 ^ j) e in
    omega (arith, power)
bits k (suc c) h =
    let low : nat_lt k 32 ≡ true = Prim.grind (arith, nat_tests, h) in
    let one : set_of (numbers k (suc c)) ≡ 2 ^ k + set_of (numbers (k + 1) c) = ap (λ (b : Bool). cond b (2 ^ k) 0 + set_of (numbers (k + 1) c)) low in
    let rest = bits (k + 1) c (omega (arith, h)) in
    let e : k + 1 ≡ suc k = omega arith in
    let double : 2 ^ (k + 1) ≡ 2 * 2 ^ k = ap (λ (j : ℕ). 2 ^ j) e ∙ pow-succ' 2 k in
    let f : k + 1 + c ≡ k + suc c = omega arith in
    let end : 2 ^ (k + 1 + c) ≡ 2 ^ (k + suc c) = ap (λ (j : ℕ). 2 ^ j) f in
    omega (arith, one, rest, double, end)

-- the set of the first so many numbers
pub set_of_first : (count : ℕ) → count ≤ 32 → set_of (numbers 0 count) + 1 ≡ 2 ^ count
set_of_first count h =
    let e : 0 + count ≡ count = omega arith in
    bits 0 count (omega (arith, h)) ∙ ap (λ (j : ℕ). 2 ^ j) e

-- one less than a power of two, as it is counted in 32 bits
pub below_power : (count set : ℕ) → count < 32 → set + 1 ≡ 2 ^ count → 1 * 2 ^ count % 4294967296 - 1 ≡ set
below_power count set lt is =
    let small : 2 ^ count < 4294967296 = pow_below count 32 lt in
    let same : 1 * 2 ^ count % 4294967296 ≡ 2 ^ count = omega (arith, small) in
    omega (arith, same, is)

module _ {O P C D R : Type 0} (meaning : O → Meaning P C D R) (good : O → ℕ → P → Type 0) (count : O → ℕ) (opening : Option (Opening O P)) (o : Opening O P) where
  -- all parts of what the journal comes to are the cut at its end
  pub standing_cut : (entries : List (Entry C)) (point : ℕ) (ns : List ℕ) (ps : List P) → opening ≡ Some o → AreGood (good o.0) (numbers 0 (count o.0)) o.1
      → ComesTo (meaning o.0) o.1 entries ns ps → ns ≡ numbers 0 (count o.0) → AreGood (good o.0) ns ps → point ≡ length entries
      → IsCutOf meaning good count opening entries point ps
  standing_cut entries point ns ps is fine comes all held at = λ p other.
      let many = as_many (meaning o.0) o.1 comes.now entries comes.comes ∙ good-count (good o.0) (count o.0) o.1 fine in
      let same : comes.now ≡ ps =
      sym (picked_all comes.now (count o.0) many) ∙ (ap (λ l. picked comes.now l) (sym all) ∙ comes.picked_is) in
      let whole_list : take point entries ≡ entries = ap (λ k. take k entries) at ∙ take-length entries in
      let there : replay (whole (meaning o.0)) o.1 (take point entries) ≡ Some ps =
      ap (λ (l : List (Entry C)). replay (whole (meaning o.0)) o.1 l) whole_list ∙ (comes.comes ∙ ap Some same) in
      subst (λ (q : Opening O P). (replay (whole (meaning q.0)) q.1 (take point entries) ≡ Some ps) × AreGood (good q.0) (numbers 0 (count q.0)) ps) (one_opening opening o p is other)
      (there, subst (λ (l : List ℕ). AreGood (good o.0) l ps) all held)

  -- such a cut is one of what the pass knows
  pub cut_given_here : (before after : Known O P C) (n : ℕ) (parts : Vec P Global) → opening ≡ Some o → Stays (meaning o.0) o.1 before after
      → n ≤ length after.entries → IsCutOf meaning good count opening after.entries n parts.items
      → IsCut (meaning o.0) o.1 n before after (Ok parts)
  cut_given_here before after n parts is stays within cut = (stays, within, (cut o is).0)

-- what is answered after a pass stayed is answered
pub cut_then : {O P C D R : Type 0} (m : Meaning P C D R) (opening : List P) (before between after : Known O P C) (n : ℕ) (r : Result (Vec P Global) CopyFault)
    → Stays m opening before between → IsCut m opening n between after r → IsCut m opening n before after r
cut_then m opening before between after n (Ok parts) first cut = (stays_then m opening before between after first cut.0, cut.1, cut.2)
cut_then m opening before between after n (Err (NoPoint count)) first cut =
    (record { stays = stays_then m opening before between after first cut.0.stays; legal = cut.0.legal; point_is = cut.0.point_is }, cut.1)
cut_then m opening before between after n (Err Memory) first cut = (stays_then m opening before between after first cut.0, cut.1)
