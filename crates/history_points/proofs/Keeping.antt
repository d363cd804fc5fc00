-- What is kept stays so: cuts of what begins a history are cuts of the history, and one cut more is kept.
use Rattle.std.proofs.Common.{◌≡◌, ℕ, ◌+◌, ◌<◌, ◌≤◌, List, [], length, take, Bool, true, false, cond, Vec, Option, Some, Result, Ok, Err, IfOk, IsSome, refl, sym, ap, ◌∙◌, arith, subst}
use Rattle.std.specs.BTreeMap.{is_at}
use Rattle.std.specs.Global.{Global}
use Rattle.std.specs.Ordering.{is_eq, is_gt, is_lt, nat_cmp}
use Rattle.std.proofs.lemmas.Bool.Decides.{nat_tests}
use Rattle.std.proofs.lemmas.List.{length-append, take-append-le}
use Rattle.room_core.specs.declared.entry.Entry.{Entry}
use Rattle.room_core.specs.History.{replay}
use Rattle.room_core.specs.Projection.{of_station}
use Rattle.room_core.specs.Whole.{Meaning, whole}
use Rattle.edit_journal.specs.Seats.{Begins, Opening}
use Rattle.edit_journal.specs.Turns.{Known}
use Rattle.history_points.specs.KeptCuts.{IsCutOf, AreKept, kept_at, most_kept}

is_some : {A : Type 0} (o : Option A) (a : A) → o ≡ Some a → IsSome o
is_some o a h = rw h refl

pub same_point : (a b : ℕ) → is_eq (nat_cmp a b) ≡ true → b ≡ a
same_point a b h = grind (arith, nat_tests)

pub not_above : (a b : ℕ) → a ≤ b → is_gt (nat_cmp a b) ≡ false
not_above a b h = grind (arith, nat_tests)

pub not_below : (a b : ℕ) → is_lt (nat_cmp a b) ≡ false → b ≤ a
not_below a b h = grind (arith, nat_tests)

points_step : {A : Type 0} (b : Bool) (new : A) (old : Option A) (Holds : Type 0) → (b ≡ true → Holds) → (IsSome old → Holds) → IsSome (cond b (Some new) old) → Holds
points_step true new old Holds here there some = here refl
points_step false new old Holds here there some = there some

cuts_step : {A : Type 0} (b : Bool) (new a : A) (old : Option A) (Holds : Type 0) → (b ≡ true → new ≡ a → Holds) → (old ≡ Some a → Holds) → cond b (Some new) old ≡ Some a → Holds
cuts_step true new a old Holds here there is = let same : new ≡ a = Prim.grind (arith, is) in here refl same
cuts_step false new a old Holds here there is = there is

module _ {O P C D R : Type 0} (meaning : O → Meaning P C D R) (good : O → ℕ → P → Type 0) (count : O → ℕ) (opening : Option (Opening O P)) where
  -- with no cut there is nothing to say of cuts
  pub nothing_kept : (pass : Known O P C) (cuts : List (ℕ × Vec P Global)) → cuts ≡ [] → of_station pass.number pass.entries ≡ []
      → AreKept meaning good count opening (record { pass = pass; cuts = cuts })
  nothing_kept pass cuts none own =
      subst (λ (l : List (ℕ × Vec P Global)). AreKept meaning good count opening (record { pass = pass; cuts = l })) (sym none)
      record { own = own; points = λ k some. absurd (Prim.grind (arith, some)); cuts = λ k parts is. absurd (Prim.grind (arith, is)); few = omega arith }

  pub cut_further : (entries log : List (Entry C)) (point : ℕ) (parts : List P) → Begins log entries → point ≤ length entries
      → IsCutOf meaning good count opening entries point parts → IsCutOf meaning good count opening log point parts
  cut_further entries log point parts front within cut = λ o is.
      let h = cut o is in
      let same : take point log ≡ take point entries =
      ap (λ (l : List (Entry C)). take point l) front.1 ∙ take-append-le point entries front.0 within in
      (ap (λ (l : List (Entry C)). replay (whole (meaning o.0)) o.1 l) same ∙ h.0, h.1)

  -- the pass knows entries more, and its station has none of them
  pub kept_further : (before after : Known O P C) (cuts : List (ℕ × Vec P Global)) (log : List (Entry C)) → AreKept meaning good count opening (record { pass = before; cuts = cuts })
      → after.number ≡ before.number → after.entries ≡ log → Begins log before.entries → of_station before.number log ≡ of_station before.number before.entries
      → AreKept meaning good count opening (record { pass = after; cuts = cuts })
  kept_further before after cuts log h number entries front own = record {
    own = ap (λ n. of_station n after.entries) number ∙ (ap (λ (l : List (Entry C)). of_station before.number l) entries ∙ (own ∙ h.own));
    points = λ k some.
        let p = h.points k some in
        let longer = ap (λ (l : List (Entry C)). length l) (entries ∙ front.1) in
        omega (arith, longer, length-append before.entries front.0, p);
    cuts = λ k parts is.
        let within = h.points k (is_some (kept_at cuts k) parts is) in
        subst (λ (l : List (Entry C)). IsCutOf meaning good count opening l k parts.items) (sym entries)
        (cut_further before.entries log k parts.items front within (h.cuts k parts is));
    few = h.few;
  }

  -- one cut more
  pub kept_more : (pass : Known O P C) (before after : List (ℕ × Vec P Global)) (point : ℕ) (parts : Vec P Global) → AreKept meaning good count opening (record { pass = pass; cuts = before })
      → length after ≤ most_kept → point ≤ length pass.entries → IsCutOf meaning good count opening pass.entries point parts.items
      → ((k : ℕ) → kept_at after k ≡ cond (is_at (nat_cmp point) k) (Some parts) (kept_at before k))
      → AreKept meaning good count opening (record { pass = pass; cuts = after })
  kept_more pass before after point parts h few within cut is = record {
    own = h.own;
    points = λ k some.
        points_step (is_at (nat_cmp point) k) parts (kept_at before k) (k ≤ length pass.entries)
        (λ at. subst (λ (n : ℕ). n ≤ length pass.entries) (sym (same_point point k at)) within)
        (λ had. h.points k had) (subst (λ (o : Option (Vec P Global)). IsSome o) (is k) some);
    cuts = λ k found there.
        cuts_step (is_at (nat_cmp point) k) parts found (kept_at before k) (IsCutOf meaning good count opening pass.entries k found.items)
        (λ at same. subst (λ (v : Vec P Global). IsCutOf meaning good count opening pass.entries k v.items) same
        (subst (λ (n : ℕ). IsCutOf meaning good count opening pass.entries n parts.items) (sym (same_point point k at)) cut))
        (λ had. h.cuts k found had) (sym (is k) ∙ there);
    few = few;
  }

  -- fewer cuts
  pub kept_fewer : (pass : Known O P C) (before after : List (ℕ × Vec P Global)) → AreKept meaning good count opening (record { pass = pass; cuts = before })
      → length after ≤ most_kept → ((k : ℕ) → IsSome (kept_at after k) → kept_at after k ≡ kept_at before k)
      → AreKept meaning good count opening (record { pass = pass; cuts = after })
  kept_fewer pass before after h few is = record {
    own = h.own;
    points = λ k some. h.points k (subst (λ (o : Option (Vec P Global)). IsSome o) (is k some) some);
    cuts = λ k found there. h.cuts k found (sym (is k (is_some (kept_at after k) found there)) ∙ there);
    few = few;
  }

  -- copies of the parts of a cut
  pub copied_cut : {E : Type 0} (entries : List (Entry C)) (point : ℕ) (parts : List P) (r : Result (Vec P Global) E) → IsCutOf meaning good count opening entries point parts
      → IfOk r (λ v. v.items ≡ parts) → IfOk r (λ v. IsCutOf meaning good count opening entries point v.items)
  copied_cut entries point parts (Ok v) cut same = subst (λ (l : List P). IsCutOf meaning good count opening entries point l) (sym same) cut
  copied_cut entries point parts (Err e) cut same = tt

-- one that is put in is at most one more
pub one_more : (b : Bool) (before after : ℕ) → before < most_kept → after ≡ before + cond b 0 1 → after ≤ most_kept
one_more true before after few is = omega (arith, few, is)
one_more false before after few is = omega (arith, few, is)
