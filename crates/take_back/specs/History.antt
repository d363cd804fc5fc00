-- Entries, the newest first, that lead to parts, and what the parts were before the newest that names them.
use Rattle.std.proofs.Common.{append_assoc, ◌≡◌, ℕ, zero, suc, ◌≤◌, List, [], ◌∷◌, ◌++◌, Bool, true, false, Option}
use Rattle.std.proofs.Common.{Some, None, Result, Ok, Err, cond, fold, length, map, slice_get, refl, sym, ap, ◌∙◌}
use Rattle.std.proofs.Common.{subst, arith, reverse}
use Rattle.std.proofs.lemmas.List.{map-append}
use Rattle.std.proofs.lemmas.Grind.{reverse_onto}
use Rattle.room_core.specs.History.{after_entry, replay, state_in}
use Rattle.room_core.specs.Machine.{is_above}
use Rattle.room_core.specs.Whole.{Meaning, set_of, whole}
use Rattle.room_core.specs.declared.entry.Entry.{Entry}
use Rattle.take_back.specs.Left.{Leads, is_among, as_own}
use Rattle.take_back.specs.Lists.{none_some, true_false}
use Rattle.take_back.specs.declared.answers.BackDone.{BackDone}
use Rattle.take_back.specs.declared.answers.BackDone.TheVariants.{Own, Plain}
use Rattle.take_back.specs.declared.kept.Former.{Former}

-- these entries, the newest first, each with its answer, lead from an opening to these parts
abbrev pub Comes : {P C D R : Type 0} → Meaning P C D R → List P → List (Entry C × BackDone D) → List P → Type 0
Comes m opening [] ps = opening ≡ ps
Comes m opening (t ∷ ts) ps = (qs : List _) × Comes m opening ts qs × (d : _) × (t.1 ≡ Own d)
    × (whole m qs t.0.call ≡ Ok (ps, d))

-- what a part was before the newest that names it
abbrev pub HasFormer : {P C D R : Type 0} → Meaning P C D R → List P → List (Entry C × BackDone D) → ℕ
    → Former P → Type 0
HasFormer m opening [] x f = ⊥
HasFormer m opening (t ∷ ts) x f =
    cond (is_among (m.names t.0.call) x)
    ((set_of (m.names t.0.call) ≡ f.names) × (qs : List _) × Comes m opening ts qs × (slice_get qs x ≡ Some f.part))
    (HasFormer m opening ts x f)

-- each entry has a number above those of its station before it
abbrev pub Falls : {C A : Type 0} → List (Entry C × A) → Type 0
Falls [] = Unit {0}
Falls (t ∷ ts) = (is_above t.0.station t.0.number (map (λ (u : Entry _ × _). u.0) ts) ≡ true) × Falls ts

ok_is : {S D R : Type 0} (s t : S) (d e : D) (r : Result (S × D) R) → r ≡ Ok (s, d) → r ≡ Ok (t, e) → s ≡ t
ok_is s t d e r h k = let same = sym h ∙ k in Prim.grind (arith, same)

pub one_state : {P C D R : Type 0} (m : Meaning P C D R) (opening : List P) (ts : List (Entry C × BackDone D))
    (ps qs : List P)
    → Comes m opening ts ps → Comes m opening ts qs → ps ≡ qs
one_state m opening [] ps qs h k = sym h ∙ k
one_state m opening (t ∷ ts) ps qs h k =
    let same = one_state m opening ts h.0 k.0 h.1 k.1 in
    let there = subst (λ xs. whole m xs t.0.call ≡ Ok (ps, h.2)) same h.4 in
    ok_is ps qs h.2 k.2 (whole m k.0 t.0.call) there k.4

-- entries that lead on by one more
leads-more : {S C D R : Type 0} (apply : S → C → Result (S × D) R) (s t u : S) (told : List (Entry C × D))
    (e : Entry C) (d : D)
    → Leads apply s told t → apply t e.call ≡ Ok (u, d) → Leads apply s (told ++ (e, d) ∷ []) u
leads-more apply s t u [] e d h k = (u, subst (λ x. apply x e.call ≡ Ok (u, d)) (sym h) k, refl)
leads-more apply s t u (a ∷ told) e d h k = (h.0, h.1, leads-more apply h.0 t u told e d h.2 k)

pub leads-replay : {S C D R : Type 0} (apply : S → C → Result (S × D) R) (s t : S) (told : List (Entry C × D))
    → Leads apply s told t
    → replay apply s (map (λ (a : Entry C × D). a.0) told) ≡ Some t
leads-replay apply s t [] h = ap Some h
leads-replay apply s t (a ∷ told) h =
    ap (λ r. fold (after_entry apply) (state_in r) (map (λ (a : Entry _ × _). a.0) told)) h.1
    ∙ leads-replay apply h.0 t told h.2

no_state : {S C D R : Type 0} (apply : S → C → Result (S × D) R) (entries : List (Entry C))
    → fold (after_entry apply) None entries ≡ None
no_state apply [] = refl
no_state apply (e ∷ es) = no_state apply es

-- a replay has an answer for each entry
pub record Answered {S C D R : Type 0} (apply : S → C → Result (S × D) R) (s : S) (entries : List (Entry C))
    (t : S) : Type 0 where
  pub answers : List (Entry C × D)
  pub leads : Leads apply s answers t
  pub same : map (λ (a : Entry C × D). a.0) answers ≡ entries

answered-next : {S C D R : Type 0} (apply : S → C → Result (S × D) R) (s t : S) (e : Entry C) (es : List (Entry C))
    (r : Result (S × D) R) → apply s e.call ≡ r
    → fold (after_entry apply) (state_in r) es ≡ Some t
    → ((u : S) → replay apply u es ≡ Some t → Answered apply u es t) → Answered apply s (e ∷ es) t
answered-next apply s t e es (Ok (u, d)) is comes rest =
    let later = rest u comes in
    record { answers = (e, d) ∷ later.answers; leads = (u, is, later.leads); same = ap (λ xs. e ∷ xs) later.same }
answered-next apply s t e es (Err r) is comes rest = none_some t (sym (no_state apply es) ∙ comes)

pub answered : {S C D R : Type 0} (apply : S → C → Result (S × D) R) (s t : S) (entries : List (Entry C))
    → replay apply s entries ≡ Some t
    → Answered apply s entries t
answered apply s t [] comes = record { answers = []; leads = Prim.grind (arith, comes); same = refl }
answered apply s t (e ∷ es) comes = answered-next apply s t e es (apply s e.call) refl comes
    (λ u h. answered apply u t es h)

-- entries that come to parts, in their order, with the answers of the object itself
pub record Ordered {P C D R : Type 0} (m : Meaning P C D R) (opening : List P) (ts : List (Entry C × BackDone D))
    (ps : List P) : Type 0 where
  pub answers : List (Entry C × D)
  pub leads : Leads (whole m) opening answers ps
  pub same : map as_own answers ≡ reverse ts

own_told : {C D : Type 0} (t : Entry C × BackDone D) (d : D) → t.1 ≡ Own d → (t.0, Own d) ≡ t
own_told t d h = ap (λ a. (t.0, a)) (sym h)

pub in_order : {P C D R : Type 0} (m : Meaning P C D R) (opening : List P) (ts : List (Entry C × BackDone D))
    (ps : List P)
    → Comes m opening ts ps → Ordered m opening ts ps
in_order m opening [] ps h = record { answers = []; leads = h; same = refl }
in_order m opening (t ∷ ts) ps h =
    let before = in_order m opening ts h.0 h.1 in
    record {
      answers = before.answers ++ (t.0, h.2) ∷ [];
      leads = leads-more (whole m) opening h.0 ps before.answers t.0 h.2 before.leads h.4;
      same = map-append as_own before.answers ((t.0, h.2) ∷ [])
          ∙ (ap (λ xs. xs ++ as_own (t.0, h.2) ∷ []) before.same
          ∙ (ap (λ x. reverse ts ++ x ∷ []) (own_told t h.2 h.3) ∙ sym (reverse_onto ts t [])));
    }
