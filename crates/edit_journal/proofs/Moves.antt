-- Each kind of step keeps the rule.
use Rattle.std.proofs.Common.{◌≡◌, ◌≢◌, ◌⊎◌, ℕ, zero, suc, ◌+◌, List, [], ◌∷◌, ◌++◌, length, set, Bool, true, false, true≢false, refl, sym, ap, ◌∙◌, subst, ⊎_elim, inl, inr, arith, append_assoc, Option, Some, None, IsSome, cond, eq-eqb}
use Rattle.std.proofs.lemmas.List.{length-append, append-nil}
use Rattle.std.proofs.lemmas.List.Elements.{filter-append}
use mathlib.Core.Option.{some, some-ne-none, some-injective}
use lib.ListN.{get_elem?}
use Rattle.atomic_table.specs.Table.{keeps, Allows, Splits, Joins, opening}
use Rattle.atomic_table.proofs.Lists.{at_set, at_snoc, set_again}
use Rattle.room_core.specs.declared.entry.Entry.{Entry}
use Rattle.edit_journal.specs.declared.name.Name.{Name}
use Rattle.edit_journal.specs.declared.name.Name.TheVariants.{Part, Station}
use Rattle.edit_journal.specs.declared.view.View.{View}
use Rattle.edit_journal.specs.Seats.{Opening, In, is_same, bears, proj, keeper, nobody, Agrees, Fits, Apart, Kept, Learns, without, forget, noted, left_of, right_of, both_of, added}

off : {A : Type 0} → false ≡ true → A
off e = absurd (true≢false (sym e))

on : {A : Type 0} → true ≡ false → A
on e = absurd (true≢false e)

-- a change of one view
fits_set : {O P C : Type 0} (names : C → List ℕ) (seat : ℕ) (o : Opening O P) (now : List (Entry C)) (views : List (View O P C)) (by : ℕ) (w : View O P C) → ((j : ℕ) (u : View O P C) → j ≢ by → get_elem? views j ≡ some u → Fits names seat o now j u) → Fits names seat o now by w
    → (j : ℕ) (u : View O P C) → get_elem? (set views by w) j ≡ some u → Fits names seat o now j u
fits_set {O} {P} {C} names seat o now views by w others mine j u e =
    ⊎_elim
    (λ (x : (j ≡ by) × (w ≡ u)). subst (λ (y : ℕ × View O P C). Fits names seat o now y.0 y.1) (λ i. (sym x.0 i, x.1 i)) mine)
    (λ (x : (j ≢ by) × (get_elem? views j ≡ some u)). others j u x.0 x.1)
    (at_set views by j w u e)

-- a name that the changed view has, it had before: so names stay apart
apart_set : {O P C : Type 0} (views : List (View O P C)) (by : ℕ) (v w : View O P C) → Apart views → get_elem? views by ≡ some v → ((x : Name) → In x w.names → In x v.names) → Apart (set views by w)
apart_set {O} {P} {C} views by v w apart at less i j u t x eu et iu it =
    ⊎_elim
    (λ (a : (i ≡ by) × (w ≡ u)).
    ⊎_elim
    (λ (b : (j ≡ by) × (w ≡ t)). a.0 ∙ sym b.0)
    (λ (b : (j ≢ by) × (get_elem? views j ≡ some t)). a.0 ∙ apart by j v t x at b.1 (less x (subst (λ (y : View O P C). In x y.names) (sym a.1) iu)) it)
    (at_set views by j w t et))
    (λ (a : (i ≢ by) × (get_elem? views i ≡ some u)).
    ⊎_elim
    (λ (b : (j ≡ by) × (w ≡ t)). apart i by u v x a.1 at iu (less x (subst (λ (y : View O P C). In x y.names) (sym b.1) it)) ∙ sym b.0)
    (λ (b : (j ≢ by) × (get_elem? views j ≡ some t)). apart i j u t x a.1 b.1 iu it)
    (at_set views by j w t et))
    (at_set views by i w u eu)

-- the table at the start
pub begins : {O P C : Type 0} (names : O → C → List ℕ) (o : Opening O P) (xs : List Name) → Kept {O = O} {P = P} {C = C} names (0 ∷ []) (keeper {O = O} {P = P} {C = C} (Some o) xs [] ∷ [])
begins {O} {P} {C} names o xs = (0, o, [], record { count = refl; each = one; apart = same })
  where
    one : (by : ℕ) (v : View O P C) → get_elem? (keeper {O = O} {P = P} {C = C} (Some o) xs [] ∷ []) by ≡ some v → Fits (names o.0) 0 o [] by v
    one zero v e = subst (Fits (names o.0) 0 o [] 0) (some-injective _ _ e) (record { keeps = λ _. (refl, refl); quiet = λ q. on q; same = λ a h. Prim.grind (arith, h); front = ([], refl); knows = λ x h. refl; remembers = λ x a l h. absurd h })
    one (suc by) v e = absurd (some-ne-none v (sym e))

    same : Apart (keeper {O = O} {P = P} {C = C} (Some o) xs [] ∷ [])
    same zero zero u v x eu ev iu iv = refl
    same zero (suc j) u v x eu ev iu iv = absurd (some-ne-none v (sym ev))
    same (suc i) j u v x eu ev iu iv = absurd (some-ne-none u (sym eu))

learns : {O P C : Type 0} (names : O → C → List ℕ) (seat : ℕ) (opening : Opening O P) (log : List (Entry C)) (by n : ℕ) (v : View O P C)
    → Fits (names opening.0) seat opening log by v → n ≡ length log → Learns names v n
learns {O} {P} {C} names seat opening log by n v f is k = (
  is ∙ ap length (sym (f.keeps k).1),
  λ o x a l this inside.
      let r = f.remembers x a l inside in
      subst (λ (h : Opening O P × List (Entry C)). (a ≡ Some h.0) × Agrees (names h.0.0) h.1 x l) (λ i. (sym (f.same o this) i, sym (f.keeps k).1 i)) r,
)

-- a load
pub looks : {O P C : Type 0} (names : O → C → List ℕ) (slots id : ℕ) (v : View O P C) (me : List (ℕ × Unit {0}))
    → Allows {S = Unit {0}} {V = View O P C} (λ s. Kept names s.words s.views) slots id (v, me) 0 (λ n. n)
    (λ n after. (after ≡ (v, me)) × Learns names v n)
looks {O} {P} {C} names slots id v me s h few at fits =
    let r = h.3 in
    let mine = r.each id v at in (
      v,
      keeps,
      tt,
      (h.0, h.1, h.2, record { count = rw r.count refl; each = λ j u e. r.each j u (subst (λ l. get_elem? l j ≡ some u) (set_again s.views id v at) e); apart = subst (λ l. Apart l) (sym (set_again s.views id v at)) r.apart }),
      (refl, rw r.count (learns names h.0 h.1 h.2 id (length h.2) v mine refl)),
    )

not_true : (b : Bool) → (b ≡ true → ⊥) → b ≡ false
not_true true f = absurd (f refl)
not_true false f = refl

skip_one : {C : Type 0} (b : Bool) (c : C) → b ≡ false → cond b (c ∷ []) [] ≡ []
skip_one true c e = on e
skip_one false c e = refl

-- one entry more, that does not bear the name
skips : {C : Type 0} (names : C → List ℕ) (x : Name) (log : List (Entry C)) (c : Entry C) → bears names c x ≡ false → proj names x (log ++ c ∷ []) ≡ proj names x log
skips names x log c off_it = filter-append (λ d. bears names d x) log (c ∷ []) ∙ (ap (λ t. proj names x log ++ t) (skip_one (bears names c x) c off_it) ∙ append-nil (proj names x log))

-- a store, by the journal's seat, of an entry whose names it has
pub adds : {O P C : Type 0} (names : O → C → List ℕ) (slots id : ℕ) (v : View O P C) (me : List (ℕ × Unit {0})) (n : ℕ) (c : Entry C) (o : Opening O P) → v.keeps ≡ true → v.opening ≡ Some o → n ≡ length v.entries → ((x : Name) → bears (names o.0) c x ≡ true → In x v.names)
    → Allows {S = Unit {0}} {V = View O P C} (λ s. Kept names s.words s.views) slots id (v, me) 0 (λ _. n + 1) (λ _ after. after ≡ (added (Some c) v, me))
adds {O} {P} {C} names slots id v me n c o k this count has s h few at fits =
    let r = h.3 in
    let mine = r.each id v at in
    let log = h.2 ++ c ∷ [] in
    let same = (mine.keeps k).1 in
    let has' : ((x : Name) → bears (names h.1.0) c x ≡ true → In x v.names) = subst (λ (p : Opening O P). (x : Name) → bears (names p.0) c x ≡ true → In x v.names) (mine.same o this) has in
    let w = added (Some c) v in (
      w,
      keeps,
      tt,
      (
        h.0,
        h.1,
        log,
        record {
          count = rw r.count (ap (λ m. m ∷ []) (let l = ap length same in omega (arith, length-append h.2 (c ∷ []))));
          each = fits_set (names h.1.0) h.0 h.1 log s.views id w
              (λ j u apart e.
              let f = r.each j u e in
              let no : u.keeps ≡ false = not_true u.keeps (λ q. apart ((f.keeps q).0 ∙ sym (mine.keeps k).0)) in
              record {
                keeps = λ q. on (sym q ∙ no);
                quiet = f.quiet;
                same = f.same;
                front = (f.front.0 ++ c ∷ [], ap (λ l. l ++ c ∷ []) f.front.1 ∙ append_assoc u.entries f.front.0 (c ∷ []));
                knows = λ x i. f.knows x i ∙ sym (skips (names h.1.0) x h.2 c (not_true (bears (names h.1.0) c x) (λ yes. apart (r.apart j id u v x e at i (has' x yes)))));
                remembers = λ x a l i. absurd (subst (λ (rs : List (Name × (Option (Opening O P) × List (Entry C)))). In (x, (a, l)) rs) (f.quiet no) i);
              })
              (record {
                keeps = λ _. ((mine.keeps k).0, ap (λ l. l ++ c ∷ []) same);
                quiet = λ q. on (sym k ∙ q);
                same = mine.same;
                front = ([], ap (λ l. l ++ c ∷ []) (sym same) ∙ sym (append-nil (v.entries ++ c ∷ [])));
                knows = λ x i. ap (λ l. proj (names h.1.0) x (l ++ c ∷ [])) same;
                remembers = λ x a l i. absurd i;
              });
          apart = apart_set s.views id v w r.apart at (λ x i. i);
        },
      ),
      refl,
    )

pub same_name : (n name : Name) → n ≡ name → is_same n name ≡ true
same_name (Part n) name e = subst (λ (m : Name). is_same (Part n) m ≡ true) e (eq-eqb n n refl)
same_name (Station n) name e = subst (λ (m : Name). is_same (Station n) m ≡ true) e (eq-eqb n n refl)

less_step : (b : Bool) (n x : Name) (ms ns : List Name) → (In x ms → In x ns) → In x (cond b ms (n ∷ ms)) → (x ≡ n) ⊎ In x ns
less_step true n x ms ns f i = inr (f i)
less_step false n x ms ns f i = ⊎_elim (λ (e : x ≡ n). inl e) (λ (j : In x ms). inr (f j)) i

pub without_less : (name : Name) (ns : List Name) (x : Name) → In x (without name ns) → In x ns
without_less name [] x i = i
without_less name (n ∷ ns) x i = less_step (is_same n name) n x (without name ns) ns (without_less name ns x) i

gone_step : (b : Bool) (n name x : Name) (ms : List Name) → is_same n name ≡ b → x ≡ name → (In x ms → ⊥) → In x (cond b ms (n ∷ ms)) → ⊥
gone_step true n name x ms e is f i = f i
gone_step false n name x ms e is f i = ⊎_elim (λ (h : x ≡ n). on (sym (same_name n name (sym h ∙ is)) ∙ e)) f i

pub without_gone : (name : Name) (ns : List Name) (x : Name) → x ≡ name → In x (without name ns) → ⊥
without_gone name [] x is i = i
without_gone name (n ∷ ns) x is i = gone_step (is_same n name) n name x (without name ns) refl is (without_gone name ns x is) i

forget_step : {A : Type 0} (b : Bool) (q p : Name × A) (ms ps : List (Name × A)) → (In p ms → In p ps) → In p (cond b ms (q ∷ ms)) → (p ≡ q) ⊎ In p ps
forget_step true q p ms ps f i = inr (f i)
forget_step {A} false q p ms ps f i = ⊎_elim (λ (e : p ≡ q). inl e) (λ (j : In p ms). inr (f j)) i

forget_less : {A : Type 0} (name : Name) (ps : List (Name × A)) (p : Name × A) → In p (forget name ps) → In p ps
forget_less name [] p i = i
forget_less name (q ∷ ps) p i = forget_step (is_same q.0 name) q p (forget name ps) ps (forget_less name ps p) i

-- the element of a longer list, with its place
at_end : {A : Type 0} (l : List A) (a b : A) (j : ℕ) → get_elem? (l ++ a ∷ []) j ≡ some b → (get_elem? l j ≡ some b) ⊎ ((j ≡ length l) × (a ≡ b))
at_end [] a b zero e = inr (refl, some-injective a b e)
at_end [] a b (suc j) e = absurd (some-ne-none b (sym e))
at_end (x ∷ xs) a b zero e = inl e
at_end (x ∷ xs) a b (suc j) e = ⊎_elim (λ h. inl h) (λ t. inr (ap suc t.0, t.1)) (at_end xs a b j e)

-- a split, by the journal's seat, of a name that it has
pub gives : {O P C : Type 0} (names : O → C → List ℕ) (id : ℕ) (v : View O P C) (name : Name) → v.keeps ≡ true → In name v.names → Splits {S = Unit {0}} {V = View O P C} (λ s. Kept names s.words s.views) id v (left_of (Some name) v) (right_of (Some name) v)
gives {O} {P} {C} names id v name k has s h at =
    let r = h.3 in
    let mine = r.each id v at in
    let left = left_of (Some name) v in
    let right = right_of (Some name) v in
    let less = λ (x : Name) (i : In x left.names). without_less name v.names x i in
    -- who else has the name would be the view that gives it
    let clash = λ (i : ℕ) (u : View O P C) (x : Name) (e : get_elem? (set s.views id left) i ≡ some u) (iu : In x u.names) (is : x ≡ name).
    ⊎_elim
    (λ (a : (i ≡ id) × (left ≡ u)). without_gone name v.names x is (subst (λ (y : View O P C). In x y.names) (sym a.1) iu))
    (λ (a : (i ≢ id) × (get_elem? s.views i ≡ some u)). a.0 (r.apart i id u v x a.1 at iu (subst (λ (n : Name). In n v.names) (sym is) has)))
    (at_set s.views id i left u e) in
    let is_name = λ (x : Name) (u : View O P C) (e : right ≡ u) (i : In x u.names). ⊎_elim (λ (q : x ≡ name). q) (λ (no : ⊥). absurd no) (subst (λ (y : View O P C). In x y.names) (sym e) i) in (
      h.0,
      h.1,
      h.2,
      record {
        count = r.count;
        each = λ j u e. ⊎_elim
            (λ was. fits_set (names h.1.0) h.0 h.1 h.2 s.views id left (λ i y _ e'. r.each i y e')
            (record { keeps = mine.keeps; quiet = λ q. on (sym k ∙ q); same = mine.same; front = mine.front; knows = λ x i. mine.knows x (less x i); remembers = λ x a l i. mine.remembers x a l (forget_less name v.remembered (x, (a, l)) i) }) j u was)
            (λ (is : right ≡ u). subst (Fits (names h.1.0) h.0 h.1 h.2 j) is
            (record { keeps = off; quiet = λ _. refl; same = mine.same; front = mine.front; knows = λ x i. ap (proj (names h.1.0) x) (mine.keeps k).1; remembers = λ x a l i. absurd i }))
            (at_snoc (set s.views id left) right u j e);
        apart = λ i j u t x eu et iu it. ⊎_elim
            (λ (a : get_elem? (set s.views id left) i ≡ some u). ⊎_elim
            (λ (b : get_elem? (set s.views id left) j ≡ some t). apart_set s.views id v left r.apart at less i j u t x a b iu it)
            (λ (b : (j ≡ length (set s.views id left)) × (right ≡ t)). absurd (clash i u x a iu (is_name x t b.1 it)))
            (at_end (set s.views id left) right t j et))
            (λ (a : (i ≡ length (set s.views id left)) × (right ≡ u)). ⊎_elim
            (λ (b : get_elem? (set s.views id left) j ≡ some t). absurd (clash j t x b it (is_name x u a.1 iu)))
            (λ (b : (j ≡ length (set s.views id left)) × (right ≡ t)). a.0 ∙ sym b.0)
            (at_end (set s.views id left) right t j et))
            (at_end (set s.views id left) right u i eu);
      },
    )

pub in_append : {A : Type 0} (x : A) (xs ys : List A) → In x (xs ++ ys) → In x xs ⊎ In x ys
in_append x [] ys i = inr i
in_append {A} x (z ∷ xs) ys i = ⊎_elim (λ (e : x ≡ z). inl (inl e)) (λ (j : In x (xs ++ ys)). ⊎_elim (λ (l : In x xs). inl (inr l)) (λ (m : In x ys). inr m) (in_append x xs ys j)) i

noted_in : {A : Type 0} (a : A) (ns : List Name) (x : Name) (b : A) → In (x, b) (noted a ns) → In x ns × (b ≡ a)
noted_in a [] x b i = absurd i
noted_in {A} a (n ∷ ns) x b i = ⊎_elim
    (λ (e : (x, b) ≡ (n, a)). (inl (ap (λ (p : Name × A). p.0) e), ap (λ (p : Name × A). p.1) e))
    (λ (j : In (x, b) (noted a ns)). let t = noted_in a ns x b j in (inr t.0, t.1)) i

known : {A : Type 0} (o : Option A) (a : A) → ((b : A) → o ≡ Some b → b ≡ a) → IsSome o → o ≡ Some a
known None a same is = off is
known (Some b) a same is = ap Some (same b refl)

-- a join, by the journal's seat, of a token that has an opening
pub takes : {O P C : Type 0} (names : O → C → List ℕ) (id : ℕ) (v : View O P C) (other : ℕ) (w : View O P C) → v.keeps ≡ true → IsSome w.opening → Joins {S = Unit {0}} {V = View O P C} (λ s. Kept names s.words s.views) id v other w (both_of v w) nobody
takes {O} {P} {C} names id v other w k alive s h at apart there =
    let r = h.3 in
    let mine = r.each id v at in
    let same = (mine.keeps k).1 in
    let both = both_of v w in
    let was : get_elem? s.views other ≡ some w = ⊎_elim (λ (t : (other ≡ id) × (both ≡ w)). absurd (apart t.0)) (λ (t : (other ≢ id) × (get_elem? s.views other ≡ some w)). t.1) (at_set s.views id other both w there) in
    let theirs = r.each other w was in
    let both_fits : Fits (names h.1.0) h.0 h.1 h.2 id both = record {
      keeps = mine.keeps;
      quiet = λ q. on (sym k ∙ q);
      same = mine.same;
      front = mine.front;
      knows = λ x i. ap (proj (names h.1.0) x) same;
      remembers = λ x a l i. ⊎_elim (λ (j : In (x, (a, l)) v.remembered). mine.remembers x a l j)
          (λ (j : In (x, (a, l)) (noted (w.opening, w.entries) w.names)).
          let t = noted_in (w.opening, w.entries) w.names x (a, l) j in
          subst (λ (p : Option (Opening O P) × List (Entry C)). (p.0 ≡ Some h.1) × Agrees (names h.1.0) h.2 x p.1) (sym t.1)
          (known w.opening h.1 theirs.same alive, record { front = theirs.front; same = theirs.knows x t.0 }))
          (in_append (x, (a, l)) v.remembered (noted (w.opening, w.entries) w.names) i);
    } in
    -- where a view of the new table has a name
    let owner = λ (i : ℕ) (u : View O P C) (x : Name) (e : get_elem? (set (set s.views id both) other nobody) i ≡ some u) (iu : In x u.names).
    ⊎_elim {C = ((i ≡ id) × In x (v.names ++ w.names)) ⊎ ((i ≢ id) × (i ≢ other) × (get_elem? s.views i ≡ some u))}
    (λ (a : (i ≡ other) × (nobody ≡ u)). absurd (subst (λ (y : View O P C). In x y.names) (sym a.1) iu))
    (λ (a : (i ≢ other) × (get_elem? (set s.views id both) i ≡ some u)). ⊎_elim
    (λ (b : (i ≡ id) × (both ≡ u)). inl (b.0, subst (λ (y : View O P C). In x y.names) (sym b.1) iu))
    (λ (b : (i ≢ id) × (get_elem? s.views i ≡ some u)). inr (b.0, a.0, b.1))
    (at_set s.views id i both u a.1))
    (at_set (set s.views id both) other i nobody u e) in
    let none = λ (i : ℕ) (u : View O P C) (x : Name) (out : (i ≢ id) × (i ≢ other) × (get_elem? s.views i ≡ some u)) (iu : In x u.names) (have : In x (v.names ++ w.names)).
    ⊎_elim (λ (a : In x v.names). out.0 (r.apart i id u v x out.2 at iu a)) (λ (a : In x w.names). out.1 (r.apart i other u w x out.2 was iu a)) (in_append x v.names w.names have) in (
      h.0,
      h.1,
      h.2,
      record {
        count = r.count;
        each = fits_set (names h.1.0) h.0 h.1 h.2 (set s.views id both) other nobody
            (λ j u _ e. fits_set (names h.1.0) h.0 h.1 h.2 s.views id both (λ i y _ e'. r.each i y e') both_fits j u e)
            (record { keeps = off; quiet = λ _. refl; same = λ a e. Prim.grind (arith, e); front = (h.2, refl); knows = λ x i. absurd i; remembers = λ x a l i. absurd i });
        apart = λ i j u t x eu et iu it. ⊎_elim
            (λ (a : (i ≡ id) × In x (v.names ++ w.names)). ⊎_elim
            (λ (b : (j ≡ id) × In x (v.names ++ w.names)). a.0 ∙ sym b.0)
            (λ (b : (j ≢ id) × (j ≢ other) × (get_elem? s.views j ≡ some t)). absurd (none j t x b it a.1))
            (owner j t x et it))
            (λ (a : (i ≢ id) × (i ≢ other) × (get_elem? s.views i ≡ some u)). ⊎_elim
            (λ (b : (j ≡ id) × In x (v.names ++ w.names)). absurd (none i u x a iu b.1))
            (λ (b : (j ≢ id) × (j ≢ other) × (get_elem? s.views j ≡ some t)). r.apart i j u t x a.2 b.2 iu it)
            (owner j t x et it))
            (owner i u x eu iu);
      },
    )
