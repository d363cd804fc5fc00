-- Each kind of step keeps the rule.
use Rattle.std.proofs.Common.{◌≡◌, ◌≢◌, ◌⊎◌, ℕ, zero, suc, ◌+◌, ◌<◌, ◌≤◌, List, [], ◌∷◌, ◌++◌, length, set, refl, sym}
use Rattle.std.proofs.Common.{ap, ◌∙◌, subst, ⊎_elim, inl, inr, arith}
use mathlib.Core.Option.{some, some-ne-none, some-injective}
use lib.ListN.{get_elem?}
use Rattle.atomic_table.specs.Table.{keeps, Allows, Splits, Joins, opening}
use Rattle.atomic_table.proofs.Lists.{at_set, at_snoc, at_longer, set_again}
use Rattle.append_receipts.specs.declared.view.Role.{Role}
use Rattle.append_receipts.specs.declared.view.Role.TheVariants.{Clerk, Receipt, Spent}
use Rattle.append_receipts.specs.declared.view.View.{View}
use Rattle.append_receipts.specs.Receipts.{clerk, spent, FitsAs, IsCounted, Counted, with_kept, with_failed, receipt_of}
use Rattle.append_receipts.specs.Receipts.{with_receipt, with_seen, IsInOrder}

-- what the changed view is at its place
at_now : (l : List View) (i : ℕ) (a b : View) → get_elem? l i ≡ some a → get_elem? (set l i b) i ≡ some b
at_now [] i a b e = absurd (some-ne-none a (sym e))
at_now (x ∷ xs) zero a b e = refl
at_now (x ∷ xs) (suc i) a b e = at_now xs i a b e

-- and another is what it was
at_other : (l : List View) (i j : ℕ) (a b : View) → j ≢ i → get_elem? l j ≡ some b → get_elem? (set l i a) j ≡ some b
at_other [] i j a b n e = e
at_other (x ∷ xs) zero zero a b n e = absurd (n refl)
at_other (x ∷ xs) zero (suc j) a b n e = e
at_other (x ∷ xs) (suc i) zero a b n e = e
at_other (x ∷ xs) (suc i) (suc j) a b n e = at_other xs i j a b (λ h. n (ap suc h)) e

-- a change of one view
fits_set : (seat kept failed : ℕ) (views : List View) (by : ℕ) (w : View)
    → ((j : ℕ) (u : View) → j ≢ by → get_elem? views j ≡ some u → FitsAs u.role seat kept failed j u)
    → FitsAs w.role seat kept failed by w
    → (j : ℕ) (u : View) → get_elem? (set views by w) j ≡ some u → FitsAs u.role seat kept failed j u
fits_set seat kept failed views by w others mine j u e =
    ⊎_elim
    (λ (x : (j ≡ by) × (w ≡ u)). subst (λ (y : ℕ × View). FitsAs y.1.role seat kept failed y.0 y.1)
    (λ i. (sym x.0 i, x.1 i)) mine)
    (λ (x : (j ≢ by) × (get_elem? views j ≡ some u)). others j u x.0 x.1)
    (at_set views by j w u e)

-- what the rule says of the clerk
as_clerk : (seat kept failed by : ℕ) (v : View) → v.role ≡ Clerk → FitsAs v.role seat kept failed by v
    → FitsAs Clerk seat kept failed by v
as_clerk seat kept failed by v is f = subst (λ (r : Role). FitsAs r seat kept failed by v) is f

as_receipt : (seat kept failed by : ℕ) (v : View) → v.role ≡ Receipt → FitsAs v.role seat kept failed by v
    → FitsAs Receipt seat kept failed by v
as_receipt seat kept failed by v is f = subst (λ (r : Role). FitsAs r seat kept failed by v) is f

from_clerk : (seat kept failed by : ℕ) (v : View) → v.role ≡ Clerk → FitsAs Clerk seat kept failed by v
    → FitsAs v.role seat kept failed by v
from_clerk seat kept failed by v is f = subst (λ (r : Role). FitsAs r seat kept failed by v) (sym is) f

-- who is not the clerk still fits where the counts have grown
grows_as : (r : Role) (seat kept failed kept' failed' by : ℕ) (v : View) → by ≢ seat → kept ≤ kept' → failed ≤ failed'
    → FitsAs r seat kept failed by v → FitsAs r seat kept' failed' by v
grows_as Clerk seat kept failed kept' failed' by v apart k f h = absurd (apart h.0)
grows_as Receipt seat kept failed kept' failed' by v apart k f h = (omega (arith, h.0, k), omega (arith, h.1, f))
grows_as Spent seat kept failed kept' failed' by v apart k f h = tt

from_receipt : (seat kept failed by : ℕ) (v : View) → v.role ≡ Receipt → FitsAs Receipt seat kept failed by v
    → FitsAs v.role seat kept failed by v
from_receipt seat kept failed by v is f = subst (λ (r : Role). FitsAs r seat kept failed by v) (sym is) f

-- nobody has two roles
not_both : (v : View) → v.role ≡ Receipt → v.role ≡ Clerk → ⊥
not_both v is not = subst IsNotClerk (sym is ∙ not) tt
  where
    IsNotClerk : Role → Type 0
    IsNotClerk Clerk = ⊥
    IsNotClerk Receipt = Unit {0}
    IsNotClerk Spent = Unit {0}

-- the table at the start
pub begins : (kept : ℕ) → Counted (kept ∷ 0 ∷ []) (clerk kept 0 ∷ [])
begins kept = (0, kept, 0, record { words_are = refl; each = each; one = (clerk kept 0, refl, refl) })
  where
    each : (by : ℕ) (v : View) → get_elem? (clerk kept 0 ∷ []) by ≡ some v → FitsAs v.role 0 kept 0 by v
    each zero v e = subst (λ (u : View). FitsAs u.role 0 kept 0 0 u) (some-injective _ _ e)
        (refl, refl, refl, omega arith, omega arith)
    each (suc by) v e = absurd (some-ne-none v (sym e))

-- a store of the first word by the clerk
pub counts_record : (slots id : ℕ) (v : View) (me : List (ℕ × Unit {0})) (n : ℕ) → v.role ≡ Clerk → n ≡ v.kept + 1
    → Allows {S = Unit {0}} {V = View} (λ s. Counted s.words s.views) slots id (v, me) 0 (λ _. n)
    (λ _ after. after ≡ (with_kept v, me))
counts_record slots id v me n is next s h few at fits =
    let r = h.3 in
    let mine = as_clerk h.0 h.1 h.2 id v is (r.each id v at) in
    let w = with_kept v in (
      w,
      keeps,
      tt,
      (
        h.0,
        h.1 + 1,
        h.2,
        record {
          words_are = rw r.words_are (ap (λ m. m ∷ h.2 ∷ []) (omega (arith, next, mine.1)));
          each = fits_set h.0 (h.1 + 1) h.2 s.views id w
              (λ j u apart e. grows_as u.role h.0 h.1 h.2 (h.1 + 1) h.2 j u (λ q. apart (q ∙ sym mine.0)) (omega arith)
              (omega arith) (r.each j u e))
              (from_clerk h.0 (h.1 + 1) h.2 id w is (
                mine.0,
                ap (λ m. m + 1) mine.1,
                mine.2,
                omega
                    (arith, mine.3),
                mine.4,
              ));
          one = (w, subst (λ i. get_elem? (set s.views id w) i ≡ some w) mine.0 (at_now s.views id v w at), is);
        },
      ),
      refl,
    )

-- a store of the second word by the clerk
pub counts_failure : (slots id : ℕ) (v : View) (me : List (ℕ × Unit {0})) (n : ℕ) → v.role ≡ Clerk → n ≡ v.failed + 1
    → Allows {S = Unit {0}} {V = View} (λ s. Counted s.words s.views) slots id (v, me) 1 (λ _. n)
    (λ _ after. after ≡ (with_failed v, me))
counts_failure slots id v me n is next s h few at fits =
    let r = h.3 in
    let mine = as_clerk h.0 h.1 h.2 id v is (r.each id v at) in
    let w = with_failed v in (
      w,
      keeps,
      tt,
      (
        h.0,
        h.1,
        h.2 + 1,
        record {
          words_are = rw r.words_are (ap (λ m. h.1 ∷ m ∷ []) (omega (arith, next, mine.2)));
          each = fits_set h.0 h.1 (h.2 + 1) s.views id w
              (λ j u apart e. grows_as u.role h.0 h.1 h.2 h.1 (h.2 + 1) j u (λ q. apart (q ∙ sym mine.0)) (omega arith)
              (omega arith) (r.each j u e))
              (from_clerk h.0 h.1 (h.2 + 1) id w is (
                mine.0,
                mine.1,
                ap (λ m. m + 1) mine.2,
                mine.3,
                omega
                    (arith, mine.4),
              ));
          one = (w, subst (λ i. get_elem? (set s.views id w) i ≡ some w) mine.0 (at_now s.views id v w at), is);
        },
      ),
      refl,
    )

-- a split by the clerk
pub gives : (id : ℕ) (v : View) → v.role ≡ Clerk → Splits {S = Unit {0}} {V = View} (λ s. Counted s.words s.views) id v
    v (receipt_of v)
gives id v is s h at =
    let r = h.3 in
    let mine = as_clerk h.0 h.1 h.2 id v is (r.each id v at) in
    let same : set s.views id v ≡ s.views = set_again s.views id v at in (
      h.0,
      h.1,
      h.2,
      record {
        words_are = r.words_are;
        each = λ j u e. ⊎_elim
            (λ was. r.each j u (subst (λ l. get_elem? l j ≡ some u) same was))
            (λ (new : receipt_of v ≡ u). subst (λ (x : View). FitsAs x.role h.0 h.1 h.2 j x) new
            (omega (arith, mine.1), omega (arith, mine.2)))
            (at_snoc (set s.views id v) (receipt_of v) u j e);
        one = (
          r.one.0,
          at_longer (set s.views id v) (receipt_of v ∷ []) h.0 r.one.0
              (subst (λ l. get_elem? l h.0 ≡ some r.one.0) (sym same) r.one.1),
          r.one.2,
        );
      },
    )

-- a join, by the clerk, of a receipt
pub takes : (id : ℕ) (v : View) (other : ℕ) (w : View) → v.role ≡ Clerk → w.role ≡ Receipt
    → Joins {S = Unit {0}} {V = View} (λ s. Counted s.words s.views) id v other w (with_receipt v w) spent
takes id v other w is theirs_is s h at apart there =
    let r = h.3 in
    let mine = as_clerk h.0 h.1 h.2 id v is (r.each id v at) in
    let both = with_receipt v w in
    let was : get_elem? s.views other ≡ some w = ⊎_elim (λ (t : (other ≡ id) × (both ≡ w)). absurd (apart t.0))
    (λ (t : (other ≢ id) × (get_elem? s.views other ≡ some w)). t.1) (at_set s.views id other both w there) in
    let theirs = as_receipt h.0 h.1 h.2 other w theirs_is (r.each other w was) in (
      h.0,
      h.1,
      h.2,
      record {
        words_are = r.words_are;
        each = fits_set h.0 h.1 h.2 (set s.views id both) other spent
            (λ j u _ e. fits_set h.0 h.1 h.2 s.views id both (λ i x _ e'. r.each i x e')
            (from_clerk h.0 h.1 h.2 id both is (mine.0, mine.1, mine.2, theirs.0, theirs.1)) j u e)
            tt;
        one = (
          both,
          at_other (set s.views id both) other h.0 spent both (λ q. apart (sym q ∙ sym mine.0))
              (subst (λ i. get_elem? (set s.views id both) i ≡ some both) mine.0 (at_now s.views id v both at)),
          is,
        );
      },
    )

-- a load by the clerk
pub compares : (slots id : ℕ) (v : View) (me : List (ℕ × Unit {0}))
    → Allows {S = Unit {0}} {V = View} (λ s. Counted s.words s.views) slots id (v, me) 0 (λ n. n)
    (λ n after. (after ≡ (v, me)) × IsInOrder v)
compares slots id v me s h few at fits =
    let r = h.3 in (
      v,
      keeps,
      tt,
      (
        h.0,
        h.1,
        h.2,
        record {
          words_are = rw r.words_are refl;
          each = λ j u e. r.each j u (subst (λ l. get_elem? l j ≡ some u) (set_again s.views id v at) e);
          one = (
            r.one.0,
            subst (λ l. get_elem? l h.0 ≡ some r.one.0) (sym (set_again s.views id v at))
                r.one.1,
            r.one.2,
          );
        },
      ),
      (
        refl,
        λ is. let mine = as_clerk h.0 h.1 h.2 id v is (r.each id v at) in
            (omega (arith, mine.1, mine.3), omega (arith, mine.2, mine.4)),
      ),
    )

-- a split of a receipt
pub copies : (id : ℕ) (v : View) → v.role ≡ Receipt → Splits {S = Unit {0}} {V = View} (λ s. Counted s.words s.views) id v
    v (receipt_of v)
copies id v is s h at =
    let r = h.3 in
    let mine = as_receipt h.0 h.1 h.2 id v is (r.each id v at) in
    let same : set s.views id v ≡ s.views = set_again s.views id v at in (
      h.0,
      h.1,
      h.2,
      record {
        words_are = r.words_are;
        each = λ j u e. ⊎_elim
            (λ was. r.each j u (subst (λ l. get_elem? l j ≡ some u) same was))
            (λ (new : receipt_of v ≡ u). subst (λ (x : View). FitsAs x.role h.0 h.1 h.2 j x) new (mine.0, mine.1))
            (at_snoc (set s.views id v) (receipt_of v) u j e);
        one = (
          r.one.0,
          at_longer (set s.views id v) (receipt_of v ∷ []) h.0 r.one.0
              (subst (λ l. get_elem? l h.0 ≡ some r.one.0) (sym same) r.one.1),
          r.one.2,
        );
      },
    )

-- a load by who has a receipt
pub looks : (slots id : ℕ) (v : View) (me : List (ℕ × Unit {0})) → v.role ≡ Receipt
    → Allows {S = Unit {0}} {V = View} (λ s. Counted s.words s.views) slots id (v, me) 0 (λ n. n)
    (λ n after. (after ≡ (with_seen v n, me)) × (v.kept ≤ n))
looks slots id v me is s h few at fits =
    let r = h.3 in
    let mine = as_receipt h.0 h.1 h.2 id v is (r.each id v at) in
    let w = with_seen v h.1 in
    let apart : h.0 ≢ id = λ q. not_both v is
    (subst (λ (u : View). u.role ≡ Clerk) (some-injective _ _ (sym (subst (λ i. get_elem? s.views i ≡ some r.one.0) q r.one.1) ∙ at)) r.one.2) in
    rw r.words_are (
      w,
      keeps,
      tt,
      (
        h.0,
        h.1,
        h.2,
        record {
          words_are = refl;
          each = fits_set h.0 h.1 h.2 s.views id w (λ j u _ e. r.each j u e)
              (from_receipt h.0 h.1 h.2 id w is (omega arith, mine.1));
          one = (r.one.0, at_other s.views id h.0 w r.one.0 apart r.one.1, r.one.2);
        },
      ),
      (refl, mine.0),
    )
