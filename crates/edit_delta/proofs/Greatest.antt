-- The member of a set of deltas that is nearest to the one asked for.
use Rattle.std.proofs.Common.{◌≡◌, ℕ, zero, suc, ◌<◌, ◌≤◌, ◌^◌, ◌⊎◌, inl, inr, Bool, true, false, cond, min, ℤ, pos, negsuc, neg_ℤ, nat_abs, refl, sym, ap, ◌∙◌, arith}
use Rattle.std.proofs.lemmas.Bool.{leb-true, leb-false, le-leb}
use Rattle.std.proofs.Math.Dec.{leb}
use Rattle.edit_delta.specs.Nearest.{AreUpTo, IsNearest, LiesBetween, by_sign, greatest, lies_within, nearest}

-- it is allowed, or 0
greatest_member : (f : ℕ → Bool) (n : ℕ) → (greatest f n ≡ 0) ⊎ (f (greatest f n) ≡ true)
greatest_member f zero = inl refl
greatest_member f (suc n) = by (f (suc n)) refl (greatest_member f n) where
  by : (b : Bool) → f (suc n) ≡ b → (greatest f n ≡ 0) ⊎ (f (greatest f n) ≡ true) → (cond b (suc n) (greatest f n) ≡ 0) ⊎ (f (cond b (suc n) (greatest f n)) ≡ true)
  by true e h = inr e
  by false e h = h

greatest_most : (f : ℕ → Bool) (n : ℕ) → greatest f n ≤ n
greatest_most f zero = omega arith
greatest_most f (suc n) = by (f (suc n)) (greatest_most f n) where
  by : (b : Bool) → greatest f n ≤ n → cond b (suc n) (greatest f n) ≤ suc n
  by true h = omega arith
  by false h = omega (arith, h)

-- and none up to n is greater
greatest_above : (f : ℕ → Bool) (n k : ℕ) → k ≤ n → f k ≡ true → k ≤ greatest f n
greatest_above f zero k le e = omega (arith, le)
greatest_above f (suc n) k le e = by (f (suc n)) refl (greatest_above f n k) where
  not_last : f (suc n) ≡ false → k ≤ n
  not_last none = ⊎_elim2 (order2 k n) where
    order2 : (a b : ℕ) → (a ≤ b) ⊎ (b < a)
    order2 a b = Prim.grind arith

    ⊎_elim2 : (k ≤ n) ⊎ (n < k) → k ≤ n
    ⊎_elim2 (inl h) = h
    ⊎_elim2 (inr h) = let same : suc n ≡ k = omega (arith, h, le) in absurd (differ (sym none ∙ (ap f same ∙ e))) where
      differ : false ≡ true → ⊥
      differ q = cc

  by : (b : Bool) → f (suc n) ≡ b → (k ≤ n → f k ≡ true → k ≤ greatest f n) → k ≤ cond b (suc n) (greatest f n)
  by true h later = le
  by false h later = later (not_last h) e

-- sets with the same deltas have the same
pub greatest-same : (f g : ℕ → Bool) (n : ℕ) → ((k : ℕ) → k ≤ n → f k ≡ g k) → greatest f n ≡ greatest g n
greatest-same f g zero h = refl
greatest-same f g (suc n) h =
    ap (λ (b : Bool). cond b (suc n) (greatest f n)) (h (suc n) (omega arith))
    ∙ ap (λ (k : ℕ). cond (g (suc n)) (suc n) k) (greatest-same f g n (λ k le. h k (omega (arith, le))))

-- up to a bound
pub greatest-within : (b n : ℕ) → greatest (λ k. leb k b) n ≡ min n b
greatest-within b zero = omega arith
greatest-within b (suc n) = by (leb (suc n) b) refl (greatest-within b n) where
  by : (c : Bool) → leb (suc n) b ≡ c → greatest (λ k. leb k b) n ≡ min n b → cond c (suc n) (greatest (λ k. leb k b) n) ≡ min (suc n) b
  by true e h = omega (arith, leb-true (suc n) b e)
  by false e h = omega (arith, h, leb-false (suc n) b e)

-- each set has its nearest member
abbrev earlier_of : (ℤ → Bool) → ℕ → Bool
earlier_of allowed k = allowed (neg_ℤ (pos k))

abbrev later_of : (ℤ → Bool) → ℕ → Bool
later_of allowed k = allowed (pos k)

is_between : (n m : ℕ) → m ≤ suc n → LiesBetween (neg_ℤ (pos m)) (negsuc n)
is_between n zero h = refl
is_between n (suc m) h = omega (arith, h)

size_of_neg : (m : ℕ) → nat_abs (neg_ℤ (pos m)) ≡ m
size_of_neg zero = refl
size_of_neg (suc m) = refl

neg_member : (allowed : ℤ → Bool) (m : ℕ) → (m ≡ 0) ⊎ (allowed (neg_ℤ (pos m)) ≡ true) → (neg_ℤ (pos m) ≡ pos 0) ⊎ (allowed (neg_ℤ (pos m)) ≡ true)
neg_member allowed m (inl e) = inl (ap (λ (k : ℕ). neg_ℤ (pos k)) e)
neg_member allowed m (inr e) = inr e

pos_member : (allowed : ℤ → Bool) (m : ℕ) → (m ≡ 0) ⊎ (allowed (pos m) ≡ true) → (pos m ≡ pos 0) ⊎ (allowed (pos m) ≡ true)
pos_member allowed m (inl e) = inl (ap pos e)
pos_member allowed m (inr e) = inr e

pos_above : (allowed : ℤ → Bool) (n : ℕ) (e : ℤ) → LiesBetween e (pos n) → allowed e ≡ true → nat_abs e ≤ greatest (later_of allowed) n
pos_above allowed n (pos k) between e = greatest_above (later_of allowed) n k between e
pos_above allowed n (negsuc k) between e = absurd between

neg_above : (allowed : ℤ → Bool) (n : ℕ) (e : ℤ) → LiesBetween e (negsuc n) → allowed e ≡ true → nat_abs e ≤ greatest (earlier_of allowed) (suc n)
neg_above allowed n (pos k) between e = omega (arith, between)
neg_above allowed n (negsuc k) between e = greatest_above (earlier_of allowed) (suc n) (suc k) (omega (arith, between)) e

pub is-nearest : (allowed : ℤ → Bool) (by : ℤ) → IsNearest allowed by (nearest allowed by)
is-nearest allowed (pos n) = record {
  member = pos_member allowed (greatest (later_of allowed) n) (greatest_member (later_of allowed) n);
  between = greatest_most (later_of allowed) n;
  nearest = pos_above allowed n;
}
is-nearest allowed (negsuc n) = record {
  member = neg_member allowed (greatest (earlier_of allowed) (suc n)) (greatest_member (earlier_of allowed) (suc n));
  between = is_between n (greatest (earlier_of allowed) (suc n)) (greatest_most (earlier_of allowed) (suc n));
  nearest = λ e between is. omega (arith, neg_above allowed n e between is, size_of_neg (greatest (earlier_of allowed) (suc n)));
}

-- two sets that agree
pub nearest-same : (f g : ℤ → Bool) (by : ℤ) → ((e : ℤ) → LiesBetween e by → f e ≡ g e) → nearest f by ≡ nearest g by
nearest-same f g (pos n) h = ap pos (greatest-same (later_of f) (later_of g) n (λ k le. h (pos k) le))
nearest-same f g (negsuc n) h = ap (λ (k : ℕ). neg_ℤ (pos k)) (greatest-same (earlier_of f) (earlier_of g) (suc n) (λ k le. h (neg_ℤ (pos k)) (is_between n k le)))

-- between two ends
within_earlier : (earlier later k : ℕ) → lies_within earlier later (neg_ℤ (pos k)) ≡ leb k earlier
within_earlier earlier later zero = le-leb 0 later (omega arith) ∙ sym (le-leb 0 earlier (omega arith))
within_earlier earlier later (suc k) = refl

pub within-later : (earlier later n : ℕ) → nearest (lies_within earlier later) (pos n) ≡ pos (min n later)
within-later earlier later n = ap pos (greatest-within later n)

pub within-earlier : (earlier later n : ℕ) → nearest (lies_within earlier later) (negsuc n) ≡ neg_ℤ (pos (min (suc n) earlier))
within-earlier earlier later n =
    ap (λ (k : ℕ). neg_ℤ (pos k))
    (greatest-same (earlier_of (lies_within earlier later)) (λ k. leb k earlier) (suc n) (λ k le. within_earlier earlier later k) ∙ greatest-within earlier (suc n))

-- the ends of what is allowed
up_to : (f g : ℕ → Bool) (earlier later : ℕ) (by e : ℤ) → nat_abs by < 2 ^ 32 → AreUpTo f later → AreUpTo g earlier → LiesBetween e by → by_sign f g e ≡ lies_within earlier later e
up_to f g earlier later (pos n) (pos k) small a b between = a k (omega (arith, small, between))
up_to f g earlier later (pos n) (negsuc k) small a b between = absurd between
up_to f g earlier later (negsuc n) (pos k) small a b between = a k (omega (arith, small, between))
up_to f g earlier later (negsuc n) (negsuc k) small a b between = b (suc k) (omega (arith, small, between))

pub nearest-ends : (f g : ℕ → Bool) (earlier later : ℕ) (by : ℤ) → nat_abs by < 2 ^ 32 → AreUpTo f later → AreUpTo g earlier → nearest (by_sign f g) by ≡ nearest (lies_within earlier later) by
nearest-ends f g earlier later by small a b = nearest-same (by_sign f g) (lies_within earlier later) by (λ e between. up_to f g earlier later by e small a b between)

pos_is : (m n : ℕ) → pos m ≡ pos n → m ≡ n
pos_is m n e = cc

no_pos : (m n : ℕ) → 0 < n → neg_ℤ (pos m) ≡ pos n → ⊥
no_pos zero n h e = let z : 0 ≡ n = cc in omega (arith, z, h)
no_pos (suc m) n h e = cc

neg_is : (m n : ℕ) → 0 < n → neg_ℤ (pos m) ≡ neg_ℤ (pos n) → m ≡ n
neg_is m zero h e = absurd (omega (arith, h))
neg_is zero (suc n) h e = cc
neg_is (suc m) (suc n) h e = cc

no_neg : (m n : ℕ) → 0 < n → pos m ≡ neg_ℤ (pos n) → ⊥
no_neg m zero h e = omega (arith, h)
no_neg m (suc n) h e = cc

pub later-end : (earlier later n : ℕ) (by d : ℤ) → d ≡ nearest (lies_within earlier later) by → 0 < n → d ≡ pos n → n ≤ later
later-end earlier later n (pos m) d e h is = let k = pos_is (min m later) n (sym (within-later earlier later m) ∙ (sym e ∙ is)) in omega (arith, k)
later-end earlier later n (negsuc m) d e h is = absurd (no_pos (min (suc m) earlier) n h (sym (within-earlier earlier later m) ∙ (sym e ∙ is)))

pub earlier-end : (earlier later n : ℕ) (by d : ℤ) → d ≡ nearest (lies_within earlier later) by → 0 < n → d ≡ neg_ℤ (pos n) → n ≤ earlier
earlier-end earlier later n (pos m) d e h is = absurd (no_neg (min m later) n h (sym (within-later earlier later m) ∙ (sym e ∙ is)))
earlier-end earlier later n (negsuc m) d e h is = let k = neg_is (min (suc m) earlier) n h (sym (within-earlier earlier later m) ∙ (sym e ∙ is)) in omega (arith, k)
