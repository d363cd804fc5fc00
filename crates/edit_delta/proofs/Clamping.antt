-- The code's numbers of 32 bits with a sign.
use Rattle.std.proofs.Common.{◌≡◌, ℕ, zero, suc, ◌<◌, ◌≤◌, ◌^◌, true, false, min, ℤ, pos, negsuc, neg_ℤ, ◌-ℤ◌, int_lt, nat_abs, refl, sym, ap, ◌∙◌, arith, w32, to_z, of_z, SFits}
use Rattle.std.proofs.lemmas.Bool.{lt-leb}
use Rattle.std.proofs.lemmas.Int.{to_z-of_z, to_z_pos}
use Rattle.edit_delta.specs.Nearest.{lies_within, nearest}
use Rattle.edit_delta.proofs.Greatest.{within-earlier, within-later}

differ : {A : Type 0} → true ≡ false → A
differ e = cc

-- the one asked for, and the end on its side
asked_later : (by : ℤ) (earlier later n : ℕ) → int_lt by (pos 0) ≡ false → n ≡ nat_abs by → n ≤ later → nearest (lies_within earlier later) by ≡ by
asked_later (pos k) earlier later n sign is le = let e : min k later ≡ k = omega (arith, is, le) in within-later earlier later k ∙ ap pos e
asked_later (negsuc k) earlier later n sign is le = differ sign

end_later : (by : ℤ) (earlier later n : ℕ) → int_lt by (pos 0) ≡ false → n ≡ nat_abs by → later < n → nearest (lies_within earlier later) by ≡ pos later
end_later (pos k) earlier later n sign is lt = let e : min k later ≡ later = omega (arith, is, lt) in within-later earlier later k ∙ ap pos e
end_later (negsuc k) earlier later n sign is lt = differ sign

not_less : (k : ℕ) → int_lt (pos k) (pos 0) ≡ false
not_less k = lt-leb (suc k) 0 (omega arith)

end_earlier : (by : ℤ) (earlier later n : ℕ) → int_lt by (pos 0) ≡ true → n ≡ nat_abs by → earlier < n → nearest (lies_within earlier later) by ≡ neg_ℤ (pos earlier)
end_earlier (pos k) earlier later n sign is lt = differ (sym sign ∙ not_less k)
end_earlier (negsuc k) earlier later n sign is lt = let e : min (suc k) earlier ≡ earlier = omega (arith, is, lt) in within-earlier earlier later k ∙ ap (λ (k : ℕ). neg_ℤ (pos k)) e

-- as the code reads them
read_back : (by : ℤ) → SFits w32 by → to_z w32 (of_z w32 by) ≡ by
read_back by fits = to_z-of_z w32 by fits

pub is-asked-later : (by : ℤ) (earlier later n : ℕ) → SFits w32 by → int_lt (to_z w32 (of_z w32 by)) (pos 0) ≡ false → n ≡ nat_abs (to_z w32 (of_z w32 by)) → n ≤ later
    → to_z w32 (of_z w32 by) ≡ nearest (lies_within earlier later) by
is-asked-later by earlier later n fits sign is le =
    let r = read_back by fits in
    r ∙ sym (asked_later by earlier later n (sym (ap (λ (z : ℤ). int_lt z (pos 0)) r) ∙ sign) (is ∙ ap nat_abs r) le)

pub is-end-later : (by : ℤ) (earlier later n : ℕ) → SFits w32 by → int_lt (to_z w32 (of_z w32 by)) (pos 0) ≡ false → n ≡ nat_abs (to_z w32 (of_z w32 by)) → later < n → n ≤ 2 ^ 31
    → to_z w32 later ≡ nearest (lies_within earlier later) by
is-end-later by earlier later n fits sign is lt small =
    let r = read_back by fits in
    to_z_pos w32 later (omega (arith, lt, small)) ∙ sym (end_later by earlier later n (sym (ap (λ (z : ℤ). int_lt z (pos 0)) r) ∙ sign) (is ∙ ap nat_abs r) lt)

-- less than nothing
less_none : (n : ℕ) → pos 0 -ℤ pos n ≡ neg_ℤ (pos n)
less_none zero = refl
less_none (suc n) = Prim.grind arith

fits_less : (n : ℕ) → n < 2 ^ 31 → SFits w32 (neg_ℤ (pos n))
fits_less zero h = record { sfits = omega arith }
fits_less (suc n) h = record { sfits = omega (arith, h) }

pub is-end-earlier : (by : ℤ) (earlier later n : ℕ) → SFits w32 by → int_lt (to_z w32 (of_z w32 by)) (pos 0) ≡ true → n ≡ nat_abs (to_z w32 (of_z w32 by)) → earlier < n → n ≤ 2 ^ 31
    → to_z w32 (of_z w32 (pos 0 -ℤ to_z w32 earlier)) ≡ nearest (lies_within earlier later) by
is-end-earlier by earlier later n fits sign is lt small =
    let r = read_back by fits in
    let m : pos 0 -ℤ to_z w32 earlier ≡ neg_ℤ (pos earlier) = ap (λ (z : ℤ). pos 0 -ℤ z) (to_z_pos w32 earlier (omega (arith, lt, small))) ∙ less_none earlier in
    ap (λ (z : ℤ). to_z w32 (of_z w32 z)) m
    ∙ (read_back (neg_ℤ (pos earlier)) (fits_less earlier (omega (arith, lt, small)))
    ∙ sym (end_earlier by earlier later n (sym (ap (λ (z : ℤ). int_lt z (pos 0)) r) ∙ sign) (is ∙ ap nat_abs r) lt))
