-- What is used of a delta, by its way; and facts of one track among the named.
use Rattle.std.proofs.Common.{◌≡◌, ℕ, zero, suc, ◌<◌, ◌≤◌, ◌^◌, Bool, true, false, leb, min, ◌&&◌, ℤ, pos, neg_ℤ, nat_abs, [], Ok, refl, sym, ap, ◌∙◌, arith, subst, w32, SFits, to_z, of_z}
use Rattle.std.proofs.lemmas.Bool.{leb-true, leb-false, le-leb, lt-leb}
use Rattle.std.specs.Int.Signed.{nat_abs-le}
use Rattle.std.proofs.lemmas.Int.{to_z-of_z}
use Rattle.composables.specs.declared.refusals.Done.{Done}
use Rattle.composables.specs.declared.refusals.Done.TheVariants.{By}
use Rattle.composables.specs.Limits.{track_within_limits}
use Rattle.composables.specs.TrackState.{TrackState}
use Rattle.edit_delta.specs.declared.deltas.Used.{Used}
use Rattle.edit_delta.specs.declared.deltas.Way.{Way}
use Rattle.edit_delta.specs.declared.deltas.Way.TheVariants.{Still, Later, Earlier}
use Rattle.edit_delta.specs.Nearest.{AreUpTo, by_sign, lies_within, nearest}
use Rattle.edit_delta.specs.Using.{IsUsed, IsWayOf, used_on}
use Rattle.edit_delta.proofs.Greatest.{earlier-end, later-end, nearest-ends}

used-none : (t : TrackState) (moved : ℤ → TrackState) (d : ℤ) → d ≡ pos 0 → used_on t moved d ≡ Ok (t, By d)
used-none t moved d e = ap (used_on t moved) e ∙ ap (λ (z : ℤ). Ok (t, By z)) (sym e)

used-later : (t : TrackState) (f g : ℕ → TrackState) (d : ℤ) (n : ℕ) → 0 < n → d ≡ pos n → used_on t (by_sign f g) d ≡ track_within_limits (f n) (By d)
used-later t f g d zero h e = absurd (omega (arith, h))
used-later t f g d (suc n) h e = ap (used_on t (by_sign f g)) e ∙ ap (λ (z : ℤ). track_within_limits (f (suc n)) (By z)) (sym e)

used-earlier : (t : TrackState) (f g : ℕ → TrackState) (d : ℤ) (n : ℕ) → 0 < n → d ≡ neg_ℤ (pos n) → used_on t (by_sign f g) d ≡ track_within_limits (g n) (By d)
used-earlier t f g d zero h e = absurd (omega (arith, h))
used-earlier t f g d (suc n) h e = ap (used_on t (by_sign f g)) e ∙ ap (λ (z : ℤ). track_within_limits (g (suc n)) (By z)) (sym e)

-- the delta used, where what is allowed ends so
pub record IsUsedOf (F G : ℕ → Bool) (by : ℤ) (u : Used) : Type 0 where
  pub used : IsUsed (nearest (by_sign F G) by) u

small_by : (by : ℤ) → SFits w32 by → nat_abs by < 2 ^ 32
small_by by fits = let h = nat_abs-le by fits.sfits in omega (arith, h)

pub used-of : (F G : ℕ → Bool) (e l : ℕ) (by : ℤ) (u : Used) → SFits w32 by → AreUpTo F l → AreUpTo G e → IsUsed (nearest (lies_within e l) (to_z w32 (of_z w32 by))) u → IsUsedOf F G by u
used-of F G e l by u fits a b is = record {
  used = subst (λ (d : ℤ). IsUsed d u) (ap (nearest (lies_within e l)) (to_z-of_z w32 by fits) ∙ sym (nearest-ends F G e l by (small_by by fits) a b)) is;
}

way-is : (d : ℤ) (u : Used) (w : Way) → IsUsed d u → u.way ≡ w → IsWayOf d w
way-is d u w is e = subst (IsWayOf d) e is.way

pub still-means : (t : TrackState) (f g : ℕ → TrackState) (F G : ℕ → Bool) (by : ℤ) (u : Used) → IsUsedOf F G by u → u.way ≡ Still
    → used_on t (by_sign f g) (nearest (by_sign F G) by) ≡ Ok (t, u.done)
still-means t f g F G by u is e =
    let d = nearest (by_sign F G) by in
    used-none t (by_sign f g) d (way-is d u Still is.used e) ∙ ap (λ (a : Done). Ok (t, a)) (sym is.used.done)

pub later-means : (t : TrackState) (f g : ℕ → TrackState) (F G : ℕ → Bool) (n : ℕ) (by : ℤ) (u : Used) → IsUsedOf F G by u → u.way ≡ Later n
    → used_on t (by_sign f g) (nearest (by_sign F G) by) ≡ track_within_limits (f n) u.done
later-means t f g F G n by u is e =
    let d = nearest (by_sign F G) by in
    let way : IsWayOf d (Later n) = way-is d u (Later n) is.used e in
    used-later t f g d n way.0 way.1 ∙ ap (track_within_limits (f n)) (sym is.used.done)

pub earlier-means : (t : TrackState) (f g : ℕ → TrackState) (F G : ℕ → Bool) (n : ℕ) (by : ℤ) (u : Used) → IsUsedOf F G by u → u.way ≡ Earlier n
    → used_on t (by_sign f g) (nearest (by_sign F G) by) ≡ track_within_limits (g n) u.done
earlier-means t f g F G n by u is e =
    let d = nearest (by_sign F G) by in
    let way : IsWayOf d (Earlier n) = way-is d u (Earlier n) is.used e in
    used-earlier t f g d n way.0 way.1 ∙ ap (track_within_limits (g n)) (sym is.used.done)

-- its frames
pub later-most : (e l n : ℕ) (by : ℤ) (u : Used) → IsUsed (nearest (lies_within e l) (to_z w32 (of_z w32 by))) u → u.way ≡ Later n → (0 < n) × (n ≤ l)
later-most e l n by u is w =
    let asked = to_z w32 (of_z w32 by) in
    let d = nearest (lies_within e l) asked in
    let way : IsWayOf d (Later n) = way-is d u (Later n) is w in
    (way.0, later-end e l n asked d refl way.0 way.1)

pub earlier-most : (e l n : ℕ) (by : ℤ) (u : Used) → IsUsed (nearest (lies_within e l) (to_z w32 (of_z w32 by))) u → u.way ≡ Earlier n → (0 < n) × (n ≤ e)
earlier-most e l n by u is w =
    let asked = to_z w32 (of_z w32 by) in
    let d = nearest (lies_within e l) asked in
    let way : IsWayOf d (Earlier n) = way-is d u (Earlier n) is w in
    (way.0, earlier-end e l n asked d refl way.0 way.1)

-- two ends of which the nearer one holds
both_le : (n a b : ℕ) → leb n a && leb n b ≡ leb n (min a b)
both_le n a b = by (leb n a) (leb n b) refl refl where
  by : (p q : Bool) → leb n a ≡ p → leb n b ≡ q → p && q ≡ leb n (min a b)
  by true true e f = sym (le-leb n (min a b) (omega (arith, leb-true n a e, leb-true n b f)))
  by true false e f = sym (lt-leb n (min a b) (omega (arith, leb-false n b f)))
  by false true e f = sym (lt-leb n (min a b) (omega (arith, leb-false n a e)))
  by false false e f = sym (lt-leb n (min a b) (omega (arith, leb-false n a e)))

pub up-both : (f g : ℕ → Bool) (a b m : ℕ) → m ≡ min a b → AreUpTo f a → AreUpTo g b → AreUpTo (λ n. f n && g n) m
up-both f g a b m e h k n small = ap (λ (p : Bool). p && g n) (h n small) ∙ (ap (λ (q : Bool). leb n a && q) (k n small) ∙ (both_le n a b ∙ ap (leb n) (sym e)))
