-- Items and gaps that pages know to have no link.
use Rattle.std.proofs.Common.{◌≡◌, ℕ, suc, ◌^◌, ◌<◌, ◌≤◌, List, [], ◌∷◌, Option, None, Some, refl, ap, arith}
use Rattle.std.specs.Int.{bit_at}
use Rattle.std.specs.Int.Bits.{bit_or}
use Rattle.std.specs.List.{All}
use Rattle.std.proofs.lemmas.Nat.Bits.{bit_at_or, bit_at-pow_other, bit_at-pow_same}
use Rattle.frame_meaning.specs.declared.cells.Link.{Link}
use Rattle.item_pages.specs.Wants.{IsWithin}
use Rattle.composables.specs.declared.items.ItemView.{ItemView}
use Rattle.composables.specs.Good.{AllUnlinked}
use Rattle.composables.specs.TrackSets.{IsInSet, link_bits}

-- what is within a set that it is, is within it
pub within_same : (s t : ℕ) → s ≡ t → IsWithin s t
within_same s t e i h = omega (arith, ap (λ n. bit_at n i) e)

-- what has no bits is no link
no_bit : bit_at 0 32 ≡ 0
no_bit = refl

pub bare_of : (o : Option Link) → IsWithin (link_bits o) 0 → o ≡ None
bare_of None h = refl
bare_of (Some l) h =
    let low : bit_at (bit_or l.tracks (2 ^ 32)) 32 ≤ bit_at 0 32 = h 32 (omega arith) in
    absurd (omega (arith, low, no_bit, bit_at_or l.tracks (2 ^ 32) 32, bit_at-pow_same 32))

pub unlinked_each : (vs : List ItemView) → All (λ (v : ItemView). IsWithin (link_bits v.link) 0) vs → AllUnlinked vs
unlinked_each [] h = tt
unlinked_each (v ∷ vs) h = (bare_of v.link (h 0 v (omega arith)), unlinked_each vs (λ k d low. h (suc k) d (omega (arith, low))))

-- each track of a link in a set is one of the set
pub low_set : (s : ℕ) (l : Link) (i : ℕ) → i < 32 → IsInSet (Some s) (Some l) → bit_at l.tracks i ≤ bit_at s i
low_set s l i low h =
    let here : bit_at (bit_or l.tracks (2 ^ 32)) i ≤ bit_at (bit_or s (2 ^ 32)) i = h i (omega (arith, low)) in
    omega (arith, here, bit_at_or l.tracks (2 ^ 32) i, bit_at_or s (2 ^ 32) i, bit_at-pow_other 32 i (λ e. omega (arith, e, low)))
