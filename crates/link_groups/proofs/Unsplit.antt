-- Where no link is split, items keep their links.
use Rattle.std.proofs.Common.{◌≡◌, ℕ, ◌-◌, Bool, true, false, cond, ltb, List, [], ◌∷◌, length, Option, Some, None, refl, sym, ap, ◌∙◌, arith}
use Rattle.std.specs.Map.{lookup}
use Rattle.std.specs.BTreeMap.{BTreeMap, btree_map_len, get, is_at}
use Rattle.frame_meaning.specs.declared.cells.Cell.{Cell}
use Rattle.frame_meaning.specs.declared.cells.Link.{Link}
use Rattle.composables.specs.declared.items.ItemView.{ItemView}
use Rattle.composables.specs.Items.{cells_of, items_of}
use Rattle.composables.specs.TrackFacts.{IsKept}
use Rattle.composables.specs.TrackState.{TrackState}
use Rattle.link_groups.specs.declared.splits.Splits.{Splits}
use Rattle.link_groups.specs.Splits.{given_link, key_cmp, key_of, relinked_cells, relinked_view, relinked_views, with_number}

get_none : (m : BTreeMap (ℕ × ℕ) ℕ) (q : ℕ × ℕ) → btree_map_len m ≡ 0 → get key_cmp m q ≡ None
get_none m q e = by m.entries e where
  by : (es : List ((ℕ × ℕ) × ℕ)) → length es ≡ 0 → lookup (is_at (key_cmp q)) es ≡ None
  by [] f = refl
  by (x ∷ xs) f = absurd (omega (arith, f))

same_link_given : (s : Splits) (o : Option Link) → btree_map_len s.numbers ≡ 0 → given_link s o ≡ o
same_link_given s None e = refl
same_link_given s (Some l) e = ap (λ (n : Option ℕ). Some (with_number l n)) (get_none s.numbers (key_of l) e)

same_view : (s : Splits) (place : ℕ) (v : ItemView) → btree_map_len s.numbers ≡ 0 → relinked_view s place v ≡ v
same_view s place v e = by (ltb place v.len) where
  by : (b : Bool) → cond b (record v { link = given_link s v.link }) v ≡ v
  by true = ap (λ (o : Option Link). record v { link = o }) (same_link_given s v.link e)
  by false = refl

same_views : (s : Splits) (place : ℕ) (vs : List ItemView) → btree_map_len s.numbers ≡ 0 → relinked_views s place vs ≡ vs
same_views s place [] e = refl
same_views s place (v ∷ vs) e =
    ap (λ (w : ItemView). w ∷ relinked_views s (place - v.len) vs) (same_view s place v e) ∙ ap (λ (ws : List ItemView). v ∷ ws) (same_views s (place - v.len) vs e)

pub unsplit-track : (s : Splits) (place : ℕ) (t : TrackState) → IsKept t → btree_map_len s.numbers ≡ 0 → t ≡ relinked_cells s place t
unsplit-track s place t k e =
    sym (ap (λ (vs : List ItemView). record t { cells = cells_of vs }) (same_views s place (items_of t.cells) e) ∙ ap (λ (cs : List Cell). record t { cells = cs }) k.whole)
