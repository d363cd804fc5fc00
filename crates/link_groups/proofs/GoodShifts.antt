-- A shift of good tracks leaves good tracks, also where it splits links.
use Rattle.std.proofs.Common.{◌≡◌, ℕ, ◌+◌, ◌-◌, Bool, true, false, cond, eqb, List, [], ◌∷◌, All, map, Option, Some, None, Result, Ok, Err, refl, sym, ap, ◌∙◌, arith, subst}
use Rattle.frame_meaning.specs.declared.cells.Link.{Link}
use Rattle.composables.specs.declared.items.ItemView.{ItemView}
use Rattle.composables.specs.declared.media.Table.{Table}
use Rattle.composables.specs.declared.refusals.Done.{Done}
use Rattle.out_of_memory.specs.declared.fault.Fault.{Fault}
use Rattle.out_of_memory.specs.declared.fault.Fault.TheVariants.{Refused, Memory}
use Rattle.composables.specs.declared.refusals.Refusal.{Refusal}
use Rattle.composables.specs.Answers.{unless}
use Rattle.out_of_memory.specs.Answers.{Answers}
use Rattle.composables.specs.Good.{IsGood}
use Rattle.composables.specs.Items.{cells_of, items_of}
use Rattle.composables.specs.Limits.{too_long, too_many, within_limits}
use Rattle.composables.specs.Links.{count_at_home, moved_link, split_links}
use Rattle.composables.specs.TrackState.{TrackState}
use Rattle.edit_splice.specs.declared.shifting.Shift.{Shift}
use Rattle.edit_splice.specs.Moves.{all_moved}
use Rattle.edit_splice.specs.Padding.{new_len}
use Rattle.edit_splice.specs.Standing.{EachStaysGood, StaysGood}
use Rattle.edit_splice.proofs.Bridging.{StaysMoved, each-shifted}
use Rattle.edit_splice.proofs.Standing.{each-self}
use Rattle.link_groups.specs.LinkedShifts.{linked_after, linked_refusal, linked_shift, split_items}
use Rattle.link_groups.proofs.Relinking.{good-linked, like-links, like-moved, linked_track, moved-linked, new_links}

-- a track with another next link number is as good
pub with_next : (table : Table) (t : TrackState) (n : ℕ) → IsGood table t → IsGood table (record t { next_link = n })
with_next table t n g = record {
  kept = record { whole = g.kept.whole; not_before = g.kept.not_before; each = g.kept.each; apart = g.kept.apart; below = g.kept.below; short = g.kept.short };
  ranges = g.ranges;
  links = g.links;
  frames = g.frames;
  items = g.items;
}

links_of : List TrackState → List Link → ℕ → TrackState → List (Option Link)
links_of tracks splits place u = new_links (moved_link tracks splits) place (items_of u.cells)

as_linked : (tracks : List TrackState) (splits : List Link) (place : ℕ) (u : TrackState)
    → record (linked_track (new_links (moved_link tracks splits) place (items_of u.cells)) u) { next_link = u.next_link + count_at_home splits u.number } ≡ split_items tracks splits place u
as_linked tracks splits place u =
    ap (λ (vs : List ItemView). record u { cells = cells_of vs; next_link = u.next_link + count_at_home splits u.number }) (sym (moved-linked tracks splits place (items_of u.cells)))

split_stays : (table : Table) (tracks : List TrackState) (splits : List Link) (place : ℕ) (t u : TrackState) → StaysGood table t u → StaysGood table t (split_items tracks splits place u)
split_stays table tracks splits place t u h =
    let ls : List (Option Link) = new_links (moved_link tracks splits) place (items_of u.cells) in
    let like = like-links (moved_link tracks splits) (like-moved tracks splits) place (items_of u.cells) in
    subst (StaysGood table t) (as_linked tracks splits place u)
    (record {
      good = with_next table (linked_track (new_links (moved_link tracks splits) place (items_of u.cells)) u) (u.next_link + count_at_home splits u.number) (good-linked table (new_links (moved_link tracks splits) place (items_of u.cells)) u like h.good);
      number = h.number;
    })

each_split : (table : Table) (tracks : List TrackState) (splits : List Link) (place : ℕ) (ts us : List TrackState) → EachStaysGood table ts us → EachStaysGood table ts (map (split_items tracks splits place) us)
each_split table tracks splits place [] [] h = tt
each_split table tracks splits place [] (u ∷ us) h = absurd h
each_split table tracks splits place (t ∷ ts) [] h = absurd h
each_split table tracks splits place (t ∷ ts) (u ∷ us) h = (split_stays table tracks splits place t u h.0, each_split table tracks splits place ts us h.1)

record IsAfter (s : Shift) (place : ℕ) (done : Done) (ts us : List TrackState) : Type 0 where
  same : us ≡ linked_after s place ts
  within : within_limits (all_moved s ts) done ≡ Ok (all_moved s ts, done)

is_after : (s : Shift) (place : ℕ) (done : Done) (ts us : List TrackState) (d : Done) → linked_shift s place done ts ≡ Ok (us, d) → IsAfter s place done ts us
is_after s place done ts us d = by (linked_refusal s ts) (too_long (all_moved s ts)) (too_many (all_moved s ts)) refl refl where
  by : (r a b : Option Refusal) → too_long (all_moved s ts) ≡ a → too_many (all_moved s ts) ≡ b
      → unless {A = List TrackState × Done} r (unless {A = List TrackState × Done} a (unless {A = List TrackState × Done} b (Ok (linked_after s place ts, done)))) ≡ Ok (us, d) → IsAfter s place done ts us
  by (Some r) a b e f k = absurd (Prim.grind (arith, k))
  by None (Some r) b e f k = absurd (Prim.grind (arith, k))
  by None None (Some r) e f k = absurd (Prim.grind (arith, k))
  by None None None e f k = record {
    same = Prim.grind (arith, k);
    within =
        ap (λ (o : Option Refusal). unless {A = List TrackState × Done} o (unless {A = List TrackState × Done} (too_many (all_moved s ts)) (Ok (all_moved s ts, done)))) e
        ∙ ap (λ (o : Option Refusal). unless {A = List TrackState × Done} o (Ok (all_moved s ts, done))) f;
  }

after_stays : (table : Table) (s : Shift) (place : ℕ) (ts : List TrackState) → EachStaysGood table ts (all_moved s ts) → EachStaysGood table ts (linked_after s place ts)
after_stays table s place ts h = by (eqb (new_len s.new) (s.y - s.x)) where
  by : (b : Bool) → EachStaysGood table ts (cond b (all_moved s ts) (map (split_items ts (split_links s.x s.y ts) place) (all_moved s ts)))
  by true = h
  by false = each_split table ts (split_links s.x s.y ts) place ts (all_moved s ts) h

-- after a shift
pub each-linked : (table : Table) (s : Shift) (place : ℕ) (ts us : List TrackState) (done : Done) (result : Result Done (Fault Refusal)) → All (IsGood table) ts → All (StaysMoved table s) ts
    → Answers (linked_shift s place done ts) ts us result → EachStaysGood table ts us
each-linked table s place ts us done (Ok d) g p a =
    let k = is_after s place done ts us d a in
    subst (EachStaysGood table ts) (sym k.same) (after_stays table s place ts (each-shifted table s ts (all_moved s ts) done (Ok done) g p k.within))
each-linked table s place ts us done (Err (Refused why)) g p a = subst (EachStaysGood table ts) (sym a.1) (each-self table ts g)
each-linked table s place ts us done (Err Memory) g p a = subst (EachStaysGood table ts) (sym a.1) (each-self table ts g)
