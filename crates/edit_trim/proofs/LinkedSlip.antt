-- A slip of all that has a link, by the delta that suits it.
use Rattle.std.proofs.Common.{◌≡◌, ℕ, zero, suc, ℤ, List, map, Option, Some, None, Result, Ok, refl, sym, ap, ◌∙◌, arith, subst, w32, to_z, of_z, SFits, Bool}
use Rattle.std.proofs.lemmas.Int.{to_z-of_z}
use Rattle.frame_meaning.specs.declared.cells.Link.{Link}
use Rattle.composables.specs.declared.calls.Slip.{Slip}
use Rattle.composables.specs.declared.media.Table.{Table}
use Rattle.composables.specs.declared.refusals.Done.{Done}
use Rattle.out_of_memory.specs.declared.fault.Fault.{Fault}
use Rattle.composables.specs.declared.refusals.Refusal.{Refusal}
use Rattle.composables.specs.Answers.{Applied, unless}
use Rattle.out_of_memory.specs.Answers.{Answers}
use Rattle.composables.specs.Links.{outside_refusal}
use Rattle.composables.specs.OwnTracks.{among_named, on_own, track_numbered}
use Rattle.composables.specs.TrackState.{TrackState}
use Rattle.edit_delta.specs.declared.deltas.Used.{Used}
use Rattle.edit_delta.specs.declared.deltas.Way.{Way}
use Rattle.edit_delta.specs.declared.deltas.Way.TheVariants.{Earlier, Later, Still}
use Rattle.edit_delta.specs.Nearest.{by_sign, lies_within, nearest}
use Rattle.edit_delta.specs.Using.{IsUsed, IsWayOf}
use Rattle.edit_delta.proofs.Answered.{IsUsedOf, earlier-most, later-most, used-of}
use Rattle.edit_splice.proofs.Bridging.{for-found}
use Rattle.edit_trim.specs.declared.linked_slips.SlipRoom.{SlipRoom}
use Rattle.edit_trim.specs.LinkedSlips.{AllMove, RoomAmong, back_of, moved_by, on_of}
use Rattle.edit_trim.specs.Slipping.{each_linked_on, item_may_slip_earlier, item_may_slip_later, link_slipped, slip_link, slip_linked, slip_named, slip_own, slip_track, slip_with}
use Rattle.link_groups.specs.ItemLinks.{link_of}

slipped_by_way : (l : Link) (ts : List TrackState) (d : ℤ) (w : Way) → IsWayOf d w → link_slipped l ts d ≡ map (moved_by l w) ts
slipped_by_way l ts d Still e = ap (link_slipped l ts) e
slipped_by_way l ts d (Later n) e = ap (link_slipped l ts) e.1
slipped_by_way l ts d (Earlier zero) e = absurd (omega (arith, e.0))
slipped_by_way l ts d (Earlier (suc n)) e = ap (link_slipped l ts) e.1

pub record IsLinkSlip (table : Table) (l : Link) (ts : List TrackState) (by : ℤ) (u : Used) : Type 0 where
  pub moves : AllMove table l ts (on_of u.way) (back_of u.way)
  pub meant : slip_link table ts l by ≡ Ok (map (moved_by l u.way) ts, u.done)

pub link-slip : (table : Table) (l : Link) (ts : List TrackState) (by : ℤ) (r : SlipRoom) (u : Used) → SFits w32 by → RoomAmong table l ts r → IsUsed (nearest (lies_within r.earlier r.later) (to_z w32 (of_z w32 by))) u
    → IsLinkSlip table l ts by u
link-slip table l ts by r u fits room is = record { moves = moves u.way refl; meant = meant } where
  F : ℕ → Bool
  F n = each_linked_on l (item_may_slip_later table n) ts

  G : ℕ → Bool
  G n = each_linked_on l (item_may_slip_earlier table n) ts

  used : IsUsedOf F G by u
  used = used-of F G r.earlier r.later by u fits room.later room.earlier is

  moves : (w : Way) → u.way ≡ w → AllMove table l ts (on_of w) (back_of w)
  moves Still e = room.on 0 (omega arith)
  moves (Later n) e = room.on n (later-most r.earlier r.later n by u is e).1
  moves (Earlier n) e = room.back n (earlier-most r.earlier r.later n by u is e).1

  d : ℤ
  d = nearest (by_sign F G) by

  meant : slip_link table ts l by ≡ Ok (map (moved_by l u.way) ts, u.done)
  meant =
      ap (λ (a : Done). Ok (link_slipped l ts d, a)) (sym used.used.done)
      ∙ ap (λ (us : List TrackState). Ok (us, u.done)) (slipped_by_way l ts d u.way used.used.way)

-- what a slip means for an item without a link, and for one that has one
pub alone-means : (table : Table) (c : Slip) (ts : List TrackState) (t : TrackState) → track_numbered c.track ts ≡ Some t → link_of t c.item ≡ None → slip_named table ts c ≡ on_own c.track (slip_track table c) ts
alone-means table c ts t found none =
    for-found c.track (slip_own table ts c) ts t found
    ∙ (ap (slip_with table ts c t) none ∙ sym (for-found c.track (λ (u : TrackState). among_named ts (slip_track table c u)) ts t found))

pub linked-means : (table : Table) (c : Slip) (ts : List TrackState) (t : TrackState) (l : Link) → SFits w32 c.by → track_numbered c.track ts ≡ Some t → link_of t c.item ≡ Some l
    → slip_named table ts c ≡ slip_linked table ts l (to_z w32 (of_z w32 c.by))
linked-means table c ts t l fits found some =
    for-found c.track (slip_own table ts c) ts t found
    ∙ (ap (slip_with table ts c t) some ∙ ap (slip_linked table ts l) (sym (to_z-of_z w32 c.by fits)))

pub alone-answers : (table : Table) (c : Slip) (ts us : List TrackState) (t : TrackState) (r : Result Done (Fault Refusal)) → track_numbered c.track ts ≡ Some t → link_of t c.item ≡ None
    → Answers (on_own c.track (slip_track table c) ts) ts us r → Answers (slip_named table ts c) ts us r
alone-answers table c ts us t r found none a = subst (λ (m : Applied). Answers m ts us r) (sym (alone-means table c ts t found none)) a

pub linked-answers : (table : Table) (c : Slip) (ts us : List TrackState) (t : TrackState) (l : Link) (r : Result Done (Fault Refusal)) → SFits w32 c.by → track_numbered c.track ts ≡ Some t → link_of t c.item ≡ Some l
    → Answers (slip_linked table ts l (to_z w32 (of_z w32 c.by))) ts us r → Answers (slip_named table ts c) ts us r
linked-answers table c ts us t l r fits found some a = subst (λ (m : Applied). Answers m ts us r) (sym (linked-means table c ts t l fits found some)) a

pub link-done : (table : Table) (ts : List TrackState) (l : Link) (by : ℤ) (u : Used) → outside_refusal ts (Some l) ≡ None → IsLinkSlip table l ts by u → slip_linked table ts l by ≡ Ok (map (moved_by l u.way) ts, u.done)
link-done table ts l by u e s = ap (λ (o : Option Refusal). unless o (slip_link table ts l by)) e ∙ s.meant
