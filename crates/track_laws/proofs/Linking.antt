-- Links made and taken away: the tracks stay good.
use Rattle.std.proofs.Common.{◌≡◌, ℕ, suc, ◌+◌, Bool, true, false, cond, List, [], ◌∷◌, All, Option, Some, None, Result, Ok, refl, sym, ap, ◌∙◌, arith, subst, slice_get}
use Rattle.frame_meaning.specs.declared.cells.Link.{Link}
use Rattle.frame_meaning.specs.Cells.{same_number}
use Rattle.composables.specs.declared.calls.Link3.{Link3}
use Rattle.composables.specs.declared.calls.Unlink.{Unlink}
use Rattle.composables.specs.declared.items.ItemView.{ItemView}
use Rattle.composables.specs.declared.media.Table.{Table}
use Rattle.composables.specs.declared.refusals.Done.{Done}
use Rattle.composables.specs.declared.refusals.Done.TheVariants.{Linked, Plain}
use Rattle.composables.specs.declared.refusals.Refusal.{Refusal}
use Rattle.composables.specs.Good.{IsGood}
use Rattle.composables.specs.Items.{items_of}
use Rattle.composables.specs.OwnTracks.{numbers_of}
use Rattle.composables.specs.TrackSets.{tracks_in}
use Rattle.composables.specs.TrackState.{TrackState}
use Rattle.composables.proofs.Joining.{same-is}
use Rattle.link_groups.specs.LinkedItems.{item_from, item_of, linked_item}
use Rattle.link_groups.specs.Linking.{all_linked, home_risen, link_named, link_refusal, linked, new_link, unlink_on, where_there}
use Rattle.link_groups.proofs.Linked.{all-good, all-there, risen-good}
use Rattle.link_groups.proofs.NamedSets.{links-of}
use Rattle.link_groups.proofs.Relinked.{relinked}
use Rattle.track_laws.specs.Goods.{LinkingKeepsGood}
use Rattle.track_laws.proofs.Own.{own-good}
use Rattle.track_laws.proofs.Putting.{none-refused}

-- the item that is found by its number
record IsItem (vs : List ItemView) (i : ℕ) (v : ItemView) : Type 0 where
  index : ℕ
  read : slice_get vs index ≡ Some v
  number : v.item ≡ Some i

item_there : (i x : ℕ) (vs : List ItemView) (p : ℕ × ItemView) → item_from x vs i ≡ Some p → IsItem vs i p.1
item_there i x [] p e = absurd cc
item_there i x (v ∷ vs) p e = by (same_number v.item (Some i)) refl e (item_there i (x + v.len) vs p) where
  by : (b : Bool) → same_number v.item (Some i) ≡ b → cond b (Some (x, v)) (item_from (x + v.len) vs i) ≡ Some p → (item_from (x + v.len) vs i ≡ Some p → IsItem vs i p.1) → IsItem (v ∷ vs) i p.1
  by true s e later =
      let same : v ≡ p.1 = cc in
      record { index = 0; read = ap Some same; number = ap (λ (u : ItemView). u.item) (sym same) ∙ same-is v.item (Some i) s }
  by false s e later =
      let h = later e in
      record { index = suc h.index; read = h.read; number = h.number }

unlink_good : (table : Table) (c : Unlink) (t u : TrackState) (done : Done) → IsGood table t → unlink_on c t ≡ Ok (u, done) → IsGood table u
unlink_good table c t u done g k = by (item_of t c.item) refl k where
  by : (o : Option (ℕ × ItemView)) → item_of t c.item ≡ o → where_there {A = TrackState × Done} o (Ok (linked_item t c.item None, Plain)) ≡ Ok (u, done) → IsGood table u
  by None e k = absurd (Prim.grind (arith, k))
  by (Some p) e k =
      let s = item_there c.item 0 (items_of t.cells) p e in
      let r = relinked table t s.index c.item p.1 None g s.read s.number tt in
      let same : linked_item t c.item None ≡ u = Prim.grind (arith, k) in
      subst (IsGood table) (r.same ∙ same) r.good

link_good : (table : Table) (c : Link3) (named news : List TrackState) (done : Done) → numbers_of named ≡ tracks_in c.tracks → All (IsGood table) named → link_named named c ≡ Ok (news, done) → All (IsGood table) news
link_good table c [] news done names g k = absurd (Prim.grind (arith, k))
link_good table c (t ∷ ts) news done names g k =
    let r = none-refused (link_refusal (t ∷ ts) c.items) (linked (t ∷ ts) c) (news, done) k in
    let made : Link = new_link t c.tracks in
    let same : home_risen (all_linked (new_link t c.tracks) (t ∷ ts) c.items) ≡ news = ends (home_risen (all_linked (new_link t c.tracks) (t ∷ ts) c.items)) (Linked t.number t.next_link) r.1 in
    subst (All (IsGood table)) same
    (risen-good table (all_linked (new_link t c.tracks) (t ∷ ts) c.items)
    (all-good table (new_link t c.tracks) (t ∷ ts) c.items g (all-there (t ∷ ts) c.items r.0)
    (links-of (new_link t c.tracks) c.tracks (t ∷ ts) t (omega arith) refl names refl refl))) where
      ends : (us : List TrackState) (d : Done) → ◌≡◌ {A = Result (List TrackState × Done) Refusal} (Ok (us, d)) (Ok (news, done)) → us ≡ news
      ends us d e = Prim.grind (arith, e)

pub linking-keeps : LinkingKeepsGood
linking-keeps = record {
  link = λ table c named news done bounded names good k. link_good table c named news done names good k;
  unlink = λ table c named news done bounded names good k. own-good table c.track (unlink_on c) named news done good (λ t u d g e. unlink_good table c t u d g e) k;
}
