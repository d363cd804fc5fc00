use Rattle.std.proofs.Common.{◌≡◌, ◌+◌, ℕ, List, All, None, Some, length, map, refl, sym, ap, ◌∙◌, arith, subst, true}
use Rattle.std.proofs.Math.ListN.{set}
use Rattle.frame_meaning.specs.declared.cells.Link.{Link}
use Rattle.composables.specs.Good.{IsGood, IsLinkOf}
use Rattle.composables.specs.TrackState.{TrackState}
use Rattle.link_groups.specs.FoundItems.{AreFound}
use Rattle.link_groups.specs.Linking.{all_linked, are_there, home_risen, link_refusal}
use Rattle.link_groups.proofs.Linked.{all-good, all-there, as-many, linked-risen, numbers-risen, risen-good, some-named}
use Rattle.link_groups.proofs.Meant.{few-named}
use Rattle.link_groups.proofs.NamedSets.{links-of}
use Rattle.link_groups.proofs.linking.link.Goals as goal

pub link_all-requires-clause-of : goal.link_all-requires-clause-of
link_all-requires-clause-of g c =
    let made : Link = record { home = c.number-home.result; number = c.next_link-number.result; tracks = c.args.call.now.tracks } in
    let none : link_refusal c.args.named.now.items c.as_slice-items.result.now ≡ None = subst (λ (ts : List TrackState). link_refusal ts c.as_slice-items.result.now ≡ None) c.deref-2.ensures.value (sym c.link_refusal.ensures.refusal ∙ c.in-None.is) in
    let some = some-named c.args.named.now.items c.as_slice-items.result.now none in
    let copied : c.in_ok-linked.linked.items ≡ c.args.named.now.items = c.in_ok-linked.ensures ∙ c.deref-3.ensures.value in
    subst (λ (ts : List TrackState). All (λ (t : TrackState). IsLinkOf t.number (Some made)) ts) (sym copied)
    (links-of made c.args.call.now.tracks c.args.named.now.items c.index-first.result.now some c.index-first.ensures c.requires.named refl c.number-home.ensures)

pub returns-clause-named : goal.returns-clause-named
returns-clause-named g c =
    let made : Link = record { home = c.number-home.result; number = c.next_link-number.result; tracks = c.args.call.now.tracks } in
    let none : link_refusal c.args.named.now.items c.as_slice-items.result.now ≡ None = subst (λ (ts : List TrackState). link_refusal ts c.as_slice-items.result.now ≡ None) c.deref-2.ensures.value (sym c.link_refusal.ensures.refusal ∙ c.in-None.is) in
    let some = some-named c.args.named.now.items c.as_slice-items.result.now none in
    let copied : c.in_ok-linked.linked.items ≡ c.args.named.now.items = c.in_ok-linked.ensures ∙ c.deref-3.ensures.value in
    let next : c.set_next_link.new.self ≡ record c.index_mut.result.now { next_link = c.index-first.result.now.next_link + 1 } =
    c.set_next_link.ensures ∙ ap (λ (n : ℕ). record c.index_mut.result.now { next_link = n + 1 }) c.next_link-number.ensures in
    let after : home_risen (all_linked made c.args.named.now.items c.as_slice-items.result.now) ≡ set c.link_all.new.named.items 0 c.set_next_link.new.self =
    linked-risen c.as_slice-items.result.now c.args.named.now.items c.link_all.new.named.items c.index-first.result.now c.index_mut.result.now c.set_next_link.new.self made some c.index-first.ensures (c.in_ok-link_all.ensures.linked ∙ ap (λ (ts : List TrackState). all_linked made ts c.as_slice-items.result.now) copied) c.index_mut.ensures.value next in
    ap (map (λ (t : TrackState). t.number)) (sym after) ∙ (numbers-risen made c.args.named.now.items c.as_slice-items.result.now ∙ c.requires.named)

pub returns-clause-good : goal.returns-clause-good
returns-clause-good g c =
    let made : Link = record { home = c.number-home.result; number = c.next_link-number.result; tracks = c.args.call.now.tracks } in
    let none : link_refusal c.args.named.now.items c.as_slice-items.result.now ≡ None = subst (λ (ts : List TrackState). link_refusal ts c.as_slice-items.result.now ≡ None) c.deref-2.ensures.value (sym c.link_refusal.ensures.refusal ∙ c.in-None.is) in
    let some = some-named c.args.named.now.items c.as_slice-items.result.now none in
    let copied : c.in_ok-linked.linked.items ≡ c.args.named.now.items = c.in_ok-linked.ensures ∙ c.deref-3.ensures.value in
    let next : c.set_next_link.new.self ≡ record c.index_mut.result.now { next_link = c.index-first.result.now.next_link + 1 } =
    c.set_next_link.ensures ∙ ap (λ (n : ℕ). record c.index_mut.result.now { next_link = n + 1 }) c.next_link-number.ensures in
    let after : home_risen (all_linked made c.args.named.now.items c.as_slice-items.result.now) ≡ set c.link_all.new.named.items 0 c.set_next_link.new.self =
    linked-risen c.as_slice-items.result.now c.args.named.now.items c.link_all.new.named.items c.index-first.result.now c.index_mut.result.now c.set_next_link.new.self made some c.index-first.ensures (c.in_ok-link_all.ensures.linked ∙ ap (λ (ts : List TrackState). all_linked made ts c.as_slice-items.result.now) copied) c.index_mut.ensures.value next in
    subst (λ (ts : List TrackState). All (IsGood c.args.table.now) ts) after
    (risen-good c.args.table.now (all_linked made c.args.named.now.items c.as_slice-items.result.now) (all-good c.args.table.now made c.args.named.now.items c.as_slice-items.result.now c.requires.good (all-there c.args.named.now.items c.as_slice-items.result.now none) (links-of made c.args.call.now.tracks c.args.named.now.items c.index-first.result.now some c.index-first.ensures c.requires.named refl c.number-home.ensures)))

pub find_all-found_all-requires : goal.find_all-found_all-requires
find_all-found_all-requires g c = record { room = omega (arith, few-named c.args.named.now.items c.args.call.now.tracks c.requires.named, ap length c.deref.ensures.value) }

pub link_all-requires-clause-there : goal.link_all-requires-clause-there
link_all-requires-clause-there g c =
    let none : link_refusal c.args.named.now.items c.as_slice-items.result.now ≡ None = subst (λ (ts : List TrackState). link_refusal ts c.as_slice-items.result.now ≡ None) c.deref-2.ensures.value (sym c.link_refusal.ensures.refusal ∙ c.in-None.is) in
    let copied : c.in_ok-linked.linked.items ≡ c.args.named.now.items = c.in_ok-linked.ensures ∙ c.deref-3.ensures.value in
    rw copied (all-there c.args.named.now.items c.as_slice-items.result.now none)

pub link_all-requires-clause-found : goal.link_all-requires-clause-found
link_all-requires-clause-found g c =
    let none : link_refusal c.args.named.now.items c.as_slice-items.result.now ≡ None = subst (λ (ts : List TrackState). link_refusal ts c.as_slice-items.result.now ≡ None) c.deref-2.ensures.value (sym c.link_refusal.ensures.refusal ∙ c.in-None.is) in
    let copied : c.in_ok-linked.linked.items ≡ c.args.named.now.items = c.in_ok-linked.ensures ∙ c.deref-3.ensures.value in
    let there : c.find_all-found_all.result ≡ true = c.find_all-found_all.ensures.there ∙ (ap (λ (ts : List TrackState). are_there ts c.as_slice-items.result.now) c.deref.ensures.value ∙ all-there c.args.named.now.items c.as_slice-items.result.now none) in
    subst (λ (ts : List TrackState). AreFound ts c.as_slice-items.result.now c.find_all-found_all.new.found) (c.deref.ensures.value ∙ sym copied) (c.find_all-found_all.ensures.found there)

pub link_all-requires-clause-each : goal.link_all-requires-clause-each
link_all-requires-clause-each g c =
    let none : link_refusal c.args.named.now.items c.as_slice-items.result.now ≡ None = subst (λ (ts : List TrackState). link_refusal ts c.as_slice-items.result.now ≡ None) c.deref-2.ensures.value (sym c.link_refusal.ensures.refusal ∙ c.in-None.is) in
    omega (arith, few-named c.args.named.now.items c.args.call.now.tracks c.requires.named, as-many c.args.named.now.items c.as_slice-items.result.now (all-there c.args.named.now.items c.as_slice-items.result.now none), c.find_all-found_all.ensures.room)

pub link_refusal-requires-clause-room : goal.link_refusal-requires-clause-room
link_refusal-requires-clause-room g c = omega (arith, few-named c.args.named.now.items c.args.call.now.tracks c.requires.named, ap length c.deref-2.ensures.value, c.find_all-found_all.ensures.room)

pub link_refusal-requires-clause-there : goal.link_refusal-requires-clause-there
link_refusal-requires-clause-there g c = c.find_all-found_all.ensures.there ∙ ap (λ (ts : List TrackState). are_there ts c.as_slice-items.result.now) (c.deref.ensures.value ∙ sym c.deref-2.ensures.value)

pub link_refusal-requires-clause-found : goal.link_refusal-requires-clause-found
link_refusal-requires-clause-found g c = λ all. subst (λ (ts : List TrackState). AreFound ts c.as_slice-items.result.now c.find_all-found_all.new.found) (c.deref.ensures.value ∙ sym c.deref-2.ensures.value) (c.find_all-found_all.ensures.found all)
