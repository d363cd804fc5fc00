use Rattle.std.proofs.Common.{◌≡◌, ℕ, ◌+◌, Bool, Some, true, false, not, ◌&&◌, ◌||◌, length, slice_get, ap, sym, [], ◌∙◌, arith, refl, take}
use Rattle.std.specs.BTreeSet.{contains}
use Rattle.std.specs.List.{list_any}
use Rattle.composables.specs.Items.{cells_of, items_of}
use Rattle.composables.proofs.Pieces.{left-first}
use Rattle.link_groups.specs.Splits.{has_key, is_key_of, key_cmp}
use Rattle.link_groups.proofs.Bare.{bare-cells, bare-keys, bare-take}
use Rattle.link_groups.proofs.LeastLinks.{filled-at, frames-within}
use Rattle.link_groups.proofs.LinkedCells.{front-again, front-whole}
use Rattle.link_groups.proofs.PassedOver.{few-kept, front-all, Reads, reads-next, reads-none, reads-on}
use Rattle.link_groups.proofs.Unmarked.{and-same, found-more, found-nothing, front-same, missing-more, missing-nothing}
use Rattle.link_groups.proofs.staying.find_before.Goals as goal

pub returns-then-not-has_links-clause-found : goal.returns-then-not-has_links-clause-found
returns-then-not-has_links-clause-found g c q =
    let bare = bare-cells c.args.track.now c.a_track_is_kept.ensures (c.if-not-has_links.ensures.none refl) in
    found-nothing (contains key_cmp c.args.found.now q) (contains key_cmp c.args.missing.now q) (list_any (has_key q) (take c.args.x c.args.track.now.cells)) (bare-keys q (take c.args.x c.args.track.now.cells) (bare-take c.args.x c.args.track.now.cells bare))

pub returns-then-not-has_links-clause-missing : goal.returns-then-not-has_links-clause-missing
returns-then-not-has_links-clause-missing g c q =
    let bare = bare-cells c.args.track.now c.a_track_is_kept.ensures (c.if-not-has_links.ensures.none refl) in
    missing-nothing (contains key_cmp c.args.missing.now q) (list_any (has_key q) (take c.args.x c.args.track.now.cells)) (bare-keys q (take c.args.x c.args.track.now.cells) (bare-take c.args.x c.args.track.now.cells bare))

pub loop-index-init : goal.loop-index-init
loop-index-init g c = record {
  within = omega arith;
  items = c.at-items.ensures;
  at = refl;
  found = λ q. found-nothing (contains key_cmp c.args.found.now q) (contains key_cmp c.args.missing.now q) (list_any (has_key q) (take c.args.x [])) (bare-keys q (take c.args.x []) (bare-take c.args.x [] tt));
  missing = λ q. missing-nothing (contains key_cmp c.args.missing.now q) (list_any (has_key q) (take c.args.x [])) (bare-keys q (take c.args.x []) (bare-take c.args.x [] tt));
  few = omega arith;
  least = omega arith;
  most = omega arith;
}

pub overflow_add-index : goal.overflow_add-index
overflow_add-index g c =
    let vs = items_of c.args.track.now.cells in
    let i = c.loop-index.index in
    let n = c.pass_unmarked-past.result.count in
    let here : Reads vs c.loop-index.items i c.loop-index.at = record { within = c.loop-index.invariant.within; left_is = c.loop-index.invariant.items; at_is = c.loop-index.invariant.at } in
    let on = reads-on vs c.loop-index.items c.pass_unmarked-past.new.items i c.loop-index.at n c.pass_unmarked-past.result.frames
    here c.pass_unmarked-past.ensures.within c.pass_unmarked-past.ensures.left c.pass_unmarked-past.ensures.frames in
    omega (arith, on.within, few-kept c.args.track.now c.a_track_is_kept.ensures)

pub overflow_add-at : goal.overflow_add-at
overflow_add-at g c =
    let vs = items_of c.args.track.now.cells in
    let i = c.loop-index.index in
    let n = c.pass_unmarked-past.result.count in
    let here : Reads vs c.loop-index.items i c.loop-index.at = record { within = c.loop-index.invariant.within; left_is = c.loop-index.invariant.items; at_is = c.loop-index.invariant.at } in
    let on = reads-on vs c.loop-index.items c.pass_unmarked-past.new.items i c.loop-index.at n c.pass_unmarked-past.result.frames
    here c.pass_unmarked-past.ensures.within c.pass_unmarked-past.ensures.left c.pass_unmarked-past.ensures.frames in
    omega (arith, on.at_is, frames-within c.args.track.now (i + n) c.a_track_is_kept.ensures)

pub returns-then-at-x-clause-found : goal.returns-then-at-x-clause-found
returns-then-at-x-clause-found g c q =
    let vs = items_of c.args.track.now.cells in
    let i = c.loop-index.index in
    let n = c.pass_unmarked-past.result.count in
    let here : Reads vs c.loop-index.items i c.loop-index.at = record { within = c.loop-index.invariant.within; left_is = c.loop-index.invariant.items; at_is = c.loop-index.invariant.at } in
    let on = reads-on vs c.loop-index.items c.pass_unmarked-past.new.items i c.loop-index.at n c.pass_unmarked-past.result.frames
    here c.pass_unmarked-past.ensures.within c.pass_unmarked-past.ensures.left c.pass_unmarked-past.ensures.frames in
    let same = λ (q : ℕ × ℕ) (h : contains key_cmp c.args.missing.now q ≡ true).
    front-same c.args.marks.now q c.args.x i n vs c.loop-index.items c.loop-index.invariant.items c.pass_unmarked-past.ensures.unmarked (c.requires q h) in
    c.loop-index.invariant.found q
    ∙ ap (λ (b : Bool). contains key_cmp c.args.found.now q || b)
    (and-same (contains key_cmp c.args.missing.now q) (list_any (has_key q) (take c.args.x (cells_of (take i vs)))) (list_any (has_key q) (take c.args.x c.args.track.now.cells))
    (λ h. same q h ∙ front-whole q c.args.x (i + n) c.args.track.now c.a_track_is_kept.ensures (omega (arith, c.if-at-x.true, on.at_is))))

pub returns-then-at-x-clause-missing : goal.returns-then-at-x-clause-missing
returns-then-at-x-clause-missing g c q =
    let vs = items_of c.args.track.now.cells in
    let i = c.loop-index.index in
    let n = c.pass_unmarked-past.result.count in
    let here : Reads vs c.loop-index.items i c.loop-index.at = record { within = c.loop-index.invariant.within; left_is = c.loop-index.invariant.items; at_is = c.loop-index.invariant.at } in
    let on = reads-on vs c.loop-index.items c.pass_unmarked-past.new.items i c.loop-index.at n c.pass_unmarked-past.result.frames
    here c.pass_unmarked-past.ensures.within c.pass_unmarked-past.ensures.left c.pass_unmarked-past.ensures.frames in
    let same = λ (q : ℕ × ℕ) (h : contains key_cmp c.args.missing.now q ≡ true).
    front-same c.args.marks.now q c.args.x i n vs c.loop-index.items c.loop-index.invariant.items c.pass_unmarked-past.ensures.unmarked (c.requires q h) in
    c.loop-index.invariant.missing q
    ∙ ap (λ (b : Bool). b)
    (and-same (contains key_cmp c.args.missing.now q) (not (list_any (has_key q) (take c.args.x (cells_of (take i vs))))) (not (list_any (has_key q) (take c.args.x c.args.track.now.cells)))
    (λ h. ap not (same q h ∙ front-whole q c.args.x (i + n) c.args.track.now c.a_track_is_kept.ensures (omega (arith, c.if-at-x.true, on.at_is)))))

pub returns-in_default-clause-found : goal.returns-in_default-clause-found
returns-in_default-clause-found g c q =
    let vs = items_of c.args.track.now.cells in
    let i = c.loop-index.index in
    let n = c.pass_unmarked-past.result.count in
    let here : Reads vs c.loop-index.items i c.loop-index.at = record { within = c.loop-index.invariant.within; left_is = c.loop-index.invariant.items; at_is = c.loop-index.invariant.at } in
    let on = reads-on vs c.loop-index.items c.pass_unmarked-past.new.items i c.loop-index.at n c.pass_unmarked-past.result.frames
    here c.pass_unmarked-past.ensures.within c.pass_unmarked-past.ensures.left c.pass_unmarked-past.ensures.frames in
    let same = λ (q : ℕ × ℕ) (h : contains key_cmp c.args.missing.now q ≡ true).
    front-same c.args.marks.now q c.args.x i n vs c.loop-index.items c.loop-index.invariant.items c.pass_unmarked-past.ensures.unmarked (c.requires q h) in
    c.loop-index.invariant.found q
    ∙ ap (λ (b : Bool). contains key_cmp c.args.found.now q || b)
    (and-same (contains key_cmp c.args.missing.now q) (list_any (has_key q) (take c.args.x (cells_of (take i vs)))) (list_any (has_key q) (take c.args.x c.args.track.now.cells))
    (λ h. same q h ∙ front-all q c.args.x (i + n) c.args.track.now c.a_track_is_kept.ensures (reads-none vs c.pass_unmarked-past.new.items (i + n) on.left_is (c.in_default.ensures.none refl).0)))

pub returns-in_default-clause-missing : goal.returns-in_default-clause-missing
returns-in_default-clause-missing g c q =
    let vs = items_of c.args.track.now.cells in
    let i = c.loop-index.index in
    let n = c.pass_unmarked-past.result.count in
    let here : Reads vs c.loop-index.items i c.loop-index.at = record { within = c.loop-index.invariant.within; left_is = c.loop-index.invariant.items; at_is = c.loop-index.invariant.at } in
    let on = reads-on vs c.loop-index.items c.pass_unmarked-past.new.items i c.loop-index.at n c.pass_unmarked-past.result.frames
    here c.pass_unmarked-past.ensures.within c.pass_unmarked-past.ensures.left c.pass_unmarked-past.ensures.frames in
    let same = λ (q : ℕ × ℕ) (h : contains key_cmp c.args.missing.now q ≡ true).
    front-same c.args.marks.now q c.args.x i n vs c.loop-index.items c.loop-index.invariant.items c.pass_unmarked-past.ensures.unmarked (c.requires q h) in
    c.loop-index.invariant.missing q
    ∙ ap (λ (b : Bool). b)
    (and-same (contains key_cmp c.args.missing.now q) (not (list_any (has_key q) (take c.args.x (cells_of (take i vs))))) (not (list_any (has_key q) (take c.args.x c.args.track.now.cells)))
    (λ h. ap not (same q h ∙ front-all q c.args.x (i + n) c.args.track.now c.a_track_is_kept.ensures (reads-none vs c.pass_unmarked-past.new.items (i + n) on.left_is (c.in_default.ensures.none refl).0))))

pub overflow_add-index-in-loop-index : goal.overflow_add-index-in-loop-index
overflow_add-index-in-loop-index g c =
    let vs = items_of c.args.track.now.cells in
    let i = c.loop-index.index in
    let n = c.pass_unmarked-past.result.count in
    let here : Reads vs c.loop-index.items i c.loop-index.at = record { within = c.loop-index.invariant.within; left_is = c.loop-index.invariant.items; at_is = c.loop-index.invariant.at } in
    let on = reads-on vs c.loop-index.items c.pass_unmarked-past.new.items i c.loop-index.at n c.pass_unmarked-past.result.frames
    here c.pass_unmarked-past.ensures.within c.pass_unmarked-past.ensures.left c.pass_unmarked-past.ensures.frames in
    let v = c.in-Some.view in
    let read : slice_get vs (i + n) ≡ Some v = left-first vs c.pass_unmarked-past.new.items c.next.new.self (i + n) v on.left_is c.in-Some.ensures.some in
    omega (arith, (reads-next vs c.pass_unmarked-past.new.items c.next.new.self (i + n) _ v on c.in-Some.ensures.some).within, few-kept c.args.track.now c.a_track_is_kept.ensures)

pub overflow_add-at-in-loop-index : goal.overflow_add-at-in-loop-index
overflow_add-at-in-loop-index g c =
    let vs = items_of c.args.track.now.cells in
    let i = c.loop-index.index in
    let n = c.pass_unmarked-past.result.count in
    let here : Reads vs c.loop-index.items i c.loop-index.at = record { within = c.loop-index.invariant.within; left_is = c.loop-index.invariant.items; at_is = c.loop-index.invariant.at } in
    let on = reads-on vs c.loop-index.items c.pass_unmarked-past.new.items i c.loop-index.at n c.pass_unmarked-past.result.frames
    here c.pass_unmarked-past.ensures.within c.pass_unmarked-past.ensures.left c.pass_unmarked-past.ensures.frames in
    let v = c.in-Some.view in
    let read : slice_get vs (i + n) ≡ Some v = left-first vs c.pass_unmarked-past.new.items c.next.new.self (i + n) v on.left_is c.in-Some.ensures.some in
    omega (arith, (reads-next vs c.pass_unmarked-past.new.items c.next.new.self (i + n) _ v on c.in-Some.ensures.some).at_is, frames-within c.args.track.now (i + n + 1) c.a_track_is_kept.ensures)

pub loop-index-preserved : goal.loop-index-preserved
loop-index-preserved g c =
    let vs = items_of c.args.track.now.cells in
    let i = c.loop-index.index in
    let n = c.pass_unmarked-past.result.count in
    let here : Reads vs c.loop-index.items i c.loop-index.at = record { within = c.loop-index.invariant.within; left_is = c.loop-index.invariant.items; at_is = c.loop-index.invariant.at } in
    let on = reads-on vs c.loop-index.items c.pass_unmarked-past.new.items i c.loop-index.at n c.pass_unmarked-past.result.frames
    here c.pass_unmarked-past.ensures.within c.pass_unmarked-past.ensures.left c.pass_unmarked-past.ensures.frames in
    let same = λ (q : ℕ × ℕ) (h : contains key_cmp c.args.missing.now q ≡ true).
    front-same c.args.marks.now q c.args.x i n vs c.loop-index.items c.loop-index.invariant.items c.pass_unmarked-past.ensures.unmarked (c.requires q h) in
    let v = c.in-Some.view in
    let read : slice_get vs (i + n) ≡ Some v = left-first vs c.pass_unmarked-past.new.items c.next.new.self (i + n) v on.left_is c.in-Some.ensures.some in
    let next = reads-next vs c.pass_unmarked-past.new.items c.next.new.self (i + n) _ v on c.in-Some.ensures.some in
    let more = λ (q : ℕ × ℕ).
    front-again q c.args.x (i + n) vs v false read (omega (arith, c.if-at-x.false, on.at_is)) (filled-at vs (i + n) v read c.a_track_is_kept.ensures.each) in
    record {
      within = next.within;
      items = next.left_is;
      at = next.at_is;
      found = λ q.
          let m = contains key_cmp c.args.missing.now q in
          let k = is_key_of q v.link in
          c.in_ok-find_link.ensures.found q
          ∙ (ap (λ (b : Bool). b || (contains key_cmp c.loop-index.missing q && k)) (c.loop-index.invariant.found q ∙ ap (λ (b : Bool). contains key_cmp c.args.found.now q || b) (and-same m (list_any (has_key q) (take c.args.x (cells_of (take i vs)))) (list_any (has_key q) (take c.args.x (cells_of (take (i + n) vs)))) (same q)))
          ∙ (ap (λ (b : Bool). (contains key_cmp c.args.found.now q || (m && list_any (has_key q) (take c.args.x (cells_of (take (i + n) vs))))) || (b && k)) (c.loop-index.invariant.missing q ∙ and-same m (not (list_any (has_key q) (take c.args.x (cells_of (take i vs))))) (not (list_any (has_key q) (take c.args.x (cells_of (take (i + n) vs))))) (λ h. ap not (same q h)))
          ∙ (found-more (contains key_cmp c.args.found.now q) m (list_any (has_key q) (take c.args.x (cells_of (take (i + n) vs)))) k
          ∙ ap (λ (b : Bool). contains key_cmp c.args.found.now q || (m && b)) (more q))));
      missing = λ q.
          let m = contains key_cmp c.args.missing.now q in
          let k = is_key_of q v.link in
          c.in_ok-find_link.ensures.missing q
          ∙ (ap (λ (b : Bool). b && not k) (c.loop-index.invariant.missing q ∙ and-same m (not (list_any (has_key q) (take c.args.x (cells_of (take i vs))))) (not (list_any (has_key q) (take c.args.x (cells_of (take (i + n) vs))))) (λ h. ap not (same q h)))
          ∙ (missing-more m (list_any (has_key q) (take c.args.x (cells_of (take (i + n) vs)))) k
          ∙ ap (λ (b : Bool). m && not b) (more q)));
      few = omega (arith, c.loop-index.invariant.few, c.in_ok-find_link.ensures.few);
      least = omega (arith, c.loop-index.invariant.least, c.tick.ensures);
      most = omega (arith, c.loop-index.invariant.most, c.tick.ensures);
    }

pub returns-clause-found : goal.returns-clause-found
returns-clause-found g c q =
    c.loop-index.invariant.found q
    ∙ ap (λ (b : Bool). contains key_cmp c.args.found.now q || (contains key_cmp c.args.missing.now q && b))
    (front-all q c.args.x c.loop-index.index c.args.track.now c.a_track_is_kept.ensures (omega (arith, c.loop-index-test.false, c.count-count.ensures)))

pub returns-clause-missing : goal.returns-clause-missing
returns-clause-missing g c q =
    c.loop-index.invariant.missing q
    ∙ ap (λ (b : Bool). contains key_cmp c.args.missing.now q && not b)
    (front-all q c.args.x c.loop-index.index c.args.track.now c.a_track_is_kept.ensures (omega (arith, c.loop-index-test.false, c.count-count.ensures)))

pub loop-index-smaller : goal.loop-index-smaller
loop-index-smaller g c =
    let vs = items_of c.args.track.now.cells in
    let i = c.loop-index.index in
    let n = c.pass_unmarked-past.result.count in
    let here : Reads vs c.loop-index.items i c.loop-index.at = record { within = c.loop-index.invariant.within; left_is = c.loop-index.invariant.items; at_is = c.loop-index.invariant.at } in
    let on = reads-on vs c.loop-index.items c.pass_unmarked-past.new.items i c.loop-index.at n c.pass_unmarked-past.result.frames
    here c.pass_unmarked-past.ensures.within c.pass_unmarked-past.ensures.left c.pass_unmarked-past.ensures.frames in
    let v = c.in-Some.view in
    let read : slice_get vs (i + n) ≡ Some v = left-first vs c.pass_unmarked-past.new.items c.next.new.self (i + n) v on.left_is c.in-Some.ensures.some in
    omega (arith, (reads-next vs c.pass_unmarked-past.new.items c.next.new.self (i + n) _ v on c.in-Some.ensures.some).within, few-kept c.args.track.now c.a_track_is_kept.ensures)
