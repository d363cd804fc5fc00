use Rattle.std.proofs.Common.{◌≡◌, ℕ, ◌+◌, ◌-◌, ◌<◌, ◌++◌, length, min, take, drop, arith, ap, refl, ◌∙◌}
use Rattle.std.specs.Option.{option_to_list}
use Rattle.composables.specs.Items.{cells_of}
use Rattle.composables.specs.Joined.{frames_in}
use Rattle.composables.specs.TrackState.{replaced}
use Rattle.composables.specs.TrackInside.{state_of}
use Rattle.composables.proofs.Frames.{frames_in-append}
use Rattle.composables.proofs.Joining.{filled-append, filled-drop, filled-take, items_of-tight, length-items_of}
use Rattle.composables.proofs.Keeping.{joined_fits, put_is, replace_frames, replace_keeps, same_state}
use Rattle.composables.proofs.Unlinked.{put_unlinked}
use Rattle.composables.proofs.tracks.Track.replace.Goals as goal

last_is : (to n last next count : ℕ) → n < 4294967296 → last ≡ min next count → next ≡ min (to + 1) 4294967295 → count ≡ n → last ≡ min (to + 1) n
last_is to n last next count h is next_is count_is = grind (arith, h, is, next_is, count_is)

pub last_before-before-requires : goal.last_before-before-requires
last_before-before-requires g c =
    let v = c.self.invariant in
    let xs = c.self.inside.items in
    let within = rw (← c.self.view_is) at c.requires.within in
    omega (arith, within, c.requires.order, ap length (items_of-tight xs v.filled v.tight))

pub lay_between-requires : goal.lay_between-requires
lay_between-requires g c =
    let v = c.self.invariant in
    let xs = c.self.inside.items in
    let ws = c.args.items.items in
    let kept = rw (← c.self.view_is) at c.requires.kept in
    let from = c.args.from in
    let to = c.args.to in
    let l = option_to_list c.last_before-before.result in
    let r = option_to_list c.first_from-behind.result in
    rw c.deref.ensures.value (omega (
      arith,
      kept.short,
      replace_frames xs ws from to _ v.filled v.tight refl,
      frames_in-append (take from xs ++ ws) (drop to xs),
      frames_in-append (take from xs) ws,
      ap frames_in c.last_before-before.ensures.parts,
      frames_in-append (take (from - 1) xs) l,
      ap frames_in c.first_from-behind.ensures.parts,
      frames_in-append r (drop (to + 1) xs),
    ))

pub replace-requires-clause-fits : goal.replace-requires-clause-fits
replace-requires-clause-fits g c =
    let v = c.self.invariant in
    let t = c.self.inside in
    let xs = t.items in
    let ws = c.args.items.items in
    let kept = rw (← c.self.view_is) at c.requires.kept in
    let laid = rw c.deref.ensures.value at c.in_ok-laid.ensures.joined in
    let few : length xs < 4294967296 = omega (arith, v.kept.short, length-items_of (cells_of xs), ap length (items_of-tight xs v.filled v.tight)) in
    let is = put_is xs ws c.in_ok-laid.laid.items c.args.from c.args.to c.saturating_sub-first.result c.min-last.result c.last_before-before.result c.first_from-behind.result v.tight
    c.saturating_sub-first.ensures (last_is c.args.to (length xs) c.min-last.result c.saturating_add.result c.count.result few c.min-last.ensures c.saturating_add.ensures c.count.ensures)
    c.last_before-before.ensures.parts c.last_before-before.ensures.none c.first_from-behind.ensures.parts c.first_from-behind.ensures.none laid in
    let all = take c.args.from xs ++ ws ++ drop c.args.to xs in
    let filled = filled-append (take c.args.from xs ++ ws) (drop c.args.to xs) (filled-append (take c.args.from xs) ws (filled-take c.args.from xs v.filled) c.requires.filled) (filled-drop c.args.to xs v.filled) in
    rw is (joined_fits all filled (omega (arith, kept.short, replace_frames xs ws c.args.from c.args.to _ v.filled v.tight refl)))

pub returns-in_err-replace-clause-most : goal.returns-in_err-replace-clause-most
returns-in_err-replace-clause-most g c =
    let v = c.self.invariant in
    rw (← c.self.view_is) (omega (arith, c.tick.ensures, c.in_ok-laid.ensures.most, c.deref.ensures.len, c.replace.ensures.most, ap length (items_of-tight c.self.inside.items v.filled v.tight)))

pub invariant_of-self-2 : goal.invariant_of-self-2
invariant_of-self-2 g c =
    let v = c.self.invariant in
    let t = c.self.inside in
    let xs = t.items in
    let ws = c.args.items.items in
    let kept = rw (← c.self.view_is) at c.requires.kept in
    let laid = rw c.deref.ensures.value at c.in_ok-laid.ensures.joined in
    let few : length xs < 4294967296 = omega (arith, v.kept.short, length-items_of (cells_of xs), ap length (items_of-tight xs v.filled v.tight)) in
    let is = put_is xs ws c.in_ok-laid.laid.items c.args.from c.args.to c.saturating_sub-first.result c.min-last.result c.last_before-before.result c.first_from-behind.result v.tight
    c.saturating_sub-first.ensures (last_is c.args.to (length xs) c.min-last.result c.saturating_add.result c.count.result few c.min-last.ensures c.saturating_add.ensures c.count.ensures)
    c.last_before-before.ensures.parts c.last_before-before.ensures.none c.first_from-behind.ensures.parts c.first_from-behind.ensures.none laid in
    let made = c.in_ok-replace.ensures.ok ∙ is in
    let next = rw c.deref-2.ensures.value at c.number_past_all-self-inside.ensures in
    let k = replace_keeps xs c.replace.new.self ws c.args.from c.args.to (replaced (state_of t) c.args.from c.args.to ws) v.filled v.tight c.requires.filled made refl kept in
    record {
      tight = k.tight;
      filled = k.filled;
      kept = rw (k.cells, next) kept;
      links = put_unlinked xs c.replace.new.self ws c.args.from c.args.to t.linked c.any_linked.result v.links (rw c.deref-3.ensures.value at c.any_linked.ensures) made;
    }

pub returns-clause-ok : goal.returns-clause-ok
returns-clause-ok g c =
    let v = c.self.invariant in
    let t = c.self.inside in
    let xs = t.items in
    let ws = c.args.items.items in
    let kept = rw (← c.self.view_is) at c.requires.kept in
    let laid = rw c.deref.ensures.value at c.in_ok-laid.ensures.joined in
    let few : length xs < 4294967296 = omega (arith, v.kept.short, length-items_of (cells_of xs), ap length (items_of-tight xs v.filled v.tight)) in
    let is = put_is xs ws c.in_ok-laid.laid.items c.args.from c.args.to c.saturating_sub-first.result c.min-last.result c.last_before-before.result c.first_from-behind.result v.tight
    c.saturating_sub-first.ensures (last_is c.args.to (length xs) c.min-last.result c.saturating_add.result c.count.result few c.min-last.ensures c.saturating_add.ensures c.count.ensures)
    c.last_before-before.ensures.parts c.last_before-before.ensures.none c.first_from-behind.ensures.parts c.first_from-behind.ensures.none laid in
    let made = c.in_ok-replace.ensures.ok ∙ is in
    let next = rw c.deref-2.ensures.value at c.number_past_all-self-inside.ensures in
    let k = replace_keeps xs c.replace.new.self ws c.args.from c.args.to (replaced (state_of t) c.args.from c.args.to ws) v.filled v.tight c.requires.filled made refl kept in
    rw (← c.self.view_is) (same_state t.number t.next_link _ _ _ _ k.cells next)

pub returns-clause-most : goal.returns-clause-most
returns-clause-most g c =
    let v = c.self.invariant in
    rw (← c.self.view_is) (omega (arith, c.tick.ensures, c.in_ok-laid.ensures.most, c.deref.ensures.len, c.replace.ensures.most, ap length (items_of-tight c.self.inside.items v.filled v.tight)))
