use Rattle.std.proofs.Common.{◌≡◌, ◌∷◌, ◌||◌, Bool, ap, sym, ◌∙◌}
use Rattle.std.specs.Map.Iter.{deref}
use Rattle.std.proofs.lemmas.Map.Iter.{rest_all, rest_more}
use Rattle.std.specs.BTreeMap.{is_at}
use Rattle.std.specs.List.{list_any}
use Rattle.link_groups.specs.Keys.{may_have, pair_key}
use Rattle.link_groups.specs.Splits.{key_cmp}
use Rattle.link_groups.proofs.SplitKeys.{at-is}
use Rattle.link_groups.proofs.Unmarked.{marks-all, marks-more}
use Rattle.link_groups.proofs.meeting.keys_of.Goals as goal

pub returns-then-is_empty : goal.returns-then-is_empty
returns-then-is_empty c q e = c.all.ensures (pair_key q)

pub loop-link-preserved : goal.loop-link-preserved
loop-link-preserved c q e =
    let left : c.loop-link.link-iterator ≡ c.in-Some.link.now ∷ c.next.new.self = rest_more deref c.loop-link.link-iterator c.next.new.self c.next.result c.in-Some.link c.in-Some.is c.next.ensures.steps in
    marks-more c.loop-link.marks c.mark_pair.new.self q c.in-Some.link.now c.next.new.self c.mark_pair.ensures.grows c.mark_pair.ensures.marked (at-is q c.in-Some.link.now)
    (ap (λ (b : Bool). may_have c.loop-link.marks (pair_key q) || b) (ap (list_any (is_at (key_cmp q))) (sym left)) ∙ c.loop-link.invariant q e)

pub returns : goal.returns
returns c q e =
    marks-all (may_have c.loop-link.marks (pair_key q)) q c.loop-link.link-iterator (rest_all deref c.loop-link.link-iterator c.next.new.self c.next.result c.in-None.is c.next.ensures.steps) (c.loop-link.invariant q e)
