use Rattle.std.proofs.Common.{◌≡◌, ℕ, Bool, ◌&&◌, ◌||◌, not, false, List, take, ap, sym, ◌∙◌, arith}
use Rattle.std.proofs.lemmas.List.{take_all}
use Rattle.std.proofs.lemmas.List.Sums.{sum_by_more, sum_by_more_le}
use Rattle.std.specs.BTreeMap.{is_at}
use Rattle.std.specs.BTreeSet.{contains}
use Rattle.std.specs.List.{list_any}
use Rattle.composables.specs.Links.{cells_before}
use Rattle.composables.specs.Sizes.{size_of}
use Rattle.composables.specs.TrackState.{TrackState}
use Rattle.link_groups.specs.Splits.{has_key, key_cmp}
use Rattle.link_groups.proofs.BothSides.{before-one, before-some}
use Rattle.link_groups.proofs.Unmarked.{found-more, found-none, missing-first, missing-more, none-in, none-missing, still-marked}
use Rattle.link_groups.proofs.staying.staying.Goals as goal

pub loop-track-init : goal.loop-track-init
loop-track-init g c = record {
  found = λ q. ap (list_any (is_at (key_cmp q))) c.new-found.ensures.empty ∙ found-none (contains key_cmp c.args.links q);
  missing = λ q. missing-first (contains key_cmp c.args.links q);
  few = omega (arith, c.new-found.ensures.len);
  least = omega arith;
  most = omega arith;
}

pub returns-then-is_empty-clause-links : goal.returns-then-is_empty-clause-links
returns-then-is_empty-clause-links g c q =
    c.loop-track.invariant.found q
    ∙ none-missing (contains key_cmp c.args.links q) (list_any (has_key q) (cells_before c.args.x (take c.loop-track.track-index c.args.named.now))) (list_any (has_key q) (cells_before c.args.x c.args.named.now))
    (sym (c.loop-track.invariant.missing q) ∙ none-in c.loop-track.missing q (c.is_empty.ensures.0 c.if-is_empty.true))
    (before-some q c.args.x c.loop-track.track-index c.args.named.now)

pub returns-then-is_empty-clause-most : goal.returns-then-is_empty-clause-most
returns-then-is_empty-clause-most g c = omega (arith, c.loop-track.invariant.most, sum_by_more_le size_of c.args.named.now c.loop-track.track-index c.track-item.result c.loop-track-test.true)

pub find_before-requires : goal.find_before-requires
find_before-requires g c q e =
    c.requires q (still-marked (contains key_cmp c.args.links q) (list_any (has_key q) (cells_before c.args.x (take c.loop-track.track-index c.args.named.now))) (sym (c.loop-track.invariant.missing q) ∙ e))

pub loop-track-preserved : goal.loop-track-preserved
loop-track-preserved g c = record {
  found = λ q.
      let m = contains key_cmp c.args.links q in
      let b = list_any (has_key q) (cells_before c.args.x (take c.loop-track.track-index c.args.named.now)) in
      let t = list_any (has_key q) (take c.args.x c.track-item.result.cells) in
      c.in_ok-find_before.ensures.found q
      ∙ (ap (λ (d : Bool). d || (contains key_cmp c.loop-track.missing q && t)) (c.loop-track.invariant.found q)
      ∙ (ap (λ (d : Bool). (m && b) || (d && t)) (c.loop-track.invariant.missing q)
      ∙ (found-more false m b t
      ∙ ap (λ (d : Bool). m && d) (sym (before-one q c.args.x c.loop-track.track-index c.args.named.now c.track-item.result c.loop-track-test.true c.track-item.is)))));
  missing = λ q.
      let m = contains key_cmp c.args.links q in
      let b = list_any (has_key q) (cells_before c.args.x (take c.loop-track.track-index c.args.named.now)) in
      let t = list_any (has_key q) (take c.args.x c.track-item.result.cells) in
      c.in_ok-find_before.ensures.missing q
      ∙ (ap (λ (d : Bool). d && not t) (c.loop-track.invariant.missing q)
      ∙ (missing-more m b t
      ∙ ap (λ (d : Bool). m && not d) (sym (before-one q c.args.x c.loop-track.track-index c.args.named.now c.track-item.result c.loop-track-test.true c.track-item.is))));
  few = omega (arith, c.loop-track.invariant.few, c.in_ok-find_before.ensures.few);
  least = omega (arith, c.loop-track.invariant.least, c.find_before.ensures.least);
  most = omega (arith, c.loop-track.invariant.most, c.find_before.ensures.most, ap size_of c.track-item.is, sum_by_more size_of c.args.named.now c.loop-track.track-index c.track-item.result c.loop-track-test.true);
}

pub returns-clause-links : goal.returns-clause-links
returns-clause-links g c q =
    c.loop-track.invariant.found q
    ∙ ap (λ (ts : List TrackState). contains key_cmp c.args.links q && list_any (has_key q) (cells_before c.args.x ts)) (take_all c.loop-track.track-index c.args.named.now c.loop-track-test.false)
