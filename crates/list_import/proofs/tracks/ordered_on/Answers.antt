use Rattle.std.proofs.Common.{rules}
use Rattle.std.proofs.lemmas.List.Sorted.{IsNonDecreasingBy-from_sort_by_key}
use Rattle.list_import.specs.declared.shots.Shot.{Shot}
use Rattle.list_import.proofs.Orders.{ordered}
use Rattle.list_import.proofs.tracks.ordered_on.Goals as goal

pub returns-clause-own : goal.returns-clause-own
returns-clause-own c =
    (ordered c.args.channel c.args.start c.args.shots.now _ _ c.requires c.in_ok-on.ensures c.in_ok-sort_by_key.ensures.permutation
    (IsNonDecreasingBy-from_sort_by_key (λ (s : Shot). s.place) _ c.in_ok-sort_by_key.ensures.sorted (λ a r q k. search rules))).are

pub returns-clause-laid : goal.returns-clause-laid
returns-clause-laid c =
    (ordered c.args.channel c.args.start c.args.shots.now _ _ c.requires c.in_ok-on.ensures c.in_ok-sort_by_key.ensures.permutation
    (IsNonDecreasingBy-from_sort_by_key (λ (s : Shot). s.place) _ c.in_ok-sort_by_key.ensures.sorted (λ a r q k. search rules))).laid
