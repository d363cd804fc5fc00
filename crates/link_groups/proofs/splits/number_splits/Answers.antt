use Rattle.std.proofs.Common.{◌≡◌, ℕ, ◌+◌, ◌∷◌, Option, Some, length, ap, ◌∙◌, arith, rules, cond, eqb, unwrap_or}
use Rattle.std.specs.BTreeMap.{get, is_at}
use Rattle.std.specs.BTreeSet.{IsOrdered, btree_set_len}
use Rattle.std.specs.Map.Iter.{deref}
use Rattle.std.specs.Ordering.{nat_cmp}
use Rattle.std.proofs.lemmas.Map.Iter.{rest_more}
use Rattle.composables.specs.Links.{next_link_at}
use Rattle.link_groups.specs.Splits.{key_cmp}
use Rattle.link_groups.proofs.SplitKeys.{count-more, few-more, more-split, next-small}
use Rattle.link_groups.proofs.Unmarked.{marks-given}
use Rattle.link_groups.proofs.splits.number_splits.Goals as goal

pub overflow_add-next_link_at : goal.overflow_add-next_link_at
overflow_add-next_link_at g c =
    let count : c.unwrap_or-count.result ≡ unwrap_or (get nat_cmp c.loop-key.counts c.in-Some.key.now.0) 0 = c.unwrap_or-count.ensures ∙ ap (λ (o : Option ℕ). unwrap_or o 0) (c.copied.ensures ∙ c.get.ensures.value) in
    omega (arith, count, c.next_link_at.ensures, next-small c.in-Some.key.now.0 c.args.named.now c.requires.next, c.requires.few, c.loop-key.invariant.few c.in-Some.key.now.0)

pub loop-key-preserved : goal.loop-key-preserved
loop-key-preserved g c =
    let sorted : IsOrdered key_cmp c.args.split.now = search rules in
    let left : c.loop-key.key-iterator ≡ c.in-Some.key.now ∷ c.next.new.self = rest_more deref c.loop-key.key-iterator c.next.new.self c.next.result c.in-Some.key c.in-Some.is c.next.ensures.steps in
    let count : c.unwrap_or-count.result ≡ unwrap_or (get nat_cmp c.loop-key.counts c.in-Some.key.now.0) 0 = c.unwrap_or-count.ensures ∙ ap (λ (o : Option ℕ). unwrap_or o 0) (c.copied.ensures ∙ c.get.ensures.value) in
    let number : c.next_link_at.result + c.unwrap_or-count.result ≡ next_link_at c.in-Some.key.now.0 c.args.named.now + unwrap_or (get nat_cmp c.loop-key.counts c.in-Some.key.now.0) 0 =
    ap (λ (n : ℕ). n + c.unwrap_or-count.result) c.next_link_at.ensures ∙ ap (λ (n : ℕ). next_link_at c.in-Some.key.now.0 c.args.named.now + n) count in
    record {
      so_far =
          more-split c.args.named.now c.args.split.now.keys c.loop-key.key-iterator c.next.new.self c.in-Some.key.now
          (λ (q : ℕ × ℕ). get key_cmp c.loop-key.numbers q) (λ (q : ℕ × ℕ). get key_cmp c.insert.new.self q)
          (λ (home : ℕ). unwrap_or (get nat_cmp c.loop-key.counts home) 0) (λ (home : ℕ). unwrap_or (get nat_cmp c.insert-in-loop-key.new.self home) 0)
          c.loop-key.invariant.so_far left sorted
          (λ q. c.in_ok-insert.ensures.updates.0 q ∙ ap (λ (n : ℕ). cond (is_at (key_cmp c.in-Some.key.now) q) (Some n) (get key_cmp c.loop-key.numbers q)) number)
          (λ home.
          ap (λ (o : Option ℕ). unwrap_or o 0) (c.in_ok-insert-2.ensures.updates.0 home)
          ∙ (count-more c.in-Some.key.now.0 home (c.unwrap_or-count.result + 1) (get nat_cmp c.loop-key.counts home)
          ∙ ap (λ (n : ℕ). cond (eqb c.in-Some.key.now.0 home) (n + 1) (unwrap_or (get nat_cmp c.loop-key.counts home) 0)) count));
      few = λ home.
          omega (
            arith,
            few-more c.in-Some.key.now.0 home (unwrap_or (get nat_cmp c.loop-key.counts home) 0) (unwrap_or (get nat_cmp c.loop-key.counts c.in-Some.key.now.0) 0) (btree_set_len c.args.split.now) (length c.loop-key.key-iterator) (length c.next.new.self)
                (c.loop-key.invariant.few home) (c.loop-key.invariant.few c.in-Some.key.now.0) (omega (arith, ap length left)),
            ap (λ (o : Option ℕ). unwrap_or o 0) (c.in_ok-insert-2.ensures.updates.0 home)
                ∙ (count-more c.in-Some.key.now.0 home (c.unwrap_or-count.result + 1) (get nat_cmp c.loop-key.counts home)
                ∙ ap (λ (n : ℕ). cond (eqb c.in-Some.key.now.0 home) (n + 1) (unwrap_or (get nat_cmp c.loop-key.counts home) 0)) count),
          );
      least = omega (arith, c.loop-key.invariant.least, c.tick.ensures);
      most = omega (arith, c.loop-key.invariant.most, c.tick.ensures, ap length left);
    }

pub returns-clause-marked : goal.returns-clause-marked
returns-clause-marked g c q e =
    marks-given c.args.marks c.args.named.now c.args.split.now.keys c.loop-key.key-iterator (λ (p : ℕ × ℕ). get key_cmp c.loop-key.numbers p) (λ (home : ℕ). unwrap_or (get nat_cmp c.loop-key.counts home) 0)
    c.loop-key.invariant.so_far c.requires.marked q e
