use Rattle.std.proofs.Common.{◌<◌, Some, length, refl, rules, sym, ◌∙◌}
use Rattle.link_groups.proofs.AllFound.{refused-by}
use Rattle.link_groups.proofs.Linked.{as-many}
use Rattle.link_groups.proofs.linking.link_refusal.Goals as goal

pub already_linked-requires : goal.already_linked-requires
already_linked-requires c = record {
  each = as-many c.args.named.now c.args.items.now (sym c.requires.there ∙ c.if-not-found_all.false);
  all = search rules;
}

pub returns-in-Some : goal.returns-in-Some
returns-in-Some c =
    let some : 0 < length c.args.named.now = search rules in
    record {
      refusal =
          refused-by c.args.named.now c.args.items.now c.args.found.now _ (Some c.in-Some.refusal) _ some (sym c.requires.there ∙ c.if-not-found_all.false) (c.requires.found c.if-not-found_all.false) refl
          (sym c.in-Some.is ∙ c.offsets_differ.ensures.refusal) refl;
    }

pub returns-in-None : goal.returns-in-None
returns-in-None c =
    let some : 0 < length c.args.named.now = search rules in
    record {
      refusal =
          refused-by c.args.named.now c.args.items.now c.args.found.now _ _ c.already_linked.result some (sym c.requires.there ∙ c.if-not-found_all.false) (c.requires.found c.if-not-found_all.false) refl
          (sym c.in-None.is ∙ c.offsets_differ.ensures.refusal) c.already_linked.ensures.refusal;
    }
