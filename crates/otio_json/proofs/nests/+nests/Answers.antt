use Rattle.std.proofs.Common.{◌++◌, [], ◌∷◌, length, Ok, ap, ◌∙◌, arith, subst}
use Rattle.std.proofs.lemmas.Result.{err_from_is_err_and}
use Rattle.std.proofs.lemmas.List.{length-append}
use Rattle.json_tree.specs.View.{tree_of}
use Rattle.json_tokens.specs.Reading.{◌>>=◌}
use Rattle.otio_tracks.specs.Reading.{Fails}
use Rattle.otio_tracks.specs.declared.values.Schema.TheVariants.{Stack, Track}
use Rattle.otio_tracks.specs.Times.{rate_pair}
use Rattle.otio_json.specs.Nests.{next_layer, layer_in, levels_in, nests_in, child_in, child_read, layer_read}
use Rattle.otio_json.proofs.NestLaws.{nest_item_is, size_from, each_next, each_fails, bind_fails}
use Rattle.otio_json.proofs.nests.+nests.Goals as goal

pub item-returns-in-Stack-clause-read : goal.item-returns-in-Stack-clause-read
item-returns-in-Stack-clause-read t c = rw (c.in-Stack.is, ← nest_item_is (rate_pair c.args.rate.now) c.args.nesting Stack c.args.table.now (tree_of c.args.json.now)) c.nest_item.ensures.read

pub item-returns-in-Track-clause-read : goal.item-returns-in-Track-clause-read
item-returns-in-Track-clause-read t c = rw (c.in-Track.is, ← nest_item_is (rate_pair c.args.rate.now) c.args.nesting Track c.args.table.now (tree_of c.args.json.now)) c.nest_item-in-Track.ensures.read

pub layers-returns-in_err-layer-clause-read : goal.layers-returns-in_err-layer-clause-read
unfolding layer_read
layers-returns-in_err-layer-clause-read t c =
    let p = err_from_is_err_and c.from_residual.result c.from_residual.ensures.1 in
    let fault = c.in_err-layer.field-0.0 in
    let told = rw c.as_slice.ensures at c.in_err-layer.ensures.read in
    let step = next_layer (rate_pair c.args.rate.now) (levels_in (rate_pair c.args.rate.now) c.args.levels) in
    rw (p.1, p.2) (subst (λ r. Fails fault r) c.loop-json.invariant.read
    (each_fails step (c.loop-json.layers, c.loop-json.table) c.args.children.now c.loop-json.json-index c.json-item.result fault c.loop-json-test.true c.json-item.is
    (bind_fails fault (layer_in (rate_pair c.args.rate.now) (levels_in (rate_pair c.args.rate.now) c.args.levels) (length c.loop-json.layers) c.loop-json.table (tree_of c.json-item.result)) (λ layer. Ok (c.loop-json.layers ++ layer.0 ∷ [], layer.1)) told)))

pub layers-loop-json-preserved : goal.layers-loop-json-preserved
unfolding layer_read
layers-loop-json-preserved t c = record {
  read = each_next (next_layer (rate_pair c.args.rate.now) (levels_in (rate_pair c.args.rate.now) c.args.levels)) (c.loop-json.layers, c.loop-json.table) (c.push.new.self, c.layer.new.table) c.args.children.now c.loop-json.json-index c.json-item.result c.loop-json-test.true c.json-item.is
      (rw c.in_ok-push.ensures.ok (ap (λ r. r >>= λ layer. Ok (c.loop-json.layers ++ layer.0 ∷ [], layer.1)) (rw c.as_slice.ensures at c.in_ok-layer.ensures.read)))
      ∙ c.loop-json.invariant.read;
  few = omega (arith, c.loop-json.invariant.few, c.in_ok-layer.ensures.few, size_from c.args.children.now c.loop-json.json-index c.json-item.result c.loop-json-test.true c.json-item.is);
  count = omega (arith, c.loop-json.invariant.count, c.in_ok-layer.ensures.object, ap length c.in_ok-push.ensures.ok, length-append c.loop-json.layers (c.in_ok-layer.layer ∷ []), size_from c.args.children.now c.loop-json.json-index c.json-item.result c.loop-json-test.true c.json-item.is);
}

pub row-returns-in_err-child-clause-read : goal.row-returns-in_err-child-clause-read
unfolding child_read
row-returns-in_err-child-clause-read t c =
    let p = err_from_is_err_and c.from_residual.result c.from_residual.ensures.1 in
    let fault = c.in_err-child.field-0.0 in
    let step = child_in (rate_pair c.args.rate.now) (nests_in (rate_pair c.args.rate.now) c.args.nesting) in
    rw (p.1, p.2) (subst (λ r. Fails fault r) c.loop-json.invariant.read
    (each_fails step (c.loop-json.row, c.loop-json.table) c.args.children.now c.loop-json.json-index c.json-item.result fault c.loop-json-test.true c.json-item.is c.in_err-child.ensures.read))

pub row-loop-json-preserved : goal.row-loop-json-preserved
unfolding child_read
row-loop-json-preserved t c = record {
  read = each_next (child_in (rate_pair c.args.rate.now) (nests_in (rate_pair c.args.rate.now) c.args.nesting)) (c.loop-json.row, c.loop-json.table) (c.child.new.row, c.child.new.table) c.args.children.now c.loop-json.json-index c.json-item.result c.loop-json-test.true c.json-item.is c.in_ok-child.ensures.read
      ∙ c.loop-json.invariant.read;
  few = omega (arith, c.loop-json.invariant.few, c.in_ok-child.ensures.few, size_from c.args.children.now c.loop-json.json-index c.json-item.result c.loop-json-test.true c.json-item.is);
  frames = omega (arith, c.loop-json.invariant.frames, c.in_ok-child.ensures.frames, size_from c.args.children.now c.loop-json.json-index c.json-item.result c.loop-json-test.true c.json-item.is);
}
