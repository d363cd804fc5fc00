use Rattle.std.proofs.Common.{length, arith, sym, ap, ◌∙◌}
use Rattle.std.specs.Option.{is_some}
use Rattle.std.specs.String.{string_bytes}
use Rattle.std.specs.Str.{bytes_eq}
use Rattle.reel_table.proofs.Keys.{any_map, at_place, stays, grows, grows_by_one, last_number, distinct-with_name}
use Rattle.reel_table.proofs.reels.Reels.add.Goals as goal

pub returns-in-Some-clause-ok : goal.returns-in-Some-clause-ok
returns-in-Some-clause-ok c = rw (← c.self.view_is) (sym (stays _ _ (sym (any_map (λ s. string_bytes s) (bytes_eq c.args.name.now) c.self.inside.names.keys) ∙ (sym c.get_index_of.ensures.found ∙ ap is_some c.in-Some.is))))

pub returns-in-Some-clause-number : goal.returns-in-Some-clause-number
returns-in-Some-clause-number c = rw (← c.self.view_is) (at_place (λ s. string_bytes s) c.args.name.now c.self.inside.names.keys c.in-Some.i (sym c.get_index_of.ensures.index ∙ c.in-Some.is))

pub returns-clause-ok : goal.returns-clause-ok
returns-clause-ok c = rw (← c.self.view_is) (grows c.self.inside.names.keys c.insert.new.self.keys c.in_ok-text.text c.args.name.now c.in_ok-text.ensures.ok (sym c.get_index_of.ensures.found ∙ ap is_some c.in-None.is) c.in_ok-insert.ensures.keys)

pub returns-clause-number : goal.returns-clause-number
returns-clause-number c = last_number c.self.inside.names.keys c.insert.new.self.keys c.in_ok-text.text c.args.name.now c.len-i.result c.len-i.ensures.len c.in_ok-text.ensures.ok (sym c.get_index_of.ensures.found ∙ ap is_some c.in-None.is) c.in_ok-insert.ensures.keys

pub invariant_of-self-2 : goal.invariant_of-self-2
invariant_of-self-2 c =
    let keys = c.self.inside.names.keys in
    let none = sym c.get_index_of.ensures.found ∙ ap is_some c.in-None.is in
    let grown = grows keys c.insert.new.self.keys c.in_ok-text.text c.args.name.now c.in_ok-text.ensures.ok none c.in_ok-insert.ensures.keys in
    let more = grows_by_one keys c.insert.new.self.keys c.in_ok-text.text c.args.name.now c.in_ok-text.ensures.ok none c.in_ok-insert.ensures.keys in
    (omega (arith, more, ap length c.self.view_is, c.requires), rw grown (distinct-with_name _ c.args.name.now c.self.invariant.1))
