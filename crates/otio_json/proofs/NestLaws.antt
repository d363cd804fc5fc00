-- Steps over the children of a track or nest, and the levels of nests.
use Rattle.std.proofs.Common.{◌≡◌, ℕ, zero, suc, ◌+◌, ◌<◌, List, ◌∷◌, length, drop, map, get_or, drop-cons, Ok, refl, sym, ap, ◌∙◌, arith, subst}
use Rattle.json_tokens.specs.Reading.{◌>>=◌}
use Rattle.json_tree.specs.Tree.{Tree}
use Rattle.json_tree.specs.Size.{tree_size, items_size}
use Rattle.json_tree.specs.View.{tree_of}
use Rattle.json_tree.specs.declared.tree.Json.{Json}
use Rattle.composables.specs.declared.media.Table.{Table}
use Rattle.otio_tracks.specs.declared.faults.DocFault.{DocFault}
use Rattle.otio_tracks.specs.declared.faults.DocFault.TheVariants.{Refused, Memory}
use Rattle.otio_tracks.specs.declared.values.Schema.{Schema}
use Rattle.otio_json.specs.declared.nests.Nesting.{Nesting}
use Rattle.otio_json.specs.declared.nests.Nesting.TheVariants.{Forbidden, Levels}
use Rattle.otio_tracks.specs.Reading.{Read, Fails, each}
use Rattle.otio_json.specs.Nests.{nest_item_in, nests_in, levels_in, nest_item_read, nest_read}

-- the children from an index on: the one there, and those behind it
children_from : (xs : List Json) (i : ℕ) (x : Json) → i < length xs → x ≡ get_or xs i x → map tree_of (drop i xs) ≡ tree_of x ∷ map tree_of (drop (i + 1) xs)
children_from xs i x h is =
    let e : suc i ≡ i + 1 = omega arith in
    ap (map tree_of) (drop-cons xs i x h) ∙ (ap (λ y. tree_of y ∷ map tree_of (drop (suc i) xs)) (sym is) ∙ ap (λ k. tree_of x ∷ map tree_of (drop k xs)) e)

pub size_from : (xs : List Json) (i : ℕ) (x : Json) → i < length xs → x ≡ get_or xs i x → items_size (map tree_of (drop i xs)) ≡ tree_size (tree_of x) + items_size (map tree_of (drop (i + 1) xs))
size_from xs i x h is = ap items_size (children_from xs i x h is)

pub each_next : {S : Type 0} (step : S → Tree → Read S) (state next : S) (xs : List Json) (i : ℕ) (x : Json) → i < length xs → x ≡ get_or xs i x → step state (tree_of x) ≡ Ok next
    → each step next (map tree_of (drop (i + 1) xs)) ≡ each step state (map tree_of (drop i xs))
each_next step state next xs i x h is e = sym (ap (each step state) (children_from xs i x h is) ∙ ap (λ r. r >>= λ s. each step s (map tree_of (drop (i + 1) xs))) e)

pub bind_fails : {A B : Type 0} (fault : DocFault) (r : Read A) (f : A → Read B) → Fails fault r → Fails fault (r >>= f)
bind_fails Memory r f h = tt
bind_fails (Refused code at) r f h = ap (λ x. x >>= f) h

pub each_fails : {S : Type 0} (step : S → Tree → Read S) (state : S) (xs : List Json) (i : ℕ) (x : Json) (fault : DocFault) → i < length xs → x ≡ get_or xs i x → Fails fault (step state (tree_of x))
    → Fails fault (each step state (map tree_of (drop i xs)))
each_fails step state xs i x fault h is e =
    subst (λ ts. Fails fault (each step state ts)) (sym (children_from xs i x h is)) (bind_fails fault (step state (tree_of x)) (λ s. each step s (map tree_of (drop (i + 1) xs))) e)

pub nest_item_is : (rate : ℕ × ℕ) (nesting : Nesting) (schema : Schema) (table : Table) (t : Tree) → nest_item_read rate nesting schema table t ≡ nest_item_in rate (nests_in rate nesting) schema table t
unfolding nest_item_read nest_read levels_in
nest_item_is rate Forbidden schema table t = refl
nest_item_is rate (Levels zero) schema table t = refl
nest_item_is rate (Levels (suc n)) schema table t = refl
