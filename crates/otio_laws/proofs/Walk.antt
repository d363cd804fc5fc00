-- The walk over a tree with the places that it has in a text: what a value is does not hang on where it stands.
use Rattle.std.proofs.Common.{◌≡◌, ℕ, ◌+◌, Bool, true, false, List, ◌∷◌, ◌++◌, length, Option, Some, None, Ok, refl, ap, ◌∙◌, ◌⊎◌, inl, inr, cond, if◌then◌else◌}
use Rattle.std.specs.Prelude.{codes}
use Rattle.std.specs.Option.{option_or}
use Rattle.std.specs.Str.{bytes_eq}
use Rattle.std.proofs.lemmas.Slice.Eq.{bytes_eq-Decides}
use Rattle.json_tokens.specs.Reading.{◌>>=◌}
use Rattle.json_tree.specs.Tree.{Tree, Kind, Members, At, Null, Bool_of, Numeral_of, Wide, Text_of, List_of, Object_of, no_members, more_members, in_members, last_named}
use Rattle.json_tree.specs.Parts.{place_of, kind_in, member_in}
use Rattle.json_tree.specs.Writing.{quoted, tree_text}
use Rattle.json_tree.proofs.WriteLaws.{placed, placed_kind, placed_members}
use Rattle.otio_tracks.specs.declared.faults.DocCode.TheVariants.{O1, O2, O3}
use Rattle.otio_tracks.specs.declared.values.Schema.{Schema}
use Rattle.otio_tracks.specs.Reading.{Read, refuse, or_refuse}
use Rattle.otio_tracks.specs.Values.{is_null, is_object, unless_null, given, needed, schema_named, schema_text, schema_read, wrong_code, expected}
use Rattle.otio_laws.specs.CutTrees.{text_tree}

-- a step whose value is known, and the steps behind it
pub goes : {A B : Type 0} (r : Read A) (f : A → Read B) (x : A) (y : Read B) → r ≡ Ok x → f x ≡ y → (r >>= f) ≡ y
goes {A} r f x y e k = ap (λ (s : Read A). s >>= f) e ∙ k

-- ---- members

kind_placed : (t : Tree) (at : ℕ) → kind_in (placed at t) ≡ placed_kind at (kind_in t)
kind_placed (At place kind) at = refl

or_found : (o : Option Tree) (x t : Tree) (b : Bool) → option_or o (cond b (Some x) None) ≡ Some t → (o ≡ Some t) ⊎ ((o ≡ None) × (b ≡ true) × (x ≡ t))
or_found (Some y) x t b e = inl e
or_found None x t true e = inr (refl, refl, cc)
or_found None x t false e = cc

-- the tree with a place
abbrev Somewhere : Option Tree → Tree → Type 0
Somewhere o t = (p : ℕ) × (o ≡ Some (placed p t))

or_none : (o : Option Tree) (x : Tree) (b : Bool) → option_or o (cond b (Some x) None) ≡ None → (o ≡ None) × (b ≡ false)
or_none (Some y) x b e = cc
or_none None x true e = cc
or_none None x false e = (refl, refl)

none_named : (name : List ℕ) (ms : Members) (at : ℕ) → last_named name (in_members ms) ≡ None → last_named name (in_members (placed_members at ms)) ≡ None
none_named name no_members at e = refl
none_named name (more_members n x ms) at e =
    let p = or_none (last_named name (in_members ms)) x (bytes_eq n name) e in
    rw (none_named name ms (at + length (quoted n ++ 58 ∷ tree_text x) + 1) p.0, p.1) refl

last_placed : (name : List ℕ) (ms : Members) (at : ℕ) (t : Tree) → last_named name (in_members ms) ≡ Some t → Somewhere (last_named name (in_members (placed_members at ms))) t
last_placed name no_members at t e = cc
last_placed name (more_members n x ms) at t e =
    let next = at + length (quoted n ++ 58 ∷ tree_text x) + 1 in
    elim (or_found (last_named name (in_members ms)) x t (bytes_eq n name) e) [
      | inl found ↦ let p = last_placed name ms next t found in (p.0, rw p.1 refl)
      | inr h ↦ (at + length (quoted n) + 1, rw (none_named name ms next h.0, h.1) (ap (λ (y : Tree). Some (placed (at + length (quoted n) + 1) y)) h.2))
    ]

kind_member : (name : List ℕ) (k : Kind) (at : ℕ) (t : Tree) → member_in name k ≡ Some t → Somewhere (member_in name (placed_kind at k)) t
kind_member name (Object_of ms) at t e = last_placed name ms (at + 1) t e
kind_member name Null at t e = cc
kind_member name (Bool_of b) at t e = cc
kind_member name (Numeral_of m p) at t e = cc
kind_member name Wide at t e = cc
kind_member name (Text_of s) at t e = cc
kind_member name (List_of ts) at t e = cc

kind_no_member : (name : List ℕ) (k : Kind) (at : ℕ) → member_in name k ≡ None → member_in name (placed_kind at k) ≡ None
kind_no_member name (Object_of ms) at e = none_named name ms (at + 1) e
kind_no_member name Null at e = refl
kind_no_member name (Bool_of b) at e = refl
kind_no_member name (Numeral_of m p) at e = refl
kind_no_member name Wide at e = refl
kind_no_member name (Text_of s) at e = refl
kind_no_member name (List_of ts) at e = refl

-- the tree has this member
abbrev pub Has : List ℕ → Tree → Tree → Type 0
Has name t x = member_in name (kind_in t) ≡ Some x

abbrev pub HasNo : List ℕ → Tree → Type 0
HasNo name t = member_in name (kind_in t) ≡ None

pub member_back : (name : List ℕ) (t x : Tree) (at : ℕ) → Has name t x → Somewhere (member_in name (kind_in (placed at t))) x
member_back name t x at h =
    let p = kind_member name (kind_in t) at x h in
    (p.0, ap (member_in name) (kind_placed t at) ∙ p.1)

pub no_member_back : (name : List ℕ) (t : Tree) (at : ℕ) → HasNo name t → member_in name (kind_in (placed at t)) ≡ None
no_member_back name t at h = ap (member_in name) (kind_placed t at) ∙ kind_no_member name (kind_in t) at h

pub needed_back : (name : List ℕ) (t x : Tree) (at : ℕ) → Has name t x → (p : ℕ) × (needed name (placed at t) ≡ Ok (placed p x))
needed_back name t x at h =
    let m = member_back name t x at h in
    (m.0, ap (λ (o : Option Tree). or_refuse o O2 (place_of (placed at t))) m.1)

null_placed : (k : Kind) (at : ℕ) → is_null (placed_kind at k) ≡ is_null k
null_placed Null at = refl
null_placed (Bool_of b) at = refl
null_placed (Numeral_of m p) at = refl
null_placed Wide at = refl
null_placed (Text_of s) at = refl
null_placed (List_of ts) at = refl
null_placed (Object_of ms) at = refl

null_back : (t : Tree) (at : ℕ) → is_null (kind_in (placed at t)) ≡ is_null (kind_in t)
null_back t at = ap is_null (kind_placed t at) ∙ null_placed (kind_in t) at

pub given_back : (name : List ℕ) (t x : Tree) (at : ℕ) → Has name t x → is_null (kind_in x) ≡ false → (p : ℕ) × (given name (placed at t) ≡ Some (placed p x))
given_back name t x at h some =
    let m = member_back name t x at h in
    (m.0, ap unless_null m.1 ∙ ap (λ (b : Bool). if b then None else Some (placed m.0 x)) (null_back x m.0 ∙ some))

pub given_null : (name : List ℕ) (t x : Tree) (at : ℕ) → Has name t x → is_null (kind_in x) ≡ true → given name (placed at t) ≡ None
given_null name t x at h none =
    let m = member_back name t x at h in
    ap unless_null m.1 ∙ ap (λ (b : Bool). if b then None else Some (placed m.0 x)) (null_back x m.0 ∙ none)

pub given_none : (name : List ℕ) (t : Tree) (at : ℕ) → HasNo name t → given name (placed at t) ≡ None
given_none name t at h = ap unless_null (no_member_back name t at h)

-- ---- values

object_placed : (k : Kind) (at : ℕ) → is_object (placed_kind at k) ≡ is_object k
object_placed Null at = refl
object_placed (Bool_of b) at = refl
object_placed (Numeral_of m p) at = refl
object_placed Wide at = refl
object_placed (Text_of s) at = refl
object_placed (List_of ts) at = refl
object_placed (Object_of ms) at = refl

pub object_back : (t : Tree) (at : ℕ) → is_object (kind_in t) ≡ true → is_object (kind_in (placed at t)) ≡ true
object_back t at h = ap is_object (kind_placed t at) ∙ object_placed (kind_in t) at ∙ h

-- ---- schemas

pub record IsOf (name : List ℕ) (t : Tree) : Type 0 where
  pub object : is_object (kind_in t) ≡ true
  pub schema : Has (codes "OTIO_SCHEMA") t (text_tree name)

schema_text_back : (name : List ℕ) (t : Tree) (at : ℕ) → IsOf name t → (p : ℕ) × (schema_text (placed at t) ≡ Ok (placed p (text_tree name)))
unfolding schema_text
schema_text_back name t at h =
    let m = needed_back (codes "OTIO_SCHEMA") t (text_tree name) at h.schema in
    (m.0, ap (λ (b : Bool). if b then needed (codes "OTIO_SCHEMA") (placed at t) else refuse O3 (place_of (placed at t))) (object_back t at h.object) ∙ m.1)

pub expected_back : (name : List ℕ) (t : Tree) (at : ℕ) → IsOf name t → expected name (placed at t) ≡ Ok tt
unfolding expected
expected_back name t at h =
    let m = schema_text_back name t at h in
    goes (schema_text (placed at t)) _ (placed m.0 (text_tree name)) _ m.1
    (ap (λ (b : Bool). if b then Ok tt else refuse (wrong_code (schema_named name)) m.0) ((bytes_eq-Decides name name).1 refl))

pub schema_back : (name : List ℕ) (t : Tree) (s : Schema) (at : ℕ) → IsOf name t → schema_named name ≡ Some s → (p : ℕ) × (schema_read (placed at t) ≡ Ok (s, p))
unfolding schema_read
schema_back name t s at h e =
    let m = schema_text_back name t at h in (
      m.0,
      goes (schema_text (placed at t)) _ (placed m.0 (text_tree name)) _ m.1
          (ap (λ (o : Option Schema). or_refuse o O1 m.0 >>= λ known. Ok (known, m.0)) e),
    )
