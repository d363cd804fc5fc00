-- Values of a document by kind, and the schema of an object: its member OTIO_SCHEMA. The place of a missing member is
-- its object's; the place of any other fault is the value's that is wrong.
use Rattle.std.specs.Prelude.{ℕ, Bool, true, false, List, Option, Some, None, Ok, codes, bytes_eq, if◌then◌else◌}
use Rattle.json_tokens.specs.Reading.{◌>>=◌}
use Rattle.json_tree.specs.Tree.{Tree, Kind, Null, Object_of}
use Rattle.json_tree.specs.Parts.{place_of, kind_in, member_in, items_in, text_in}
use Rattle.otio_tracks.specs.declared.faults.DocCode.{DocCode}
use Rattle.otio_tracks.specs.declared.faults.DocCode.TheVariants.{O1, O2, O3}
use Rattle.otio_tracks.specs.declared.values.References.TheVariants.{One, ByKey}
use Rattle.otio_tracks.specs.declared.values.Schema.{Schema}
use Rattle.otio_tracks.specs.declared.values.Schema.TheVariants.{Clip, Gap, Stack, Track, Transition, Other}
use Rattle.otio_tracks.specs.Reading.{Read, refuse, or_refuse}

abbrev pub is_null : Kind → Bool
is_null Null = true
is_null _ = false

abbrev pub is_object : Kind → Bool
is_object (Object_of ms) = true
is_object _ = false

abbrev pub unless_null : Option Tree → Option Tree
unless_null None = None
unless_null (Some t) = if is_null (kind_in t) then None else Some t

-- a member, where it is there and is not null
abbrev pub given : List ℕ → Tree → Option Tree
given name t = unless_null (member_in name (kind_in t))

-- a member that must be there
abbrev pub needed : List ℕ → Tree → Read Tree
needed name t = or_refuse (member_in name (kind_in t)) O2 (place_of t)

abbrev pub text_read : Tree → Read (List ℕ)
text_read t = or_refuse (text_in (kind_in t)) O3 (place_of t)

abbrev pub list_read : Tree → Read (List Tree)
list_read t = or_refuse (items_in (kind_in t)) O3 (place_of t)

-- the schemas that are read
abbrev pub schema_named : List ℕ → Option Schema
schema_named name =
    if bytes_eq name (codes "Clip.1") then Some (Clip One)
    else if bytes_eq name (codes "Clip.2") then Some (Clip ByKey)
    else if bytes_eq name (codes "Gap.1") then Some Gap
    else if bytes_eq name (codes "Stack.1") then Some Stack
    else if bytes_eq name (codes "Track.1") then Some Track
    else if bytes_eq name (codes "Transition.1") then Some Transition
    else if bytes_eq name (codes "Timeline.1") then Some Other
    else if bytes_eq name (codes "TimeRange.1") then Some Other
    else if bytes_eq name (codes "RationalTime.1") then Some Other
    else None

-- the member that names an object's schema
unfoldable pub schema_text : Tree → Read Tree
schema_text t = if is_object (kind_in t) then needed (codes "OTIO_SCHEMA") t else refuse O3 (place_of t)

-- the schema of a child, and the place of its text
unfoldable pub schema_read : Tree → Read (Schema × ℕ)
schema_read t = do
  member ← schema_text t
  name ← text_read member
  schema ← or_refuse (schema_named name) O1 (place_of member)
  Ok (schema, place_of member)

-- a known schema in a wrong place, or one that is not read
abbrev pub wrong_code : Option Schema → DocCode
wrong_code (Some schema) = O3
wrong_code None = O1

-- an object of this schema
unfoldable pub expected : List ℕ → Tree → Read (Unit {0})
expected wanted t = do
  member ← schema_text t
  name ← text_read member
  if bytes_eq name wanted then Ok tt else refuse (wrong_code (schema_named name)) (place_of member)
