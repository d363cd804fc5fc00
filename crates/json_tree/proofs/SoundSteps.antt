-- One more in a list or an object.
use Rattle.std.proofs.Common.{List, [], ◌∷◌, ◌++◌, map, ℕ}
use Rattle.std.specs.Str.{IsUtf8}
use Rattle.std.proofs.lemmas.List.{map_push}
use Rattle.json_tree.specs.Tree.{Tree, trees, members}
use Rattle.json_tree.specs.Sound.{IsSound, AreSound, AreSoundMembers}
use Rattle.json_tree.specs.View.{tree_of, member_of}
use Rattle.json_tree.specs.declared.tree.Json.{Json}
use Rattle.json_tree.specs.declared.tree.Member.{Member}

sound_more : (ts : List Tree) (t : Tree) → AreSound (trees ts) → IsSound t → AreSound (trees (ts ++ t ∷ []))
sound_more [] t h s = (s, tt)
sound_more (u ∷ ts) t h s = (h.0, sound_more ts t h.1 s)

pub items_sound : (js : List Json) (j : Json) → AreSound (trees (map tree_of js)) → IsSound (tree_of j) → AreSound (trees (map tree_of (js ++ j ∷ [])))
items_sound js j h s = rw (map_push tree_of js j) (sound_more (map tree_of js) (tree_of j) h s)

named_more : (ms : List (List ℕ × Tree)) (m : List ℕ × Tree) → AreSoundMembers (members ms) → IsUtf8 m.0 → IsSound m.1 → AreSoundMembers (members (ms ++ m ∷ []))
named_more [] m h u s = (u, s, tt)
named_more (n ∷ ms) m h u s = (h.0, h.1, named_more ms m h.2 u s)

pub members_sound : (ms : List Member) (m : Member) → AreSoundMembers (members (map member_of ms)) → IsUtf8 m.name → IsSound (tree_of m.value) → AreSoundMembers (members (map member_of (ms ++ m ∷ [])))
members_sound ms m h u s = rw (map_push member_of ms m) (named_more (map member_of ms) (member_of m) h u s)
