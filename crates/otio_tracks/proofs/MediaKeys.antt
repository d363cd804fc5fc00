-- Media entries that are found by their keys.
use Rattle.std.proofs.Common.{◌≡◌, ℕ, ◌+◌, Bool, true, false, not, ◌&&◌, List, [], ◌∷◌, ◌++◌, Some, None, length, map, refl, sym, ap, ◌∙◌, cond, position, if◌then◌else◌}
use Rattle.std.specs.Prelude.{eqb}
use Rattle.std.specs.List.{list_any, position_or_len}
use Rattle.std.proofs.lemmas.List.{map-append, length-map}
use Rattle.std.proofs.lemmas.List.Recursion.{is_position_or_len}
use Rattle.composables.specs.declared.media.Media.{Media}
use Rattle.composables.specs.declared.media.Table.{Table}
use Rattle.otio_tracks.specs.Clips.{media_of, same_media, entry_number, with_entry, with_media}

abbrev pub Key : Type 0
Key = ℕ × ℕ × ℕ

-- whether two keys are one
abbrev pub same_key : Key → Key → Bool
same_key a b = (eqb a.0 b.0 && eqb a.1 b.1) && eqb a.2 b.2

turned : (b : Bool) (n : ℕ) → cond (not b) (1 + n) 0 ≡ cond b 0 (1 + n)
turned true n = refl
turned false n = refl

-- how far an entry stands behind the front is how far its key does
place_same : (k : Key) (ks : List Key) → position_or_len (same_media (media_of k)) (map media_of ks) ≡ position_or_len (same_key k) ks
place_same k ks = is_position_or_len (λ xs. position_or_len (same_media (media_of k)) (map media_of xs)) (same_key k) refl (λ x xs. turned (same_key k x) (position_or_len (same_media (media_of k)) (map media_of xs))) ks

pub position_same : (k : Key) (ks : List Key) → position (same_media (media_of k)) (map media_of ks) ≡ position (same_key k) ks
position_same k ks = rw (place_same k ks, length-map ks media_of) refl

-- one that is not there goes last
pub goes_last : (k : Key) (ks new : List Key) → position (same_key k) ks ≡ None → list_any (same_key k) ks ≡ false
    → new ≡ (if list_any (same_key k) ks then ks else ks ++ k ∷ []) → map media_of new ≡ with_entry (map media_of ks) (media_of k)
goes_last k ks new none fresh made =
    rw (position_same k ks, none) (ap (map media_of) (made ∙ ap (λ b. if b then ks else ks ++ k ∷ []) fresh) ∙ map-append media_of ks (k ∷ []))

pub stands_last : (k : Key) (ks : List Key) (n : ℕ) → n ≡ length ks → position (same_key k) ks ≡ None → n ≡ entry_number (map media_of ks) (media_of k)
stands_last k ks n is none = rw (position_same k ks, none) (is ∙ sym (length-map ks media_of))

-- one that is there keeps its number, and none is added
pub stands_there : (k : Key) (ks : List Key) (i : ℕ) → position (same_key k) ks ≡ Some i → i ≡ entry_number (map media_of ks) (media_of k)
stands_there k ks i is = rw (position_same k ks, is) refl

pub stays : (k : Key) (ks : List Key) (i : ℕ) → position (same_key k) ks ≡ Some i → map media_of ks ≡ with_entry (map media_of ks) (media_of k)
stays k ks i is = rw (position_same k ks, is) refl

-- the same of the table
pub table_stays : (t : Table) (k : Key) (ks : List Key) (i : ℕ) → t.media ≡ map media_of ks → position (same_key k) ks ≡ Some i → t ≡ with_media t (media_of k)
table_stays t k ks i is there =
    ap (λ (media : List Media). record t { media = media })
    (is ∙ (stays k ks i there ∙ ap (λ media. with_entry media (media_of k)) (sym is)))

pub table_grows : (t : Table) (k : Key) (ks new : List Key) → t.media ≡ map media_of ks → position (same_key k) ks ≡ None → list_any (same_key k) ks ≡ false
    → new ≡ (if list_any (same_key k) ks then ks else ks ++ k ∷ []) → record t { media = map media_of new } ≡ with_media t (media_of k)
table_grows t k ks new is none fresh made =
    ap (λ (media : List Media). record t { media = media })
    (goes_last k ks new none fresh made ∙ ap (λ media. with_entry media (media_of k)) (sym is))
