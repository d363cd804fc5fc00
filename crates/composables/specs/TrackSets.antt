-- Sets of tracks: bit t of a number names track t.
use Rattle.std.specs.Prelude.{ℕ, zero, suc, ◌+◌, ◌*◌, ◌/◌, ◌%◌, ◌^◌, Bool, List, [], ◌∷◌, Option, Some, None, nat_eq, if◌then◌else◌}
use Rattle.std.specs.Int.Bits.{bit_and, bit_or}
use Rattle.frame_meaning.specs.declared.cells.Link.{Link}
use Rattle.item_pages.specs.Wants.{IsWithin}

abbrev pub has_track : ℕ → ℕ → Bool
has_track set t = nat_eq (bit_and (set / 2 ^ t) 1) 1

-- those of a set among n tracks from t on
abbrev pub tracks_from : ℕ → ℕ → ℕ → List ℕ
tracks_from set t zero = []
tracks_from set t (suc n) = if has_track set t then t ∷ tracks_from set (suc t) n else tracks_from set (suc t) n

-- the tracks of a set, in ascending order
unfoldable pub tracks_in : ℕ → List ℕ
tracks_in set = tracks_from set 0 32

-- the bits that pages keep of a link: those of its tracks, and bit 32; none where there is no link
abbrev pub link_bits : Option Link → ℕ
link_bits None = 0
link_bits (Some l) = bit_or l.tracks (2 ^ 32)

-- so those of links with no tracks but those of a set, or of no link
abbrev pub set_bits : Option ℕ → ℕ
set_bits None = 0
set_bits (Some tracks) = bit_or tracks (2 ^ 32)

-- a link, or none, is known by its bits to have no tracks but those of a set
abbrev pub IsInSet : Option ℕ → Option Link → Type 0
IsInSet tracks link = IsWithin (link_bits link) (set_bits tracks)

-- the key that pages keep of a link: links with one home and one number have one key, and others may have it too
abbrev pub link_key : Option Link → Option ℕ
link_key None = None
link_key (Some l) = Some (l.home % 32 * 2 ^ 27 + l.number % 2 ^ 27)
