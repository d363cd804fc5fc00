-- What the first bytes of a connection talk: HTTP begins with a method and a blank (RFC 9112, section 3).
use Rattle.std.specs.Prelude.{ℕ, ◌+◌, List, [], ◌∷◌, Option, Some, None, Bool, ◌&&◌, ◌||◌, ◌==◌, nat_lt, nat_le, if◌then◌else◌}
use Rattle.web_lines.specs.declared.first_bytes.TheConstants.{LONGEST_METHOD}
use Rattle.web_lines.specs.declared.first_bytes.Talk.{Talk}
use Rattle.web_lines.specs.declared.first_bytes.Talk.TheVariants.{Plain, Http}

-- a capital letter or a hyphen, of which all methods in use are made
abbrev pub is_method_byte : ℕ → Bool
is_method_byte byte = (nat_le 65 byte && nat_le byte 90) || byte == 45

-- so many bytes of a method stand in front, and this one after them: with a blank after 1 to 20 it is HTTP
abbrev pub talk_at : ℕ → ℕ → Talk
talk_at count byte = if nat_le count LONGEST_METHOD && (nat_lt 0 count && byte == 32) then Http else Plain

-- only bytes of a method have come, so many: more have to come, unless they are too many for one
abbrev pub talk_so_far : ℕ → Option Talk
talk_so_far count = if nat_le count LONGEST_METHOD then None else Some Plain

-- after so many bytes of a method
abbrev pub talk_after : ℕ → List ℕ → Option Talk
talk_after count [] = talk_so_far count
talk_after count (byte ∷ bytes) =
    if is_method_byte byte then talk_after (count + 1) bytes else Some (talk_at count byte)

abbrev pub talk_of : List ℕ → Option Talk
talk_of front = talk_after 0 front
