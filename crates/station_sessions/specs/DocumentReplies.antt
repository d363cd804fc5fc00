-- The replies to a wish for the document of a cut.
use Rattle.std.specs.Prelude.{ℕ, List, ◌++◌, length, nat_le, codes, decimal, if◌then◌else◌}

-- the most bytes of a document that is written: 32 MiB
abbrev pub most_written : ℕ
most_written = 33554432

-- the document after so many entries, or that it is too long to be written
abbrev pub document_reply : ℕ → List ℕ → List ℕ
document_reply n text =
    if nat_le (length text) most_written then codes "otio " ++ decimal n ++ codes " " ++ text
    else codes "no " ++ decimal n ++ codes " V4"

-- there are only so many entries
abbrev pub no_point_reply : ℕ → List ℕ
no_point_reply length = codes "no " ++ decimal length ++ codes " V3"
