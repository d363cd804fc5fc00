-- The tables of RFC 8259, section 7: the value of a hexadecimal digit, and what a letter behind a backslash stands for.
use Rattle.std.specs.Prelude.{ℕ, ◌-◌, Option, Some, None, nat_le, ◌==◌, ◌||◌, ◌&&◌, if◌then◌else◌}

-- 0 to 9, a to f, A to F
abbrev pub hex_value : ℕ → Option ℕ
hex_value b = if nat_le 48 b && nat_le b 57 then Some (b - 48)
    else (if nat_le 97 b && nat_le b 102 then Some (b - 87)
    else (if nat_le 65 b && nat_le b 70 then Some (b - 55)
    else None))

-- a quote, a backslash and a slash themselves; b, f, n, r and t
abbrev pub short_escape : ℕ → Option ℕ
short_escape b = if (b == 34) || (b == 92) || (b == 47) then Some b
    else (if b == 98 then Some 8
    else (if b == 102 then Some 12
    else (if b == 110 then Some 10
    else (if b == 114 then Some 13
    else (if b == 116 then Some 9
    else None)))))
