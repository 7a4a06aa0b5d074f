-- A line as it is shown.
use Rattle.std.specs.Prelude.{ℕ, ◌+◌, ◌/◌, ◌%◌, ◌&&◌, nat_lt, nat_le, Bool, List, [], ◌∷◌, ◌++◌, length, take, codes, if◌then◌else◌}
use Rattle.std.specs.List.{flat_map}
use Rattle.uc_script.specs.declared.shown_line.TheConstants.{MOST_SHOWN}

-- Whether a byte is a printable character of ASCII.
abbrev pub is_printable : ℕ → Bool
is_printable byte = nat_le 32 byte && nat_le byte 126

-- The hexadecimal digit of a number below 16.
abbrev pub hex_digit : ℕ → ℕ
hex_digit n = if nat_lt n 10 then 48 + n else 87 + n

-- A byte as it is shown: itself if it is printable, else `\x` and its two digits.
abbrev pub shown : ℕ → List ℕ
shown byte = if is_printable byte then byte ∷ [] else 92 ∷ 120 ∷ hex_digit (byte / 16 % 16) ∷ hex_digit (byte % 16) ∷ []

-- A line as it is shown: its first bytes, and `...` if it has more.
unfoldable pub shortened : List ℕ → List ℕ
shortened line =
    if nat_le (length line) MOST_SHOWN then flat_map shown line
    else flat_map shown (take MOST_SHOWN line) ++ codes "..."
