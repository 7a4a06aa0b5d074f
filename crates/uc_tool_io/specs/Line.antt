-- Lines of words and numbers. Each line ends with LF; bytes are hexadecimal, numbers decimal.
use Rattle.std.specs.Prelude.{ℕ, List, [], ◌∷◌, ◌++◌}
use Rattle.std.specs.List.{flat_map}
use Rattle.std.specs.Fmt.{decimal}
use Rattle.uc_tool_io.specs.Digits.{hex_text}

-- words followed by a number
abbrev pub field : List ℕ × ℕ → List ℕ
field f = f.0 ++ decimal f.1

-- words with a number after each, and the end of the line
abbrev pub fields_line : List (List ℕ × ℕ) → List ℕ
fields_line fields = flat_map field fields ++ 10 ∷ []

-- words, a number, and the end of the line
abbrev pub numbered_line : List ℕ → ℕ → List ℕ
numbered_line words number = words ++ decimal number ++ 10 ∷ []

-- words, a byte string, and the end of the line
abbrev pub text_line : List ℕ → List ℕ → List ℕ
text_line words text = words ++ hex_text text ++ 10 ∷ []
