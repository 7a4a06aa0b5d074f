-- The value of a field.
use Rattle.std.specs.Prelude.{ℕ, ◌^◌, nat_lt, ◌==◌, ◌&&◌, not, Bool, false, List, [], ◌∷◌, codes, Option, Some, None, option_and_then, if◌then◌else◌}
use Rattle.std.specs.Char.{is_ascii_digit}
use Rattle.std.specs.Option.{option_map}
use Rattle.std.specs.Result.{result_ok}
use Rattle.std.specs.List.{list_all}
use Rattle.std.specs.Str.Parse.{digits_value}
use Rattle.hex.specs.Hex.{decode_of}
use Rattle.uc_script.specs.Lines.{says}
use Rattle.uc_script.specs.declared.call.TheConstants.{NAMES}
use Rattle.uc_script.specs.declared.seq.Seq.{Seq}
use Rattle.uc_script.specs.declared.seq.Seq.TheVariants.{Number, Last}

infixl 10 ◌>>=◌
abbrev pub ◌>>=◌ : {A B : Type 0} → Option A → (A → Option B) → Option B
o >>= f = option_and_then f o

-- One decimal digit or more, and no zero before another digit.
abbrev pub is_numeral : List ℕ → Bool
is_numeral [] = false
is_numeral (digit ∷ []) = is_ascii_digit digit
is_numeral (digit ∷ next ∷ rest) = not (digit == 48) && list_all is_ascii_digit (digit ∷ next ∷ rest)

-- A number: a numeral of at most 2^64 - 1.
unfoldable pub number_of : List ℕ → Option ℕ
number_of field = if is_numeral field && nat_lt (digits_value 10 field) (2 ^ 64) then Some (digits_value 10 field) else None

-- The name of a claim: a number below NAMES.
unfoldable pub name_of : List ℕ → Option ℕ
name_of field = do
  name ← number_of field
  if nat_lt name NAMES then Some name else None

-- A key or a value: `.` for no bytes, else two hexadecimal digits, in either case, for each byte.
unfoldable pub text_of : List ℕ → Option (List ℕ)
text_of [] = None
text_of (digit ∷ rest) = if says (digit ∷ rest) (codes ".") then Some [] else result_ok (decode_of (digit ∷ rest))

-- A sequence: a number, or `last`.
unfoldable pub seq_of : List ℕ → Option Seq
seq_of field = if says field (codes "last") then Some Last else option_map Number (number_of field)

-- Where a scan ends: a key, or `-` for nowhere.
unfoldable pub high_of : List ℕ → Option (Option (List ℕ))
high_of field = if says field (codes "-") then Some None else option_map Some (text_of field)
