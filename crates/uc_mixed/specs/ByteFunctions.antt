-- The functions of two bytes.
use Rattle.std.specs.Prelude.{ℕ, max, bit_and, bit_or, bit_xor}
use Rattle.uc_mixed.specs.declared.bytewise.ByteFunction.{ByteFunction}
use Rattle.uc_mixed.specs.declared.bytewise.ByteFunction.TheVariants.{Or, And, Xor, Max}

abbrev pub function_of : ByteFunction → ℕ → ℕ → ℕ
function_of Or a b = bit_or a b
function_of And a b = bit_and a b
function_of Xor a b = bit_xor a b
function_of Max a b = max a b
