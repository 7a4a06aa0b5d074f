-- The operation of a point on its key, as a tag with a byte string.
use Rattle.std.specs.Prelude.{ℕ, suc, zero, List}
use Rattle.uc_run_entry.specs.declared.entry.What.{What}
use Rattle.uc_run_entry.specs.declared.entry.What.TheVariants as what
use Rattle.uc_run_entry.specs.declared.what_ref.WhatRef.{WhatRef}
use Rattle.uc_run_entry.specs.declared.what_ref.WhatRef.TheVariants.{Put, Delete, Merge}

-- the operation with a borrowed byte string
abbrev pub what_of : WhatRef → What
what_of (Put value) = what.Put value.now
what_of Delete = what.Delete
what_of (Merge operand) = what.Merge operand.now

-- the operation of a tag and the byte string after the key (RocksDB, `dbformat.h`, `ValueType`)
abbrev pub tagged : ℕ → List ℕ → What
tagged zero text = what.Delete
tagged (suc zero) text = what.Put text
tagged (suc (suc n)) text = what.Merge text
