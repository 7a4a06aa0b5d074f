-- Memtables that take no more writes.
use Rattle.std.specs.Prelude.{List}
use Rattle.std.specs.List.{flat_map}
use Rattle.uc_bytes.specs.declared.write.Write.{Write}

-- all writes that memtables show, of which the oldest comes first
abbrev pub all_of : List (List Write) → List Write
all_of memtables = flat_map (λ writes. writes) memtables
