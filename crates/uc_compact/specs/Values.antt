-- Points that say a value.
use Rattle.std.specs.Prelude.{⊤}
use Rattle.uc_run_entry.specs.declared.entry.What.{What}
use Rattle.uc_run_entry.specs.declared.entry.What.TheVariants.{Put, Delete, Merge}

abbrev pub IsPut : What → Type 0
IsPut (Put value) = ⊤
IsPut Delete = ⊥
IsPut (Merge operand) = ⊥
