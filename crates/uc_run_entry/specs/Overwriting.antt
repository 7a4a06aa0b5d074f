-- Operations that overwrite older ones.
use Rattle.std.specs.Prelude.{Bool, true, false}
use Rattle.uc_run_entry.specs.declared.entry.Entry.{Entry}
use Rattle.uc_run_entry.specs.declared.entry.What.{What}
use Rattle.uc_run_entry.specs.declared.entry.What.TheVariants.{Put, Delete, Merge}

abbrev pub sets : What → Bool
sets (Put value) = true
sets Delete = true
sets (Merge operand) = false

-- a put and a delete do, and a merge doesn't
abbrev pub overwrites : Entry → Bool
overwrites p = sets p.what
