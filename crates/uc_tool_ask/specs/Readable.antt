-- Which logs are read.
use Rattle.std.specs.Prelude.{⊤}
use Rattle.uc_batch.specs.declared.ended.Ended.{Ended}
use Rattle.uc_batch.specs.declared.ended.Ended.TheVariants as ended

-- it was read to its end, or to where it breaks off inside a payload
abbrev pub IsReadable : Ended → Type 0
IsReadable ended.Clean = ⊤
IsReadable (ended.Torn offset) = ⊤
IsReadable (ended.LogFault fault offset) = ⊥
IsReadable (ended.BatchFault number fault) = ⊥
