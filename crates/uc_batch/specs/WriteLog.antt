-- Writes, and how far the log that they come from was read.
use Rattle.std.specs.Prelude.{List}
use Rattle.uc_bytes.specs.declared.write.Write.{Write}
use Rattle.uc_batch.specs.declared.ended.Ended.{Ended}

pub record WriteLog : Type 0 where
  pub list : List Write
  pub ended : Ended
