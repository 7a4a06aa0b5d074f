-- The place of a reader in a log's batches, whether the log is in one piece or in several.
use Rattle.uc_batch.specs.Position.{BatchPosition}
use Rattle.uc_version_open.specs.declared.log_batches.AnyReader.{AnyReader}
use Rattle.uc_version_open.specs.declared.log_batches.AnyReader.TheVariants.{Borrowed, InPieces}

abbrev pub position_of : AnyReader → BatchPosition
position_of (Borrowed batches) = batches
position_of (InPieces batches) = batches
