-- The codes of a log's faults.
use Rattle.std.specs.Prelude.{ℕ}
use Rattle.uc_logrec.specs.declared.fault.LogFault.{LogFault}
use Rattle.uc_logrec.specs.declared.fault.LogFault.TheVariants.{BadLength, BadChecksum, UnsupportedType, MiddleAlone, LastAlone, FullInside, FirstInside}
use Rattle.uc_batch.specs.declared.error.BatchError.{BatchError}
use Rattle.uc_batch.specs.declared.error.BatchError.TheVariants.{TooShort, SequenceBack, SequenceTooLarge, BadTag, Cut, BadVarint, OtherFamily, WrongCount, Memory}

-- those of a record
abbrev pub log_fault_code : LogFault → ℕ
log_fault_code BadLength = 1
log_fault_code BadChecksum = 2
log_fault_code UnsupportedType = 3
log_fault_code MiddleAlone = 4
log_fault_code LastAlone = 5
log_fault_code FullInside = 6
log_fault_code FirstInside = 7

-- those of a batch
abbrev pub batch_fault_code : BatchError → ℕ
batch_fault_code TooShort = 1
batch_fault_code (SequenceBack last) = 2
batch_fault_code SequenceTooLarge = 3
batch_fault_code (BadTag tag offset) = 4
batch_fault_code (Cut offset) = 5
batch_fault_code (BadVarint offset) = 6
batch_fault_code (OtherFamily family) = 7
batch_fault_code WrongCount = 8
batch_fault_code Memory = 9
