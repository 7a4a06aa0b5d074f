-- The lines of a log: what is written, and how far the log was read.
use Rattle.std.specs.Prelude.{ℕ, List, [], ◌∷◌, ◌++◌, codes}
use Rattle.std.specs.Fmt.{decimal}
use Rattle.uc_bytes.specs.declared.op.Op.{Op}
use Rattle.uc_bytes.specs.declared.op.Op.TheVariants.{Put, Delete, Merge, DeleteRange}
use Rattle.uc_bytes.specs.declared.op_ref.OpKind.{OpKind}
use Rattle.uc_bytes.specs.declared.op_ref.OpKind.TheVariants as kind
use Rattle.uc_bytes.specs.declared.write.Write.{Write}
use Rattle.uc_logrec.specs.declared.fault.LogFault.{LogFault}
use Rattle.uc_logrec.specs.declared.fault.LogFault.TheVariants as log
use Rattle.uc_batch.specs.declared.ended.Ended.{Ended}
use Rattle.uc_batch.specs.declared.ended.Ended.TheVariants as ended
use Rattle.uc_batch.specs.declared.error.BatchError.{BatchError}
use Rattle.uc_batch.specs.declared.error.BatchError.TheVariants as batch
use Rattle.uc_tool_io.specs.Digits.{hex_text}
use Rattle.uc_tool_io.specs.Line.{numbered_line}

-- what a kind of change is called
abbrev pub op_words : OpKind → List ℕ
op_words kind.Put = codes " put "
op_words kind.Delete = codes " delete "
op_words kind.Merge = codes " merge "
op_words kind.DeleteRange = codes " range "

-- the kind of a change, its key and its value
abbrev pub op_text : Op → List ℕ
op_text (Put key value) = op_words kind.Put ++ hex_text key ++ 32 ∷ hex_text value
op_text (Delete key) = op_words kind.Delete ++ hex_text key
op_text (Merge key operand) = op_words kind.Merge ++ hex_text key ++ 32 ∷ hex_text operand
op_text (DeleteRange begin end) = op_words kind.DeleteRange ++ hex_text begin ++ 32 ∷ hex_text end

-- a write's sequence and what it does
abbrev pub write_line : Write → List ℕ
write_line w = decimal w.seq ++ op_text w.op ++ 10 ∷ []

abbrev pub log_words : LogFault → List ℕ
log_words log.BadLength = codes "log fault bad length "
log_words log.BadChecksum = codes "log fault bad checksum "
log_words log.UnsupportedType = codes "log fault unsupported type "
log_words log.MiddleAlone = codes "log fault middle alone "
log_words log.LastAlone = codes "log fault last alone "
log_words log.FullInside = codes "log fault full inside "
log_words log.FirstInside = codes "log fault first inside "

abbrev pub batch_words : BatchError → List ℕ
batch_words batch.TooShort = codes " too short"
batch_words (batch.SequenceBack last) = codes " sequence back " ++ decimal last
batch_words batch.SequenceTooLarge = codes " sequence too large"
batch_words (batch.BadTag tag offset) = codes " bad tag " ++ decimal tag ++ 32 ∷ decimal offset
batch_words (batch.Cut offset) = codes " cut " ++ decimal offset
batch_words (batch.BadVarint offset) = codes " bad varint " ++ decimal offset
batch_words (batch.OtherFamily id) = codes " other family " ++ decimal id
batch_words batch.WrongCount = codes " wrong count"
-- no log is rejected with this
batch_words batch.Memory = codes " out of memory"

-- the line that says how far the log was read
abbrev pub ended_line : Ended → List ℕ
ended_line ended.Clean = codes "clean\n"
ended_line (ended.Torn offset) = numbered_line (codes "torn ") offset
ended_line (ended.LogFault fault offset) = numbered_line (log_words fault) offset
ended_line (ended.BatchFault number fault) = codes "batch fault " ++ decimal number ++ batch_words fault ++ 10 ∷ []
