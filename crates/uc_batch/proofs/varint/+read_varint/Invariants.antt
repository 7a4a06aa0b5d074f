use Rattle.uc_batch.proofs.varint.+read_varint.Given as goal

abbrev pub decreases-read_varint : goal.decreases-read_varint
decreases-read_varint l = l.more
