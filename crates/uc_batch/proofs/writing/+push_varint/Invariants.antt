use Rattle.uc_batch.proofs.writing.+push_varint.Given as goal

abbrev pub decreases-push_varint : goal.decreases-push_varint
decreases-push_varint l = l.more
