use Rattle.uc_log_crash.proofs.mark.+number_size.Given as goal

abbrev pub decreases-number_size : goal.decreases-number_size
decreases-number_size l = l.more
