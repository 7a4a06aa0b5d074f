use Rattle.uc_log_crash.proofs.mark.+push_number.Given as goal

abbrev pub decreases-push_number : goal.decreases-push_number
decreases-push_number l = l.more
