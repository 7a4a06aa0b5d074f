use Rattle.uc_run.proofs.Parts.{have_own_seqs}
use Rattle.uc_run.proofs.Flushed.{points_below}
use Rattle.uc_run.proofs.flush.run_of_slots.Goals as goal

pub points_by_key-requires-clause-own : goal.points_by_key-requires-clause-own
points_by_key-requires-clause-own c = have_own_seqs 0 _ c.requires.rising

pub points_by_key-requires-clause-below : goal.points_by_key-requires-clause-below
points_by_key-requires-clause-below c = points_below _ c.requires.rising
