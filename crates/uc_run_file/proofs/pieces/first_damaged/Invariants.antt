use Rattle.uc_run_file.proofs.PieceSums.{AreSound}
use Rattle.uc_run_file.proofs.pieces.first_damaged.Given as goal

abbrev pub invariant-loop-piece : goal.invariant-loop-piece
invariant-loop-piece l = AreSound l.bytes l.rest l.table l.sums l.piece
