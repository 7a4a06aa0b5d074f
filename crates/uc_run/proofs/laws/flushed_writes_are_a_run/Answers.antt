use Rattle.uc_run_entry.proofs.Pieces.{in_order, some_seqs, seqs_fall}
use Rattle.uc_run.proofs.Flushed.{is_run}
use Rattle.uc_run.proofs.laws.flushed_writes_are_a_run.Goals as goal

pub returns : goal.returns
returns c writes rising some = is_run (λ ranges. in_order ranges) (λ ranges. some_seqs ranges) (λ ranges. seqs_fall ranges) writes rising some
