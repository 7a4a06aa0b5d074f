use Rattle.uc_run_entry.proofs.Pieces.{in_order, some_seqs, seqs_fall}
use Rattle.uc_run_entry.proofs.fragment_laws.fragments_are_in_order.Goals as goal

pub returns : goal.returns
returns c = record { order = λ ranges. in_order ranges; some = λ ranges. some_seqs ranges; falling = λ ranges. seqs_fall ranges }
