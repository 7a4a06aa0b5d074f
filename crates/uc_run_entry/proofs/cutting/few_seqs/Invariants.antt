use Rattle.std.proofs.Common.{◌≡◌, map, take}
use Rattle.uc_run_entry.specs.Spanning.{if_few}
use Rattle.uc_run_entry.specs.declared.fragments.TheConstants.{FEW}
use Rattle.uc_run_entry.proofs.cutting.few_seqs.Given as goal

abbrev pub invariant-loop-piece : goal.invariant-loop-piece
invariant-loop-piece l = l.lists ≡ map (if_few FEW) (take l.piece l.spans)
