use Rattle.std.proofs.Common.{◌≡◌, take}
use Rattle.std.specs.Arc.{arc_value}
use Rattle.uc_run_entry.specs.Cutting.{pieces}
use Rattle.uc_run_entry.specs.Spanning as spanning
use Rattle.uc_run_entry.specs.Spanning.{with_seqs}
use Rattle.uc_run_entry.proofs.fragments.Fragments.of_lists.Given as goal

abbrev pub invariant-loop-piece : goal.invariant-loop-piece
invariant-loop-piece l = l.list.items ≡ spanning.covered (take l.piece (with_seqs (pieces (arc_value l.cuts)) (arc_value l.lists)))
