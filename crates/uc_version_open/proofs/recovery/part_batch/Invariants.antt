use Rattle.std.proofs.Common.{ℕ, List, ◌++◌}
use Rattle.uc_bytes.specs.declared.write.Write.{Write}
use Rattle.uc_version_state.specs.declared.options.Options.{Options}
use Rattle.uc_version_open.specs.Parting.{ComeNext, IsParted}
use Rattle.uc_version_open.proofs.recovery.part_batch.Given as goal

abbrev pub invariant-loop-write : goal.invariant-loop-write
invariant-loop-write g l = record {
  next : ComeNext l.parted.opener l.parted.left l.write-iterator;
  parted : (options : Options) (most : ℕ) (before : List Write) → IsParted options most before l.fn.parted.opener l.fn.parted.left l.fn.parted.behind.items
      → IsParted options most (before ++ l.yielded) l.parted.opener l.parted.left l.parted.behind.items;
}
