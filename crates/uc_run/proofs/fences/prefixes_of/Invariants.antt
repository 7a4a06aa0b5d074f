use Rattle.uc_run.specs.Fences.{HasPrefixes}
use Rattle.uc_run.proofs.fences.prefixes_of.Given as goal

abbrev pub invariant-loop-block : goal.invariant-loop-block
invariant-loop-block l = HasPrefixes l.points l.shared l.block l.prefixes.items
