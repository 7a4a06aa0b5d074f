use Rattle.std.proofs.Common.{◌≡◌, length}
use Rattle.uc_bytes.specs.Bytes.{same_bytes}
use Rattle.uc_run.proofs.texts.same_text.Given as goal

abbrev pub invariant-loop-rest : goal.invariant-loop-rest
invariant-loop-rest l = same_bytes l.rest l.other_rest ≡ same_bytes l.text l.other

abbrev pub decreases-loop-rest : goal.decreases-loop-rest
decreases-loop-rest l = length l.rest
