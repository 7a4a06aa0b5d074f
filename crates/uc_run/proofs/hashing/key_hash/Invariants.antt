use Rattle.std.proofs.Common.{◌≡◌}
use Rattle.uc_run.specs.KeyHash.{state_after}
use Rattle.uc_run.proofs.hashing.key_hash.Given as goal

-- the words so far are folded in
abbrev pub invariant-loop-word : goal.invariant-loop-word
invariant-loop-word l = l.state ≡ state_after l.key l.word
