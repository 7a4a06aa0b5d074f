use Rattle.std.proofs.Common.{◌≡◌, ◌+◌, drop, nat_eq}
use Rattle.std.specs.List.{common_prefix_len}
use Rattle.uc_run.proofs.prefixes.common_prefix_len.Given as goal

-- the bytes so far are common
abbrev pub invariant-loop-place : goal.invariant-loop-place
invariant-loop-place l = common_prefix_len nat_eq l.first l.last ≡ l.place + common_prefix_len nat_eq (drop l.place l.first) (drop l.place l.last)
