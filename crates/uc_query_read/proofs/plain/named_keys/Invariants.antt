use Rattle.std.proofs.Common.{◌≡◌, take}
use Rattle.uc_query_read.specs.Answers.{named_keys}
use Rattle.uc_query_read.proofs.plain.named_keys.Given as goal

abbrev pub invariant-loop-write : goal.invariant-loop-write
invariant-loop-write l = l.keys.keys ≡ named_keys (take l.write-index l.writes) l.low l.high
