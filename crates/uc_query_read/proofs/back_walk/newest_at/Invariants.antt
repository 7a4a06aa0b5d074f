use Rattle.std.specs.List.{AllWithin}
use Rattle.uc_query_read.specs.Back.{IsOtherBefore}
use Rattle.uc_query_read.proofs.back_walk.newest_at.Given as goal

-- none so far has the key as its last
abbrev pub invariant-loop-place : goal.invariant-loop-place
invariant-loop-place l = AllWithin (IsOtherBefore l.key) l.cursors 0 l.place
