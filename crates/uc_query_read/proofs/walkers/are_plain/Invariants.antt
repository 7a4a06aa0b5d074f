use Rattle.std.proofs.Common.{◌≡◌, false}
use Rattle.std.specs.List.{AllWithin}
use Rattle.uc_run.specs.Cursors.{has_ranges}
use Rattle.uc_query_read.proofs.walkers.are_plain.Given as goal

-- none of those so far has
abbrev pub invariant-loop-cursor : goal.invariant-loop-cursor
invariant-loop-cursor l = AllWithin (λ c. has_ranges c ≡ false) l.cursors 0 l.cursor-index
