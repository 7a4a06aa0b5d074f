use Rattle.std.proofs.Common.{ℕ, ◌<◌, Option}
use Rattle.uc_logrec.specs.Format.{room}
use Rattle.uc_log_crash.specs.Places.{places_from, IsFirst}
use Rattle.uc_log_crash.proofs.search.first_in_block.Given as goal

-- what is found first from here on is so from the start on
pub record Sought (l : goal.Live-loop-next) : Type 0 where
  pub small : l.place < 9223372036854775808
  pub so_far : (found : Option ℕ) → IsFirst l.log l.end l.last (places_from l.log l.place) found → IsFirst l.log l.end l.last (places_from l.log l.start) found

abbrev pub invariant-loop-next : goal.invariant-loop-next
invariant-loop-next l = Sought l

abbrev pub decreases-loop-next : goal.decreases-loop-next
decreases-loop-next l = room l.place
