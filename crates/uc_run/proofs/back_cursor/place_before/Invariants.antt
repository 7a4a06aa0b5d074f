use Rattle.std.proofs.Common.{◌≡◌, ◌-◌, false}
use Rattle.std.specs.List.{AllWithin}
use Rattle.uc_run_entry.specs.Seek.{is_passed}
use Rattle.uc_run.proofs.back_cursor.place_before.Given as goal

-- the points from there up to the place come after the search
abbrev pub invariant-loop-passed : goal.invariant-loop-passed
invariant-loop-passed l = AllWithin (λ p. is_passed l.key false p.key ≡ false) l.points (l.place - l.passed) l.place
