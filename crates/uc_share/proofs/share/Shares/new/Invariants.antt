use Rattle.std.proofs.Common.{◌≡◌}
use Rattle.std.specs.List.{AllByRecursion}
use Rattle.std.specs.Arc.{arc_value}
use Rattle.uc_version_state.specs.Versions.{Stored}
use Rattle.uc_share.proofs.share.Shares.new.Given as goal

abbrev pub invariant-loop : goal.invariant-loop
invariant-loop l = AllByRecursion (λ (s : Stored). s ≡ arc_value l.version) l.others.items
