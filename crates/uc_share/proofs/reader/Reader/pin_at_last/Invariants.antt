use mathlib.Core.List.{IsPrefix}
use Rattle.uc_version_state.specs.Histories.{MayFollow}
use Rattle.uc_share.proofs.reader.Reader.pin_at_last.Given as goal

abbrev pub invariant-loop : goal.invariant-loop
invariant-loop g l = IsPrefix l.fn.self l.self × MayFollow g.O.Operator.meaning g.N.Name.base l.self
