use Rattle.std.proofs.Common.{take}
use Rattle.std.specs.List.{AllByRecursion}
use Rattle.uc_version_state.specs.Histories.{MayFollow}
use Rattle.uc_query_shared.proofs.answers.are_legal.Given as goal

abbrev pub invariant-loop-reader : goal.invariant-loop-reader
invariant-loop-reader g l = AllByRecursion (MayFollow g.O.Operator.meaning g.N.Name.base) (take l.reader-index l.readers)
