use Rattle.std.proofs.Common.{◌≡◌, ◌++◌, take}
use Rattle.uc_query_workers.specs.Asking as asking
use Rattle.uc_query_workers.proofs.version_answers.push_answers.Given as goal

abbrev pub invariant-loop-query : goal.invariant-loop-query
invariant-loop-query g l = l.answers.items ≡ l.fn.answers.items ++ asking.answers_of g.O.Operator.meaning l.fn.version (take l.query-index l.queries)
