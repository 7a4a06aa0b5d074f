use Rattle.std.proofs.Common.{◌≡◌, take}
use Rattle.uc_query_workers.specs.Asking as asking
use Rattle.uc_query.proofs.ask_turn.answer_each.Given as goal

abbrev pub invariant-loop-query : goal.invariant-loop-query
invariant-loop-query g l = l.answers.items ≡ asking.answers_of g.O.Operator.meaning l.fn.version (take l.query-index l.queries)
