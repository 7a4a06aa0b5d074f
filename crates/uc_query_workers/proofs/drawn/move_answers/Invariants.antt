use Rattle.std.proofs.Common.{◌≡◌, ◌++◌, take, drop}
use Rattle.uc_query_workers.proofs.drawn.move_answers.Given as goal

abbrev pub invariant-loop : goal.invariant-loop
invariant-loop l = record {
  moved : l.all.items ≡ l.fn.all.items ++ take l.counter l.fn.answers.items;
  rest : l.answers.items ≡ drop l.counter l.fn.answers.items;
}
