use Rattle.std.proofs.Common.{◌≡◌, ℕ, List, ◌++◌, take, drop, Result, Ok, Err, ap, ◌∙◌}
use Rattle.std.specs.Prelude.{IfOk, OnOk}
use Rattle.std.specs.Global.{Vec}
use Rattle.std.specs.declared.alloc.AllocError.{AllocError}
use Rattle.std.proofs.lemmas.List.{take-append-drop}
use Rattle.uc_script.specs.declared.query.Query.{Query}
use Rattle.uc_tool_ask.proofs.answers.next_batch.Goals as goal

-- so many, and those behind them
parts : (n : ℕ) (old new : List Query) (r : Result (Vec Query) AllocError) → IfOk r (λ given. given.items ≡ take n old) → OnOk r (new ≡ drop n old)
    → IfOk r (λ given. given.items ++ new ≡ old)
parts n old new (Ok given) first rest = ap (λ (xs : List Query). xs ++ new) first ∙ ap (λ (ys : List Query). take n old ++ ys) rest ∙ take-append-drop n old
parts n old new (Err e) first rest = tt

pub returns-clause-parts : goal.returns-clause-parts
returns-clause-parts c = parts c.args.size c.args.ahead.now c.next_queries.new.self c.next_queries.result c.next_queries.ensures.given c.next_queries.ensures.left
