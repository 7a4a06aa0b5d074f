use Rattle.std.proofs.Common.{rules, ◌≡◌, ℕ, List, Option, Some, map, subst}
use Rattle.std.specs.Prelude.{IfSome}
use Rattle.std.specs.List.{AllByRecursion}
use Rattle.uc_model.specs.Meaning.{value_of}
use Rattle.uc_run.specs.BackCursors.{IsPreviousKey}
use Rattle.uc_run.specs.Cursors.{Standing}
use Rattle.uc_compact.specs.Inputs.{points_of, writes_of}
use Rattle.uc_query_read.specs.Back.{passed_back, StandsBelow}
use Rattle.uc_query_read.specs.Walks.{runs_of}
use Rattle.uc_query_read.proofs.back_walk.prev_lone.Goals as goal

pub returns-clause-last : goal.returns-clause-last
returns-clause-last g c =
    let same : c.prev_alone.new.cursors ≡ c.args.cursors.now = search rules in
    subst (λ (cs : List Standing). IfSome c.prev_newest.result (λ row. (high : Option (List ℕ)) → AllByRecursion (StandsBelow high) cs → IsPreviousKey (points_of (runs_of cs)) high (Some row.0.now))) same
    c.prev_newest.ensures.last

pub returns-clause-value : goal.returns-clause-value
returns-clause-value g c =
    let same : c.prev_alone.new.cursors ≡ c.args.cursors.now = search rules in
    subst (λ (cs : List Standing). IfSome c.prev_newest.result (λ row. (high : Option (List ℕ)) → AllByRecursion (StandsBelow high) cs → value_of g.O.Operator.meaning (writes_of (runs_of cs)) row.0.now c.args.at ≡ Some row.1.now)) same
    c.prev_newest.ensures.value

pub returns-clause-passes : goal.returns-clause-passes
returns-clause-passes g c =
    let same : c.prev_alone.new.cursors ≡ c.args.cursors.now = search rules in
    subst (λ (cs : List Standing). IfSome c.prev_newest.result (λ row. (high : Option (List ℕ)) → AllByRecursion (StandsBelow high) cs → c.prev_newest.new.cursors ≡ map (passed_back row.0.now) cs)) same
    c.prev_newest.ensures.passes
