use Rattle.std.proofs.Common.{ltb, rules}
use Rattle.std.specs.Arc.{arc_value}
use Rattle.std.proofs.lemmas.Fn.{always_returns_same}
use Rattle.uc_compact.proofs.Together.{newest_first_by, have_ranges}
use Rattle.uc_compact.proofs.inputs.are_newest_first.Goals as goal

pub returns : goal.returns
returns c =
    newest_first_by arc_value (λ x y. ltb (arc_value y).high (arc_value x).low) (λ x y. search rules) c.args.inputs.now c.is_sorted_by.result (have_ranges arc_value c.args.inputs.now c.are_runs.ensures)
    (c.is_sorted_by.ensures.cases (λ x y. ltb (arc_value y).high (arc_value x).low) (always_returns_same _ _ _ (λ a r f called. search rules)))
