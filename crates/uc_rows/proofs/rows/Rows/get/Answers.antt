use Rattle.std.proofs.Common.{List, drop, ap, ◌∙◌}
use Rattle.std.specs.List.{slice_get}
use Rattle.uc_rows.specs.RowBytes.{Row}
use Rattle.uc_rows.proofs.Passed.{first_of_step, first_behind}
use Rattle.uc_rows.proofs.rows.Rows.get.Goals as goal

pub returns : goal.returns
returns c =
    first_of_step c.pass.new.self c.next.new.self c.next.result c.next.ensures.steps
    ∙ ap (λ (rows : List Row). slice_get rows 0) (c.pass.ensures ∙ ap (drop c.args.place) c.iter-ahead.ensures.rows)
    ∙ first_behind c.args.self.now c.args.place
