use Rattle.std.proofs.Common.{rules, ◌<◌, ◌^◌, List, length, sym, ap, ◌∙◌, arith}
use Rattle.uc_rows.specs.RowBytes.{Row}
use Rattle.uc_rows.proofs.RowsAgain.{length-rows_from, count_small}
use Rattle.uc_rows.proofs.row_buffer.RowBuffer.len.Goals as goal

pub returns-clause-count : goal.returns-clause-count
returns-clause-count c =
    sym (length-rows_from c.self.inside.count c.self.inside.bytes.items) ∙ ap (λ (rows : List Row). length rows) c.self.view_is

pub returns-clause-bound : goal.returns-clause-bound
returns-clause-bound c =
    let small = count_small c.self.inside.count c.self.inside.bytes.items c.self.invariant in
    let few : length c.self.inside.bytes.items < 2 ^ 63 = search rules in
    omega (arith, small, few)
