use Rattle.std.proofs.Common.{List, length, sym, ap, ◌∙◌}
use Rattle.uc_rows.specs.RowBytes.{Row}
use Rattle.uc_rows.proofs.RowsAgain.{length-rows_from}
use Rattle.uc_rows.proofs.row_iter.RowIter.len.Goals as goal

pub returns : goal.returns
returns c = sym (length-rows_from c.self.inside.count c.self.inside.bytes.now) ∙ ap (λ (rows : List Row). length rows) c.self.view_is
