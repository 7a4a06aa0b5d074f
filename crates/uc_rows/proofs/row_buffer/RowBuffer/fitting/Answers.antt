use Rattle.std.proofs.Common.{List, length, take, ap, ◌∙◌}
use Rattle.uc_rows.specs.RowBytes.{Row, rows_bytes}
use Rattle.uc_rows.proofs.Fitted.{first_bytes}
use Rattle.uc_rows.proofs.row_buffer.RowBuffer.fitting.Goals as goal

pub returns-clause-bytes : goal.returns-clause-bytes
returns-clause-bytes c =
    let all = c.args.self.now in
    let count = c.count_fitting-count.result.0 in
    (λ i. take (c.count_fitting-count.ensures.size i) (c.as_bytes-bytes.ensures i))
    ∙ ap (λ (rows : List Row). take (length (rows_bytes (take count rows))) (rows_bytes all)) c.iter.ensures
    ∙ first_bytes all count
