use Rattle.std.proofs.Common.{◌≡◌, ◌-◌, suc, List, [], ◌∷◌, length, sym, ap, ◌∙◌, arith}
use Rattle.uc_rows.specs.RowBytes.{Row, rows_from}
use Rattle.uc_rows.proofs.RowsAgain.{none_ahead, some_ahead}
use Rattle.uc_rows.proofs.row_iter.RowIterIterator.next.Goals as goal

pub returns-then-self-eq0-clause-steps : goal.returns-then-self-eq0-clause-steps
returns-then-self-eq0-clause-steps c =
    let bytes = c.self.inside.bytes.now in
    let none : rows_from c.self.inside.count bytes ≡ [] = ap (λ n. rows_from n bytes) c.if-self-eq0.true ∙ none_ahead bytes in
    let all = sym c.self.view_is ∙ none in
    (all, all)

steps : (c : goal.After-self-1) → c.args.self.now ≡ (c.read_row.result.0.0.now, c.read_row.result.0.1.now) ∷ rows_from (c.self.inside.count - 1) c.read_row.result.1.now
steps c =
    let bytes = c.self.inside.bytes.now in
    let count = c.self.inside.count in
    let more = some_ahead count bytes (omega (arith, c.if-self-eq0.false)) in
    sym c.self.view_is
    ∙ more
    ∙ (λ i. (sym c.read_row.ensures.key i, sym c.read_row.ensures.value i) ∷ rows_from (count - 1) (sym c.read_row.ensures.rest i))

pub returns-clause-steps : goal.returns-clause-steps
returns-clause-steps c = steps c

pub returns-clause-goes : goal.returns-clause-goes
returns-clause-goes c =
    let fewer : length c.args.self.now ≡ suc (length (rows_from (c.self.inside.count - 1) c.read_row.result.1.now)) = ap (λ (rows : List Row). length rows) (steps c) in
    record {
      on = λ _. (tt, tt, omega (arith, fewer));
      keeps = tt;
      rests = λ _. tt;
    }
