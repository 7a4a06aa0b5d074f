use Rattle.std.proofs.Common.{rules, ◌+◌, ◌≤◌, List, [], ◌∷◌, ◌++◌, length, sym, ap, ◌∙◌, subst}
use Rattle.uc_rows.specs.RowBytes.{Row, rows_from, AreSpelled}
use Rattle.uc_rows.proofs.RowsAgain.{rows_pushed, spelled_pushed, count_grows}
use Rattle.uc_rows.proofs.row_buffer.RowBuffer.push.Goals as goal

pub overflow_add-self : goal.overflow_add-self
overflow_add-self c =
    let row : Row = (c.args.key.now, c.args.value.now) in
    let more : c.self.inside.count + 1 ≤ length c.push_row.new.bytes.items =
    count_grows c.self.inside.count c.self.inside.bytes.items c.self.invariant row c.in_ok-push_row.ensures.fits c.push_row.new.bytes.items c.in_ok-push_row.ensures.pushed in
    search (rules, more)

pub invariant_of-self-2 : goal.invariant_of-self-2
invariant_of-self-2 c =
    let row : Row = (c.args.key.now, c.args.value.now) in
    let count = c.self.inside.count in
    let bytes = c.self.inside.bytes.items in
    subst (AreSpelled (count + 1)) (sym c.in_ok-push_row.ensures.pushed) (spelled_pushed count bytes c.self.invariant row c.in_ok-push_row.ensures.fits)

pub returns-clause-pushed : goal.returns-clause-pushed
returns-clause-pushed c =
    let row : Row = (c.args.key.now, c.args.value.now) in
    let count = c.self.inside.count in
    let bytes = c.self.inside.bytes.items in
    ap (rows_from (count + 1)) c.in_ok-push_row.ensures.pushed
    ∙ rows_pushed count bytes c.self.invariant row c.in_ok-push_row.ensures.fits
    ∙ ap (λ (xs : List Row). xs ++ row ∷ []) c.self.view_is
