use Rattle.std.proofs.Common.{◌+◌, sym, ◌∙◌, arith}
use Rattle.uc_rows.specs.RowBytes.{text_bytes}
use Rattle.uc_rows.specs.Laying.{laid_at}
use Rattle.uc_rows.proofs.Fitted.{length_of_text}
use Rattle.uc_rows.proofs.LaidTwice.{laid_twice}
use Rattle.uc_rows.proofs.laying.lay.Goals as goal

pub returns : goal.returns
returns c =
    let key = c.args.key.now in
    let value = c.args.value.now in
    let first = length_of_text key in
    let second = length_of_text value in
    c.lay_text-2.ensures
    ∙ (λ i. laid_at (c.args.at + sym first i) (text_bytes value) (c.lay_text.ensures i))
    ∙ laid_twice c.args.room.now (text_bytes key) (text_bytes value) c.args.at (omega (arith, c.requires, first, second))
