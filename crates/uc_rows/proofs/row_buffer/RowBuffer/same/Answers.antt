use Rattle.std.proofs.Common.{◌∙◌}
use Rattle.uc_rows.specs.Rising.{same_rows}
use Rattle.uc_rows.proofs.SameRows.{same_by_bytes, other_counts}
use Rattle.uc_rows.proofs.row_buffer.RowBuffer.same.Goals as goal

pub returns-then-self-other : goal.returns-then-self-other
returns-then-self-other c =
    c.eq.ensures
    ∙ same_by_bytes c.self.inside.count c.other.inside.count c.self.inside.bytes.items c.other.inside.bytes.items c.self.invariant c.other.invariant c.if-self-other.true
    ∙ (λ i. same_rows (c.self.view_is i) (c.other.view_is i))

pub returns-else-self-other : goal.returns-else-self-other
returns-else-self-other c =
    other_counts c.self.inside.count c.other.inside.count c.self.inside.bytes.items c.other.inside.bytes.items c.if-self-other.false
    ∙ (λ i. same_rows (c.self.view_is i) (c.other.view_is i))
