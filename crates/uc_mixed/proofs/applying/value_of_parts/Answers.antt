use Rattle.std.proofs.Common.{◌≡◌, ◌∙◌, Some, None, ap, sym}
use Rattle.uc_mixed.specs.Mixing.{after-full, value_after}
use Rattle.uc_mixed.specs.Walks.{finished}
use Rattle.uc_mixed.specs.Parts.{backward}
use Rattle.uc_mixed.proofs.applying.value_of_parts.Goals as goal

pub unreachable-requires : goal.unreachable-requires
unreachable-requires c =
    let operand = c.args.operand.now in
    let value : Some (value_after c.args.value operand) ≡ None =
    sym (after-full c.args.value operand c.requires)
    ∙ sym (c.in_ok-ends.ensures.parts c.args.value)
    ∙ ap (finished operand (backward c.in_ok-ends.field-0.ends.items)) (sym c.in_ok-before.ensures)
    ∙ sym c.in_ok-after.ensures
    ∙ c.in-None.is in
    absurd cc

pub returns : goal.returns
returns c =
    let operand = c.args.operand.now in
    let value : Some c.in-Some.after ≡ Some (value_after c.args.value operand) =
    sym c.in-Some.is
    ∙ c.in_ok-after.ensures
    ∙ ap (finished operand (backward c.in_ok-ends.field-0.ends.items)) c.in_ok-before.ensures
    ∙ c.in_ok-ends.ensures.parts c.args.value
    ∙ after-full c.args.value operand c.requires in
    c.into_vec.ensures ∙ cc
