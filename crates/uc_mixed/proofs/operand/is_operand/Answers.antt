use Rattle.std.proofs.Common.{◌≡◌, ◌∙◌, ◌<◌, true, false, length, take, sym, arith}
use Rattle.std.proofs.lemmas.Bool.{eqb-true}
use Rattle.std.proofs.lemmas.Bool.Decides.{nat_tests}
use Rattle.uc_mixed.specs.Operands.{has_shape}
use Rattle.uc_mixed.proofs.Placed.{rest_below}
use Rattle.uc_mixed.proofs.Walking.{misshapen, one_part, more_parts}
use Rattle.uc_mixed.proofs.operand.is_operand.Goals as goal

pub returns-then-not-has_shape : goal.returns-then-not-has_shape
returns-then-not-has_shape c =
    let part = c.in-Some.part in
    let shape : has_shape part.kind part.payload.now ≡ false = sym c.has_shape.ensures ∙ c.if-not-has_shape.true in
    sym (c.loop-part.invariant.same ∙ misshapen (take c.loop-part.end c.args.bytes.now) part.rest.now part.payload.now part.kind c.in-Some.ensures shape)

pub returns-then-is_empty : goal.returns-then-is_empty
returns-then-is_empty c =
    let part = c.in-Some.part in
    let shape : has_shape part.kind part.payload.now ≡ true = sym c.has_shape.ensures ∙ c.if-not-has_shape.false in
    let none : length part.rest.now ≡ 0 = eqb-true (length part.rest.now) 0 (sym c.is_empty.ensures ∙ c.if-is_empty.true) in
    sym (c.loop-part.invariant.same ∙ one_part (take c.loop-part.end c.args.bytes.now) part.rest.now part.payload.now part.kind c.in-Some.ensures shape none)

pub loop-part-preserved : goal.loop-part-preserved
loop-part-preserved c =
    let part = c.in-Some.part in
    let operand = c.args.bytes.now in
    let end = c.loop-part.end in
    let shape : has_shape part.kind part.payload.now ≡ true = sym c.has_shape.ensures ∙ c.if-not-has_shape.false in
    let full : 0 < length part.rest.now = let a = c.is_empty.ensures in let b = c.if-is_empty.false in grind (arith, nat_tests, a, b) in
    let below = rest_below operand part.rest.now part.payload.now part.kind end c.loop-part.invariant.within c.in-Some.ensures in
    record {
      within = let w = c.loop-part.invariant.within in omega (arith, below, w);
      same = more_parts operand part.rest.now part.payload.now part.kind end c.loop-part.invariant.within c.in-Some.ensures shape full c.loop-part.invariant.same;
    }
