use Rattle.std.proofs.Common.{◌≡◌, ◌++◌, ◌<◌, List, ℕ, length, take, ap, ◌∙◌, sym, arith}
use Rattle.std.proofs.lemmas.Bool.{eqb-true}
use Rattle.std.proofs.lemmas.Bool.Decides.{nat_tests}
use Rattle.uc_mixed.specs.Mixing.{joined}
use Rattle.uc_mixed.specs.Parts.{part_bytes}
use Rattle.uc_mixed.proofs.Placed.{walked, walked_first, rest_below}
use Rattle.uc_mixed.proofs.pairing.first_part.Goals as goal

pub returns-then-is_empty : goal.returns-then-is_empty
returns-then-is_empty c =
    let part = c.in-Some.part in
    let operand = c.args.operand.now in
    let end = c.loop-part.end in
    let e : take end operand ≡ part.rest.now ++ part_bytes part.kind part.payload.now = sym c.split_at.ensures.front ∙ c.in-Some.ensures in
    let none : length part.rest.now ≡ 0 = eqb-true (length part.rest.now) 0 (sym c.is_empty.ensures ∙ c.if-is_empty.true) in
    λ x. walked_first operand part.rest.now part.payload.now part.kind end e none c.loop-part.invariant.follows x
    ∙ ap (λ (l : List ℕ). joined x part.kind part.payload.now ++ l) (sym c.split_at.ensures.back)

pub loop-part-preserved : goal.loop-part-preserved
loop-part-preserved c =
    let part = c.in-Some.part in
    let operand = c.args.operand.now in
    let end = c.loop-part.end in
    let e : take end operand ≡ part.rest.now ++ part_bytes part.kind part.payload.now = sym c.split_at.ensures.front ∙ c.in-Some.ensures in
    let below = rest_below operand part.rest.now part.payload.now part.kind end c.loop-part.invariant.within e in
    let full : 0 < length part.rest.now = let a = c.is_empty.ensures in let b = c.if-is_empty.false in grind (arith, nat_tests, a, b) in
    record {
      within = let w = c.loop-part.invariant.within in omega (arith, below, w);
      follows = λ x. walked operand part.rest.now part.payload.now part.kind end c.loop-part.invariant.within e full c.loop-part.invariant.follows x;
    }
