use Rattle.std.proofs.Common.{◌≡◌, ◌∙◌, length, sym}
use Rattle.std.proofs.lemmas.Bool.{eqb-true}
use Rattle.uc_mixed.proofs.Walking.{value_of_one}
use Rattle.uc_mixed.proofs.applying.value_after.Goals as goal

pub returns-in_ok-after-in-Some : goal.returns-in_ok-after-in-Some
returns-in_ok-after-in-Some c =
    let part = c.in-Some.part in
    let none : length part.rest.now ≡ 0 = eqb-true (length part.rest.now) 0 (sym c.is_empty.ensures ∙ c.if-is_empty.true) in
    c.into_vec.ensures ∙ c.in_ok-after-in-Some.ensures ∙ value_of_one c.args.operand.now part.rest.now part.payload.now part.kind c.args.value c.in-Some.ensures none
