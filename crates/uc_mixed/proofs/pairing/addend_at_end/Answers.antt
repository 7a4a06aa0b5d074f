use Rattle.std.proofs.Common.{◌≡◌, ◌-◌, ◌++◌, ◌≤◌, List, ℕ, length, take, get_or, ap, ◌∙◌, arith}
use Rattle.uc_mixed.proofs.Adding.{adds_at_end}
use Rattle.uc_mixed.proofs.pairing.addend_at_end.Goals as goal

pub returns-then-end-eq1 : goal.returns-then-end-eq1
returns-then-end-eq1 c =
    let operand = c.args.operand.now in
    let addition = c.split_at.result.1.now in
    let bytes = c.split_at-2.result.0.now in
    let end = c.split_at-2.result.1.now in
    let whole : operand ≡ take (length operand - 10) operand ++ addition = c.split_at.ensures.by_index.0 ∙ ap (λ (l : List ℕ). l ++ addition) c.split_at.ensures.front in
    let parts : addition ≡ bytes ++ end = c.split_at-2.ensures.by_index.0 in
    let long : 10 ≤ length operand = c.if-operand-lt-ADDITION.false in
    let size : length bytes ≡ 8 = c.split_at-2.ensures.front_len in
    let two : length end ≡ 2 = let a = c.split_at.ensures.back_len in let b = c.split_at-2.ensures.back_len in omega (arith, a, b, long) in
    let first : get_or end 0 0 ≡ 8 = omega (arith, c.if-end-eq8.true) in
    let second : get_or end 1 0 ≡ 1 = omega (arith, c.if-end-eq1.true) in
    adds_at_end operand addition bytes end c.number.result long whole parts size two first second c.number.ensures
