use Rattle.std.proofs.Common.{◌≡◌, ◌+◌, true, get_or, sym, ◌∙◌, arith}
use Rattle.std.specs.Char.{is_ascii_digit}
use Rattle.std.proofs.lemmas.List.{take_all}
use Rattle.std.specs.List.{list_all}
use Rattle.std.specs.Str.Parse.{digits_value}
use Rattle.uc_script.proofs.Numbers.{written-too_large, written-small, digits_value-next, all_digits-next}
use Rattle.uc_script.proofs.field.value.Goals as goal

pub returns-in_err-checked_mul : goal.returns-in_err-checked_mul
returns-in_err-checked_mul c =
    let digit : is_ascii_digit (get_or c.args.digits.now c.loop-digit.digit-index 0) ≡ true = cc in
    let next = digits_value-next c.args.digits.now c.loop-digit.digit-index c.loop-digit-test.true digit in
    let large = c.in_err-checked_mul.ensures in
    c.from_residual.ensures ∙ sym (written-too_large c.args.digits.now (c.loop-digit.digit-index + 1) (λ small. large (omega arith)))

pub returns-in_err-number : goal.returns-in_err-number
returns-in_err-number c =
    let digit : is_ascii_digit (get_or c.args.digits.now c.loop-digit.digit-index 0) ≡ true = cc in
    let next = digits_value-next c.args.digits.now c.loop-digit.digit-index c.loop-digit-test.true digit in
    let large = c.in_err-number.ensures in
    let times = c.in_ok-checked_mul.ensures in
    c.from_residual-in_err-number.ensures ∙ sym (written-too_large c.args.digits.now (c.loop-digit.digit-index + 1) (λ small. large (omega arith)))

pub loop-digit-preserved : goal.loop-digit-preserved
loop-digit-preserved c =
    let digit : is_ascii_digit (get_or c.args.digits.now c.loop-digit.digit-index 0) ≡ true = cc in
    let next = digits_value-next c.args.digits.now c.loop-digit.digit-index c.loop-digit-test.true digit in
    let times = c.in_ok-checked_mul.ensures in
    let sum = c.in_ok-number.ensures in
    record {
      digits = all_digits-next c.args.digits.now c.loop-digit.digit-index c.loop-digit-test.true c.loop-digit.invariant.digits digit;
      value = omega arith;
      small = omega arith;
    }

pub returns : goal.returns
returns c =
    let whole = take_all c.loop-digit.digit-index c.args.digits.now c.loop-digit-test.false in
    let value : c.loop-digit.number ≡ digits_value 10 c.args.digits.now = rw whole at c.loop-digit.invariant.value in
    let all : list_all is_ascii_digit c.args.digits.now ≡ true = rw whole at c.loop-digit.invariant.digits in
    rw value (sym (written-small c.args.digits.now all (omega arith)))
