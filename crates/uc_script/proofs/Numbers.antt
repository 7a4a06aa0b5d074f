-- The number that digits write, digit by digit.
use Rattle.std.proofs.Common.{◌≡◌, ℕ, ◌+◌, ◌-◌, ◌*◌, ◌^◌, ◌<◌, ◌≤◌, true, cond, ◌&&◌, ltb, List, length, take, get_or, Option, Some, None, refl, ap, ◌∙◌, arith}
use Rattle.std.specs.Char.{is_ascii_digit, digit_value}
use Rattle.std.specs.List.{list_all}
use Rattle.std.specs.Str.Parse.{digits_value}
use Rattle.std.proofs.lemmas.Bool.{le-ltb, lt-ltb, and_right, and_from}
use Rattle.std.proofs.lemmas.Int.Digits.{digits_value_more}
use Rattle.std.proofs.lemmas.Str.Parse.{digits_value-take-le}
use Rattle.std.proofs.lemmas.List.Folds.{list_all_more}

-- what digits write, where they are digits and it is below 2^64
abbrev pub written : List ℕ → Option ℕ
written digits = cond (list_all is_ascii_digit digits && ltb (digits_value 10 digits) (2 ^ 64)) (Some (digits_value 10 digits)) None

-- a front that is too large already
pub written-too_large : (digits : List ℕ) (i : ℕ) → (digits_value 10 (take i digits) < 2 ^ 64 → ⊥) → written digits ≡ None
written-too_large digits i large =
    let whole : 2 ^ 64 ≤ digits_value 10 digits = omega (arith, digits_value-take-le 10 digits i (omega arith)) in
    rw (and_right (list_all is_ascii_digit digits) (ltb (digits_value 10 digits) (2 ^ 64)) (le-ltb _ _ whole)) refl

-- digits that are digits and small
pub written-small : (digits : List ℕ) → list_all is_ascii_digit digits ≡ true → digits_value 10 digits < 2 ^ 64 → written digits ≡ Some (digits_value 10 digits)
written-small digits all small = rw (and_from _ _ all (lt-ltb _ _ small)) refl

-- the value of a digit
digit_value-is : (digit : ℕ) → is_ascii_digit digit ≡ true → digit_value digit ≡ digit - 48
digit_value-is digit h = grind arith

-- one digit more
pub digits_value-next : (digits : List ℕ) (i : ℕ) → i < length digits → is_ascii_digit (get_or digits i 0) ≡ true
    → digits_value 10 (take (i + 1) digits) ≡ digits_value 10 (take i digits) * 10 + (get_or digits i 0 - 48)
digits_value-next digits i lt digit = digits_value_more 10 digits i lt ∙ ap (λ (d : ℕ). digits_value 10 (take i digits) * 10 + d) (digit_value-is (get_or digits i 0) digit)

pub all_digits-next : (digits : List ℕ) (i : ℕ) → i < length digits → list_all is_ascii_digit (take i digits) ≡ true → is_ascii_digit (get_or digits i 0) ≡ true
    → list_all is_ascii_digit (take (i + 1) digits) ≡ true
all_digits-next digits i lt all digit = list_all_more is_ascii_digit digits i 0 lt ∙ and_from _ _ all digit
