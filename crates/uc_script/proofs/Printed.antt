-- Reading returns what was printed.
use Rattle.std.proofs.Common.{◌≡◌, ℕ, ◌+◌, ◌/◌, ◌%◌, ◌<◌, ◌≤◌, ◌^◌, true, false, ◌&&◌, eqb, ltb, List, [], ◌∷◌, ◌++◌, length, codes, get_or, Some, None, Ok, refl, sym, ap, ◌∙◌, arith, inl, inr, length-append}
use Rattle.std.specs.Prelude.{All}
use Rattle.std.specs.Char.{is_ascii_digit}
use Rattle.std.specs.Fmt.{decimal}
use Rattle.std.specs.List.{list_all}
use Rattle.std.specs.Str.Parse.{digits_value}
use Rattle.std.proofs.lemmas.Bool.{cases_lt, and_right, and_from, and_parts, lt-ltb, le-leb, ne_eqb, not_from_false, cond-true}
use Rattle.std.proofs.lemmas.Fmt.{decimal_by_steps, decimal_is_IsNumeral}
use Rattle.std.proofs.lemmas.List.{get_or_past, get_or_append_left}
use Rattle.std.proofs.lemmas.List.Folds.{list_all-append}
use Rattle.hex.specs.Hex.{IsBytes, encode_with, decode_of, encode_lower}
use Rattle.hex.proofs.HexLemmas.{decode_of-encode_lower}
use Rattle.uc_script.specs.Texts.{is_numeral, number_of, text_of}

-- ---- bytes

is_bytes : (bytes : List ℕ) → All (λ byte. byte < 256) bytes → IsBytes bytes
is_bytes bytes h i =
    elim (cases_lt i (length bytes)) [
      | inl lt ↦ h i 0 lt
      | inr le ↦ rw (get_or_past bytes i 0 le) (omega arith)
    ]

-- two bytes or more are no dot
text_of-long : (a b : ℕ) (rest bytes : List ℕ) → decode_of (a ∷ b ∷ rest) ≡ Ok bytes → text_of (a ∷ b ∷ rest) ≡ Some bytes
unfolding text_of
text_of-long a b rest bytes h = rw (and_right (eqb a 46) false refl, h) refl

pub text_of-digits : (byte : ℕ) (rest : List ℕ) → All (λ b. b < 256) (byte ∷ rest) → text_of (encode_lower (byte ∷ rest)) ≡ Some (byte ∷ rest)
unfolding text_of encode_with
text_of-digits byte rest h = text_of-long _ _ _ (byte ∷ rest) (decode_of-encode_lower (byte ∷ rest) (is_bytes (byte ∷ rest) h))

pub text_of-dot : text_of (codes ".") ≡ Some []
unfolding text_of
text_of-dot = refl

-- ---- numbers

-- a numeral, as its parts
record IsPlain (n : ℕ) (digits : List ℕ) : Type 0 where
  all : list_all is_ascii_digit digits ≡ true
  some : 0 < length digits
  first : 0 < n → get_or digits 0 0 ≡ 48 → ⊥
  long : 1 < length digits → 0 < n

is_digit : (d : ℕ) → d < 10 → is_ascii_digit (48 + d) ≡ true
is_digit d lt = and_from _ _ (le-leb 48 (48 + d) (omega arith)) (le-leb (48 + d) 57 (omega arith))

plain_one : (n : ℕ) → n < 10 → IsPlain n ((48 + n) ∷ [])
plain_one n lt = record { all = and_from _ _ (is_digit n lt) refl; some = omega arith; first = λ above e. omega arith; long = λ more. absurd (omega arith) }

plain_more : (n : ℕ) (digits : List ℕ) → 10 ≤ n → IsPlain (n / 10) digits → IsPlain n (digits ++ ((48 + n % 10) ∷ []))
plain_more n digits le plain = record {
  all = list_all-append is_ascii_digit digits ((48 + n % 10) ∷ []) ∙ and_from _ _ plain.all (and_from _ _ (is_digit (n % 10) (omega arith)) refl);
  some = omega (arith, length-append digits ((48 + n % 10) ∷ []));
  first = λ above e. plain.first (omega arith) (sym (get_or_append_left digits ((48 + n % 10) ∷ []) 0 0 plain.some) ∙ e);
  long = λ more. omega arith;
}

decimal_is_plain : (n : ℕ) → n < 2 ^ 64 → IsPlain n (decimal n)
decimal_is_plain n lt = decimal_by_steps IsPlain plain_one plain_more n lt

is_numeral-plain : (n : ℕ) (digits : List ℕ) → IsPlain n digits → is_numeral digits ≡ true
is_numeral-plain n [] plain = absurd (omega (arith, plain.some))
is_numeral-plain n (d ∷ []) plain = (and_parts _ _ plain.all).0
is_numeral-plain n (d ∷ e ∷ rest) plain = and_from _ _ (not_from_false _ (ne_eqb d 48 (plain.first (plain.long (omega arith))))) plain.all

pub number_of-decimal : (n : ℕ) → n < 2 ^ 64 → number_of (decimal n) ≡ Some n
unfolding number_of
number_of-decimal n lt =
    let value = (decimal_is_IsNumeral n lt).1 in
    let plain = is_numeral-plain n (decimal n) (decimal_is_plain n lt) in
    let small : ltb (digits_value 10 (decimal n)) (2 ^ 64) ≡ true = lt-ltb _ _ (omega arith) in
    cond-true (is_numeral (decimal n) && ltb (digits_value 10 (decimal n)) (2 ^ 64)) (Some (digits_value 10 (decimal n))) None (and_from _ _ plain small) ∙ ap Some value
