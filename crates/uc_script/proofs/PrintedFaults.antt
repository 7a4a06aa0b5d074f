-- Messages of printable characters.
use Rattle.std.proofs.Common.{◌≡◌, ℕ, ◌+◌, ◌*◌, ◌/◌, ◌%◌, ◌<◌, ◌≤◌, ◌^◌, true, leb, List, [], ◌∷◌, ◌++◌, length, take, codes, refl, ◌∙◌, arith, inl, inr, length-append}
use Rattle.std.specs.Fmt.{decimal}
use Rattle.std.specs.List.{list_all, flat_map}
use Rattle.std.proofs.lemmas.Bool.{cases_lt, cases_Bool, and_from, le-leb, lt-leb, lt-ltb, le-ltb}
use Rattle.std.proofs.lemmas.Fmt.{decimal_by_steps}
use Rattle.std.proofs.lemmas.List.{length-take}
use Rattle.std.proofs.lemmas.List.Folds.{list_all-append}
use Rattle.uc_script.specs.Shortened.{is_printable, hex_digit, shown, shortened}

-- each byte is a printable character
abbrev pub IsShown : List ℕ → Type 0
IsShown text = list_all is_printable text ≡ true

pub joined : (a b : List ℕ) → IsShown a → IsShown b → IsShown (a ++ b)
joined a b p q = list_all-append is_printable a b ∙ and_from _ _ p q

-- ---- lines as they are shown

between : (n : ℕ) → 32 ≤ n → n ≤ 126 → is_printable n ≡ true
between n low high = and_from _ _ (le-leb 32 n low) (le-leb n 126 high)

digit_shown : (n : ℕ) → n < 16 → is_printable (hex_digit n) ≡ true
digit_shown n lt =
    elim (cases_lt n 10) [
      | inl few ↦ rw (lt-ltb n 10 few) (between (48 + n) (omega arith) (omega arith))
      | inr more ↦ rw (le-ltb n 10 more) (between (87 + n) (omega arith) (omega arith))
    ]

pub byte_shown : (byte : ℕ) → IsShown (shown byte)
byte_shown byte =
    elim (cases_Bool (is_printable byte)) [
      | inl is ↦ rw is (and_from _ _ is refl)
      | inr isnt ↦ rw isnt (and_from _ _ (digit_shown (byte / 16 % 16) (omega arith)) (and_from _ _ (digit_shown (byte % 16) (omega arith)) refl))
    ]

bytes_shown : (bytes : List ℕ) → IsShown (flat_map shown bytes)
bytes_shown [] = refl
bytes_shown (byte ∷ bytes) = joined (shown byte) (flat_map shown bytes) (byte_shown byte) (bytes_shown bytes)

byte_short : (byte : ℕ) → length (shown byte) ≤ 4
byte_short byte =
    elim (cases_Bool (is_printable byte)) [
      | inl is ↦ rw is (omega arith)
      | inr isnt ↦ rw isnt (omega arith)
    ]

bytes_short : (bytes : List ℕ) → length (flat_map shown bytes) ≤ 4 * length bytes
bytes_short [] = omega arith
bytes_short (byte ∷ bytes) = omega (arith, length-append (shown byte) (flat_map shown bytes), byte_short byte, bytes_short bytes)

pub line_shown : (line : List ℕ) → IsShown (shortened line)
unfolding shortened
line_shown line =
    elim (cases_Bool (leb (length line) 60)) [
      | inl is ↦ rw is (bytes_shown line)
      | inr isnt ↦ rw isnt (joined (flat_map shown (take 60 line)) (codes "...") (bytes_shown (take 60 line)) refl)
    ]

pub line_short : (line : List ℕ) → length (shortened line) ≤ 243
unfolding shortened
line_short line =
    elim (cases_lt 60 (length line)) [
      | inl more ↦ rw (lt-leb (length line) 60 more) (omega (arith, length-append (flat_map shown (take 60 line)) (codes "..."), bytes_short (take 60 line), length-take 60 line))
      | inr few ↦ rw (le-leb (length line) 60 few) (omega (arith, bytes_short line))
    ]

-- ---- numbers

pub number_shown : (n : ℕ) → n < 2 ^ 64 → IsShown (decimal n)
number_shown n lt =
    decimal_by_steps (λ m digits. IsShown digits)
    (λ m few. and_from _ _ (between (48 + m) (omega arith) (omega arith)) refl)
    (λ m digits le is. joined digits ((48 + m % 10) ∷ []) is (and_from _ _ (between (48 + m % 10) (omega arith) (omega arith)) refl))
    n lt
