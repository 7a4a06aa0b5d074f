-- A mark that is written is read again.
use Rattle.std.proofs.Common.{◌≡◌, ℕ, zero, suc, ◌+◌, ◌-◌, ◌*◌, ◌/◌, ◌%◌, ◌<◌, ◌≤◌, Bool, true, false, List, [], ◌∷◌, ◌++◌, length, take, drop, Some, refl, ap, ◌∙◌, length-append, le-ltb, inl, inr, arith}
use Rattle.std.specs.Prelude.{nat_lt, nat_le, ◌==◌, if◌then◌else◌}
use Rattle.std.proofs.Math.Seq.{take-append_seam}
use Rattle.std.proofs.lemmas.Bool.{lt-ltb, le-leb, cases_lt, ne_eqb}
use Rattle.std.proofs.lemmas.List.{drop_at, length-take-le}
use Rattle.uc_log_crash.specs.Marks.{bound_of, number_in, number_text, mark_in, mark_of, with_mark, mark_text}
use Rattle.uc_log_crash.proofs.Spelling.{text_short}

last_byte : (n : ℕ) → n < 128 → number_in (n ∷ []) ≡ Some n
unfolding number_in
last_byte n lt = rw (lt-ltb n 128 lt) refl

some_of : (b : Bool) (byte n : ℕ) (rest : List ℕ) → 0 < length (if b then n ∷ [] else (byte ∷ rest))
some_of true byte n rest = omega arith
some_of false byte n rest = omega arith

text_some : (more n : ℕ) → 0 < length (number_text more n)
unfolding number_text
text_some zero n = omega arith
text_some (suc k) n = some_of (nat_lt n 128) (128 + n % 128) n (number_text k (n / 128))

one_byte : (k n : ℕ) → n < 128 → number_text (suc k) n ≡ n ∷ []
unfolding number_text
one_byte k n lt = rw (lt-ltb n 128 lt) refl

step : (k n : ℕ) → 128 ≤ n → number_text (suc k) n ≡ (128 + n % 128) ∷ number_text k (n / 128)
unfolding number_text
step k n large = rw (le-ltb n 128 large) refl

more_bytes : (byte : ℕ) (rest : List ℕ) (high : ℕ) → 128 ≤ byte → 0 < length rest → number_in rest ≡ Some high → number_in (byte ∷ rest) ≡ Some ((byte - 128) + 128 * high)
unfolding number_in
more_bytes byte rest high above some read =
    let not_last : (length rest == 0) ≡ false = ne_eqb (length rest) 0 (omega (arith, some)) in
    rw (not_last, le-ltb byte 128 above, read) refl

read_back : (more n : ℕ) → n < bound_of (suc more) → number_in (number_text more n) ≡ Some n
unfolding number_text
read_back zero n lt = last_byte n (omega (arith, lt))
read_back (suc k) n lt =
    elim (cases_lt n 128) [
      | inl small ↦ ap number_in (one_byte k n small) ∙ last_byte n small
      | inr large ↦
          let high : n / 128 < bound_of (suc k) = omega (arith, lt) in
          let bytes : number_text (suc k) n ≡ (128 + n % 128) ∷ number_text k (n / 128) = step k n large in
          ap number_in bytes
          ∙ (more_bytes (128 + n % 128) (number_text k (n / 128)) (n / 128) (omega arith) (text_some k (n / 128)) (read_back k (n / 128) high)
          ∙ ap Some (omega arith))
    ]

mark_read : (text more : List ℕ) (n : ℕ) → length text ≤ 9 → number_in text ≡ Some n → mark_in (3 ∷ suc (length text) ∷ 115 ∷ (text ++ more)) ≡ Some n
unfolding mark_in
mark_read text more n short read =
    let least : nat_le 1 (suc (length text)) ≡ true = le-leb 1 (suc (length text)) (omega arith) in
    let most : nat_le (suc (length text)) 10 ≡ true = le-leb (suc (length text)) 10 (omega (arith, short)) in
    let less : suc (length text) - 1 ≡ length text = omega arith in
    let all : nat_le (length text) (length (text ++ more)) ≡ true = le-leb (length text) (length (text ++ more)) (omega (arith, length-append text more)) in
    rw (least, most, less, all, take-append_seam text more) read

pub marks_are_read : (batch : List ℕ) (n : ℕ) → 12 ≤ length batch → n < 9223372036854775808 → mark_of (with_mark batch n) ≡ Some n
marks_are_read batch n long lt =
    let text = number_text 8 n in
    let records : drop 12 (with_mark batch n) ≡ mark_text n ++ drop 12 batch = drop_at (take 12 batch) (mark_text n ++ drop 12 batch) 12 (length-take-le 12 batch long) in
    ap mark_in records ∙ mark_read text (drop 12 batch) n (text_short 8 n) (read_back 8 n lt)
