-- Reading returns the rows that were encoded.
use Rattle.std.proofs.Common.{◌≡◌, ℕ, zero, suc, ◌+◌, ◌-◌, ◌<◌, ◌≤◌, ◌^◌, List, [], ◌∷◌, ◌++◌, length, take, drop, refl, sym, ap, ◌∙◌, subst, append_assoc, length-append, arith}
use Rattle.std.specs.Int.{w64, to_le_bytes, from_le_bytes}
use Rattle.std.specs.List.{AllByRecursion}
use Rattle.std.proofs.ByRecursion.{All-append}
use Rattle.std.proofs.lemmas.List.{take_at, drop_at, append-nil, length_push}
use Rattle.std.proofs.lemmas.Nat.{from_le_bytes-to_le_bytes_8}
use Rattle.uc_rows.specs.RowBytes.{Row, text_bytes, row_bytes, rows_bytes, text_from, row_from, rows_from, Fits, AreSpelled}

pub none_ahead : (bytes : List ℕ) → rows_from 0 bytes ≡ []
unfolding rows_from
none_ahead bytes = refl

more : (n : ℕ) (bytes : List ℕ) → rows_from (suc n) bytes ≡ (row_from bytes).0 ∷ rows_from n (row_from bytes).1
unfolding rows_from
more n bytes = refl

pub some_ahead : (n : ℕ) (bytes : List ℕ) → 0 < n → rows_from n bytes ≡ (row_from bytes).0 ∷ rows_from (n - 1) (row_from bytes).1
some_ahead n bytes l = let e : n ≡ suc (n - 1) = omega (arith, l) in ap (λ m. rows_from m bytes) e ∙ more (n - 1) bytes

pub length-rows_from : (count : ℕ) (bytes : List ℕ) → length (rows_from count bytes) ≡ count
unfolding rows_from
length-rows_from zero bytes = refl
length-rows_from (suc count) bytes = ap suc (length-rows_from count (row_from bytes).1)

text_again : (text rest : List ℕ) → length text < 2 ^ 64 → text_from (text_bytes text ++ rest) ≡ (text, rest)
text_again text rest fits =
    let n = length text in
    let b = to_le_bytes w64 n in
    let again = append_assoc b text rest in
    let front : take 8 (b ++ (text ++ rest)) ≡ b = take_at b (text ++ rest) 8 refl in
    let behind : drop 8 (b ++ (text ++ rest)) ≡ text ++ rest = drop_at b (text ++ rest) 8 refl in
    let number : from_le_bytes w64 b ≡ n = from_le_bytes-to_le_bytes_8 n fits in
    ap text_from again
    ∙ ap (λ (x : List ℕ). (take (from_le_bytes w64 x) (drop 8 (b ++ (text ++ rest))), drop (from_le_bytes w64 x) (drop 8 (b ++ (text ++ rest))))) front
    ∙ ap (λ (m : ℕ). (take m (drop 8 (b ++ (text ++ rest))), drop m (drop 8 (b ++ (text ++ rest))))) number
    ∙ ap (λ (x : List ℕ). (take n x, drop n x)) behind
    ∙ ap (λ (x : List ℕ). (x, drop n (text ++ rest))) (take_at text rest n refl)
    ∙ ap (λ (x : List ℕ). (text, x)) (drop_at text rest n refl)

pub row_again : (row : Row) (rest : List ℕ) → Fits row → row_from (row_bytes row ++ rest) ≡ (row, rest)
unfolding row_from
row_again row rest fits =
    ap row_from (append_assoc (text_bytes row.0) (text_bytes row.1) rest)
    ∙ ap (λ (k : List ℕ × List ℕ). ((k.0, (text_from k.1).0), (text_from k.1).1)) (text_again row.0 (text_bytes row.1 ++ rest) fits.key)
    ∙ ap (λ (v : List ℕ × List ℕ). ((row.0, v.0), v.1)) (text_again row.1 rest fits.value)

pub rows_again : (rows : List Row) (rest : List ℕ) → AllByRecursion Fits rows → rows_from (length rows) (rows_bytes rows ++ rest) ≡ rows
unfolding rows_from
rows_again [] rest fits = refl
rows_again (row ∷ rows) rest fits =
    let again : row_from ((row_bytes row ++ rows_bytes rows) ++ rest) ≡ (row, rows_bytes rows ++ rest) = ap row_from (append_assoc (row_bytes row) (rows_bytes rows) rest) ∙ row_again row (rows_bytes rows ++ rest) fits.0 in
    ap (λ (q : Row × List ℕ). q.0 ∷ rows_from (length rows) q.1) again ∙ ap (λ (xs : List Row). row ∷ xs) (rows_again rows rest fits.1)

-- the rows that the bytes of rows encode
spelled_by : (rows : List Row) → AllByRecursion Fits rows → (count : ℕ) → count ≡ length rows → (bytes : List ℕ) → bytes ≡ rows_bytes rows → rows_from count bytes ≡ rows
spelled_by rows fits count many bytes e =
    ap (λ n. rows_from n bytes) many ∙ ap (rows_from (length rows)) (e ∙ sym (append-nil (rows_bytes rows))) ∙ rows_again rows [] fits

are_spelled : (rows : List Row) → AllByRecursion Fits rows → (count : ℕ) → count ≡ length rows → (bytes : List ℕ) → bytes ≡ rows_bytes rows → AreSpelled count bytes
are_spelled rows fits count many bytes e =
    let same = spelled_by rows fits count many bytes e in
    record { spelled = e ∙ ap rows_bytes (sym same); fits = subst (AllByRecursion Fits) (sym same) fits }

pub none_spelled : (bytes : List ℕ) → bytes ≡ [] → AreSpelled 0 bytes
none_spelled bytes e = are_spelled [] tt 0 refl bytes e

pub rows_bytes-append : (rows others : List Row) → rows_bytes (rows ++ others) ≡ rows_bytes rows ++ rows_bytes others
rows_bytes-append [] others = refl
rows_bytes-append (row ∷ rows) others = ap (λ (xs : List ℕ). row_bytes row ++ xs) (rows_bytes-append rows others) ∙ sym (append_assoc (row_bytes row) (rows_bytes rows) (rows_bytes others))

pub text_pushed : (rows : List Row) (row : Row) → rows_bytes (rows ++ row ∷ []) ≡ rows_bytes rows ++ row_bytes row
text_pushed rows row = rows_bytes-append rows (row ∷ []) ∙ ap (λ (xs : List ℕ). rows_bytes rows ++ xs) (append-nil (row_bytes row))

-- ---- one more

module _ (count : ℕ) (bytes : List ℕ) (spelled : AreSpelled count bytes) (row : Row) (fits : Fits row) where
  abbrev rows : List Row
  rows = rows_from count bytes

  many : count + 1 ≡ length (rows ++ row ∷ [])
  many = let l : length (rows ++ row ∷ []) ≡ length rows + 1 = length_push rows row in let c : length rows ≡ count = length-rows_from count bytes in omega (arith, l, c)

  text : bytes ++ row_bytes row ≡ rows_bytes (rows ++ row ∷ [])
  text = ap (λ (xs : List ℕ). xs ++ row_bytes row) spelled.spelled ∙ sym (text_pushed rows row)

  all_fit : AllByRecursion Fits (rows ++ row ∷ [])
  all_fit = All-append Fits rows (row ∷ []) spelled.fits (fits, tt)

  pub rows_pushed : rows_from (count + 1) (bytes ++ row_bytes row) ≡ rows ++ row ∷ []
  rows_pushed = spelled_by (rows ++ row ∷ []) all_fit (count + 1) many (bytes ++ row_bytes row) text

  pub spelled_pushed : AreSpelled (count + 1) (bytes ++ row_bytes row)
  spelled_pushed = are_spelled (rows ++ row ∷ []) all_fit (count + 1) many (bytes ++ row_bytes row) text

-- ---- how many there can be

rows_some : (rows : List Row) → length rows ≤ length (rows_bytes rows)
rows_some [] = omega arith
rows_some (row ∷ rows) =
    let more = rows_some rows in
    let l = length-append (row_bytes row) (rows_bytes rows) in
    let r = length-append (text_bytes row.0) (text_bytes row.1) in
    let k = length-append (to_le_bytes w64 (length row.0)) row.0 in
    let eight : length (to_le_bytes w64 (length row.0)) ≡ 8 = refl in
    omega (arith, more, l, r, k, eight)

pub count_small : (count : ℕ) (bytes : List ℕ) → AreSpelled count bytes → count ≤ length bytes
count_small count bytes spelled =
    let some = rows_some (rows_from count bytes) in
    let same : length bytes ≡ length (rows_bytes (rows_from count bytes)) = ap (λ (xs : List ℕ). length xs) spelled.spelled in
    omega (arith, some, same, length-rows_from count bytes)

pub count_grows : (count : ℕ) (bytes : List ℕ) → AreSpelled count bytes → (row : Row) → Fits row → (grown : List ℕ) → grown ≡ bytes ++ row_bytes row → count + 1 ≤ length grown
count_grows count bytes spelled row fits grown e =
    let small = count_small (count + 1) (bytes ++ row_bytes row) (spelled_pushed count bytes spelled row fits) in
    let same : length grown ≡ length (bytes ++ row_bytes row) = ap (λ (xs : List ℕ). length xs) e in
    omega (arith, small, same)
