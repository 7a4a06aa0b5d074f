-- Rows counted as long as they fit.
use Rattle.std.proofs.Common.{◌≡◌, ℕ, zero, suc, ◌+◌, ◌<◌, ◌≤◌, List, [], ◌∷◌, ◌++◌, length, take, drop, refl, sym, ap, ◌∙◌, length-append, arith}
use Rattle.std.specs.Int.{w64, to_le_bytes}
use Rattle.std.proofs.lemmas.List.{length-drop, drop-drop, take-append-drop, take_at}
use Rattle.uc_rows.specs.RowBytes.{Row, text_bytes, row_bytes, rows_bytes}
use Rattle.uc_rows.proofs.RowsAgain.{text_pushed, rows_bytes-append}

pub length_of_text : (text : List ℕ) → length (text_bytes text) ≡ 8 + length text
length_of_text text =
    let both = length-append (to_le_bytes w64 (length text)) text in
    let eight : length (to_le_bytes w64 (length text)) ≡ 8 = refl in
    omega (arith, both, eight)

pub length_of_row : (row : Row) → length (row_bytes row) ≡ 16 + length row.0 + length row.1
length_of_row row =
    let both = length-append (text_bytes row.0) (text_bytes row.1) in
    let key = length_of_text row.0 in
    let value = length_of_text row.1 in
    omega (arith, both, key, value)

-- the row after the first few is the next
taken_suc : (all rest : List Row) (row : Row) (n : ℕ) → drop n all ≡ row ∷ rest → take (suc n) all ≡ take n all ++ row ∷ []
taken_suc all rest row zero e = ap (λ (rows : List Row). take 1 rows) e
taken_suc [] rest row (suc n) e = absurd (let none : 0 ≡ suc (length rest) = ap (λ (rows : List Row). length rows) e in omega (arith, none))
taken_suc (first ∷ all) rest row (suc n) e = ap (λ (rows : List Row). first ∷ rows) (taken_suc all rest row n e)

pub taken_more : (all rest : List Row) (row : Row) (n : ℕ) → drop n all ≡ row ∷ rest → take (n + 1) all ≡ take n all ++ row ∷ []
taken_more all rest row n e = let next : n + 1 ≡ suc n = omega arith in ap (λ (m : ℕ). take m all) next ∙ taken_suc all rest row n e

pub size_more : (all rest : List Row) (row : Row) (n : ℕ) → drop n all ≡ row ∷ rest → length (rows_bytes (take (n + 1) all)) ≡ length (rows_bytes (take n all)) + (16 + length row.0 + length row.1)
size_more all rest row n e =
    let text : length (rows_bytes (take (n + 1) all)) ≡ length (rows_bytes (take n all) ++ row_bytes row) =
    ap (λ (rows : List Row). length (rows_bytes rows)) (taken_more all rest row n e) ∙ ap (λ (bytes : List ℕ). length bytes) (text_pushed (take n all) row) in
    let sum = length-append (rows_bytes (take n all)) (row_bytes row) in
    let one = length_of_row row in omega (arith, text, sum, one)

pub behind_row : (all rest : List Row) (row : Row) (n : ℕ) → drop n all ≡ row ∷ rest → rest ≡ drop (n + 1) all
behind_row all rest row n e = ap (λ (rows : List Row). drop 1 rows) (sym e) ∙ drop-drop 1 n all

pub place_below : (all rest : List Row) (row : Row) (n : ℕ) → drop n all ≡ row ∷ rest → n < length all
place_below all rest row n e =
    let left = length-drop n all in
    let some : length (drop n all) ≡ suc (length rest) = ap (λ (rows : List Row). length rows) e in
    omega (arith, left, some)

pub all_there : (all : List Row) (n : ℕ) → n ≤ length all → drop n all ≡ [] → n ≡ length all
all_there all n within e =
    let left = length-drop n all in
    let none : length (drop n all) ≡ 0 = ap (λ (rows : List Row). length rows) e in
    omega (arith, left, none, within)

-- the first rows' bytes stand first
pub first_bytes : (all : List Row) (n : ℕ) → take (length (rows_bytes (take n all))) (rows_bytes all) ≡ rows_bytes (take n all)
first_bytes all n =
    let first = rows_bytes (take n all) in
    let whole : rows_bytes all ≡ first ++ rows_bytes (drop n all) = ap rows_bytes (sym (take-append-drop n all)) ∙ rows_bytes-append (take n all) (drop n all) in
    ap (take (length first)) whole ∙ take_at first (rows_bytes (drop n all)) (length first) refl
