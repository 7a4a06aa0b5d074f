-- One more row, copied into a buffer or only counted.
use Rattle.std.proofs.Common.{◌≡◌, ◌≢◌, ◌⊎◌, inl, inr, ℕ, ◌+◌, ◌<◌, ◌≤◌, List, [], ◌∷◌, ◌++◌, length, take, drop, sym, ap, ◌∙◌, subst, length-append, refl, arith}
use Rattle.std.proofs.lemmas.List.{take_all, take-append-le, length-drop}
use Rattle.std.proofs.lemmas.Bool.{cases_lt}
use Rattle.uc_rows.specs.RowBytes.{Row, row_bytes, rows_bytes}
use Rattle.uc_rows.specs.Laying.{AreLaid, filled, laid_at}
use Rattle.uc_rows.specs.declared.laying.Laid.{Laid}
use Rattle.uc_rows.proofs.RowsAgain.{text_pushed}
use Rattle.uc_rows.proofs.LaidTwice.{laid_twice}

-- bytes that fit stand at the front of the buffer
filled_front : (bytes room : List ℕ) → length bytes ≤ length room → filled bytes room ≡ laid_at 0 bytes room
filled_front bytes room fits =
    let zero : length bytes ≡ 0 + length bytes = omega arith in
    (λ i. take_all (length room) bytes fits i ++ drop (zero i) room)

filled_long : (bytes room : List ℕ) → length bytes ≤ length room → length (filled bytes room) ≡ length room
filled_long bytes room fits =
    let same : length (filled bytes room) ≡ length (bytes ++ drop (length bytes) room) = ap (λ (l : List ℕ). length (l ++ drop (length bytes) room)) (take_all (length room) bytes fits) in
    let sum = length-append bytes (drop (length bytes) room) in
    let rest = length-drop (length bytes) room in
    omega (arith, same, sum, rest, fits)

pub none_laid : (room : List ℕ) → AreLaid [] room room (record { rows = 0; fitting = 0; size = 0 })
none_laid room = record {
  shown = record {
    fitting = record { there = omega arith; fit = omega arith; most = inl refl };
    written = sym (filled_front [] room (omega arith));
    whole = refl;
  };
  count = refl;
}

more_bytes : (rows : List Row) (row : Row) → length (rows_bytes (rows ++ row ∷ [])) ≡ length (rows_bytes rows) + length (row_bytes row)
more_bytes rows row = ap (λ (l : List ℕ). length l) (text_pushed rows row) ∙ length-append (rows_bytes rows) (row_bytes row)

more_rows : (rows : List Row) (row : Row) → length (rows ++ row ∷ []) ≡ length rows + 1
more_rows rows row = length-append rows (row ∷ [])

module _ (rows : List Row) (row : Row) (room room' : List ℕ) (laid : Laid) (so_far : AreLaid rows room room' laid) where
  abbrev all : List Row
  all = rows ++ row ∷ []

  -- more rows than fit are no more than there are
  fewer : length room < length (rows_bytes (take (laid.fitting + 1) rows)) → laid.fitting + 1 ≤ length rows
  fewer over = elim (cases_lt laid.fitting (length rows)) [
    | inl less ↦ omega (arith, less)
    | inr all_of ↦
        let old : take laid.fitting rows ≡ rows = take_all laid.fitting rows all_of in
        let new : take (laid.fitting + 1) rows ≡ rows = take_all (laid.fitting + 1) rows (omega (arith, all_of)) in
        let same : length (rows_bytes (take (laid.fitting + 1) rows)) ≡ length (rows_bytes (take laid.fitting rows)) = ap (λ (r : List Row). length (rows_bytes r)) (new ∙ sym old) in
        absurd (omega (arith, over, same, so_far.shown.fitting.fit))
  ]

  pub room_stays_long : length room' ≡ length room
  room_stays_long = ap (λ (l : List ℕ). length l) so_far.shown.written ∙ filled_long (rows_bytes (take laid.fitting rows)) room so_far.shown.fitting.fit

  -- all rows fit so far, and this one does
  pub laid_more : (count size : ℕ) → laid.fitting ≡ laid.rows → count ≡ laid.rows + 1 → size ≡ laid.size + length (row_bytes row) → size ≤ length room' →
      AreLaid all room (laid_at laid.size (row_bytes row) room') (record { rows = count; fitting = count; size = size })
  laid_more count size whole next sum fits =
      let bytes = rows_bytes rows in
      let b = row_bytes row in
      let many = more_rows rows row in
      let large = more_bytes rows row in
      let long = room_stays_long in
      let n : count ≡ length all = omega (arith, next, many, so_far.count) in
      let here : take count all ≡ all = take_all count all (omega (arith, n)) in
      let there : take laid.fitting rows ≡ rows = take_all laid.fitting rows (omega (arith, whole, so_far.count)) in
      let old_fit : length bytes ≤ length room = omega (arith, so_far.shown.whole, sum, fits, long) in
      let new_fit : length (rows_bytes all) ≤ length room = omega (arith, large, so_far.shown.whole, sum, fits, long) in
      let before : room' ≡ laid_at 0 bytes room = so_far.shown.written ∙ ap (λ (r : List Row). filled (rows_bytes r) room) there ∙ filled_front bytes room old_fit in
      let place : laid.size ≡ 0 + length bytes = omega (arith, so_far.shown.whole) in
      let after : laid_at laid.size b room' ≡ filled (rows_bytes all) room =
      (λ i. laid_at (place i) b (before i))
      ∙ laid_twice room bytes b 0 (omega (arith, new_fit, large))
      ∙ ap (λ (l : List ℕ). laid_at 0 l room) (sym (text_pushed rows row))
      ∙ sym (filled_front (rows_bytes all) room new_fit) in
      record {
        shown = record {
          fitting = record {
            there = omega (arith, n);
            fit = subst (λ (r : List Row). length (rows_bytes r) ≤ length room) (sym here) new_fit;
            most = inl n;
          };
          written = after ∙ ap (λ (r : List Row). filled (rows_bytes r) room) (sym here);
          whole = omega (arith, sum, large, so_far.shown.whole);
        };
        count = n;
      }

  -- this one doesn't fit, or one before it doesn't
  pub counted_more : (count size : ℕ) → (laid.fitting ≢ laid.rows) ⊎ (length room' < size) → count ≡ laid.rows + 1 → size ≡ laid.size + length (row_bytes row) →
      AreLaid all room room' (record { rows = count; fitting = laid.fitting; size = size })
  counted_more count size lacks next sum =
      let many = more_rows rows row in
      let large = more_bytes rows row in
      let long = room_stays_long in
      let old = so_far.shown.fitting in
      let same : take laid.fitting all ≡ take laid.fitting rows = take-append-le laid.fitting rows (row ∷ []) old.there in
      let one_more : (laid.fitting ≡ length rows) ⊎ (length room < length (rows_bytes (take (laid.fitting + 1) rows))) → length room < length (rows_bytes (take (laid.fitting + 1) all)) =
      λ most. elim most [
        | inl here ↦
            let none : take (laid.fitting + 1) all ≡ all = take_all (laid.fitting + 1) all (omega (arith, here, many)) in
            let over : length room < length (rows_bytes all) = elim lacks [
              | inl other ↦ absurd (other (omega (arith, here, so_far.count)))
              | inr less ↦ omega (arith, less, large, sum, so_far.shown.whole, long)
            ] in
            subst (λ (r : List Row). length room < length (rows_bytes r)) (sym none) over
        | inr over ↦
            let within : laid.fitting + 1 ≤ length rows = fewer over in
            subst (λ (r : List Row). length room < length (rows_bytes r)) (sym (take-append-le (laid.fitting + 1) rows (row ∷ []) within)) over
      ] in
      record {
        shown = record {
          fitting = record {
            there = omega (arith, old.there, many);
            fit = subst (λ (r : List Row). length (rows_bytes r) ≤ length room) (sym same) old.fit;
            most = inr (one_more old.most);
          };
          written = so_far.shown.written ∙ ap (λ (r : List Row). filled (rows_bytes r) room) (sym same);
          whole = omega (arith, sum, large, so_far.shown.whole);
        };
        count = omega (arith, next, many, so_far.count);
      }
