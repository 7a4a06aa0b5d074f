-- Checksums, piece by piece.
use Rattle.std.proofs.Common.{◌≡◌, ℕ, zero, suc, ◌+◌, ◌-◌, ◌*◌, ◌<◌, List, [], ◌∷◌, ◌++◌, length, take, drop, refl, sym, ap, ◌∙◌, append_assoc, length-append, arith}
use Rattle.std.proofs.lemmas.List.{append-nil, drop-drop, take-append-drop, nil_from_length, take_at, drop_at}
use Rattle.uc_logrec.specs.Crc.{crc_of}
use Rattle.uc_run_file.specs.Words.{half_text}
use Rattle.uc_run_file.specs.Pieces.{piece_len, pieces_of, sum_text, sums, table_of, IsDamagedAt}

pub sums_none : (bytes : List ℕ) → sums 0 bytes ≡ []
unfolding sums
sums_none bytes = refl

pub sums_more : (k : ℕ) (bytes : List ℕ) → sums (k + 1) bytes ≡ sums k bytes ++ sum_text (take piece_len (drop (k * piece_len) bytes))
unfolding sums
sums_more zero bytes = let e : zero * piece_len ≡ 0 = omega arith in ap (λ (xs : List ℕ). sum_text (take piece_len xs) ++ []) (sym (ap (λ (n : ℕ). drop n bytes) e)) ∙ append-nil (sum_text (take piece_len (drop (zero * piece_len) bytes)))
sums_more (suc k) bytes =
    let e : suc k + 1 ≡ suc (k + 1) = omega arith in
    let f : piece_len + k * piece_len ≡ suc k * piece_len = omega arith in
    ap (λ (n : ℕ). sums n bytes) e
    ∙ ap (λ (xs : List ℕ). sum_text (take piece_len bytes) ++ xs) (sums_more k (drop piece_len bytes))
    ∙ sym (append_assoc (sum_text (take piece_len bytes)) (sums k (drop piece_len bytes)) (sum_text (take piece_len (drop (k * piece_len) (drop piece_len bytes)))))
    ∙ ap (λ (xs : List ℕ). sums (suc k) bytes ++ sum_text (take piece_len xs)) (drop-drop (k * piece_len) piece_len bytes ∙ ap (λ (n : ℕ). drop n bytes) f)

pub half_long : (n : ℕ) → length (half_text n) ≡ 4
unfolding half_text
half_long n = refl

pub sums_long : (k : ℕ) (bytes : List ℕ) → length (sums k bytes) ≡ 4 * k
unfolding sums
sums_long zero bytes = omega arith
sums_long (suc k) bytes = omega (arith, sums_long k (drop piece_len bytes), length-append (sum_text (take piece_len bytes)) (sums k (drop piece_len bytes)), half_long (crc_of (take piece_len bytes)))

-- ---- bytes in two parts

pub front_joined : (n : ℕ) (a b : List ℕ) → take n (a ++ b) ≡ take n a ++ take (n - length (take n a)) b
front_joined zero a b = let e : 0 - 0 ≡ 0 = omega arith in sym (ap (λ (k : ℕ). take k b) e)
front_joined (suc n) [] b = let e : suc n - 0 ≡ suc n = omega arith in sym (ap (λ (k : ℕ). take k b) e)
front_joined (suc n) (x ∷ a) b = let e : suc n - suc (length (take n a)) ≡ n - length (take n a) = omega arith in ap (λ (xs : List ℕ). x ∷ xs) (front_joined n a b ∙ ap (λ (k : ℕ). take n a ++ take k b) (sym e))

pub back_joined : (n : ℕ) (a b : List ℕ) → drop n (a ++ b) ≡ drop n a ++ drop (n - length (take n a)) b
back_joined zero a b = let e : 0 - 0 ≡ 0 = omega arith in sym (ap (λ (k : ℕ). a ++ drop k b) e)
back_joined (suc n) [] b = let e : suc n - 0 ≡ suc n = omega arith in sym (ap (λ (k : ℕ). drop k b) e)
back_joined (suc n) (x ∷ a) b = let e : suc n - suc (length (take n a)) ≡ n - length (take n a) = omega arith in back_joined n a b ∙ ap (λ (k : ℕ). drop n a ++ drop k b) (sym e)

-- ---- the writer's loop

pub record AreSummed (bytes rest front table : List ℕ) (count : ℕ) : Type 0 where
  pub sums_are : table ≡ front ++ sums count bytes
  pub rest_is : rest ≡ drop (count * piece_len) bytes

pub none_summed : (bytes table : List ℕ) → AreSummed bytes bytes table table 0
none_summed bytes table = record { sums_are = sym (ap (λ (xs : List ℕ). table ++ xs) (sums_none bytes) ∙ append-nil table); rest_is = let e : 0 * piece_len ≡ 0 = omega arith in sym (ap (λ (n : ℕ). drop n bytes) e) }

pub rest_more : (bytes : List ℕ) (k : ℕ) → drop piece_len (drop (k * piece_len) bytes) ≡ drop ((k + 1) * piece_len) bytes
rest_more bytes k = let e : k * piece_len + piece_len ≡ (k + 1) * piece_len = omega arith in drop-drop piece_len (k * piece_len) bytes ∙ ap (λ (n : ℕ). drop n bytes) e

pub one_summed : (bytes rest after front table more : List ℕ) (k sum len : ℕ) → AreSummed bytes rest front table k → len ≡ piece_len → sum ≡ crc_of (take len rest) → after ≡ drop len rest → more ≡ table ++ half_text sum → AreSummed bytes after front more (k + 1)
one_summed bytes rest after front table more k sum len is l s a m =
    record {
      sums_are = m ∙ ap (λ (n : ℕ). table ++ half_text n) (s ∙ ap (λ (n : ℕ). crc_of (take n rest)) l ∙ ap (λ (xs : List ℕ). crc_of (take piece_len xs)) is.rest_is)
          ∙ ap (λ (xs : List ℕ). xs ++ sum_text (take piece_len (drop (k * piece_len) bytes))) is.sums_are
          ∙ append_assoc front (sums k bytes) (sum_text (take piece_len (drop (k * piece_len) bytes)))
          ∙ ap (λ (xs : List ℕ). front ++ xs) (sym (sums_more k bytes));
      rest_is = a ∙ ap (λ (n : ℕ). drop n rest) l ∙ ap (drop piece_len) is.rest_is ∙ rest_more bytes k;
    }

pub all_summed : (bytes rest front table : List ℕ) (k : ℕ) → AreSummed bytes rest front table k → k ≡ pieces_of (length bytes) → table ≡ front ++ table_of bytes
all_summed bytes rest front table k is all = is.sums_are ∙ ap (λ (n : ℕ). front ++ sums n bytes) all

-- ---- the reader's loop

pub record AreSound (bytes rest table left : List ℕ) (count : ℕ) : Type 0 where
  pub table_is : table ≡ sums count bytes ++ left
  pub rest_is : rest ≡ drop (count * piece_len) bytes

pub none_sound : (bytes table : List ℕ) → AreSound bytes bytes table table 0
none_sound bytes table = record { table_is = sym (ap (λ (xs : List ℕ). xs ++ table) (sums_none bytes)); rest_is = let e : 0 * piece_len ≡ 0 = omega arith in sym (ap (λ (n : ℕ). drop n bytes) e) }

pub one_sound : (bytes rest after table left sum more piece : List ℕ) (k len : ℕ) → AreSound bytes rest table left k → len ≡ piece_len → sum ≡ take 4 left → more ≡ drop 4 left → piece ≡ take len rest → after ≡ drop len rest → sum ≡ sum_text piece → AreSound bytes after table more (k + 1)
one_sound bytes rest after table left sum more piece k len is l s m p a same =
    let here : sum ≡ sum_text (take piece_len (drop (k * piece_len) bytes)) = same ∙ ap sum_text (p ∙ ap (λ (n : ℕ). take n rest) l ∙ ap (take piece_len) is.rest_is) in
    record {
      table_is = is.table_is ∙ ap (λ (xs : List ℕ). sums k bytes ++ xs) (sym (take-append-drop 4 left) ∙ ap (λ (xs : List ℕ). xs ++ drop 4 left) (sym s ∙ here) ∙ ap (λ (xs : List ℕ). sum_text (take piece_len (drop (k * piece_len) bytes)) ++ xs) (sym m))
          ∙ sym (append_assoc (sums k bytes) (sum_text (take piece_len (drop (k * piece_len) bytes))) more)
          ∙ ap (λ (xs : List ℕ). xs ++ more) (sym (sums_more k bytes));
      rest_is = a ∙ ap (λ (n : ℕ). drop n rest) l ∙ ap (drop piece_len) is.rest_is ∙ rest_more bytes k;
    }

pub all_sound : (bytes rest table left : List ℕ) (k : ℕ) → AreSound bytes rest table left k → length table ≡ 4 * pieces_of (length bytes) → k ≡ pieces_of (length bytes) → table ≡ table_of bytes
all_sound bytes rest table left k is long all =
    let none : length left ≡ 0 = omega (arith, ap (λ (xs : List ℕ). length xs) is.table_is, length-append (sums k bytes) left, sums_long k bytes, long, all) in
    is.table_is ∙ ap (λ (xs : List ℕ). sums k bytes ++ xs) (nil_from_length left none) ∙ append-nil (sums k bytes) ∙ ap (λ (n : ℕ). sums n bytes) all

pub damaged_there : (bytes rest table left sum piece : List ℕ) (k len : ℕ) → AreSound bytes rest table left k → k < pieces_of (length bytes) → len ≡ piece_len → sum ≡ take 4 left → piece ≡ take len rest → (sum ≡ sum_text piece → ⊥) → IsDamagedAt bytes table (k * len)
damaged_there bytes rest table left sum piece k len is there l s p other =
    let place : k * len ≡ k * piece_len = ap (λ (n : ℕ). k * n) l in
    let here : drop (k * len) bytes ≡ rest = ap (λ (n : ℕ). drop n bytes) place ∙ sym is.rest_is in
    record {
      piece = k;
      there = there;
      place = place;
      before = ap (take (4 * k)) is.table_is ∙ take_at (sums k bytes) left (4 * k) (sums_long k bytes);
      other = λ e. other (s ∙ sym (ap (take 4) (ap (drop (4 * k)) is.table_is ∙ drop_at (sums k bytes) left (4 * k) (sums_long k bytes))) ∙ e
          ∙ ap (λ (xs : List ℕ). sum_text (take piece_len xs)) here ∙ sym (ap sum_text (p ∙ ap (λ (n : ℕ). take n rest) l)));
    }

-- ---- a damaged piece

sums_at : (k n : ℕ) (bytes : List ℕ) → k < n → take 4 (drop (4 * k) (sums n bytes)) ≡ sum_text (take piece_len (drop (k * piece_len) bytes))
unfolding sums
sums_at k zero bytes lt = absurd (omega (arith, lt))
sums_at zero (suc n) bytes lt =
    let none : 4 * zero ≡ 0 = omega arith in
    let here : zero * piece_len ≡ 0 = omega arith in
    let front : List ℕ = sum_text (take piece_len bytes) in
    ap (λ (m : ℕ). take 4 (drop m (front ++ sums n (drop piece_len bytes)))) none
    ∙ take_at front (sums n (drop piece_len bytes)) 4 (half_long (crc_of (take piece_len bytes)))
    ∙ ap (λ (m : ℕ). sum_text (take piece_len (drop m bytes))) (sym here)
sums_at (suc k) (suc n) bytes lt =
    let front : List ℕ = sum_text (take piece_len bytes) in
    let rest : List ℕ = sums n (drop piece_len bytes) in
    let more : 4 * suc k ≡ 4 + 4 * k = omega arith in
    let next : piece_len + k * piece_len ≡ suc k * piece_len = omega arith in
    ap (λ (m : ℕ). take 4 (drop m (front ++ rest))) more
    ∙ ap (take 4) (sym (drop-drop (4 * k) 4 (front ++ rest)) ∙ ap (drop (4 * k)) (drop_at front rest 4 (half_long (crc_of (take piece_len bytes)))))
    ∙ sums_at k n (drop piece_len bytes) (omega (arith, lt))
    ∙ ap (λ (xs : List ℕ). sum_text (take piece_len xs)) (drop-drop (k * piece_len) piece_len bytes ∙ ap (λ (m : ℕ). drop m bytes) next)

pub no_damage : (bytes table : List ℕ) (offset : ℕ) → IsDamagedAt bytes table offset → table ≡ table_of bytes → ⊥
no_damage bytes table offset is all =
    is.other (ap (λ (xs : List ℕ). take 4 (drop (4 * is.piece) xs)) all ∙ sums_at is.piece (pieces_of (length bytes)) bytes is.there
    ∙ ap (λ (n : ℕ). sum_text (take piece_len (drop n bytes))) (sym is.place))
