-- A page: the first rows of those that are left, and the key after them.
use Rattle.std.proofs.Common.{◌≡◌, ℕ, ◌+◌, ◌≤◌, ◌<◌, List, [], ◌∷◌, ◌++◌, length, get_or, take, drop, Option, Some, None, refl, sym, ap, subst, ◌∙◌, arith}
use Rattle.std.proofs.Math.Seq.{take-append_seam}
use Rattle.std.proofs.lemmas.List.{take-append-drop, take-take, length-take, length-drop, length-append, take_all, drop_all, drop-drop, get_or-take, get_or-drop}
use Rattle.uc_rows.specs.Rising.{KeysRise}
use Rattle.uc_checkpoint.specs.HeldCheckpoints.{Parts, Splits, IsPage}
use Rattle.uc_checkpoint.specs.declared.checkpoint.TheConstants.{MOST_ROWS}
use Rattle.uc_checkpoint.proofs.Parted.{parted}

abbrev Row : Type 0
Row = List ℕ × List ℕ

-- the last element of a list
last_at : (rows : List Row) (row d : Row) → get_or (rows ++ row ∷ []) (length rows) d ≡ row
last_at [] row d = refl
last_at (first ∷ rows) row d = last_at rows row d

-- what is left begins with its first rows
left_again : (all : List Row) (count : ℕ) (rows : List Row) → rows ≡ take (length rows) (drop count all) → drop count all ≡ rows ++ drop (count + length rows) all
left_again all count rows first =
    sym (take-append-drop (length rows) (drop count all))
    ∙ (ap (λ (rs : List Row). rs ++ drop (length rows) (drop count all)) (sym first)
    ∙ ap (λ (rs : List Row). rows ++ rs) (drop-drop (length rows) count all))

-- if no row comes after those of a page, they are all that are left
page_of_all : (all : List Row) (count most : ℕ) (rows : List Row) → count ≤ length all → most ≤ MOST_ROWS → rows ≡ take (most + 1) (drop count all) → length rows ≤ most → IsPage all count most rows None
page_of_all all count most rows within few is short =
    let rest = drop count all in
    let left = length-drop count all in
    let taken : length rows ≡ length (take (most + 1) rest) = ap (λ (rs : List Row). length rs) is in
    let cut = length-take (most + 1) rest in
    let below : length rest ≤ most = omega (arith, taken, cut) in
    let whole : rows ≡ rest = is ∙ take_all (most + 1) rest (omega arith) in
    let same : length rows ≡ length rest = ap (λ (rs : List Row). length rs) whole in
    record {
      few = omega (arith, short, few);
      many = omega (arith, same, below);
      left = left_again all count rows (whole ∙ sym (take_all (length rows) rest (omega (arith, same))));
      parts = omega (arith, left, same, within);
      within = omega (arith, left, same, within);
      some = λ e. sym whole ∙ e;
    }

page_before : (all : List Row) (count most : ℕ) (rows : List Row) (row : Row) → KeysRise all → count ≤ length all → 1 ≤ most → most ≤ MOST_ROWS → rows ++ row ∷ [] ≡ take (most + 1) (drop count all) → length rows ≡ most → IsPage all count most rows (Some row.0)
page_before all count most rows row rise within one few is full =
    let rest = drop count all in
    let left = length-drop count all in
    let more = length-append rows (row ∷ []) in
    let taken : length (rows ++ row ∷ []) ≡ length (take (most + 1) rest) = ap (λ (rs : List Row). length rs) is in
    let cut = length-take (most + 1) rest in
    let place : most < length rest = omega (arith, taken, cut, more, full) in
    let there : count + length rows < length all = omega (arith, place, left, full, within) in
    let first : rows ≡ take (length rows) rest =
    sym (take-append_seam rows (row ∷ [])) ∙ (ap (take (length rows)) is ∙ (take-take (length rows) (most + 1) rest (omega (arith, full)) ∙ ap (λ (n : ℕ). take n rest) (omega (arith, full)))) in
    let at_rest : row ≡ get_or rest (length rows) row =
    sym (last_at rows row row) ∙ (ap (λ (rs : List Row). get_or rs (length rows) row) is ∙ get_or-take (most + 1) rest (length rows) row (omega (arith, full))) in
    let at_all : row ≡ get_or all (count + length rows) row = at_rest ∙ get_or-drop count all (length rows) row in
    record {
      few = omega (arith, full, few);
      many = omega (arith, full, place);
      left = left_again all count rows first;
      parts = subst (λ (r : Row). Parts (Some r.0) (count + length rows) all) (sym at_all) (parted all (count + length rows) row rise there);
      within = omega (arith, there);
      some = λ e. absurd (let none : length rows ≡ 0 = ap (λ (rs : List Row). length rs) e in omega (arith, none, full, one));
    }

-- the rows of a scan of one more than a page takes, split
pub page_split : (all : List Row) (count most : ℕ) (shown rows : List Row) (next : Option (List ℕ)) → KeysRise all → count ≤ length all → 1 ≤ most → most ≤ MOST_ROWS → shown ≡ take (most + 1) (drop count all) → Splits most shown rows next → IsPage all count most rows next
page_split all count most shown rows None rise within one few is split = page_of_all all count most rows within few (sym split.0 ∙ is) (let same : length shown ≡ length rows = ap (λ (rs : List Row). length rs) split.0 in omega (arith, same, split.1))
page_split all count most shown rows (Some key) rise within one few is split = page_before all count most rows (key, split.0) rise within one few (sym split.1 ∙ is) split.2

-- where no row is left, a page has none
pub page_of_none : (all : List Row) (count most : ℕ) → count ≡ length all → IsPage all count most [] None
page_of_none all count most done = record {
  many = let left = length-drop count all in omega (arith, done, left);
  few = omega arith;
  left = ap (λ (n : ℕ). drop n all) (omega arith);
  parts = omega (arith, done);
  within = omega (arith, done);
  some = λ _. drop_all count all (omega (arith, done));
}
