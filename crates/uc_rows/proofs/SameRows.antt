-- Rows are equal if their bytes are.
use Rattle.std.proofs.Common.{◌≡◌, ℕ, Bool, true, false, ◌&&◌, nat_eq, List, length, refl, sym, ap, ◌∙◌, arith}
use Rattle.std.proofs.lemmas.Bool.{false≢true}
use Rattle.std.proofs.lemmas.Bool.Decides.{nat_tests}
use lib.Pointwise.{pointwise_long, pointwise_decides, bytes_decides}
use Rattle.uc_bytes.specs.Bytes.{same_bytes}
use Rattle.uc_rows.specs.RowBytes.{Row, rows_bytes, rows_from, AreSpelled}
use Rattle.uc_rows.specs.Rising.{same_rows}
use Rattle.uc_rows.proofs.RowsAgain.{length-rows_from}

-- a test that decides what another does gives the same
alike : (P : Type 0) (b d : Bool) → (b ≡ true → P) → (P → b ≡ true) → (d ≡ true → P) → (P → d ≡ true) → b ≡ d
alike P true d bp pb dp pd = sym (pd (bp refl))
alike P false true bp pb dp pd = pb (dp refl)
alike P false false bp pb dp pd = refl

both : (a b : Bool) → a && b ≡ true → (a ≡ true) × (b ≡ true)
both true true e = (refl, refl)
both true false e = absurd (false≢true e)
both false b e = absurd (false≢true e)

row_decides : (x y : Row) → (same_bytes x.0 y.0 && same_bytes x.1 y.1 ≡ true → x ≡ y) × (x ≡ y → same_bytes x.0 y.0 && same_bytes x.1 y.1 ≡ true)
row_decides x y = (
  λ h.
      let parts = both (same_bytes x.0 y.0) (same_bytes x.1 y.1) h in
      let key : x.0 ≡ y.0 = (bytes_decides x.0 y.0).0 parts.0 in
      let value : x.1 ≡ y.1 = (bytes_decides x.1 y.1).0 parts.1 in
      λ i. (key i, value i),
  λ e.
      let key : same_bytes x.0 y.0 ≡ true = (bytes_decides x.0 y.0).1 (ap (λ (r : Row). r.0) e) in
      let value : same_bytes x.1 y.1 ≡ true = (bytes_decides x.1 y.1).1 (ap (λ (r : Row). r.1) e) in
      λ i. key i && value i,
)

rows_decide : (xs ys : List Row) → (same_rows xs ys ≡ true → xs ≡ ys) × (xs ≡ ys → same_rows xs ys ≡ true)
rows_decide = pointwise_decides row_decides

module _ (m n : ℕ) (b d : List ℕ) where
  abbrev xs : List Row
  xs = rows_from m b

  abbrev ys : List Row
  ys = rows_from n d

  pub same_by_bytes : AreSpelled m b → AreSpelled n d → m ≡ n → same_bytes b d ≡ same_rows xs ys
  same_by_bytes spelled other many =
      alike (xs ≡ ys) (same_bytes b d) (same_rows xs ys)
      (λ h. λ i. rows_from (many i) ((bytes_decides b d).0 h i))
      (λ e. (bytes_decides b d).1 (spelled.spelled ∙ ap rows_bytes e ∙ sym other.spelled))
      (rows_decide xs ys).0
      (rows_decide xs ys).1

  pub other_counts : (m ≡ n → ⊥) → nat_eq m n ≡ same_rows xs ys
  other_counts differ = tested (nat_eq m n) refl ∙ sym (by (same_rows xs ys) refl)
    where
      tested : (t : Bool) → nat_eq m n ≡ t → nat_eq m n ≡ false
      tested true e = let same : m ≡ n = grind (arith, nat_tests) in absurd (differ same)
      tested false e = e

      by : (s : Bool) → same_rows xs ys ≡ s → same_rows xs ys ≡ false
      by false h = h
      by true h =
          let long : length xs ≡ length ys = pointwise_long (λ x y. same_bytes x.0 y.0 && same_bytes x.1 y.1) xs ys h in
          let same : m ≡ n = sym (length-rows_from m b) ∙ long ∙ length-rows_from n d in
          absurd (differ same)
