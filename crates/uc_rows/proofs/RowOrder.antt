-- Rows whose keys rise, from one to the next.
use Rattle.std.proofs.Common.{◌≡◌, ℕ, true, false, List, [], ◌∷◌, refl, sym, ap, ◌∙◌}
use Rattle.std.specs.Prelude.{◌↔◌}
use Rattle.std.specs.List.{AllByRecursion}
use Rattle.std.specs.List.Sorted.{IsStrictlySortedBy}
use Rattle.std.specs.declared.cmp.Ordering.{Ordering}
use Rattle.std.specs.declared.cmp.Ordering.TheVariants.{Less, Equal, Greater}
use Rattle.std.specs.Ordering.{is_lt}
use Rattle.std.proofs.lemmas.Bool.{false≢true}
use Rattle.std.proofs.lemmas.Cmp.{nat_list_cmp_total}
use Rattle.uc_bytes.specs.Bytes.{bytes_cmp}
use Rattle.uc_rows.specs.RowBytes.{Row}
use Rattle.uc_rows.specs.Rising.{KeysRise}

less_of : (o : Ordering) → is_lt o ≡ true → o ≡ Less
less_of Less e = refl
less_of Equal e = absurd (false≢true e)
less_of Greater e = absurd (false≢true e)

below_all : (x y : List ℕ) (rows : List Row) → bytes_cmp x y ≡ Less → AllByRecursion (λ row. bytes_cmp y row.0 ≡ Less) rows → AllByRecursion (λ row. bytes_cmp x row.0 ≡ Less) rows
below_all x y [] e below = tt
below_all x y (row ∷ rows) e below = (nat_list_cmp_total.trans x y row.0 e below.0, below_all x y rows e below.1)

-- the rows that rise after a first row, whatever its value
abbrev pub RiseAbove : List ℕ → List Row → Type 0
RiseAbove key rows = KeysRise ((key, []) ∷ rows)

pub one_rises : (key : List ℕ) → RiseAbove key []
unfolding IsStrictlySortedBy
one_rises key = (tt, tt)

-- the first of them is above the key
pub next_rises : (key : List ℕ) (row : Row) (rows : List Row) → is_lt (bytes_cmp key row.0) ≡ true → RiseAbove row.0 rows ↔ RiseAbove key (row ∷ rows)
unfolding IsStrictlySortedBy
next_rises key row rows e =
    let less = less_of (bytes_cmp key row.0) e in
    (λ rise. ((less, below_all key row.0 rows less rise.0), rise), λ rise. rise.1)

pub next_falls : (key : List ℕ) (row : Row) (rows : List Row) → is_lt (bytes_cmp key row.0) ≡ false → RiseAbove key (row ∷ rows) → ⊥
unfolding IsStrictlySortedBy
next_falls key row rows e rise = false≢true (sym e ∙ ap is_lt rise.0.0)

-- the value of the first row is of no account
pub rise_behind : (row : Row) (rows : List Row) → RiseAbove row.0 rows ↔ KeysRise (row ∷ rows)
unfolding IsStrictlySortedBy
rise_behind row rows = (λ rise. rise, λ rise. rise)

pub none_rise : KeysRise []
unfolding IsStrictlySortedBy
none_rise = tt
