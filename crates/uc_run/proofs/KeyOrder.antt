-- The order of keys.
use Rattle.std.proofs.Common.{◌≡◌, true, false, List, ℕ, sym, ap, ◌∙◌, refl}
use Rattle.std.specs.declared.cmp.Ordering.{Ordering}
use Rattle.std.specs.declared.cmp.Ordering.TheVariants.{Less, Equal, Greater}
use Rattle.std.specs.Ordering.{is_lt, is_le, ordering_reverse}
use Rattle.std.proofs.lemmas.Bool.{false≢true}
use Rattle.std.proofs.lemmas.Cmp.{nat_list_cmp_total, tied_itself}
use Rattle.std.proofs.lemmas.Map.Lookups.{exact_bytes}
use Rattle.std.specs.BTreeMap.Comparable.{le_lt_trans}
use Rattle.uc_bytes.specs.Bytes.{bytes_cmp}

pub le_itself : (x : List ℕ) → is_le (bytes_cmp x x) ≡ true
le_itself x = ap is_le (tied_itself nat_list_cmp_total x)

pub lt_of : (x y : List ℕ) → is_lt (bytes_cmp x y) ≡ true → bytes_cmp x y ≡ Less
lt_of x y e = by (bytes_cmp x y) e
  where
    by : (o : Ordering) → is_lt o ≡ true → o ≡ Less
    by Less e = refl
    by Equal e = absurd (false≢true e)
    by Greater e = absurd (false≢true e)

-- what isn't less is at or above
pub le_of_not : (x y : List ℕ) → is_lt (bytes_cmp x y) ≡ false → is_le (bytes_cmp y x) ≡ true
le_of_not x y e = ap is_le (nat_list_cmp_total.antisymm y x) ∙ by (bytes_cmp x y) e
  where
    by : (o : Ordering) → is_lt o ≡ false → is_le (ordering_reverse o) ≡ true
    by Less f = absurd (false≢true (sym f))
    by Equal f = refl
    by Greater f = refl

pub le_trans : (x y z : List ℕ) → is_le (bytes_cmp x y) ≡ true → is_le (bytes_cmp y z) ≡ true → is_le (bytes_cmp x z) ≡ true
le_trans x y z e f = by (bytes_cmp y z) refl f
  where
    by : (o : Ordering) → bytes_cmp y z ≡ o → is_le o ≡ true → is_le (bytes_cmp x z) ≡ true
    by Less g h = ap is_le (le_lt_trans nat_list_cmp_total x y z e g)
    by Equal g h = sym (ap (λ (w : List ℕ). is_le (bytes_cmp x w)) (exact_bytes y z g)) ∙ e
    by Greater g h = absurd (false≢true h)

pub le_of_lt : (x y : List ℕ) → bytes_cmp x y ≡ Less → is_le (bytes_cmp x y) ≡ true
le_of_lt x y e = ap is_le e
