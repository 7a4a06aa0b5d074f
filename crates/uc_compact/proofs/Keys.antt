-- The order of keys.
pub use Rattle.uc_run.proofs.KeyOrder.{le_itself, lt_of, le_of_not, le_trans, le_of_lt}
use Rattle.std.proofs.Common.{◌≡◌, ℕ, true, false, List, refl, sym, ap, ◌∙◌}
use Rattle.std.specs.declared.cmp.Ordering.{Ordering}
use Rattle.std.specs.declared.cmp.Ordering.TheVariants.{Less, Equal, Greater}
use Rattle.std.specs.Ordering.{is_le}
use Rattle.std.specs.Cmp.Lexicographic.{bytes_decides}
use Rattle.std.proofs.lemmas.Bool.{false≢true}
use Rattle.std.proofs.lemmas.Cmp.{nat_list_cmp_total, tied_itself}
use Rattle.std.proofs.lemmas.Map.Lookups.{exact_bytes}
use Rattle.uc_bytes.specs.Bytes.{bytes_cmp, same_bytes}

pub no_less_itself : (x : List ℕ) → bytes_cmp x x ≡ Less → ⊥
no_less_itself x e = let t = tied_itself nat_list_cmp_total x in cc

pub lt_le : (x y z : List ℕ) → bytes_cmp x y ≡ Less → is_le (bytes_cmp y z) ≡ true → bytes_cmp x z ≡ Less
lt_le x y z less le = by (bytes_cmp y z) refl le
  where
    by : (o : Ordering) → bytes_cmp y z ≡ o → is_le o ≡ true → bytes_cmp x z ≡ Less
    by Less e f = nat_list_cmp_total.trans x y z less e
    by Equal e f = sym (ap (λ (w : List ℕ). bytes_cmp x w) (exact_bytes y z e)) ∙ less
    by Greater e f = absurd (false≢true f)

-- at or above the key, and not it, is above it
pub above : (key k : List ℕ) → is_le (bytes_cmp key k) ≡ true → same_bytes k key ≡ false → bytes_cmp key k ≡ Less
above key k le other = by (bytes_cmp key k) refl le
  where
    by : (o : Ordering) → bytes_cmp key k ≡ o → is_le o ≡ true → o ≡ Less
    by Less e f = refl
    by Equal e f = absurd (false≢true (sym other ∙ (bytes_decides k key).1 (sym (exact_bytes key k e))))
    by Greater e f = absurd (false≢true f)
