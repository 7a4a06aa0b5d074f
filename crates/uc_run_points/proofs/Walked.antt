-- Entries that are decoded one by one.
use Rattle.std.proofs.Common.{◌≡◌, ℕ, zero, suc, ◌-◌, ◌<◌, ◌≤◌, min, List, [], ◌∷◌, length, take, drop, refl, sym, ap, ◌∙◌, arith}
use Rattle.uc_run_entry.specs.declared.entry.Entry.{Entry}
use Rattle.uc_run_points.specs.Spelling.{entry_from, entries_from, entries_ahead}
use Rattle.uc_run_points.proofs.EntriesAgain.{length-entries_from}

pub none_ahead : (bytes : List ℕ) → entries_from 0 bytes ≡ []
unfolding entries_from
none_ahead bytes = refl

-- decoding the first of `n` entries
pub first_read : (n : ℕ) (bytes : List ℕ) → entries_ahead n (entry_from bytes).0 (entry_from bytes).1 ≡ entries_from n bytes
unfolding entries_from entries_ahead
first_read zero bytes = refl
first_read (suc n) bytes = refl

module _ (first : Entry) (behind : List ℕ) where
  pub at_end : (n : ℕ) → n ≡ 0 → entries_ahead n first behind ≡ []
  unfolding entries_ahead
  at_end n e = ap (λ m. entries_ahead m first behind) e

  more : (n : ℕ) → entries_ahead (suc n) first behind ≡ first ∷ entries_from n behind
  unfolding entries_ahead
  more n = refl

  pub some_ahead : (n : ℕ) → 0 < n → entries_ahead n first behind ≡ first ∷ entries_from (n - 1) behind
  some_ahead n l = let e : n ≡ suc (n - 1) = omega (arith, l) in ap (λ m. entries_ahead m first behind) e ∙ more (n - 1)

  pub length-entries_ahead : (n : ℕ) → length (entries_ahead n first behind) ≡ n
  unfolding entries_ahead
  length-entries_ahead zero = refl
  length-entries_ahead (suc n) = ap suc (length-entries_from n behind)

take-entries_from : (k n : ℕ) (bytes : List ℕ) → take k (entries_from n bytes) ≡ entries_from (min n k) bytes
unfolding entries_from
take-entries_from zero n bytes = ap (λ m. entries_from m bytes) (let e : 0 ≡ min n 0 = omega arith in e)
take-entries_from (suc k) zero bytes = ap (λ m. entries_from m bytes) (let e : 0 ≡ min 0 (suc k) = omega arith in e)
take-entries_from (suc k) (suc n) bytes =
    let e : suc (min n k) ≡ min (suc n) (suc k) = omega arith in
    ap (λ (xs : List Entry). (entry_from bytes).0 ∷ xs) (take-entries_from k n (entry_from bytes).1) ∙ ap (λ m. entries_from m bytes) e

pub take-entries_ahead : (k n : ℕ) (first : Entry) (behind : List ℕ) → take k (entries_ahead n first behind) ≡ entries_ahead (min n k) first behind
unfolding entries_ahead
take-entries_ahead zero n first behind = ap (λ m. entries_ahead m first behind) (let e : 0 ≡ min n 0 = omega arith in e)
take-entries_ahead (suc k) zero first behind = ap (λ m. entries_ahead m first behind) (let e : 0 ≡ min 0 (suc k) = omega arith in e)
take-entries_ahead (suc k) (suc n) first behind =
    let e : suc (min n k) ≡ min (suc n) (suc k) = omega arith in
    ap (λ (xs : List Entry). first ∷ xs) (take-entries_from k n behind) ∙ ap (λ m. entries_ahead m first behind) e

-- no entry remains after the only one
pub none_behind : (n : ℕ) (first : Entry) (behind : List ℕ) → n ≤ 1 → drop 1 (entries_ahead n first behind) ≡ []
unfolding entries_from entries_ahead
none_behind zero first behind l = refl
none_behind (suc zero) first behind l = refl
none_behind (suc (suc n)) first behind l = absurd (omega (arith, l))

-- after one step, the remaining entries are those that the bytes after the first encode
pub one_on : (n : ℕ) (first : Entry) (behind : List ℕ) → 0 < n → entries_ahead (n - 1) (entry_from behind).0 (entry_from behind).1 ≡ drop 1 (entries_ahead n first behind)
one_on n first behind l = first_read (n - 1) behind ∙ sym (ap (λ (es : List Entry). drop 1 es) (some_ahead first behind n l))
