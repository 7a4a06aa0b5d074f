-- Tests of points that pass what stands before a point that they pass.
use Rattle.std.proofs.Common.{◌≡◌, ℕ, Bool, true, false, ltb, leb, List, ◌⊎◌, inl, inr, ⊎_elim, refl, sym, ap, ◌∙◌, subst, arith}
use Rattle.std.specs.Prelude.{◌&&◌}
use Rattle.std.specs.Cmp.Lexicographic.{same_text, bytes_decides}
use Rattle.std.specs.declared.cmp.Ordering.{Ordering}
use Rattle.std.specs.declared.cmp.Ordering.TheVariants.{Less, Equal, Greater}
use Rattle.std.specs.Ordering.{nat_cmp, ordering_then, is_lt, is_le}
use Rattle.std.proofs.lemmas.Bool.{false≢true}
use Rattle.std.proofs.lemmas.Bool.Decides.{nat_tests}
use Rattle.std.proofs.lemmas.Cmp.{nat_list_cmp_total, tied_itself}
use Rattle.std.proofs.lemmas.Map.Lookups.{exact_bytes}
use Rattle.uc_bytes.specs.Bytes.{bytes_cmp, same_bytes}
use Rattle.uc_run_entry.specs.declared.entry.Entry.{Entry}
use Rattle.uc_run_entry.specs.Order.{entry_cmp}
use Rattle.uc_run_entry.specs.Seek.{is_passed}
use Rattle.uc_run_entry.specs.Lookup.{is_visible}
use Rattle.uc_run_entry.proofs.Sorted.{entry_total}
use Rattle.uc_run.specs.Places.{is_newer}

-- the key of a point is at or below that of one after it
key_by : (x y : List ℕ) (a b : ℕ) (o : Ordering) → bytes_cmp x y ≡ o → ordering_then o (nat_cmp a b) ≡ Less → (bytes_cmp x y ≡ Less) ⊎ (x ≡ y)
key_by x y a b Less e less = inl e
key_by x y a b Equal e less = inr (exact_bytes x y e)
key_by x y a b Greater e less = absurd cc

pub key_before : (p q : Entry) → entry_cmp p q ≡ Less → (bytes_cmp p.key q.key ≡ Less) ⊎ (p.key ≡ q.key)
key_before p q less = key_by p.key q.key q.seq p.seq (bytes_cmp p.key q.key) refl less

passed_by : (low x y : List ℕ) (strict : Bool) (o : Ordering) → bytes_cmp x y ≡ Less → bytes_cmp y low ≡ o → is_passed low strict y ≡ true → is_passed low strict x ≡ true
passed_by low x y true Less e f passed = ap is_le (nat_list_cmp_total.trans x y low e f)
passed_by low x y true Equal e f passed = ap is_le (subst (λ (z : List ℕ). bytes_cmp x z ≡ Less) (exact_bytes y low f) e)
passed_by low x y true Greater e f passed = absurd (false≢true (ap is_le (sym f) ∙ passed))
passed_by low x y false Less e f passed = ap is_lt (nat_list_cmp_total.trans x y low e f)
passed_by low x y false Equal e f passed = absurd (false≢true (ap is_lt (sym f) ∙ passed))
passed_by low x y false Greater e f passed = absurd (false≢true (ap is_lt (sym f) ∙ passed))

pub key_passed : (low x y : List ℕ) (strict : Bool) → bytes_cmp x y ≡ Less → is_passed low strict y ≡ true → is_passed low strict x ≡ true
key_passed low x y strict e passed = passed_by low x y strict (bytes_cmp y low) e refl passed

-- a key is passed over if one after it is
pub passed_before : (low : List ℕ) (strict : Bool) (p q : Entry) → entry_cmp p q ≡ Less → is_passed low strict q.key ≡ true → is_passed low strict p.key ≡ true
passed_before low strict p q less passed =
    ⊎_elim
    (λ below. key_passed low p.key q.key strict below passed)
    (λ same. subst (λ (z : List ℕ). is_passed low strict z ≡ true) (sym same) passed)
    (key_before p q less)

less_of : (o : Ordering) → is_lt o ≡ true → o ≡ Less
less_of Less e = refl
less_of Equal e = absurd cc
less_of Greater e = absurd cc

-- a point is newer than a sequence number of a key if one after it is
pub newer_before : (key : List ℕ) (at : ℕ) (p q : Entry) → entry_cmp p q ≡ Less → is_newer key at q ≡ true → is_newer key at p ≡ true
newer_before key at p q less newer =
    let target : Entry = record { key = key; seq = at; what = q.what } in
    ap is_lt (entry_total.trans p q target less (less_of (entry_cmp q target) newer))

-- a sequence is at or below another where it isn't above
pub not_above : (at seq : ℕ) → ltb at seq ≡ false → leb seq at ≡ true
not_above at seq e = grind (arith, nat_tests)

pub not_below : (at seq : ℕ) → ltb at seq ≡ true → leb seq at ≡ false
not_below at seq e = grind (arith, nat_tests)

-- ---- the points of a key at or below a sequence

pub other_key : (x y : List ℕ) (b : Bool) → same_bytes x y ≡ b → (bytes_cmp x y ≡ Equal → ⊥) → same_bytes x y ≡ false
other_key x y true e other =
    absurd (other (subst (λ (z : List ℕ). bytes_cmp x z ≡ Equal) (same_text x y (sym e)) (tied_itself nat_list_cmp_total x)))
other_key x y false e other = e

pub same_key : (x y : List ℕ) → bytes_cmp x y ≡ Equal → same_bytes x y ≡ true
same_key x y e = (bytes_decides x y).1 (exact_bytes x y e)

neither : (a b : Bool) → b ≡ false → (a && b) ≡ false
neither true b e = e
neither false b e = refl

both : (a b : Bool) → a ≡ true → b ≡ true → (a && b) ≡ true
both true b e f = f
both false b e f = absurd cc

less_of_newer : (at seq : ℕ) → is_lt (nat_cmp at seq) ≡ true → leb seq at ≡ false
less_of_newer at seq e = not_below at seq (grind (arith, nat_tests))

not_less : (at seq : ℕ) → is_lt (nat_cmp at seq) ≡ false → leb seq at ≡ true
not_less at seq e = grind (arith, nat_tests)

module _ (key : List ℕ) (at : ℕ) (p : Entry) where
  newer_by : (o : Ordering) → bytes_cmp p.key key ≡ o → is_lt (ordering_then o (nat_cmp at p.seq)) ≡ true → is_visible key at p ≡ false
  newer_by Less e newer = neither (leb p.seq at) (same_bytes p.key key) (other_key p.key key (same_bytes p.key key) refl (λ f. absurd cc))
  newer_by Equal e newer = ap (λ b. b && same_bytes p.key key) (less_of_newer at p.seq newer)
  newer_by Greater e newer = absurd cc

  -- what is newer isn't visible
  pub newer_hidden : is_newer key at p ≡ true → is_visible key at p ≡ false
  newer_hidden newer = newer_by (bytes_cmp p.key key) refl newer

  here_by : (o : Ordering) → bytes_cmp p.key key ≡ o → is_lt (ordering_then o (nat_cmp at p.seq)) ≡ false → is_le o ≡ true → is_visible key at p ≡ true
  here_by Less e newer passed = absurd cc
  here_by Equal e newer passed = both (leb p.seq at) (same_bytes p.key key) (not_less at p.seq newer) (same_key p.key key e)
  here_by Greater e newer passed = absurd cc

  -- a point that isn't newer, of a key that a search after it passes over, is visible
  pub here_visible : is_newer key at p ≡ false → is_passed key true p.key ≡ true → is_visible key at p ≡ true
  here_visible newer passed = here_by (bytes_cmp p.key key) refl newer passed

  behind_by : (o : Ordering) → bytes_cmp p.key key ≡ o → is_le o ≡ false → is_visible key at p ≡ false
  behind_by Less e passed = absurd cc
  behind_by Equal e passed = absurd cc
  behind_by Greater e passed = neither (leb p.seq at) (same_bytes p.key key) (other_key p.key key (same_bytes p.key key) refl (λ f. absurd cc))

  -- and one of a key after it isn't
  pub behind_hidden : is_passed key true p.key ≡ false → is_visible key at p ≡ false
  behind_hidden passed = behind_by (bytes_cmp p.key key) refl passed

  newer_by_passed : (o : Ordering) → is_lt o ≡ true → is_lt (ordering_then o (nat_cmp at p.seq)) ≡ true
  newer_by_passed Less passed = refl
  newer_by_passed Equal passed = absurd cc
  newer_by_passed Greater passed = absurd cc

  -- what is of a lower key is newer
  pub before_newer : is_passed key false p.key ≡ true → is_newer key at p ≡ true
  before_newer passed = newer_by_passed (bytes_cmp p.key key) passed

both_by : (o : Ordering) → is_lt o ≡ true → is_le o ≡ true
both_by Less e = refl
both_by Equal e = absurd cc
both_by Greater e = absurd cc

-- a search after a key passes over all that a search from the key on passes over
pub passed_both : (key : List ℕ) (p : Entry) → is_passed key false p.key ≡ true → is_passed key true p.key ≡ true
passed_both key p passed = both_by (bytes_cmp p.key key) passed
