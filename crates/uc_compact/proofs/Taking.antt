-- Of points in order, from a key on, those of the key stand first.
use Rattle.std.proofs.Common.{◌≡◌, ℕ, suc, Bool, true, false, cond, List, [], ◌∷◌, ◌++◌, map, filter, take, drop, refl, sym, ap, ◌∙◌, subst}
use Rattle.std.specs.Prelude.{not}
use Rattle.std.specs.List.{AllByRecursion, flat_map}
use Rattle.std.specs.List.Sorted.{IsStrictlySortedBy}
use Rattle.std.specs.declared.cmp.Ordering.{Ordering}
use Rattle.std.specs.declared.cmp.Ordering.TheVariants.{Less, Equal, Greater}
use Rattle.std.specs.Ordering.{nat_cmp, ordering_then, is_le}
use Rattle.std.specs.Cmp.Lexicographic.{bytes_decides}
use Rattle.std.proofs.lemmas.List.Elements.{filter-append}
use Rattle.std.proofs.lemmas.List.Kept.{IsStrictlySortedBy-filter}
use Rattle.uc_bytes.specs.Bytes.{bytes_cmp, same_bytes}
use Rattle.uc_run_entry.specs.declared.entry.Entry.{Entry}
use Rattle.uc_run_entry.specs.Order.{entry_cmp}
use Rattle.uc_compact.specs.Heads.{first_named, IsFrom}
use Rattle.uc_compact.proofs.Keys.{le_trans, lt_le, no_less_itself, above}

abbrev pub Sorted : List Entry → Type 0
Sorted ps = IsStrictlySortedBy entry_cmp ps

module _ (key : List ℕ) where
  abbrev pub is_named : Entry → Bool
  is_named p = same_bytes p.key key

  abbrev pub is_other : Entry → Bool
  is_other p = not (same_bytes p.key key)

  other_of : (k : List ℕ) → bytes_cmp key k ≡ Less → (b : Bool) → same_bytes k key ≡ b → same_bytes k key ≡ false
  other_of k less false e = e
  other_of k less true e = absurd (no_less_itself key (subst (λ (x : List ℕ). bytes_cmp key x ≡ Less) ((bytes_decides k key).0 e) less))

  -- the keys of points in order don't fall
  le_by : (p q : Entry) → (o : Ordering) → bytes_cmp p.key q.key ≡ o → ordering_then o (nat_cmp q.seq p.seq) ≡ Less → is_le (bytes_cmp p.key q.key) ≡ true
  le_by p q Less e f = ap is_le e
  le_by p q Equal e f = ap is_le e
  le_by p q Greater e f = absurd cc

  all_others : (p : Entry) (ps : List Entry) → bytes_cmp key p.key ≡ Less → AllByRecursion (λ q. entry_cmp p q ≡ Less) ps → AllByRecursion (λ q. same_bytes q.key key ≡ false) ps
  all_others p [] less h = tt
  all_others p (q ∷ qs) less h = (other_of q.key (lt_le key p.key q.key less (le_by p q (bytes_cmp p.key q.key) refl h.0)) (same_bytes q.key key) refl, all_others p qs less h.1)

  none_named : (ps : List Entry) → AllByRecursion (λ q. same_bytes q.key key ≡ false) ps → filter is_named ps ≡ []
  none_named [] h = refl
  none_named (p ∷ ps) h = ap (λ b. cond b (p ∷ filter is_named ps) (filter is_named ps)) h.0 ∙ none_named ps h.1

  all_left : (ps : List Entry) → AllByRecursion (λ q. same_bytes q.key key ≡ false) ps → filter is_other ps ≡ ps
  all_left [] h = refl
  all_left (p ∷ ps) h = ap (λ b. cond (not b) (p ∷ filter is_other ps) (filter is_other ps)) h.0 ∙ ap (λ (qs : List Entry). p ∷ qs) (all_left ps h.1)

  from_later : (p : Entry) (ps : List Entry) → is_le (bytes_cmp key p.key) ≡ true → AllByRecursion (λ q. entry_cmp p q ≡ Less) ps → IsFrom key ps
  from_later p [] le h = tt
  from_later p (q ∷ qs) le h = le_trans key p.key q.key le (le_by p q (bytes_cmp p.key q.key) refl h.0)

  taken_by : (p : Entry) (ps : List Entry) (b : Bool) → same_bytes p.key key ≡ b → is_le (bytes_cmp key p.key) ≡ true → AllByRecursion (λ q. entry_cmp p q ≡ Less) ps → take (first_named key ps) ps ≡ filter is_named ps → take (cond b (suc (first_named key ps)) 0) (p ∷ ps) ≡ cond b (p ∷ filter is_named ps) (filter is_named ps)
  taken_by p ps true e le h rest = ap (λ (qs : List Entry). p ∷ qs) rest
  taken_by p ps false e le h rest = sym (none_named ps (all_others p ps (above key p.key le e) h))

  left_by : (p : Entry) (ps : List Entry) (b : Bool) → same_bytes p.key key ≡ b → is_le (bytes_cmp key p.key) ≡ true → AllByRecursion (λ q. entry_cmp p q ≡ Less) ps → drop (first_named key ps) ps ≡ filter is_other ps → drop (cond b (suc (first_named key ps)) 0) (p ∷ ps) ≡ cond (not b) (p ∷ filter is_other ps) (filter is_other ps)
  left_by p ps true e le h rest = rest
  left_by p ps false e le h rest = ap (λ (qs : List Entry). p ∷ qs) (sym (all_left ps (all_others p ps (above key p.key le e) h)))

  taken_is : (ps : List Entry) → Sorted ps → IsFrom key ps → take (first_named key ps) ps ≡ filter is_named ps
  unfolding IsStrictlySortedBy
  taken_is [] sorted from = refl
  taken_is (p ∷ ps) sorted from = taken_by p ps (same_bytes p.key key) refl from sorted.0 (taken_is ps sorted.1 (from_later p ps from sorted.0))

  left_is : (ps : List Entry) → Sorted ps → IsFrom key ps → drop (first_named key ps) ps ≡ filter is_other ps
  unfolding IsStrictlySortedBy
  left_is [] sorted from = refl
  left_is (p ∷ ps) sorted from = left_by p ps (same_bytes p.key key) refl from sorted.0 (left_is ps sorted.1 (from_later p ps from sorted.0))

  -- all lists
  pub all_taken : (lists : List (List Entry)) → AllByRecursion Sorted lists → AllByRecursion (IsFrom key) lists → flat_map (λ ps. take (first_named key ps) ps) lists ≡ filter is_named (flat_map (λ (ps : List Entry). ps) lists)
  all_taken [] sorted from = refl
  all_taken (ps ∷ lists) sorted from =
      ap (λ (qs : List Entry). qs ++ flat_map (λ ps. take (first_named key ps) ps) lists) (taken_is ps sorted.0 from.0)
      ∙ ap (λ (qs : List Entry). filter is_named ps ++ qs) (all_taken lists sorted.1 from.1)
      ∙ sym (filter-append is_named ps (flat_map (λ (ps : List Entry). ps) lists))

  pub all_left_is : (lists : List (List Entry)) → AllByRecursion Sorted lists → AllByRecursion (IsFrom key) lists → flat_map (λ (ps : List Entry). ps) (map (λ ps. drop (first_named key ps) ps) lists) ≡ filter is_other (flat_map (λ (ps : List Entry). ps) lists)
  all_left_is [] sorted from = refl
  all_left_is (ps ∷ lists) sorted from =
      ap (λ (qs : List Entry). qs ++ flat_map (λ (ps : List Entry). ps) (map (λ ps. drop (first_named key ps) ps) lists)) (left_is ps sorted.0 from.0)
      ∙ ap (λ (qs : List Entry). filter is_other ps ++ qs) (all_left_is lists sorted.1 from.1)
      ∙ sym (filter-append is_other ps (flat_map (λ (ps : List Entry). ps) lists))

  pub still_sorted : (lists : List (List Entry)) → AllByRecursion Sorted lists → AllByRecursion (IsFrom key) lists → AllByRecursion Sorted (map (λ ps. drop (first_named key ps) ps) lists)
  still_sorted [] sorted from = tt
  still_sorted (ps ∷ lists) sorted from = (subst Sorted (sym (left_is ps sorted.0 from.0)) (IsStrictlySortedBy-filter entry_cmp is_other ps sorted.0), still_sorted lists sorted.1 from.1)

  -- all keys are from the key on
  pub keys_from : (ps : List Entry) → Sorted ps → IsFrom key ps → AllByRecursion (λ p. is_le (bytes_cmp key p.key) ≡ true) ps
  unfolding IsStrictlySortedBy
  keys_from [] sorted from = tt
  keys_from (p ∷ ps) sorted from = (from, keys_from ps sorted.1 (from_later p ps from sorted.0))

  pub above_others : (ps : List Entry) → AllByRecursion (λ p. is_le (bytes_cmp key p.key) ≡ true) ps → AllByRecursion (λ p. bytes_cmp key p.key ≡ Less) (filter is_other ps)
  above_others [] h = tt
  above_others (p ∷ ps) h = put (same_bytes p.key key) refl (above_others ps h.1)
    where
      put : (b : Bool) → same_bytes p.key key ≡ b → AllByRecursion (λ q. bytes_cmp key q.key ≡ Less) (filter is_other ps) → AllByRecursion (λ q. bytes_cmp key q.key ≡ Less) (cond (not b) (p ∷ filter is_other ps) (filter is_other ps))
      put true e rest = rest
      put false e rest = (above key p.key h.0 e, rest)
