-- The keys that a scan looks at: they rise, and they are those in the range that puts and merges name.
use Rattle.std.proofs.Common.{◌≡◌, ℕ, Bool, true, false, cond, List, [], ◌∷◌, Option, Contains, ◌⊎◌, inl, inr, ⊎_elim, fold, refl, sym, ap, ◌∙◌, subst}
use Rattle.std.specs.Prelude.{IsTrue, ◌↔◌}
use Rattle.std.specs.List.{AllByRecursion}
use Rattle.std.specs.List.Sorted.{IsStrictlySortedBy}
use Rattle.std.specs.declared.cmp.Ordering.{Ordering}
use Rattle.std.specs.declared.cmp.Ordering.TheVariants.{Less, Equal, Greater}
use Rattle.std.specs.Ordering.{match_ordering, ordering_reverse}
use Rattle.std.specs.BTreeSet.{insert_key}
use Rattle.std.proofs.lemmas.Cmp.{nat_list_cmp_total}
use Rattle.std.proofs.lemmas.Map.Lookups.{exact_bytes}
use Rattle.uc_bytes.specs.Bytes.{bytes_cmp}
use Rattle.uc_bytes.specs.declared.op.Op.{Op}
use Rattle.uc_bytes.specs.declared.op.Op.TheVariants.{Put, Delete, Merge, DeleteRange}
use Rattle.uc_bytes.specs.declared.write.Write.{Write}
use Rattle.uc_model.specs.Meaning.{Gives}
use Rattle.uc_query_read.specs.Answers.{is_in_range, with_key, named_keys}
use Rattle.uc_query_read.specs.Scans.{IsNamed}
use Rattle.uc_model.proofs.Members.{contains_first, contains_later, contains_cases, contains_nothing, any_first, any_later, any_cases, any_of_none}

-- a key is below each of these
abbrev IsBelow : List ℕ → List (List ℕ) → Type 0
IsBelow key keys = AllByRecursion (λ other. bytes_cmp key other ≡ Less) keys

less_back : (x y : List ℕ) → bytes_cmp x y ≡ Greater → bytes_cmp y x ≡ Less
less_back x y e = nat_list_cmp_total.antisymm y x ∙ ap ordering_reverse e

below_all : (x y : List ℕ) (keys : List (List ℕ)) → bytes_cmp x y ≡ Less → IsBelow y keys → IsBelow x keys
below_all x y [] e below = tt
below_all x y (key ∷ keys) e below = (nat_list_cmp_total.trans x y key e below.0, below_all x y keys e below.1)

below_ranked : (x key other : List ℕ) (keys : List (List ℕ)) (o : Ordering) → bytes_cmp x key ≡ Less → IsBelow x (other ∷ keys) → IsBelow x (insert_key bytes_cmp keys key) → IsBelow x (match_ordering o (key ∷ other ∷ keys) (other ∷ keys) (other ∷ insert_key bytes_cmp keys key))
below_ranked x key other keys Less e below rest = (e, below)
below_ranked x key other keys Equal e below rest = below
below_ranked x key other keys Greater e below rest = (below.0, rest)

below_inserted : (x key : List ℕ) (keys : List (List ℕ)) → bytes_cmp x key ≡ Less → IsBelow x keys → IsBelow x (insert_key bytes_cmp keys key)
below_inserted x key [] e below = (e, tt)
below_inserted x key (other ∷ keys) e below = below_ranked x key other keys (bytes_cmp key other) e below (below_inserted x key keys e below.1)

rise_ranked : (key other : List ℕ) (keys : List (List ℕ)) (o : Ordering) → bytes_cmp key other ≡ o → IsStrictlySortedBy bytes_cmp (other ∷ keys) → IsStrictlySortedBy bytes_cmp (insert_key bytes_cmp keys key) → IsStrictlySortedBy bytes_cmp (match_ordering o (key ∷ other ∷ keys) (other ∷ keys) (other ∷ insert_key bytes_cmp keys key))
unfolding IsStrictlySortedBy
rise_ranked key other keys Less e rise rest = ((e, below_all key other keys e rise.0), rise)
rise_ranked key other keys Equal e rise rest = rise
rise_ranked key other keys Greater e rise rest = (below_inserted other key keys (less_back key other e) rise.0, rest)

rise_inserted : (key : List ℕ) (keys : List (List ℕ)) → IsStrictlySortedBy bytes_cmp keys → IsStrictlySortedBy bytes_cmp (insert_key bytes_cmp keys key)
unfolding IsStrictlySortedBy
rise_inserted key [] rise = (tt, tt)
rise_inserted key (other ∷ keys) rise = rise_ranked key other keys (bytes_cmp key other) refl rise (rise_inserted key keys rise.1)

rise_chosen : (b : Bool) (key : List ℕ) (keys : List (List ℕ)) → IsStrictlySortedBy bytes_cmp keys → IsStrictlySortedBy bytes_cmp (cond b (insert_key bytes_cmp keys key) keys)
rise_chosen true key keys rise = rise_inserted key keys rise
rise_chosen false key keys rise = rise

rise_with_key : (low : List ℕ) (high : Option (List ℕ)) (op : Op) (keys : List (List ℕ)) → IsStrictlySortedBy bytes_cmp keys → IsStrictlySortedBy bytes_cmp (with_key low high keys op)
rise_with_key low high (Put key value) keys rise = rise_chosen (is_in_range low high key) key keys rise
rise_with_key low high (Delete key) keys rise = rise
rise_with_key low high (Merge key operand) keys rise = rise_chosen (is_in_range low high key) key keys rise
rise_with_key low high (DeleteRange begin end) keys rise = rise

rise_from : (low : List ℕ) (high : Option (List ℕ)) (ws : List Write) (keys : List (List ℕ)) → IsStrictlySortedBy bytes_cmp keys → IsStrictlySortedBy bytes_cmp (fold (λ seen w. with_key low high seen w.op) keys ws)
rise_from low high [] keys rise = rise
rise_from low high (w ∷ ws) keys rise = rise_from low high ws (with_key low high keys w.op) (rise_with_key low high w.op keys rise)

-- the keys rise strictly
pub keys_rise : (ws : List Write) (low : List ℕ) (high : Option (List ℕ)) → IsStrictlySortedBy bytes_cmp (named_keys ws low high)
unfolding IsStrictlySortedBy
keys_rise ws low high = rise_from low high ws [] tt

inserted_ranked : (key other x : List ℕ) (keys : List (List ℕ)) (o : Ordering) → (Contains (insert_key bytes_cmp keys key) x → (key ≡ x) ⊎ Contains keys x) → Contains (match_ordering o (key ∷ other ∷ keys) (other ∷ keys) (other ∷ insert_key bytes_cmp keys key)) x → (key ≡ x) ⊎ Contains (other ∷ keys) x
inserted_ranked key other x keys Less rest c = contains_cases key x (other ∷ keys) c
inserted_ranked key other x keys Equal rest c = inr c
inserted_ranked key other x keys Greater rest c =
    ⊎_elim (λ e. inr (contains_first other x keys e)) (λ d. ⊎_elim inl (λ k. inr (contains_later other x keys k)) (rest d)) (contains_cases other x (insert_key bytes_cmp keys key) c)

-- after an insertion, a key is the one that was inserted or was there before
inserted_only : (key x : List ℕ) (keys : List (List ℕ)) → Contains (insert_key bytes_cmp keys key) x → (key ≡ x) ⊎ Contains keys x
inserted_only key x [] c = contains_cases key x [] c
inserted_only key x (other ∷ keys) c = inserted_ranked key other x keys (bytes_cmp key other) (inserted_only key x keys) c

kept_ranked : (key other x : List ℕ) (keys : List (List ℕ)) (o : Ordering) → (Contains keys x → Contains (insert_key bytes_cmp keys key) x) → Contains (other ∷ keys) x → Contains (match_ordering o (key ∷ other ∷ keys) (other ∷ keys) (other ∷ insert_key bytes_cmp keys key)) x
kept_ranked key other x keys Less rest c = contains_later key x (other ∷ keys) c
kept_ranked key other x keys Equal rest c = c
kept_ranked key other x keys Greater rest c =
    ⊎_elim (contains_first other x (insert_key bytes_cmp keys key)) (λ d. contains_later other x (insert_key bytes_cmp keys key) (rest d)) (contains_cases other x keys c)

inserted_keeps : (key x : List ℕ) (keys : List (List ℕ)) → Contains keys x → Contains (insert_key bytes_cmp keys key) x
inserted_keeps key x [] c = absurd (contains_nothing x c)
inserted_keeps key x (other ∷ keys) c = kept_ranked key other x keys (bytes_cmp key other) (inserted_keeps key x keys) c

placed_ranked : (key other : List ℕ) (keys : List (List ℕ)) (o : Ordering) → bytes_cmp key other ≡ o → Contains (insert_key bytes_cmp keys key) key → Contains (match_ordering o (key ∷ other ∷ keys) (other ∷ keys) (other ∷ insert_key bytes_cmp keys key)) key
placed_ranked key other keys Less e rest = contains_first key key (other ∷ keys) refl
placed_ranked key other keys Equal e rest = contains_first other key keys (sym (exact_bytes key other e))
placed_ranked key other keys Greater e rest = contains_later other key (insert_key bytes_cmp keys key) rest

-- the key that was inserted is there
inserted_has : (key : List ℕ) (keys : List (List ℕ)) → Contains (insert_key bytes_cmp keys key) key
inserted_has key [] = contains_first key key [] refl
inserted_has key (other ∷ keys) = placed_ranked key other keys (bytes_cmp key other) refl (inserted_has key keys)

module _ (low : List ℕ) (high : Option (List ℕ)) (x : List ℕ) where
  abbrev IsTaken : Op → Type 0
  IsTaken op = IsTrue (is_in_range low high x) × Gives x op

  chosen_only : (b : Bool) (key : List ℕ) (keys : List (List ℕ)) → is_in_range low high key ≡ b → Contains (cond b (insert_key bytes_cmp keys key) keys) x → Contains keys x ⊎ (IsTrue (is_in_range low high x) × (key ≡ x))
  chosen_only true key keys e c = ⊎_elim (λ same. inr (subst (λ (k : List ℕ). IsTrue (is_in_range low high k)) same e, same)) inl (inserted_only key x keys c)
  chosen_only false key keys e c = inl c

  with_key_only : (op : Op) (keys : List (List ℕ)) → Contains (with_key low high keys op) x → Contains keys x ⊎ IsTaken op
  with_key_only (Put key value) keys c = chosen_only (is_in_range low high key) key keys refl c
  with_key_only (Delete key) keys c = inl c
  with_key_only (Merge key operand) keys c = chosen_only (is_in_range low high key) key keys refl c
  with_key_only (DeleteRange begin end) keys c = inl c

  chosen_keeps : (b : Bool) (key : List ℕ) (keys : List (List ℕ)) → Contains keys x → Contains (cond b (insert_key bytes_cmp keys key) keys) x
  chosen_keeps true key keys c = inserted_keeps key x keys c
  chosen_keeps false key keys c = c

  with_key_keeps : (op : Op) (keys : List (List ℕ)) → Contains keys x → Contains (with_key low high keys op) x
  with_key_keeps (Put key value) keys c = chosen_keeps (is_in_range low high key) key keys c
  with_key_keeps (Delete key) keys c = c
  with_key_keeps (Merge key operand) keys c = chosen_keeps (is_in_range low high key) key keys c
  with_key_keeps (DeleteRange begin end) keys c = c

  chosen_has : (key : List ℕ) (keys : List (List ℕ)) → IsTrue (is_in_range low high x) → key ≡ x → Contains (cond (is_in_range low high key) (insert_key bytes_cmp keys key) keys) x
  chosen_has key keys within same =
      subst (λ (k : List ℕ). Contains (cond (is_in_range low high k) (insert_key bytes_cmp keys k) keys) x) (sym same) (rw within (inserted_has x keys))

  with_key_has : (op : Op) (keys : List (List ℕ)) → IsTaken op → Contains (with_key low high keys op) x
  with_key_has (Put key value) keys t = chosen_has key keys t.0 t.1
  with_key_has (Delete key) keys t = absurd t.1
  with_key_has (Merge key operand) keys t = chosen_has key keys t.0 t.1
  with_key_has (DeleteRange begin end) keys t = absurd t.1

  from_only : (ws : List Write) (keys : List (List ℕ)) → Contains (fold (λ seen w. with_key low high seen w.op) keys ws) x → Contains keys x ⊎ IsNamed ws low high x
  from_only [] keys c = inl c
  from_only (w ∷ ws) keys c =
      ⊎_elim
      (λ d. ⊎_elim inl (λ t. inr (t.0, any_first (λ (v : Write). Gives x v.op) w ws t.1)) (with_key_only w.op keys d))
      (λ n. inr (n.0, any_later (λ (v : Write). Gives x v.op) w ws n.1))
      (from_only ws (with_key low high keys w.op) c)

  from_keeps : (ws : List Write) (keys : List (List ℕ)) → Contains keys x → Contains (fold (λ seen w. with_key low high seen w.op) keys ws) x
  from_keeps [] keys c = c
  from_keeps (w ∷ ws) keys c = from_keeps ws (with_key low high keys w.op) (with_key_keeps w.op keys c)

  from_has : (ws : List Write) (keys : List (List ℕ)) → IsNamed ws low high x → Contains (fold (λ seen w. with_key low high seen w.op) keys ws) x
  from_has [] keys n = absurd (any_of_none (λ (v : Write). Gives x v.op) n.1)
  from_has (w ∷ ws) keys n =
      ⊎_elim
      (λ g. from_keeps ws (with_key low high keys w.op) (with_key_has w.op keys (n.0, g)))
      (λ a. from_has ws (with_key low high keys w.op) (n.0, a))
      (any_cases (λ (v : Write). Gives x v.op) w ws n.1)

-- the keys are those in the range that a put or a merge names
pub keys_named : (ws : List Write) (low : List ℕ) (high : Option (List ℕ)) (x : List ℕ) → Contains (named_keys ws low high) x ↔ IsNamed ws low high x
keys_named ws low high x =
    (λ c. ⊎_elim (λ d. absurd (contains_nothing x d)) (λ n. n) (from_only low high x ws [] c), from_has low high x ws [])
