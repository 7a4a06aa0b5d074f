-- Keys that are inserted one after the other, each once.
use Rattle.std.proofs.Common.{◌≡◌, List, [], ◌∷◌, fold, refl, sym, ap, ◌∙◌, subst}
use Rattle.std.specs.List.{AllByRecursion}
use Rattle.std.specs.List.Sorted.{IsStrictlySortedBy}
use Rattle.std.specs.declared.cmp.Ordering.{Ordering}
use Rattle.std.specs.declared.cmp.Ordering.TheVariants.{Less, Equal, Greater}
use Rattle.std.specs.Ordering.{match_ordering, ordering_reverse}
use Rattle.std.specs.Cmp.{IsTotalOrder}
use Rattle.std.specs.BTreeSet.{insert_key}

module _ {K : Type 0} (cmp : K → K → Ordering) (total : IsTotalOrder cmp) where
  all_placed : (P : K → Type 0) (k x : K) (xs others : List K) (o : Ordering) → P k → P x → AllByRecursion P xs → AllByRecursion P others → AllByRecursion P (match_ordering o (k ∷ x ∷ xs) (x ∷ xs) (x ∷ others))
  all_placed P k x xs others Less pk px h put = (pk, (px, h))
  all_placed P k x xs others Equal pk px h put = (px, h)
  all_placed P k x xs others Greater pk px h put = (px, put)

  pub all-insert_key : (P : K → Type 0) (k : K) (xs : List K) → P k → AllByRecursion P xs → AllByRecursion P (insert_key cmp xs k)
  all-insert_key P k [] pk h = (pk, tt)
  all-insert_key P k (x ∷ xs) pk h = all_placed P k x xs (insert_key cmp xs k) (cmp k x) pk h.0 h.1 (all-insert_key P k xs pk h.1)

  all_less : (k x : K) (xs : List K) → cmp k x ≡ Less → AllByRecursion (λ y. cmp x y ≡ Less) xs → AllByRecursion (λ y. cmp k y ≡ Less) xs
  all_less k x [] e h = tt
  all_less k x (y ∷ ys) e h = (total.trans k x y e h.0, all_less k x ys e h.1)

  sorted_placed : (k x : K) (xs : List K) (o : Ordering) → cmp k x ≡ o → IsStrictlySortedBy cmp (x ∷ xs) → IsStrictlySortedBy cmp (insert_key cmp xs k) → IsStrictlySortedBy cmp (match_ordering o (k ∷ x ∷ xs) (x ∷ xs) (x ∷ insert_key cmp xs k))
  unfolding IsStrictlySortedBy
  sorted_placed k x xs Less e h put = ((e, all_less k x xs e h.0), h)
  sorted_placed k x xs Equal e h put = h
  sorted_placed k x xs Greater e h put = (all-insert_key (λ y. cmp x y ≡ Less) k xs (total.antisymm x k ∙ ap ordering_reverse e) h.0, put)

  sorted-insert_key : (k : K) (xs : List K) → IsStrictlySortedBy cmp xs → IsStrictlySortedBy cmp (insert_key cmp xs k)
  unfolding IsStrictlySortedBy
  sorted-insert_key k [] h = (tt, tt)
  sorted-insert_key k (x ∷ xs) h = sorted_placed k x xs (cmp k x) refl h (sorted-insert_key k xs h.1)

  sorted-fold : (ks acc : List K) → IsStrictlySortedBy cmp acc → IsStrictlySortedBy cmp (fold (insert_key cmp) acc ks)
  sorted-fold [] acc h = h
  sorted-fold (k ∷ ks) acc h = sorted-fold ks (insert_key cmp acc k) (sorted-insert_key k acc h)

  pub sorted_set : (ks : List K) → IsStrictlySortedBy cmp (fold (insert_key cmp) [] ks)
  unfolding IsStrictlySortedBy
  sorted_set ks = sorted-fold ks [] tt

-- what holds of all that came of insertions holds of what was inserted
module _ {K : Type 0} (cmp : K → K → Ordering) (exact : (x y : K) → cmp x y ≡ Equal → x ≡ y) where
  back_placed : (P : K → Type 0) (k x : K) (xs others : List K) (o : Ordering) → cmp k x ≡ o → AllByRecursion P (match_ordering o (k ∷ x ∷ xs) (x ∷ xs) (x ∷ others)) → (AllByRecursion P others → P k × AllByRecursion P xs) → P k × AllByRecursion P (x ∷ xs)
  back_placed P k x xs others Less e h rest = (h.0, h.1)
  back_placed P k x xs others Equal e h rest = (subst P (sym (exact k x e)) h.0, h)
  back_placed P k x xs others Greater e h rest = ((rest h.1).0, (h.0, (rest h.1).1))

  back_inserted : (P : K → Type 0) (k : K) (xs : List K) → AllByRecursion P (insert_key cmp xs k) → P k × AllByRecursion P xs
  back_inserted P k [] h = (h.0, tt)
  back_inserted P k (x ∷ xs) h = back_placed P k x xs (insert_key cmp xs k) (cmp k x) refl h (back_inserted P k xs)

  back_fold : (P : K → Type 0) (ks acc : List K) → AllByRecursion P (fold (insert_key cmp) acc ks) → AllByRecursion P acc × AllByRecursion P ks
  back_fold P [] acc h = (h, tt)
  back_fold P (k ∷ ks) acc h =
      let rest : AllByRecursion P (insert_key cmp acc k) × AllByRecursion P ks = back_fold P ks (insert_key cmp acc k) h in
      let here : P k × AllByRecursion P acc = back_inserted P k acc rest.0 in
      (here.1, (here.0, rest.1))

  pub all_back : (P : K → Type 0) (ks : List K) → AllByRecursion P (fold (insert_key cmp) [] ks) → AllByRecursion P ks
  all_back P ks h = (back_fold P ks [] h).1
