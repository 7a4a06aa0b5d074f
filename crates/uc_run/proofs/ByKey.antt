-- Points in order of key: `by_key` only moves them, and where each has a sequence of its own no other order is sorted.
use Rattle.std.proofs.Common.{◌≡◌, ◌==◌, ℕ, ◌+◌, Bool, true, false, cond, List, [], ◌∷◌, ◌++◌, get_or, fold, filter, ◌⊎◌, inl, inr, refl, sym, ap, ◌∙◌, subst, arith}
use Rattle.std.specs.List.{AllByRecursion, IsDistinct}
use Rattle.std.specs.List.Sorted.{IsPermutation, IsStrictlySortedBy, IsSortedBy}
use Rattle.std.specs.declared.cmp.Ordering.{Ordering}
use Rattle.std.specs.declared.cmp.Ordering.TheVariants.{Less, Equal, Greater}
use Rattle.std.specs.Ordering.{nat_cmp, ordering_then, ordering_reverse, is_lt}
use Rattle.std.specs.Cmp.{IsTotalOrder}
use Rattle.std.proofs.lemmas.Bool.{false≢true}
use Rattle.std.proofs.lemmas.Bool.Decides.{nat_tests}
use Rattle.std.proofs.lemmas.Cmp.{tied_itself}
use Rattle.std.proofs.lemmas.List.{append-nil}
use Rattle.std.proofs.lemmas.List.Elements.{All-from_recursion, recursion_from_All}
use Rattle.std.proofs.lemmas.List.Sorted.{IsPermutation-refl, IsPermutation-cons, IsPermutation-trans, IsPermutation-sym, IsPermutation-middle, IsPermutation-append_left, All-permutation}
use Rattle.std.proofs.lemmas.Map.Keys.{sorted_head, sorted_tail, sorted_from_all_adjacent, IsDistinct-IsPermutation, apart_from_distinct}
use Rattle.uc_run_entry.specs.declared.entry.Entry.{Entry}
use Rattle.uc_run_entry.specs.Order.{entry_cmp}
use Rattle.uc_run_entry.proofs.Sorted.{entry_total}
use Rattle.uc_run.specs.Points.{HaveOwnSeqs}
use Rattle.uc_run.specs.Flush.{insert_point, by_key}

-- ---- an insertion only moves points

module _ (p : Entry) where
  moved_first : (q : Entry) (qs : List Entry) (b : Bool) → IsPermutation (p ∷ qs) (insert_point qs p) → IsPermutation (p ∷ q ∷ qs) (cond b (p ∷ q ∷ qs) (q ∷ insert_point qs p))
  moved_first q qs true put = IsPermutation-refl (p ∷ q ∷ qs)
  moved_first q qs false put =
      IsPermutation-trans (p ∷ q ∷ qs) (q ∷ p ∷ qs) (q ∷ insert_point qs p)
      (IsPermutation-sym (q ∷ p ∷ qs) (p ∷ q ∷ qs) (IsPermutation-middle (q ∷ []) p qs))
      (IsPermutation-cons q (p ∷ qs) (insert_point qs p) put)

  moved-insert_point : (qs : List Entry) → IsPermutation (p ∷ qs) (insert_point qs p)
  moved-insert_point [] = IsPermutation-refl (p ∷ [])
  moved-insert_point (q ∷ qs) = moved_first q qs (is_lt (entry_cmp p q)) (moved-insert_point qs)

moved-fold : (ps acc : List Entry) → IsPermutation (acc ++ ps) (fold insert_point acc ps)
moved-fold [] acc = subst (λ (qs : List Entry). IsPermutation qs acc) (sym (append-nil acc)) (IsPermutation-refl acc)
moved-fold (p ∷ ps) acc =
    IsPermutation-trans (acc ++ p ∷ ps) (insert_point acc p ++ ps) (fold insert_point (insert_point acc p) ps)
    (IsPermutation-trans (acc ++ p ∷ ps) (p ∷ (acc ++ ps)) (insert_point acc p ++ ps)
    (IsPermutation-middle acc p ps)
    (IsPermutation-append_left ps (p ∷ acc) (insert_point acc p) (moved-insert_point p acc)))
    (moved-fold ps (insert_point acc p))

pub moved-by_key : (ps : List Entry) → IsPermutation ps (by_key ps)
moved-by_key ps = moved-fold ps []

-- what holds of all points holds of all in order
pub all-by_key : (P : Entry → Type 0) (ps : List Entry) → AllByRecursion P ps → AllByRecursion P (by_key ps)
all-by_key P ps h = recursion_from_All P (by_key ps) (All-permutation P ps (by_key ps) (moved-by_key ps) (All-from_recursion P ps h))

-- ---- those among them that pass a test are moved likewise

module _ (test : Entry → Bool) where
  abbrev kept : Entry → List Entry → Bool → List Entry
  kept p ps b = cond b (p ∷ ps) ps

  kept_moved : (p : Entry) (ps qs : List Entry) (b : Bool) → IsPermutation ps qs → IsPermutation (kept p ps b) (kept p qs b)
  kept_moved p ps qs true h = IsPermutation-cons p ps qs h
  kept_moved p ps qs false h = h

  exchanged : (p q : Entry) (ps : List Entry) (a b : Bool) → IsPermutation (kept p (kept q ps b) a) (kept q (kept p ps a) b)
  exchanged p q ps true true = IsPermutation-sym (q ∷ p ∷ ps) (p ∷ q ∷ ps) (IsPermutation-middle (q ∷ []) p ps)
  exchanged p q ps true false = IsPermutation-refl (p ∷ ps)
  exchanged p q ps false true = IsPermutation-refl (q ∷ ps)
  exchanged p q ps false false = IsPermutation-refl ps

  passed_first : (p q : Entry) (qs : List Entry) (b : Bool) → IsPermutation (filter test (p ∷ qs)) (filter test (insert_point qs p)) → IsPermutation (filter test (p ∷ q ∷ qs)) (filter test (cond b (p ∷ q ∷ qs) (q ∷ insert_point qs p)))
  passed_first p q qs true put = IsPermutation-refl (filter test (p ∷ q ∷ qs))
  passed_first p q qs false put =
      IsPermutation-trans (filter test (p ∷ q ∷ qs)) (filter test (q ∷ p ∷ qs)) (filter test (q ∷ insert_point qs p))
      (exchanged p q (filter test qs) (test p) (test q))
      (kept_moved q (filter test (p ∷ qs)) (filter test (insert_point qs p)) (test q) put)

  passed-insert_point : (p : Entry) (qs : List Entry) → IsPermutation (filter test (p ∷ qs)) (filter test (insert_point qs p))
  passed-insert_point p [] = IsPermutation-refl (filter test (p ∷ []))
  passed-insert_point p (q ∷ qs) = passed_first p q qs (is_lt (entry_cmp p q)) (passed-insert_point p qs)

  -- p among the others, or in front of them
  into_front : (p : Entry) (ps qs : List Entry) (b : Bool) → IsPermutation (ps ++ kept p qs b) (kept p (ps ++ qs) b)
  into_front p ps qs true = IsPermutation-middle ps p qs
  into_front p ps qs false = IsPermutation-refl (ps ++ qs)

  in_front_of : (p : Entry) (ps qs : List Entry) (b : Bool) → kept p ps b ++ qs ≡ kept p (ps ++ qs) b
  in_front_of p ps qs true = refl
  in_front_of p ps qs false = refl

  passed-fold : (ps acc : List Entry) → IsPermutation (filter test acc ++ filter test ps) (filter test (fold insert_point acc ps))
  passed-fold [] acc = subst (λ (qs : List Entry). IsPermutation qs (filter test acc)) (sym (append-nil (filter test acc))) (IsPermutation-refl (filter test acc))
  passed-fold (p ∷ ps) acc =
      IsPermutation-trans (filter test acc ++ filter test (p ∷ ps)) (filter test (insert_point acc p) ++ filter test ps) (filter test (fold insert_point (insert_point acc p) ps))
      (IsPermutation-trans (filter test acc ++ filter test (p ∷ ps)) (filter test (p ∷ acc) ++ filter test ps) (filter test (insert_point acc p) ++ filter test ps)
      (subst (IsPermutation (filter test acc ++ filter test (p ∷ ps))) (sym (in_front_of p (filter test acc) (filter test ps) (test p))) (into_front p (filter test acc) (filter test ps) (test p)))
      (IsPermutation-append_left (filter test ps) (filter test (p ∷ acc)) (filter test (insert_point acc p)) (passed-insert_point p acc)))
      (passed-fold ps (insert_point acc p))

  pub passed-by_key : (ps : List Entry) → IsPermutation (filter test ps) (filter test (by_key ps))
  passed-by_key ps = passed-fold ps []

-- ---- of two points with different sequences one stands before the other

exact_nat : (a b : ℕ) → nat_cmp a b ≡ Equal → b ≡ a
exact_nat a b e = grind (arith, nat_tests)

eq_of : (a b : ℕ) → b ≡ a → (a == b) ≡ true
eq_of a b e = grind (arith, nat_tests)

second_tied : (o n : Ordering) → ordering_then o n ≡ Equal → n ≡ Equal
second_tied Less n e = absurd cc
second_tied Equal n e = e
second_tied Greater n e = absurd cc

not_tied : (p q : Entry) → (p.seq == q.seq) ≡ false → entry_cmp p q ≡ Equal → ⊥
not_tied p q other e =
    let same : p.seq ≡ q.seq = exact_nat q.seq p.seq (second_tied _ (nat_cmp q.seq p.seq) e) in
    false≢true (sym other ∙ eq_of p.seq q.seq (sym same))

back_by : (p q : Entry) (o : Ordering) → entry_cmp p q ≡ o → (entry_cmp p q ≡ Equal → ⊥) → is_lt o ≡ false → entry_cmp q p ≡ Less
back_by p q Less e other not_less = absurd cc
back_by p q Equal e other not_less = absurd (other e)
back_by p q Greater e other not_less = entry_total.antisymm q p ∙ ap ordering_reverse e

pub other_before : (p q : Entry) → (p.seq == q.seq) ≡ false → is_lt (entry_cmp p q) ≡ false → entry_cmp q p ≡ Less
other_before p q other not_less = back_by p q (entry_cmp p q) refl (not_tied p q other) not_less

turned : (a b : ℕ) → (a == b) ≡ (b == a)
turned a b = grind (arith, nat_tests)

-- ---- the order of points with sequences of their own is strict

less_of : (o : Ordering) → is_lt o ≡ true → o ≡ Less
less_of Less e = refl
less_of Equal e = absurd (false≢true e)
less_of Greater e = absurd (false≢true e)

module _ (P : Entry → Type 0) (p : Entry) (here : P p) where
  put_first : (q : Entry) (qs : List Entry) (b : Bool) → P q → AllByRecursion P qs → AllByRecursion P (insert_point qs p) → AllByRecursion P (cond b (p ∷ q ∷ qs) (q ∷ insert_point qs p))
  put_first q qs true one h put = (here, (one, h))
  put_first q qs false one h put = (one, put)

  all-insert_point : (qs : List Entry) → AllByRecursion P qs → AllByRecursion P (insert_point qs p)
  all-insert_point [] h = (here, tt)
  all-insert_point (q ∷ qs) h = put_first q qs (is_lt (entry_cmp p q)) h.0 h.1 (all-insert_point qs h.1)

abbrev Others : Entry → List Entry → Type 0
Others p qs = AllByRecursion (λ (q : Entry). (p.seq == q.seq) ≡ false) qs

all_behind : (p q : Entry) (qs : List Entry) → entry_cmp p q ≡ Less → AllByRecursion (λ (r : Entry). entry_cmp q r ≡ Less) qs → AllByRecursion (λ (r : Entry). entry_cmp p r ≡ Less) qs
all_behind p q [] e h = tt
all_behind p q (r ∷ rs) e h = (entry_total.trans p q r e h.0, all_behind p q rs e h.1)

sorted_first : (p q : Entry) (qs : List Entry) (b : Bool) → is_lt (entry_cmp p q) ≡ b → Others p (q ∷ qs) → IsStrictlySortedBy entry_cmp (q ∷ qs) → IsStrictlySortedBy entry_cmp (insert_point qs p) → IsStrictlySortedBy entry_cmp (cond b (p ∷ q ∷ qs) (q ∷ insert_point qs p))
unfolding IsStrictlySortedBy
sorted_first p q qs true e others h put = let less : entry_cmp p q ≡ Less = less_of (entry_cmp p q) e in ((less, all_behind p q qs less h.0), h)
sorted_first p q qs false e others h put = (all-insert_point (λ (r : Entry). entry_cmp q r ≡ Less) p (other_before p q others.0 e) qs h.0, put)

sorted-insert_point : (p : Entry) (qs : List Entry) → Others p qs → IsStrictlySortedBy entry_cmp qs → IsStrictlySortedBy entry_cmp (insert_point qs p)
unfolding IsStrictlySortedBy
sorted-insert_point p [] others h = (tt, tt)
sorted-insert_point p (q ∷ qs) others h = sorted_first p q qs (is_lt (entry_cmp p q)) refl others h (sorted-insert_point p qs others.1 h.1)

others_kept : (p : Entry) (ps acc : List Entry) → AllByRecursion (λ (r : Entry). (p.seq == r.seq) ≡ false) ps → AllByRecursion (λ (r : Entry). Others r acc) ps → AllByRecursion (λ (r : Entry). Others r (insert_point acc p)) ps
others_kept p [] acc here h = tt
others_kept p (r ∷ rs) acc here h =
    (all-insert_point (λ (q : Entry). (r.seq == q.seq) ≡ false) p (turned r.seq p.seq ∙ here.0) acc h.0, others_kept p rs acc here.1 h.1)

sorted-fold : (ps acc : List Entry) → HaveOwnSeqs ps → AllByRecursion (λ (r : Entry). Others r acc) ps → IsStrictlySortedBy entry_cmp acc → IsStrictlySortedBy entry_cmp (fold insert_point acc ps)
unfolding IsDistinct
sorted-fold [] acc own others h = h
sorted-fold (p ∷ ps) acc own others h = sorted-fold ps (insert_point acc p) own.1 (others_kept p ps acc own.0 others.1) (sorted-insert_point p acc others.0 h)

all_nothing : (ps : List Entry) → AllByRecursion (λ (r : Entry). Others r []) ps
all_nothing [] = tt
all_nothing (p ∷ ps) = (tt, all_nothing ps)

pub sorted-by_key : (ps : List Entry) → HaveOwnSeqs ps → IsStrictlySortedBy entry_cmp (by_key ps)
unfolding IsStrictlySortedBy
sorted-by_key ps own = sorted-fold ps [] own (all_nothing ps) tt

-- ---- two lists in a strict order, of which each has what the other has, are equal

module _ {K : Type 0} (cmp : K → K → Ordering) (total : IsTotalOrder cmp) where
  not_itself : (x : K) → cmp x x ≡ Less → ⊥
  not_itself x e = let t = tied_itself total x in cc

  one_of : (x y : K) → (y ≡ x) ⊎ (cmp x y ≡ Less) → (x ≡ y) ⊎ (cmp y x ≡ Less) → x ≡ y
  one_of x y (inl e) other = sym e
  one_of x y (inr e) (inl f) = f
  one_of x y (inr e) (inr f) = absurd (not_itself x (total.trans x y x e f))

  first_or_behind : (x : K) (xs : List K) → IsStrictlySortedBy cmp (x ∷ xs) → AllByRecursion (λ w. (w ≡ x) ⊎ (cmp x w ≡ Less)) (x ∷ xs)
  first_or_behind x xs h = (inl refl, each xs (sorted_head cmp x xs h))
    where
      each : (ws : List K) → AllByRecursion (λ w. cmp x w ≡ Less) ws → AllByRecursion (λ w. (w ≡ x) ⊎ (cmp x w ≡ Less)) ws
      each [] h = tt
      each (w ∷ ws) h = (inr h.0, each ws h.1)

  all_later : (P : K → Type 0) (x : K) (ws : List K) → AllByRecursion P ws → AllByRecursion (λ w. (w ≡ x) ⊎ P w) ws
  all_later P x [] h = tt
  all_later P x (w ∷ ws) h = (inr h.0, all_later P x ws h.1)

  later_of : (P : K → Type 0) (x w : K) → cmp x w ≡ Less → (w ≡ x) ⊎ P w → P w
  later_of P x w e (inl same) = absurd (not_itself x (subst (λ (v : K). cmp x v ≡ Less) same e))
  later_of P x w e (inr p) = p

  later_all : (P : K → Type 0) (x : K) (ws : List K) → AllByRecursion (λ w. cmp x w ≡ Less) ws → AllByRecursion (λ w. (w ≡ x) ⊎ P w) ws → AllByRecursion P ws
  later_all P x [] before h = tt
  later_all P x (w ∷ ws) before h = (later_of P x w before.0 h.0, later_all P x ws before.1 h.1)

  pub same_order : (xs ys : List K) → IsStrictlySortedBy cmp xs → IsStrictlySortedBy cmp ys → ((P : K → Type 0) → AllByRecursion P xs → AllByRecursion P ys) → ((P : K → Type 0) → AllByRecursion P ys → AllByRecursion P xs) → xs ≡ ys
  same_order [] [] sx sy to back = refl
  same_order [] (y ∷ ys) sx sy to back = absurd (to (λ _. ⊥) tt).0
  same_order (x ∷ xs) [] sx sy to back = absurd (back (λ _. ⊥) tt).0
  same_order (x ∷ xs) (y ∷ ys) sx sy to back =
      let one : x ≡ y = one_of x y (to (λ w. (w ≡ x) ⊎ (cmp x w ≡ Less)) (first_or_behind x xs sx)).0 (back (λ w. (w ≡ y) ⊎ (cmp y w ≡ Less)) (first_or_behind y ys sy)).0 in
      let others : xs ≡ ys = same_order xs ys (sorted_tail cmp x xs sx) (sorted_tail cmp y ys sy)
      (λ P h. later_all P y ys (sorted_head cmp y ys sy) (subst (λ (v : K). AllByRecursion (λ w. (w ≡ v) ⊎ P w) ys) one (to (λ w. (w ≡ x) ⊎ P w) (inl refl, all_later P x xs h)).1))
      (λ P h. later_all P x xs (sorted_head cmp x xs sx) (subst (λ (v : K). AllByRecursion (λ w. (w ≡ v) ⊎ P w) xs) (sym one) (back (λ w. (w ≡ y) ⊎ P w) (inl refl, all_later P y ys h)).1)) in
      ap (λ v. v ∷ xs) one ∙ ap (λ (vs : List K). y ∷ vs) others

-- ---- so a sort of points with sequences of their own gives `by_key`

all_moved : {X : Type 0} (P : X → Type 0) (xs ys : List X) → IsPermutation xs ys → AllByRecursion P xs → AllByRecursion P ys
all_moved P xs ys moved h = recursion_from_All P ys (All-permutation P xs ys moved (All-from_recursion P xs h))

strict_from : (ps : List Entry) → HaveOwnSeqs ps → IsSortedBy (λ p q. is_lt (entry_cmp p q)) ps → IsStrictlySortedBy entry_cmp ps
unfolding IsStrictlySortedBy
strict_from [] own sorted = tt
strict_from (p ∷ ps) own sorted =
    sorted_from_all_adjacent entry_total (p ∷ ps) p
    (λ k l. other_before (get_or (p ∷ ps) (k + 1) p) (get_or (p ∷ ps) k p)
    (turned (get_or (p ∷ ps) (k + 1) p).seq (get_or (p ∷ ps) k p).seq ∙ apart_from_distinct (λ (q r : Entry). q.seq == r.seq) (p ∷ ps) k (k + 1) p own (omega arith) l)
    (sorted k p (omega arith) l))

pub sorted_is_by_key : (ps qs : List Entry) → HaveOwnSeqs ps → IsPermutation ps qs → IsSortedBy (λ p q. is_lt (entry_cmp p q)) qs → qs ≡ by_key ps
sorted_is_by_key ps qs own moved sorted =
    let moved_too : IsPermutation qs (by_key ps) = IsPermutation-trans qs ps (by_key ps) (IsPermutation-sym ps qs moved) (moved-by_key ps) in
    same_order entry_cmp entry_total qs (by_key ps)
    (strict_from qs (IsDistinct-IsPermutation (λ (p q : Entry). p.seq == q.seq) (λ p q. turned p.seq q.seq) ps qs moved own) sorted)
    (sorted-by_key ps own)
    (λ P. all_moved P qs (by_key ps) moved_too)
    (λ P. all_moved P (by_key ps) qs (IsPermutation-sym qs (by_key ps) moved_too))
