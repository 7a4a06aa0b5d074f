-- Writes in order of sequence: `by_seq` only moves them, and what it gives depends on no order among those of different sequences.
use Rattle.std.proofs.Common.{◌≡◌, ◌==◌, ℕ, zero, suc, length, get_or, All, ◌⊎◌, inl, inr, ◌<◌, ◌≤◌, Bool, true, false, cond, ltb, List, [], ◌∷◌, ◌++◌, fold, filter, refl, sym, ap, ◌∙◌, subst, arith}
use Rattle.std.specs.List.{AllByRecursion}
use Rattle.std.specs.List.Sorted.{IsPermutation, IsNonDecreasingBy}
use Rattle.std.proofs.lemmas.Bool.Decides.{nat_tests}
use Rattle.std.proofs.lemmas.List.Sorted.{IsPermutation-refl, IsPermutation-cons, IsPermutation-trans, IsPermutation-sym, IsPermutation-middle, IsPermutation-append_left, All-permutation, sum_by-IsPermutation}
use Rattle.std.proofs.lemmas.List.{append-nil}
use Rattle.std.proofs.lemmas.List.Elements.{All-nil, All-cons, All-head, All-tail, All-get_or}
use Rattle.std.proofs.lemmas.List.Sums.{sum_by-cons}
use Rattle.std.specs.List.{sum_by}
use Rattle.uc_bytes.specs.declared.write.Write.{Write}
use Rattle.uc_run_entry.specs.PlainList.{insert_by_seq, by_seq}

-- no sequence is below one before it
abbrev pub Ascends : List Write → Type 0
Ascends [] = Unit {0}
Ascends (x ∷ xs) = AllByRecursion (λ y. x.seq ≤ y.seq) xs × Ascends xs

-- each sequence is above those before it
abbrev pub Rises : List Write → Type 0
Rises [] = Unit {0}
Rises (x ∷ xs) = AllByRecursion (λ y. x.seq < y.seq) xs × Rises xs

pub all_map : {X : Type 0} (P Q : X → Type 0) → ((x : X) → P x → Q x) → (xs : List X) → AllByRecursion P xs → AllByRecursion Q xs
all_map P Q f [] h = tt
all_map P Q f (x ∷ xs) h = (f x h.0, all_map P Q f xs h.1)

lt_from : (a b : ℕ) → ltb a b ≡ true → a < b
lt_from a b e = grind (arith, nat_tests)

le_from : (a b : ℕ) → ltb a b ≡ false → b ≤ a
le_from a b e = grind (arith, nat_tests)

-- what holds of each write and of one more holds of each when that is put among them
module _ (P : Write → Type 0) (w : Write) (p : P w) where
  put_first : (x : Write) (xs : List Write) (b : Bool) → P x → AllByRecursion P xs → AllByRecursion P (insert_by_seq xs w) → AllByRecursion P (cond b (w ∷ x ∷ xs) (x ∷ insert_by_seq xs w))
  put_first x xs true px h put = (p, (px, h))
  put_first x xs false px h put = (px, put)

  pub all-insert_by_seq : (xs : List Write) → AllByRecursion P xs → AllByRecursion P (insert_by_seq xs w)
  all-insert_by_seq [] h = (p, tt)
  all-insert_by_seq (x ∷ xs) h = put_first x xs (ltb w.seq x.seq) h.0 h.1 (all-insert_by_seq xs h.1)

-- they still ascend
module _ (w : Write) where
  ascends_first : (x : Write) (xs : List Write) (b : Bool) → ltb w.seq x.seq ≡ b → Ascends (x ∷ xs) → Ascends (insert_by_seq xs w) → Ascends (cond b (w ∷ x ∷ xs) (x ∷ insert_by_seq xs w))
  ascends_first x xs true e h put =
      let lt : w.seq < x.seq = lt_from w.seq x.seq e in
      ((omega (arith, lt), all_map (λ y. x.seq ≤ y.seq) (λ y. w.seq ≤ y.seq) (λ y le. omega (arith, lt, le)) xs h.0), h)
  ascends_first x xs false e h put = (all-insert_by_seq (λ y. x.seq ≤ y.seq) w (le_from w.seq x.seq e) xs h.0, put)

  pub ascends-insert_by_seq : (xs : List Write) → Ascends xs → Ascends (insert_by_seq xs w)
  ascends-insert_by_seq [] h = (tt, tt)
  ascends-insert_by_seq (x ∷ xs) h = ascends_first x xs (ltb w.seq x.seq) refl h (ascends-insert_by_seq xs h.1)

ascends-fold : (ws acc : List Write) → Ascends acc → Ascends (fold insert_by_seq acc ws)
ascends-fold [] acc h = h
ascends-fold (w ∷ ws) acc h = ascends-fold ws (insert_by_seq acc w) (ascends-insert_by_seq w acc h)

pub ascends-by_seq : (ws : List Write) → Ascends (by_seq ws)
ascends-by_seq ws = ascends-fold ws [] tt

-- nothing is lost, and nothing comes of it twice
module _ (w : Write) where
  moved_first : (x : Write) (xs : List Write) (b : Bool) → IsPermutation (w ∷ xs) (insert_by_seq xs w) → IsPermutation (w ∷ x ∷ xs) (cond b (w ∷ x ∷ xs) (x ∷ insert_by_seq xs w))
  moved_first x xs true put = IsPermutation-refl (w ∷ x ∷ xs)
  moved_first x xs false put =
      IsPermutation-trans (w ∷ x ∷ xs) (x ∷ w ∷ xs) (x ∷ insert_by_seq xs w)
      (IsPermutation-sym (x ∷ w ∷ xs) (w ∷ x ∷ xs) (IsPermutation-middle (x ∷ []) w xs))
      (IsPermutation-cons x (w ∷ xs) (insert_by_seq xs w) put)

  pub moved-insert_by_seq : (xs : List Write) → IsPermutation (w ∷ xs) (insert_by_seq xs w)
  moved-insert_by_seq [] = IsPermutation-refl (w ∷ [])
  moved-insert_by_seq (x ∷ xs) = moved_first x xs (ltb w.seq x.seq) (moved-insert_by_seq xs)

moved-fold : (ws acc : List Write) → IsPermutation (acc ++ ws) (fold insert_by_seq acc ws)
moved-fold [] acc = subst (λ (ws : List Write). IsPermutation ws acc) (sym (append-nil acc)) (IsPermutation-refl acc)
moved-fold (w ∷ ws) acc =
    IsPermutation-trans (acc ++ w ∷ ws) (insert_by_seq acc w ++ ws) (fold insert_by_seq (insert_by_seq acc w) ws)
    (IsPermutation-trans (acc ++ w ∷ ws) (w ∷ (acc ++ ws)) (insert_by_seq acc w ++ ws)
    (IsPermutation-middle acc w ws)
    (IsPermutation-append_left ws (w ∷ acc) (insert_by_seq acc w) (moved-insert_by_seq w acc)))
    (moved-fold ws (insert_by_seq acc w))

pub moved-by_seq : (ws : List Write) → IsPermutation ws (by_seq ws)
moved-by_seq ws = moved-fold ws []

-- a test passes the same writes before they are put in order and after
module _ (test : Write → Bool) where
  in_front : (w : Write) (xs : List Write) → AllByRecursion (λ y. w.seq < y.seq) xs → insert_by_seq xs w ≡ w ∷ xs
  in_front w [] h = refl
  in_front w (x ∷ xs) h =
      let lt : w.seq < x.seq = h.0 in
      let e : ltb w.seq x.seq ≡ true = grind (arith, nat_tests) in
      ap (λ b. cond b (w ∷ x ∷ xs) (x ∷ insert_by_seq xs w)) e

  all_kept : (P : Write → Type 0) (x : Write) (kept : List Write) (b : Bool) → P x → AllByRecursion P kept → AllByRecursion P (cond b (x ∷ kept) kept)
  all_kept P x kept true px h = (px, h)
  all_kept P x kept false px h = h

  all-filter : (P : Write → Type 0) (xs : List Write) → AllByRecursion P xs → AllByRecursion P (filter test xs)
  all-filter P [] h = tt
  all-filter P (x ∷ xs) h = all_kept P x (filter test xs) (test x) h.0 (all-filter P xs h.1)

  -- w, where it passes the test, put among what passes it
  abbrev put_if : Write → List Write → Bool → List Write
  put_if w xs b = cond b (insert_by_seq xs w) xs

  behind_first : (w x : Write) (xs : List Write) (b c : Bool) → ltb w.seq x.seq ≡ false → cond b (x ∷ put_if w xs c) (put_if w xs c) ≡ put_if w (cond b (x ∷ xs) xs) c
  behind_first w x xs false c e = refl
  behind_first w x xs true false e = refl
  behind_first w x xs true true e = ap (λ b. cond b (w ∷ x ∷ xs) (x ∷ insert_by_seq xs w)) (sym e)

  before_first : (w : Write) (xs : List Write) (c : Bool) → AllByRecursion (λ y. w.seq < y.seq) xs → cond c (w ∷ xs) xs ≡ put_if w xs c
  before_first w xs true h = sym (in_front w xs h)
  before_first w xs false h = refl

  filter_first : (w x : Write) (xs : List Write) (b : Bool) → ltb w.seq x.seq ≡ b → Ascends (x ∷ xs) → filter test (insert_by_seq xs w) ≡ put_if w (filter test xs) (test w) → filter test (cond b (w ∷ x ∷ xs) (x ∷ insert_by_seq xs w)) ≡ put_if w (filter test (x ∷ xs)) (test w)
  filter_first w x xs true e h put =
      let lt : w.seq < x.seq = lt_from w.seq x.seq e in
      let above : AllByRecursion (λ y. w.seq < y.seq) (x ∷ xs) = (lt, all_map (λ y. x.seq ≤ y.seq) (λ y. w.seq < y.seq) (λ y le. omega (arith, lt, le)) xs h.0) in
      before_first w (filter test (x ∷ xs)) (test w) (all-filter (λ y. w.seq < y.seq) (x ∷ xs) above)
  filter_first w x xs false e h put = ap (λ (ys : List Write). cond (test x) (x ∷ ys) ys) put ∙ behind_first w x (filter test xs) (test x) (test w) e

  pub filter-insert_by_seq : (w : Write) (xs : List Write) → Ascends xs → filter test (insert_by_seq xs w) ≡ put_if w (filter test xs) (test w)
  filter-insert_by_seq w [] h = refl
  filter-insert_by_seq w (x ∷ xs) h = filter_first w x xs (ltb w.seq x.seq) refl h (filter-insert_by_seq w xs h.1)

  put_or_not : (w : Write) (ws acc : List Write) (b : Bool) → fold insert_by_seq (put_if w acc b) ws ≡ fold insert_by_seq acc (cond b (w ∷ ws) ws)
  put_or_not w ws acc true = refl
  put_or_not w ws acc false = refl

  filter-fold : (ws acc : List Write) → Ascends acc → filter test (fold insert_by_seq acc ws) ≡ fold insert_by_seq (filter test acc) (filter test ws)
  filter-fold [] acc h = refl
  filter-fold (w ∷ ws) acc h =
      filter-fold ws (insert_by_seq acc w) (ascends-insert_by_seq w acc h)
      ∙ ap (λ (ys : List Write). fold insert_by_seq ys (filter test ws)) (filter-insert_by_seq w acc h)
      ∙ put_or_not w (filter test ws) (filter test acc) (test w)

  pub filter-by_seq : (ws : List Write) → filter test (by_seq ws) ≡ by_seq (filter test ws)
  filter-by_seq ws = filter-fold ws [] tt

pub all_is : {X : Type 0} (P : X → Type 0) (xs : List X) → AllByRecursion P xs → All P xs
all_is P [] h = All-nil P
all_is P (x ∷ xs) h = All-cons P x xs h.0 (all_is P xs h.1)

pub all_each : {X : Type 0} (P : X → Type 0) (xs : List X) → All P xs → AllByRecursion P xs
all_each P [] h = tt
all_each P (x ∷ xs) h = (All-head P x xs h, all_each P xs (All-tail P x xs h))

-- how often a sequence stands there
tally : Bool → ℕ
tally true = 1
tally false = 0

abbrev one_at : ℕ → Write → ℕ
one_at seq w = tally (w.seq == seq)

eq_from : (a b : ℕ) → (a == b) ≡ true → a ≡ b
eq_from a b e = grind (arith, nat_tests)

eq_to : (a b : ℕ) → a ≡ b → (a == b) ≡ true
eq_to a b e = grind (arith, nat_tests)

eq_not : (a b : ℕ) → b < a → (a == b) ≡ false
eq_not a b lt = grind (arith, nat_tests)

tally-true : (b : Bool) → b ≡ true → tally b ≡ 1
unfolding tally
tally-true b e = ap tally e

tally-false : (b : Bool) → b ≡ false → tally b ≡ 0
unfolding tally
tally-false b e = ap tally e

none_above : (seq : ℕ) (xs : List Write) → AllByRecursion (λ y. seq < y.seq) xs → sum_by (one_at seq) xs ≡ 0
none_above seq [] h = refl
none_above seq (x ∷ xs) h =
    let lt : seq < x.seq = h.0 in
    omega (arith, sum_by-cons (one_at seq) x xs, tally-false (x.seq == seq) (eq_not x.seq seq lt), none_above seq xs h.1)

-- where sequences rise none stands there twice
once_first : (seq : ℕ) (y : Write) (ys : List Write) (b : Bool) → (y.seq == seq) ≡ b → AllByRecursion (λ x. y.seq < x.seq) ys → sum_by (one_at seq) ys ≤ 1 → sum_by (one_at seq) (y ∷ ys) ≤ 1
once_first seq y ys true e h rest =
    let same : y.seq ≡ seq = eq_from y.seq seq e in
    let none : sum_by (one_at seq) ys ≡ 0 = none_above seq ys (all_map (λ x. y.seq < x.seq) (λ x. seq < x.seq) (λ x lt. omega (arith, lt, same)) ys h) in
    omega (arith, sum_by-cons (one_at seq) y ys, tally-true (y.seq == seq) e, none)
once_first seq y ys false e h rest = omega (arith, sum_by-cons (one_at seq) y ys, tally-false (y.seq == seq) e, rest)

at_most_once : (seq : ℕ) (ys : List Write) → Rises ys → sum_by (one_at seq) ys ≤ 1
at_most_once seq [] h = omega arith
at_most_once seq (y ∷ ys) h = once_first seq y ys (y.seq == seq) refl h.0 (at_most_once seq ys h.1)

-- and where they ascend and none stands there twice, they rise
not_there : (seq : ℕ) (x : Write) (xs : List Write) → seq ≤ x.seq → sum_by (one_at seq) (x ∷ xs) ≡ 0 → (b : Bool) → (x.seq == seq) ≡ b → (seq < x.seq) × (sum_by (one_at seq) xs ≡ 0)
not_there seq x xs le none true e = absurd (omega (arith, sum_by-cons (one_at seq) x xs, tally-true (x.seq == seq) e, none))
not_there seq x xs le none false e =
    let other : ¬ (x.seq ≡ seq) = λ same. absurd (let e' : true ≡ false = sym (eq_to x.seq seq same) ∙ e in cc) in
    (omega (arith, le, other), omega (arith, sum_by-cons (one_at seq) x xs, none))

above_by : (seq : ℕ) (xs : List Write) → AllByRecursion (λ y. seq ≤ y.seq) xs → sum_by (one_at seq) xs ≡ 0 → AllByRecursion (λ y. seq < y.seq) xs
above_by seq [] h none = tt
above_by seq (x ∷ xs) h none =
    let le : seq ≤ x.seq = h.0 in
    let there : (seq < x.seq) × (sum_by (one_at seq) xs ≡ 0) = not_there seq x xs le none (x.seq == seq) refl in
    (there.0, above_by seq xs h.1 there.1)

rises-from_once : (xs : List Write) → Ascends xs → ((seq : ℕ) → sum_by (one_at seq) xs ≤ 1) → Rises xs
rises-from_once [] h once = tt
rises-from_once (x ∷ xs) h once =
    let here : sum_by (one_at x.seq) (x ∷ xs) ≤ 1 = once x.seq in
    let none : sum_by (one_at x.seq) xs ≡ 0 = omega (arith, sum_by-cons (one_at x.seq) x xs, tally-true (x.seq == x.seq) (eq_to x.seq x.seq refl), here) in
    (above_by x.seq xs h.0 none, rises-from_once xs h.1 (λ seq. let all : sum_by (one_at seq) (x ∷ xs) ≤ 1 = once seq in omega (arith, sum_by-cons (one_at seq) x xs, all)))

-- Two lists whose sequences rise, of which each has what the other has, are equal.
same_first : (x y : Write) (xs ys : List Write) → Rises (x ∷ xs) → Rises (y ∷ ys) → All (λ w. x.seq ≤ w.seq) (y ∷ ys) → All (λ w. y.seq ≤ w.seq) (x ∷ xs) → All (λ w. w.seq ≡ y.seq → w ≡ y) (x ∷ xs) → x ≡ y
same_first x y xs ys rx ry least most sole =
    let le : x.seq ≤ y.seq = All-head (λ w. x.seq ≤ w.seq) y ys least in
    let ge : y.seq ≤ x.seq = All-head (λ w. y.seq ≤ w.seq) x xs most in
    All-head (λ w. w.seq ≡ y.seq → w ≡ y) x xs sole (omega (arith, le, ge))

least_first : (x : Write) (xs : List Write) → Rises (x ∷ xs) → All (λ w. x.seq ≤ w.seq) (x ∷ xs)
least_first x xs h = all_is (λ w. x.seq ≤ w.seq) (x ∷ xs) (omega arith, all_map (λ w. x.seq < w.seq) (λ w. x.seq ≤ w.seq) (λ w lt. omega (arith, lt)) xs h.0)

sole_first : (y : Write) (ys : List Write) → Rises (y ∷ ys) → All (λ w. w.seq ≡ y.seq → w ≡ y) (y ∷ ys)
sole_first y ys h = all_is (λ w. w.seq ≡ y.seq → w ≡ y) (y ∷ ys) ((λ _. refl), all_map (λ w. y.seq < w.seq) (λ w. w.seq ≡ y.seq → w ≡ y) (λ w lt same. absurd (omega (arith, lt, same))) ys h.0)

behind : (P : Write → Type 0) (x : Write) (xs : List Write) → Rises (x ∷ xs) → All (λ w. (w.seq ≡ x.seq) ⊎ P w) (x ∷ xs) → All P xs
behind P x xs h either = all_is P xs (each xs h.0 (all_each (λ w. (w.seq ≡ x.seq) ⊎ P w) xs (All-tail (λ w. (w.seq ≡ x.seq) ⊎ P w) x xs either)))
  where
    later : (w : Write) → x.seq < w.seq → (w.seq ≡ x.seq) ⊎ P w → P w
    later w lt (inl same) = absurd (omega (arith, lt, same))
    later w lt (inr p) = p

    each : (ws : List Write) → AllByRecursion (λ w. x.seq < w.seq) ws → AllByRecursion (λ w. (w.seq ≡ x.seq) ⊎ P w) ws → AllByRecursion P ws
    each [] above one = tt
    each (w ∷ ws) above one = (later w above.0 one.0, each ws above.1 one.1)

in_front_too : (P : Write → Type 0) (x : Write) (xs : List Write) → All P xs → All (λ w. (w.seq ≡ x.seq) ⊎ P w) (x ∷ xs)
in_front_too P x xs h = All-cons (λ w. (w.seq ≡ x.seq) ⊎ P w) x xs (inl refl) (all_is (λ w. (w.seq ≡ x.seq) ⊎ P w) xs (all_map P (λ w. (w.seq ≡ x.seq) ⊎ P w) (λ w p. inr p) xs (all_each P xs h)))

pub rising_same : (xs ys : List Write) → Rises xs → Rises ys → ((P : Write → Type 0) → All P xs → All P ys) → ((P : Write → Type 0) → All P ys → All P xs) → xs ≡ ys
rising_same [] [] rx ry to back = refl
rising_same [] (y ∷ ys) rx ry to back = absurd (All-head (λ _. ⊥) y ys (to (λ _. ⊥) (All-nil (λ _. ⊥))))
rising_same (x ∷ xs) [] rx ry to back = absurd (All-head (λ _. ⊥) x xs (back (λ _. ⊥) (All-nil (λ _. ⊥))))
rising_same (x ∷ xs) (y ∷ ys) rx ry to back =
    let one : x ≡ y = same_first x y xs ys rx ry (to (λ w. x.seq ≤ w.seq) (least_first x xs rx)) (back (λ w. y.seq ≤ w.seq) (least_first y ys ry)) (back (λ w. w.seq ≡ y.seq → w ≡ y) (sole_first y ys ry)) in
    let others : xs ≡ ys = rising_same xs ys rx.1 ry.1
    (λ P h. behind P y ys ry (subst (λ (v : Write). All (λ w. (w.seq ≡ v.seq) ⊎ P w) (y ∷ ys)) one (to (λ w. (w.seq ≡ x.seq) ⊎ P w) (in_front_too P x xs h))))
    (λ P h. behind P x xs rx (subst (λ (v : Write). All (λ w. (w.seq ≡ v.seq) ⊎ P w) (x ∷ xs)) (sym one) (back (λ w. (w.seq ≡ y.seq) ⊎ P w) (in_front_too P y ys h)))) in
    ap (λ v. v ∷ xs) one ∙ ap (λ (vs : List Write). y ∷ vs) others

-- writes whose sequences ascend, which are a permutation of some that rise, are these
pub ascending_is : (xs ys : List Write) → Ascends xs → Rises ys → IsPermutation xs ys → xs ≡ ys
ascending_is xs ys ax ry moved =
    let back : IsPermutation ys xs = IsPermutation-sym xs ys moved in
    let rx : Rises xs = rises-from_once xs ax (λ seq. let most : sum_by (one_at seq) ys ≤ 1 = at_most_once seq ys ry in omega (arith, most, sum_by-IsPermutation (one_at seq) xs ys moved)) in
    rising_same xs ys rx ry (λ P. All-permutation P xs ys moved) (λ P. All-permutation P ys xs back)

-- so the order of writes with different sequences is theirs, however they came
pub by_seq_is : (xs ys : List Write) → Rises ys → IsPermutation xs ys → by_seq xs ≡ ys
by_seq_is xs ys ry moved = ascending_is (by_seq xs) ys (ascends-by_seq xs) ry (IsPermutation-trans (by_seq xs) xs ys (IsPermutation-sym xs (by_seq xs) (moved-by_seq xs)) moved)

-- the order by the places of the list
pub ascends_by_place : (ws : List Write) → Ascends ws → (i j : ℕ) (d : Write) → i ≤ j → j < length ws → (get_or ws i d).seq ≤ (get_or ws j d).seq
ascends_by_place [] h i j d le lt = absurd (omega (arith, lt))
ascends_by_place (w ∷ ws) h zero zero d le lt = omega arith
ascends_by_place (w ∷ ws) h zero (suc j) d le lt = All-get_or (λ (v : Write). w.seq ≤ v.seq) ws j d (omega (arith, lt)) (all_is (λ (v : Write). w.seq ≤ v.seq) ws h.0)
ascends_by_place (w ∷ ws) h (suc i) zero d le lt = absurd (omega (arith, le))
ascends_by_place (w ∷ ws) h (suc i) (suc j) d le lt = ascends_by_place ws h.1 i j d (omega (arith, le)) (omega (arith, lt))

pub non_decreasing : (ws : List Write) → IsNonDecreasingBy (λ (w : Write). w.seq) (by_seq ws)
non_decreasing ws = ascends_by_place (by_seq ws) (ascends-by_seq ws)
