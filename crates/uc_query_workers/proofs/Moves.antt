-- Each step keeps the rule of the counter of pieces.
use Rattle.std.proofs.Common.{◌≡◌, ◌≢◌, ℕ, zero, suc, ◌+◌, ◌<◌, ◌≤◌, Bool, true, false, cond, eqb, ltb, leb, List, [], ◌∷◌, ◌++◌, get_or, set, sym, refl, ap, ◌∙◌, subst, ⊎_elim, arith, eq-eqb, ne_eqb, length-set, get_or-set_same, inl, inr}
use Rattle.std.specs.Prelude.{◌%◌, ◌^◌, ◌⊎◌}
use Rattle.std.proofs.lemmas.List.{set-get_or}
use Rattle.std.proofs.Math.Nat.{mod-eq_of_lt}
use Rattle.std.specs.List.{sum_by, AllByRecursion}
use mathlib.Core.Option.{none, some, some-injective, some-ne-none}
use lib.ListN.{get_elem?}
use Rattle.std.proofs.lemmas.Bool.{lt-ltb}
use Rattle.std.proofs.lemmas.Bool.Decides.{nat_tests}
use Rattle.std.proofs.lemmas.List.Sums.{sum_by-cons, sum_by-append, sum_by_push}
use Rattle.atomic_table.specs.Table.{State, step, keeps, Allows, Splits, Joins}
use Rattle.atomic_table.proofs.Lists.{at_set, at_snoc, set_else}
use Rattle.uc_query_workers.specs.declared.rule.Drawer.{Drawer}
use Rattle.uc_query_workers.specs.declared.rule.Shares.{Shares}
use Rattle.uc_query_workers.specs.Draws.{one_part, one_part_less, joined, spent, times, times_in_all, past, Draws, Sitting, Drew, AreBelow, Looked}

-- ---- lists of numbers

-- 1 where the two are one number, and else 0
abbrev one : ℕ → ℕ → ℕ
one x k = cond (eqb x k) 1 0

-- 1 where the number is that of no piece, and else 0
abbrev late : ℕ → ℕ → ℕ
late pieces x = cond (leb pieces x) 1 0

one_same : (x k : ℕ) → x ≡ k → one x k ≡ 1
one_same x k e = ap (λ b. cond b 1 0) (eq-eqb x k e)

one_other : (x k : ℕ) → (x ≡ k → ⊥) → one x k ≡ 0
one_other x k n = ap (λ b. cond b 1 0) (ne_eqb x k n)

late_is : (pieces x : ℕ) → ((x < pieces) × (late pieces x ≡ 0)) ⊎ ((pieces ≤ x) × (late pieces x ≡ 1))
late_is pieces x = by (leb pieces x) refl
  where
    by : (b : Bool) → leb pieces x ≡ b → ((x < pieces) × (◌≡◌ {A = ℕ} (cond b 1 0) 0)) ⊎ ((pieces ≤ x) × (◌≡◌ {A = ℕ} (cond b 1 0) 1))
    by true e = inr (grind (arith, nat_tests), refl)
    by false e = inl (grind (arith, nat_tests), refl)

times_push : (k : ℕ) (xs : List ℕ) (x : ℕ) → times k (xs ++ x ∷ []) ≡ times k xs + one x k
times_push k xs x = sum_by_push (λ y. one y k) xs x

times-append : (k : ℕ) (xs ys : List ℕ) → times k (xs ++ ys) ≡ times k xs + times k ys
times-append k xs ys = sum_by-append (λ y. one y k) xs ys

past_push : (pieces : ℕ) (xs : List ℕ) (x : ℕ) → past pieces (xs ++ x ∷ []) ≡ past pieces xs + late pieces x
past_push pieces xs x = sum_by_push (late pieces) xs x

pub past-append : (pieces : ℕ) (xs ys : List ℕ) → past pieces (xs ++ ys) ≡ past pieces xs + past pieces ys
past-append pieces xs ys = sum_by-append (late pieces) xs ys

pub past_of_piece : (pieces : ℕ) (xs : List ℕ) (x : ℕ) → x < pieces → past pieces (xs ++ x ∷ []) ≡ past pieces xs
past_of_piece pieces xs x less = ⊎_elim (λ (no : (x < pieces) × (late pieces x ≡ 0)). let n = no.1 in omega (arith, n, past_push pieces xs x))
    (λ (yes : (pieces ≤ x) × (late pieces x ≡ 1)). let le = yes.0 in absurd (omega (arith, le, less)))
    (late_is pieces x)

pub past_of_end : (pieces : ℕ) (xs : List ℕ) (x : ℕ) → pieces ≤ x → past pieces (xs ++ x ∷ []) ≡ past pieces xs + 1
past_of_end pieces xs x le = ⊎_elim (λ (no : (x < pieces) × (late pieces x ≡ 0)). let less = no.0 in absurd (omega (arith, le, less)))
    (λ (yes : (pieces ≤ x) × (late pieces x ≡ 1)). let n = yes.1 in omega (arith, n, past_push pieces xs x))
    (late_is pieces x)

-- a list with numbers of no piece has one that stands there
pub past_stands : (pieces : ℕ) (xs : List ℕ) → 0 < past pieces xs → (x : ℕ) × ((pieces ≤ x) × (0 < times x xs))
past_stands pieces [] h = absurd (omega arith)
past_stands pieces (x ∷ xs) h =
    ⊎_elim (λ (no : (x < pieces) × (late pieces x ≡ 0)).
    let zero_late : late pieces x ≡ 0 = no.1 in
    let r = past_stands pieces xs (omega (arith, h, zero_late, sum_by-cons (late pieces) x xs)) in
    let stands : 0 < times r.0 xs = r.1.1 in
    (r.0, (r.1.0, omega (arith, stands, sum_by-cons (λ y. one y r.0) x xs))))
    (λ (yes : (pieces ≤ x) × (late pieces x ≡ 1)). (x, (yes.0, omega (arith, one_same x x refl, sum_by-cons (λ y. one y x) x xs))))
    (late_is pieces x)

-- of the numbers below one, each once, where one of them is that of no piece, each piece is there once
pub below_past : (pieces bound : ℕ) (xs : List ℕ) → AreBelow bound xs → 0 < past pieces xs → (piece : ℕ) → piece < pieces → times piece xs ≡ 1
below_past pieces bound xs below some_past piece less =
    let end = past_stands pieces xs some_past in
    let up : pieces ≤ end.0 = end.1.0 in
    let stands : 0 < times end.0 xs = end.1.1 in
    let reaches : end.0 < bound = by (ltb end.0 bound) refl (below end.0) stands in
    below piece ∙ ap (λ b. cond b 1 0) (lt-ltb piece bound (omega (arith, up, reaches, less)))
  where
    by : {k m : ℕ} → (b : Bool) → ltb k m ≡ b → times k xs ≡ cond (ltb k m) 1 0 → 0 < times k xs → k < m
    by {k} {m} true e is h = grind (arith, nat_tests)
    by {k} {m} false e is h = absurd (let zero_times : times k xs ≡ 0 = is ∙ ap (λ b. cond b 1 0) e in omega (arith, zero_times, h))

-- ---- sums over seats

-- the total after a change of one seat
total-set : (f : Drawer → ℕ) (seats : List Drawer) (id : ℕ) (v w : Drawer) → get_elem? seats id ≡ some v → sum_by f (set seats id w) + f v ≡ sum_by f seats + f w
total-set f [] id v w at = absurd (some-ne-none v (sym at))
total-set f (x ∷ xs) zero v w at = let is : f x ≡ f v = ap f (some-injective x v at) in omega (arith, sum_by-cons f x xs, sum_by-cons f w xs)
total-set f (x ∷ xs) (suc id) v w at = omega (arith, total-set f xs id v w at, sum_by-cons f x xs, sum_by-cons f x (set xs id w))

sum-le : (f g : Drawer → ℕ) (seats : List Drawer) → ((id : ℕ) (v : Drawer) → get_elem? seats id ≡ some v → f v ≤ g v) → sum_by f seats ≤ sum_by g seats
sum-le f g [] h = omega arith
sum-le f g (x ∷ xs) h =
    let here : f x ≤ g x = h 0 x refl in
    omega (arith, here, sum-le f g xs (λ id v at. h (suc id) v at), sum_by-cons f x xs, sum_by-cons g x xs)

abbrev parts_of : Drawer → ℕ
parts_of v = v.parts

abbrev past_of : ℕ → Drawer → ℕ
past_of pieces v = past pieces v.numbers

abbrev times_of : ℕ → Drawer → ℕ
times_of k v = times k v.numbers

-- seats that together have no part have no number
none_drawn : (k : ℕ) (seats : List Drawer) → sum_by parts_of seats ≡ 0 → ((id : ℕ) (v : Drawer) → get_elem? seats id ≡ some v → v.parts ≡ 0 → v.numbers ≡ []) → times_in_all k seats ≡ 0
none_drawn k [] e idle = refl
none_drawn k (x ∷ xs) e idle =
    let split = sum_by-cons parts_of x xs in
    let no_part : x.parts ≡ 0 = omega (arith, e, split) in
    let none_here : times k x.numbers ≡ 0 = ap (times k) (idle 0 x refl no_part) in
    omega (arith, none_here, none_drawn k xs (omega (arith, e, split)) (λ id v at. idle (suc id) v at), sum_by-cons (times_of k) x xs)

-- ---- steps

abbrev Now : Type 0
Now = State (Unit {0}) Drawer

abbrev Rule : Shares → Now → Type 0
Rule shares s = Draws shares s.words s.views

module _ (shares : Shares) (words : List ℕ) (seats : List Drawer) (rule : Draws shares words seats) where
  -- so the word never wraps
  pub word_bound : get_or words 0 0 ≤ shares.pieces + shares.workers
  word_bound = omega (arith, rule.bound, rule.shared, sum-le (past_of shares.pieces) parts_of seats rule.few)

  abbrev drawn : Drawer → Drawer
  drawn v = record { all = v.all; parts = v.parts; numbers = v.numbers ++ get_or words 0 0 ∷ [] }

  pub draws_one : (id : ℕ) (v : Drawer) → get_elem? seats id ≡ some v → past shares.pieces v.numbers < v.parts → Draws shares (set words 0 (get_or words 0 0 + 1)) (set seats id (drawn v))
  draws_one id v at may = record {
    one_word = length-set words 0 (get_or words 0 0 + 1) ∙ rule.one_word;
    told = λ j u e part. ⊎_elim (λ (t : (j ≡ id) × (drawn v ≡ u)). sym (ap (λ (x : Drawer). x.all) t.1) ∙ rule.told id v at (omega (arith, may)))
        (λ (t : (j ≢ id) × (get_elem? seats j ≡ some u)). rule.told j u t.1 part)
        (at_set seats id j (drawn v) u e);
    shared = omega (arith, total-set parts_of seats id v (drawn v) at, rule.shared);
    once = λ k. ap (λ n. n) (counted k) ∙ ap (λ n. cond (ltb k n) 1 0) (sym (get_or-set_same words 0 (get_or words 0 0 + 1) 0 (omega (arith, rule.one_word))));
    idle = λ j u e no. ⊎_elim (λ (t : (j ≡ id) × (drawn v ≡ u)). let p : v.parts ≡ u.parts = ap (λ (x : Drawer). x.parts) t.1 in absurd (omega (arith, may, p, no)))
        (λ (t : (j ≢ id) × (get_elem? seats j ≡ some u)). rule.idle j u t.1 no)
        (at_set seats id j (drawn v) u e);
    few = λ j u e. ⊎_elim (λ (t : (j ≡ id) × (drawn v ≡ u)). subst (λ (x : Drawer). past shares.pieces x.numbers ≤ x.parts) t.1 few_here)
        (λ (t : (j ≢ id) × (get_elem? seats j ≡ some u)). rule.few j u t.1)
        (at_set seats id j (drawn v) u e);
    bound = subst (λ n. n ≤ shares.pieces + sum_by (past_of shares.pieces) (set seats id (drawn v))) (sym (get_or-set_same words 0 (get_or words 0 0 + 1) 0 (omega (arith, rule.one_word)))) bound_here;
  }
    where
      few_here : past shares.pieces (v.numbers ++ get_or words 0 0 ∷ []) ≤ v.parts
      few_here = ⊎_elim (λ (no : (get_or words 0 0 < shares.pieces) × (late shares.pieces (get_or words 0 0) ≡ 0)). let n = no.1 in omega (arith, may, n, past_push shares.pieces v.numbers (get_or words 0 0)))
          (λ (yes : (shares.pieces ≤ get_or words 0 0) × (late shares.pieces (get_or words 0 0) ≡ 1)). let n = yes.1 in omega (arith, may, n, past_push shares.pieces v.numbers (get_or words 0 0)))
          (late_is shares.pieces (get_or words 0 0))

      grown : sum_by (past_of shares.pieces) (set seats id (drawn v)) ≡ sum_by (past_of shares.pieces) seats + late shares.pieces (get_or words 0 0)
      grown = omega (arith, total-set (past_of shares.pieces) seats id v (drawn v) at, past_push shares.pieces v.numbers (get_or words 0 0))

      bound_here : get_or words 0 0 + 1 ≤ shares.pieces + sum_by (past_of shares.pieces) (set seats id (drawn v))
      bound_here = ⊎_elim (λ (no : (get_or words 0 0 < shares.pieces) × (late shares.pieces (get_or words 0 0) ≡ 0)). let l = no.0 in omega (arith, l))
          (λ (yes : (shares.pieces ≤ get_or words 0 0) × (late shares.pieces (get_or words 0 0) ≡ 1)). let n = yes.1 in omega (arith, n, grown, rule.bound))
          (late_is shares.pieces (get_or words 0 0))

      more : (k : ℕ) → times_in_all k (set seats id (drawn v)) ≡ times_in_all k seats + one (get_or words 0 0) k
      more k = omega (arith, total-set (times_of k) seats id v (drawn v) at, times_push k v.numbers (get_or words 0 0))

      counted : (k : ℕ) → times_in_all k (set seats id (drawn v)) ≡ cond (ltb k (get_or words 0 0 + 1)) 1 0
      counted k = by (ltb k (get_or words 0 0)) refl (ltb k (get_or words 0 0 + 1)) refl
        where
          by : (a : Bool) → ltb k (get_or words 0 0) ≡ a → (b : Bool) → ltb k (get_or words 0 0 + 1) ≡ b → times_in_all k (set seats id (drawn v)) ≡ cond b 1 0
          by true e true f = let was : times_in_all k seats ≡ 1 = rule.once k ∙ ap (λ b. cond b 1 0) e in let apart : k < get_or words 0 0 = grind (arith, nat_tests) in let ne = one_other (get_or words 0 0) k (λ same. omega (arith, same, apart)) in omega (arith, was, ne, more k)
          by true e false f = absurd (let less : k < get_or words 0 0 = grind (arith, nat_tests) in let not : get_or words 0 0 + 1 ≤ k = grind (arith, nat_tests) in omega (arith, less, not))
          by false e true f = let was : times_in_all k seats ≡ 0 = rule.once k ∙ ap (λ b. cond b 1 0) e in let up : get_or words 0 0 ≤ k = grind (arith, nat_tests) in let down : k < get_or words 0 0 + 1 = grind (arith, nat_tests) in let same = one_same (get_or words 0 0) k (omega (arith, up, down)) in omega (arith, was, same, more k)
          by false e false f = let was : times_in_all k seats ≡ 0 = rule.once k ∙ ap (λ b. cond b 1 0) e in let up : get_or words 0 0 + 1 ≤ k = grind (arith, nat_tests) in let ne = one_other (get_or words 0 0) k (λ same. omega (arith, same, up)) in omega (arith, was, ne, more k)

  -- the numbers of a seat are below the word
  pub below_word : (id : ℕ) (v : Drawer) → get_elem? seats id ≡ some v → AllByRecursion (λ number. number < get_or words 0 0) v.numbers
  below_word id v at = each v.numbers (λ k stands. inside k stands (ltb k (get_or words 0 0)) refl)
    where
      inside : (k : ℕ) → 0 < times k v.numbers → (b : Bool) → ltb k (get_or words 0 0) ≡ b → k < get_or words 0 0
      inside k stands true e = grind (arith, nat_tests)
      inside k stands false e = absurd (let no : times_in_all k seats ≡ 0 = rule.once k ∙ ap (λ b. cond b 1 0) e in omega (arith, no, stands, total-set (times_of k) seats id v spent at))

      each : (xs : List ℕ) → ((k : ℕ) → 0 < times k xs → k < get_or words 0 0) → AllByRecursion (λ number. number < get_or words 0 0) xs
      each [] h = tt
      each (x ∷ xs) h = (h x (omega (arith, one_same x x refl, sum_by-cons (λ y. one y x) x xs)), each xs (λ k stands. h k (omega (arith, stands, sum_by-cons (λ y. one y k) x xs))))

  -- a seat that has all parts has all numbers
  pub all_here : (id : ℕ) (v : Drawer) → get_elem? seats id ≡ some v → v.parts ≡ shares.workers → AreBelow (get_or words 0 0) v.numbers
  all_here id v at whole k =
      let others : sum_by parts_of (set seats id spent) ≡ 0 = omega (arith, total-set parts_of seats id v spent at, rule.shared, whole) in
      let nothing = none_drawn k (set seats id spent) others idle in
      let same : times k v.numbers ≡ times_in_all k seats = omega (arith, total-set (times_of k) seats id v spent at, nothing) in
      same ∙ rule.once k
    where
      idle : (j : ℕ) (u : Drawer) → get_elem? (set seats id spent) j ≡ some u → u.parts ≡ 0 → u.numbers ≡ []
      idle j u e without = ⊎_elim (λ (t : (j ≡ id) × (spent ≡ u)). sym (ap (λ (x : Drawer). x.numbers) t.1))
          (λ (t : (j ≢ id) × (get_elem? seats j ≡ some u)). rule.idle j u t.1 without)
          (at_set seats id j spent u e)

-- ---- what the steps of a table ask for

set_own : (seats : List Drawer) (id : ℕ) (v : Drawer) → get_elem? seats id ≡ some v → set seats id v ≡ seats
set_own [] id v at = refl
set_own (x ∷ xs) zero v at = ap (λ (u : Drawer). u ∷ xs) (sym (some-injective x v at))
set_own (x ∷ xs) (suc id) v at = ap (λ (us : List Drawer). x ∷ us) (set_own xs id v at)

module _ (shares : Shares) (slots id : ℕ) (me : Sitting) where
  pub draws : shares.pieces + shares.workers < 2 ^ 64 → past shares.pieces me.0.numbers < me.0.parts
      → Allows (Rule shares) slots id me 0 (λ n. (n + 1) % 2 ^ 64) (Drew (step slots 0 1 0 none) me)
  draws small may s rule _ at _ =
      let x : ℕ = get_or s.words 0 0 in
      let w : Drawer = drawn shares s.words s.views rule me.0 in
      let after : Draws shares (set s.words 0 (get_or s.words 0 0 + 1)) (set s.views id (drawn shares s.words s.views rule me.0)) = draws_one shares s.words s.views rule id me.0 at may in
      let is : get_or (set s.words 0 (get_or s.words 0 0 + 1)) 0 0 ≡ get_or s.words 0 0 + 1 = get_or-set_same s.words 0 (get_or s.words 0 0 + 1) 0 (omega (arith, rule.one_word)) in
      let top = word_bound shares (set s.words 0 (get_or s.words 0 0 + 1)) (set s.views id (drawn shares s.words s.views rule me.0)) after in
      let room : get_or s.words 0 0 + 1 < 2 ^ 64 = omega (arith, is, top, small) in (
        drawn shares s.words s.views rule me.0,
        keeps,
        tt,
        subst (λ n. Draws shares (set s.words 0 n) (set s.views id (drawn shares s.words s.views rule me.0))) (sym (mod-eq_of_lt room)) after,
        (refl, refl, below_word shares s.words s.views rule id me.0 at),
      )

  pub looks : Allows (Rule shares) slots id me 0 (λ n. n) (Looked (step slots 0 0 0 none) me)
  looks s rule _ at _ = (
    me.0,
    keeps,
    tt,
    subst (λ (words : List ℕ). Draws shares words (set s.views id me.0)) (sym (set-get_or s.words 0 0)) (subst (λ (seats : List Drawer). Draws shares s.words seats) (sym (set_own s.views id me.0 at)) rule),
    (refl, refl, λ part all. all_here shares s.words s.views rule id me.0 at (all ∙ rule.told id me.0 at part)),
  )

-- one of the parts of a seat that drew nothing goes to a new one
pub splits : (shares : Shares) (id : ℕ) (v : Drawer) → 0 < v.parts → v.numbers ≡ [] → Splits (Rule shares) id v (one_part_less v) (one_part v)
splits shares id v some_part empty s rule at = record {
  one_word = rule.one_word;
  told = λ j u e part. each (λ (x : Drawer). 0 < x.parts → x.all ≡ shares.workers) (λ k x g p. rule.told k x g p) (λ p. rule.told id v at some_part) (λ p. rule.told id v at some_part) j u e part;
  shared = omega (arith, rule.shared, pushed parts_of, total-set parts_of s.views id v (one_part_less v) at, some_part);
  once = λ k. omega (arith, pushed (times_of k), total-set (times_of k) s.views id v (one_part_less v) at) ∙ rule.once k;
  idle = λ j u e. each (λ (x : Drawer). x.parts ≡ 0 → x.numbers ≡ []) rule.idle (λ no. empty) (λ no. refl) j u e;
  few = λ j u e. each (λ (x : Drawer). past shares.pieces x.numbers ≤ x.parts) rule.few (let none_past : past shares.pieces v.numbers ≡ 0 = ap (past shares.pieces) empty in omega (arith, none_past)) (omega arith) j u e;
  bound = (let same = pushed (past_of shares.pieces) in let set_same = total-set (past_of shares.pieces) s.views id v (one_part_less v) at in omega (arith, rule.bound, same, set_same));
}
  where
    pushed : (f : Drawer → ℕ) → sum_by f (set s.views id (one_part_less v) ++ one_part v ∷ []) ≡ sum_by f (set s.views id (one_part_less v)) + f (one_part v)
    pushed f = sum_by_push f (set s.views id (one_part_less v)) (one_part v)

    each : (P : Drawer → Type 0) → ((k : ℕ) (x : Drawer) → get_elem? s.views k ≡ some x → P x) → P (one_part_less v) → P (one_part v) → (j : ℕ) (u : Drawer) → get_elem? (set s.views id (one_part_less v) ++ one_part v ∷ []) j ≡ some u → P u
    each P others left right j u e = ⊎_elim
        (λ (was : get_elem? (set s.views id (one_part_less v)) j ≡ some u). ⊎_elim
        (λ (t : (j ≡ id) × (one_part_less v ≡ u)). subst P t.1 left)
        (λ (t : (j ≢ id) × (get_elem? s.views j ≡ some u)). others j u t.1)
        (at_set s.views id j (one_part_less v) u was))
        (λ (new : one_part v ≡ u). subst P new right)
        (at_snoc (set s.views id (one_part_less v)) (one_part v) u j e)

-- the seat takes in the other's parts and its list, and the other has none
pub joins : (shares : Shares) (id other : ℕ) (v w : Drawer) → 0 < v.parts → Joins (Rule shares) id v other w (joined v w) spent
joins shares id other v w some_part s rule at apart there = record {
  one_word = rule.one_word;
  told = λ j u e part. each (λ (x : Drawer). 0 < x.parts → x.all ≡ shares.workers) (λ k x g p. rule.told k x g p) (λ p. rule.told id v at some_part) (λ p. absurd (omega (arith, p))) j u e part;
  shared = total parts_of refl refl ∙ rule.shared;
  once = λ k. total (times_of k) (times-append k v.numbers w.numbers) refl ∙ rule.once k;
  idle = λ j u e. each (λ (x : Drawer). x.parts ≡ 0 → x.numbers ≡ []) rule.idle (λ no. absurd (omega (arith, no, some_part))) (λ no. refl) j u e;
  few = λ j u e. each (λ (x : Drawer). past shares.pieces x.numbers ≤ x.parts) rule.few (omega (arith, past-append shares.pieces v.numbers w.numbers, rule.few id v at, rule.few other w was_there)) (omega arith) j u e;
  bound = (let same = total (past_of shares.pieces) (past-append shares.pieces v.numbers w.numbers) refl in omega (arith, rule.bound, same));
}
  where
    was_there : get_elem? s.views other ≡ some w
    was_there = sym (set_else s.views id other (joined v w) apart) ∙ there

    total : (f : Drawer → ℕ) → f (joined v w) ≡ f v + f w → f spent ≡ 0 → sum_by f (set (set s.views id (joined v w)) other spent) ≡ sum_by f s.views
    total f both nothing = omega (
      arith,
      both,
      nothing,
      total-set f (set s.views id (joined v w)) other w spent there,
      total-set f s.views id v (joined v w) at,
    )

    each : (P : Drawer → Type 0) → ((k : ℕ) (x : Drawer) → get_elem? s.views k ≡ some x → P x) → P (joined v w) → P spent → (j : ℕ) (u : Drawer) → get_elem? (set (set s.views id (joined v w)) other spent) j ≡ some u → P u
    each P others both gone j u e = ⊎_elim
        (λ (t : (j ≡ other) × (spent ≡ u)). subst P t.1 gone)
        (λ (t : (j ≢ other) × (get_elem? (set s.views id (joined v w)) j ≡ some u)). ⊎_elim
        (λ (q : (j ≡ id) × (joined v w ≡ u)). subst P q.1 both)
        (λ (q : (j ≢ id) × (get_elem? s.views j ≡ some u)). others j u q.1)
        (at_set s.views id j (joined v w) u t.1))
        (at_set (set s.views id (joined v w)) other j spent u e)
