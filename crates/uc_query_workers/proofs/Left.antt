-- The rest of lists of rising numbers.
use Rattle.std.proofs.Common.{◌≡◌, ◌≢◌, ℕ, zero, suc, ◌+◌, ◌-◌, ◌<◌, ◌≤◌, Bool, true, false, cond, eqb, ltb, List, [], ◌∷◌, ◌++◌, length, get_or, set, drop, sym, refl, ap, ◌∙◌, subst, arith, eq-eqb, ne_eqb, max}
use Rattle.std.specs.Prelude.{Some, slice_get}
use Rattle.std.specs.List.{sum_by, AllByRecursion}
use Rattle.std.proofs.lemmas.Bool.Decides.{nat_tests}
use Rattle.std.proofs.lemmas.List.Sums.{sum_by-cons, sum_by-append, sum_by_push}
use Rattle.uc_query_workers.specs.Draws.{times}
use Rattle.uc_query_workers.specs.Drawing.{Rises}

-- 1 where the two are one number, and else 0
abbrev one : ℕ → ℕ → ℕ
one x k = cond (eqb x k) 1 0

one_same : (x k : ℕ) → x ≡ k → one x k ≡ 1
one_same x k e = ap (λ b. cond b 1 0) (eq-eqb x k e)

one_other : (x k : ℕ) → (x ≡ k → ⊥) → one x k ≡ 0
one_other x k n = ap (λ b. cond b 1 0) (ne_eqb x k n)

times_cons : (k x : ℕ) (xs : List ℕ) → times k (x ∷ xs) ≡ one x k + times k xs
times_cons k x xs = sum_by-cons (λ y. one y k) x xs

pub times_push : (k : ℕ) (xs : List ℕ) (x : ℕ) → times k (xs ++ x ∷ []) ≡ times k xs + one x k
times_push k xs x = sum_by_push (λ y. one y k) xs x

pub times-append : (k : ℕ) (xs ys : List ℕ) → times k (xs ++ ys) ≡ times k xs + times k ys
times-append k xs ys = sum_by-append (λ y. one y k) xs ys

-- a number after rising ones that are all below it
pub rises_push : (xs : List ℕ) (n : ℕ) → Rises xs → AllByRecursion (λ x. x < n) xs → Rises (xs ++ n ∷ [])
rises_push [] n rising below = (tt, tt)
rises_push (x ∷ xs) n rising below = (all_push xs rising.0 below.0, rises_push xs n rising.1 below.1)
  where
    all_push : (ys : List ℕ) → AllByRecursion (λ y. x < y) ys → x < n → AllByRecursion (λ y. x < y) (ys ++ n ∷ [])
    all_push [] all less = (less, tt)
    all_push (y ∷ ys) all less = (all.0, all_push ys all.1 less)

-- above all numbers of a list
abbrev pub above : List ℕ → ℕ
above [] = 0
above (x ∷ xs) = max (suc x) (above xs)

pub above_at_most : (xs : List ℕ) (n : ℕ) → AllByRecursion (λ x. x < n) xs → above xs ≤ n
above_at_most [] n below = omega arith
above_at_most (x ∷ xs) n below = omega (arith, below.0, above_at_most xs n below.1)

pub above_push : (xs : List ℕ) (n : ℕ) → n < above (xs ++ n ∷ [])
above_push [] n = omega arith
above_push (x ∷ xs) n = omega (arith, above_push xs n)

-- a list that ends with a greater number is nearer to a bound
pub nearer : (bound n : ℕ) (xs ys : List ℕ) → ys ≡ xs ++ n ∷ [] → n < bound → AllByRecursion (λ x. x < n) xs → bound - above ys < bound - above xs
nearer bound n xs ys is within below =
    let rise = above_push xs n in
    let low = above_at_most xs n below in
    subst (λ zs. bound - above zs < bound - above xs) (sym is) (omega (arith, rise, low, within))

-- numbers that are all above one don't hold it
none_above : (k : ℕ) (xs : List ℕ) → AllByRecursion (λ y. k < y) xs → times k xs ≡ 0
none_above k [] all = refl
none_above k (x ∷ xs) all =
    let less : k < x = all.0 in
    omega (arith, times_cons k x xs, one_other x k (λ e. absurd (omega (arith, e, less))), none_above k xs all.1)

weaker : (a b : ℕ) (xs : List ℕ) → a < b → AllByRecursion (λ y. b < y) xs → AllByRecursion (λ y. a < y) xs
weaker a b [] less all = tt
weaker a b (x ∷ xs) less all = (let h : b < x = all.0 in omega (arith, h, less), weaker a b xs less all.1)

-- of rising numbers, none of which is below one, and of which it isn't the first, it is none
pub not_first : (k : ℕ) (xs : List ℕ) → Rises xs → slice_get xs 0 ≢ Some k → ((n : ℕ) → n < k → times n xs ≡ 0) → times k xs ≡ 0
not_first k [] rising other none = refl
not_first k (x ∷ xs) rising other none = by (ltb x k) refl (ltb k x) refl
  where
    by : (b : Bool) → ltb x k ≡ b → (d : Bool) → ltb k x ≡ d → times k (x ∷ xs) ≡ 0
    by true e d f =
        let less : x < k = grind (arith, nat_tests) in
        absurd (omega (arith, none x less, times_cons x x xs, one_same x x refl))
    by false e true f =
        let less : k < x = grind (arith, nat_tests) in
        omega (arith, times_cons k x xs, one_other x k (λ q. absurd (omega (arith, q, less))), none_above k xs (weaker k x xs less rising.0))
    by false e false f =
        let same : x ≡ k = grind (arith, nat_tests) in
        absurd (other (ap Some same))

module _ {D : Type 0} (numbers : D → List ℕ) where
  abbrev pub times_over : ℕ → List D → ℕ
  times_over k draws = sum_by (λ d. times k (numbers d)) draws

  over_cons : (k : ℕ) (d : D) (ds : List D) → times_over k (d ∷ ds) ≡ times k (numbers d) + times_over k ds
  over_cons k d ds = sum_by-cons (λ x. times k (numbers x)) d ds

  -- where a number is first in no list of rising numbers, and no lesser one stands in any, it stands in none
  pub none_first : (k : ℕ) (ds : List D) → AllByRecursion (λ d. Rises (numbers d)) ds → AllByRecursion (λ d. slice_get (numbers d) 0 ≢ Some k) ds → ((n : ℕ) → n < k → times_over n ds ≡ 0) → times_over k ds ≡ 0
  none_first k [] rising other none = refl
  none_first k (d ∷ ds) rising other none =
      omega (
        arith,
        over_cons k d ds,
        not_first k (numbers d) rising.0 other.0 (λ n less. let z = none n less in omega (arith, z, over_cons n d ds)),
        none_first k ds rising.1 other.1 (λ n less. let z = none n less in omega (arith, z, over_cons n d ds)),
      )

  -- the total after a change of one list
  pub over_set : (k : ℕ) (ds : List D) (place : ℕ) (w e : D) → place < length ds → times_over k (set ds place w) + times k (numbers (get_or ds place e)) ≡ times_over k ds + times k (numbers w)
  over_set k [] place w e less = absurd (omega (arith, less))
  over_set k (d ∷ ds) zero w e less = omega (arith, over_cons k d ds, over_cons k w ds)
  over_set k (d ∷ ds) (suc place) w e less =
      omega (arith, over_set k ds place w e (omega (arith, less)), over_cons k d ds, over_cons k d (set ds place w))

  -- a number less where it was the first of a list
  pub one_less : (k n : ℕ) (xs : List ℕ) → slice_get xs 0 ≡ Some n → times k xs ≡ one n k + times k (drop 1 xs)
  one_less k n [] first = absurd (cc first)
  one_less k n (x ∷ xs) first = times_cons k x xs ∙ ap (λ y. one y k + times k xs) (some_same x n first)
    where
      some_same : (a b : ℕ) → Some a ≡ Some b → a ≡ b
      some_same a b e = cc e

  -- what is left where the first number of a list is taken
  pub taken : (k n place : ℕ) (ds : List D) (w e : D) → place < length ds → slice_get (numbers (get_or ds place e)) 0 ≡ Some n → numbers w ≡ drop 1 (numbers (get_or ds place e)) → one n k + times_over k (set ds place w) ≡ times_over k ds
  taken k n place ds w e less first rest =
      omega (arith, over_set k ds place w e less, one_less k n (numbers (get_or ds place e)) first, ap (times k) rest)

  -- of the numbers from one on, each once, it was taken
  pub next_once : (n place bound : ℕ) (ds : List D) (w e : D) → place < length ds → slice_get (numbers (get_or ds place e)) 0 ≡ Some n → numbers w ≡ drop 1 (numbers (get_or ds place e)) → ((k : ℕ) → n ≤ k → k < bound → times_over k ds ≡ 1) → (k : ℕ) → n + 1 ≤ k → k < bound → times_over k (set ds place w) ≡ 1
  next_once n place bound ds w e less first rest once k from below =
      omega (arith, taken k n place ds w e less first rest, once k (omega (arith, from)) below, one_other n k (λ same. absurd (omega (arith, same, from))))

  pub next_none : (n place bound : ℕ) (ds : List D) (w e : D) → place < length ds → slice_get (numbers (get_or ds place e)) 0 ≡ Some n → numbers w ≡ drop 1 (numbers (get_or ds place e)) → n < bound → ((k : ℕ) → n ≤ k → k < bound → times_over k ds ≡ 1) → ((k : ℕ) → k < n → times_over k ds ≡ 0) → (k : ℕ) → k < n + 1 → times_over k (set ds place w) ≡ 0
  next_none n place bound ds w e less first rest within once none k below = by (eqb n k) refl
    where
      by : (b : Bool) → eqb n k ≡ b → times_over k (set ds place w) ≡ 0
      by true q =
          let same : n ≡ k = grind (arith, nat_tests) in
          let was = once k (omega (arith, same)) (omega (arith, same, within)) in
          omega (arith, taken k n place ds w e less first rest, was, one_same n k same)
      by false q =
          let other : (n ≡ k → ⊥) = λ same. absurd (grind (arith, nat_tests)) in
          let was = none k (grind (arith, nat_tests)) in
          omega (arith, taken k n place ds w e less first rest, was, one_other n k other)

  -- ---- what workers drew

  -- one worker's numbers, and the end after them
  pub lone : (k pieces end : ℕ) (d : D) → k < pieces → pieces ≤ end → times_over k (d ∷ []) ≡ times k (numbers d ++ end ∷ [])
  lone k pieces end d less past = omega (arith, over_cons k d [], times_push k (numbers d) end, one_other end k (λ same. absurd (omega (arith, same, less, past))))

  -- one worker more
  pub one_worker_more : (k pieces end : ℕ) (xs : List ℕ) (ds : List D) (d : D) → k < pieces → pieces ≤ end → times_over k ds ≡ times k xs → times_over k (ds ++ d ∷ []) ≡ times k (xs ++ (numbers d ++ end ∷ []))
  one_worker_more k pieces end xs ds d less past so_far =
      omega (
        arith,
        sum_by_push (λ x. times k (numbers x)) ds d,
        times-append k xs (numbers d ++ end ∷ []),
        times_push k (numbers d) end,
        one_other end k (λ same. absurd (omega (arith, same, less, past))),
        so_far,
      )
