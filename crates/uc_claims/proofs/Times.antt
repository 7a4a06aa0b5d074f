-- The number of times that a slot is in a list, and the list after slots are given back.
use Rattle.std.proofs.Common.{◌≡◌, ℕ, zero, suc, ◌+◌, ◌<◌, ◌≤◌, Bool, true, false, not, cond, eqb, ltb, ◌&&◌, ◌||◌, List, [], ◌∷◌, ◌++◌, length, get_or, take, drop, sym, refl, ap, ◌∙◌, subst, ⊎_elim, nat_eq, arith, eq-eqb, ne_eqb, zero-add, append-nil}
use Rattle.std.specs.Prelude.{Contains, All}
use Rattle.std.specs.List.{filter, list_any, IsDistinct, AllByRecursion}
use Rattle.std.proofs.lemmas.Bool.{cases_eq, cases_lt, lt-ltb, le-ltb, cond_both, or_from, or_parts, ltb-false, eqb-false}
use Rattle.std.proofs.lemmas.List.Sums.{length-filter, sum_by-cons, sum_by-append, sum_by_push, sum_by-take-drop}
use Rattle.std.proofs.lemmas.List.Filters.{length-filter_both}
use Rattle.std.proofs.lemmas.List.Elements.{filter-append, All-contains, Contains-append_cases}
use Rattle.std.proofs.lemmas.List.{drop_more, take-append-drop}
use Rattle.std.proofs.lemmas.Map.Keys.{IsDistinct-head, IsDistinct-tail}
use Rattle.uc_claims.specs.Holding.{AreDistinct, without, NoneHeld, IsFirstHeld}
use Rattle.uc_claims.specs.Claims.{times}

-- 1 where the two are one slot, and else 0
abbrev one : ℕ → ℕ → ℕ
one x k = cond (eqb x k) 1 0

pub one_same : (x k : ℕ) → x ≡ k → one x k ≡ 1
one_same x k e = ap (λ b. cond b 1 0) (eq-eqb x k e)

pub one_other : (x k : ℕ) → (x ≡ k → ⊥) → one x k ≡ 0
one_other x k n = ap (λ b. cond b 1 0) (ne_eqb x k n)

pub times-cons : (k x : ℕ) (xs : List ℕ) → times k (x ∷ xs) ≡ one x k + times k xs
times-cons k x xs = sum_by-cons (λ y. one y k) x xs

pub times-append : (k : ℕ) (xs ys : List ℕ) → times k (xs ++ ys) ≡ times k xs + times k ys
times-append k xs ys = sum_by-append (λ y. one y k) xs ys

pub times_push : (k : ℕ) (xs : List ℕ) (x : ℕ) → times k (xs ++ x ∷ []) ≡ times k xs + one x k
times_push k xs x = sum_by_push (λ y. one y k) xs x

-- a slot stands in a list where it stands there at least once
pub times-from_Contains : (k : ℕ) (xs : List ℕ) → Contains xs k → 0 < times k xs
times-from_Contains k [] h = let l = h.1 in absurd (omega arith)
times-from_Contains k (x ∷ xs) h = here (λ g. times-from_Contains k xs g) h.0 h.1 h.2
  where
    here : (Contains xs k → 0 < times k xs) → (i : ℕ) → i < suc (length xs) → get_or (x ∷ xs) i k ≡ k → 0 < times k (x ∷ xs)
    here later zero l e = omega (arith, times-cons k x xs, one_same x k e)
    here later (suc i) l e = omega (arith, times-cons k x xs, later (i, omega arith, e))

pub Contains-from_times : (k : ℕ) (xs : List ℕ) → 0 < times k xs → Contains xs k
Contains-from_times k [] h = absurd (omega arith)
Contains-from_times k (x ∷ xs) h =
    ⊎_elim (λ (e : x ≡ k). (0, omega arith, e))
    (λ (n : x ≡ k → ⊥). let r = Contains-from_times k xs (omega (arith, times-cons k x xs, one_other x k n)) in (suc r.0, (let l = r.1 in omega arith), r.2))
    (cases_eq x k)

pub list_any-times : (k : ℕ) (xs : List ℕ) → list_any (λ x. eqb x k) xs ≡ ltb 0 (times k xs)
list_any-times k [] = refl
list_any-times k (x ∷ xs) =
    ⊎_elim (λ (e : x ≡ k). ap (λ b. b || list_any (λ y. eqb y k) xs) (eq-eqb x k e) ∙ sym (lt-ltb 0 (times k (x ∷ xs)) (omega (arith, times-cons k x xs, one_same x k e))))
    (λ (n : x ≡ k → ⊥). ap (λ b. b || list_any (λ y. eqb y k) xs) (ne_eqb x k n) ∙ list_any-times k xs ∙ ap (ltb 0) (sym (times-cons k x xs ∙ ap (λ z. z + times k xs) (one_other x k n) ∙ zero-add (times k xs))))
    (cases_eq x k)

-- a list without slots twice
pub times-distinct : (xs : List ℕ) → AreDistinct xs → (k : ℕ) → times k xs ≤ 1
times-distinct [] d k = omega arith
times-distinct (x ∷ xs) d k =
    let none = ltb-false 0 (times x xs) (sym (list_any-times x xs) ∙ d.0) in
    ⊎_elim (λ (e : x ≡ k). subst (λ j. times j (x ∷ xs) ≤ 1) e (omega (arith, times-cons x x xs, one_same x x refl)))
    (λ (n : x ≡ k → ⊥). omega (arith, times-cons k x xs, one_other x k n, times-distinct xs d.1 k))
    (cases_eq x k)

-- the same by std's word
pub AreDistinct-from_IsDistinct : (xs : List ℕ) → IsDistinct nat_eq xs → AreDistinct xs
AreDistinct-from_IsDistinct [] d = tt
AreDistinct-from_IsDistinct (x ∷ xs) d =
    (absent xs (IsDistinct-head nat_eq x xs d), AreDistinct-from_IsDistinct xs (IsDistinct-tail nat_eq x xs d))
  where
    absent : (ys : List ℕ) → AllByRecursion (λ y. eqb x y ≡ false) ys → list_any (λ y. eqb y x) ys ≡ false
    absent [] a = refl
    absent (y ∷ ys) a = ap (λ b. b || list_any (λ z. eqb z x) ys) (ne_eqb y x (λ e. eqb-false x y a.0 (sym e))) ∙ absent ys a.1

-- what a filter keeps
pub times-filter : (p : ℕ → Bool) (k : ℕ) (xs : List ℕ) → times k (filter p xs) ≡ cond (p k) (times k xs) 0
times-filter p k [] = nothing (p k)
  where
    nothing : (b : Bool) → ◌≡◌ {A = ℕ} 0 (cond b 0 0)
    nothing true = refl
    nothing false = refl
times-filter p k (x ∷ xs) = kept (p x) refl (times-filter p k xs)
  where
    kept : (b : Bool) → p x ≡ b → times k (filter p xs) ≡ cond (p k) (times k xs) 0 → times k (cond b (x ∷ filter p xs) (filter p xs)) ≡ cond (p k) (times k (x ∷ xs)) 0
    kept true is later =
        ⊎_elim (λ (e : x ≡ k). let yes : p k ≡ true = ap p (sym e) ∙ is in
        times-cons k x (filter p xs) ∙ ap (λ n. one x k + n) (later ∙ ap (λ b. cond b (times k xs) 0) yes) ∙ sym (times-cons k x xs) ∙ ap (λ b. cond b (times k (x ∷ xs)) 0) (sym yes))
        (λ (n : x ≡ k → ⊥). skipped n (times-cons k x (filter p xs) ∙ ap (λ m. m + times k (filter p xs)) (one_other x k n)) later)
        (cases_eq x k)
      where
        skipped : (x ≡ k → ⊥) → times k (x ∷ filter p xs) ≡ 0 + times k (filter p xs) → times k (filter p xs) ≡ cond (p k) (times k xs) 0 → times k (x ∷ filter p xs) ≡ cond (p k) (times k (x ∷ xs)) 0
        skipped n a l = a ∙ zero-add (times k (filter p xs)) ∙ l ∙ ap (λ m. cond (p k) m 0) (sym (times-cons k x xs ∙ ap (λ m. m + times k xs) (one_other x k n) ∙ zero-add (times k xs)))
    kept false is later =
        ⊎_elim (λ (e : x ≡ k). let no : p k ≡ false = ap p (sym e) ∙ is in later ∙ ap (λ b. cond b (times k xs) 0) no ∙ ap (λ b. cond b (times k (x ∷ xs)) 0) (sym no))
        (λ (n : x ≡ k → ⊥). later ∙ ap (λ m. cond (p k) m 0) (sym (times-cons k x xs ∙ ap (λ m. m + times k xs) (one_other x k n) ∙ zero-add (times k xs))))
        (cases_eq x k)

pub filter-pass : (p : ℕ → Bool) (xs : List ℕ) → ((k : ℕ) → 0 < times k xs → p k ≡ true) → filter p xs ≡ xs
filter-pass p [] h = refl
filter-pass p (x ∷ xs) h =
    ap (λ b. cond b (x ∷ filter p xs) (filter p xs)) (h x (omega (arith, times-cons x x xs, one_same x x refl))) ∙ ap (λ ys. x ∷ ys) (filter-pass p xs (λ k l. h k (omega (arith, times-cons k x xs))))

pub filter-fail : (p : ℕ → Bool) (xs : List ℕ) → ((k : ℕ) → 0 < times k xs → p k ≡ false) → filter p xs ≡ []
filter-fail p [] h = refl
filter-fail p (x ∷ xs) h =
    ap (λ b. cond b (x ∷ filter p xs) (filter p xs)) (h x (omega (arith, times-cons x x xs, one_same x x refl))) ∙ filter-fail p xs (λ k l. h k (omega (arith, times-cons k x xs)))

pub filter-filter : (p q r : ℕ → Bool) → ((x : ℕ) → r x ≡ q x && p x) → (xs : List ℕ) → filter p (filter q xs) ≡ filter r xs
filter-filter p q r h [] = refl
filter-filter p q r h (x ∷ xs) = step (q x) (h x) (filter-filter p q r h xs)
  where
    step : (b : Bool) → r x ≡ b && p x → filter p (filter q xs) ≡ filter r xs → filter p (cond b (x ∷ filter q xs) (filter q xs)) ≡ cond (r x) (x ∷ filter r xs) (filter r xs)
    step true e later = ap (λ ys. cond (p x) (x ∷ ys) ys) later ∙ ap (λ b. cond b (x ∷ filter r xs) (filter r xs)) (sym e)
    step false e later = later ∙ ap (λ b. cond b (x ∷ filter r xs) (filter r xs)) (sym e)

-- what is left where one slot is given back, and where several are
pub without_test : (gone : List ℕ) (k : ℕ) → not (list_any (λ x. eqb x k) gone) ≡ not (ltb 0 (times k gone))
without_test gone k = ap not (list_any-times k gone)

pub times-without_other : (k slot : ℕ) (xs : List ℕ) → (k ≡ slot → ⊥) → times k (without (slot ∷ []) xs) ≡ times k xs
times-without_other k slot xs n =
    let miss : eqb slot k ≡ false = ne_eqb slot k (λ e. n (sym e)) in
    times-filter (λ s. not (list_any (λ x. eqb x s) (slot ∷ []))) k xs ∙ ap (λ b. cond (not (b || false)) (times k xs) 0) miss

pub times-without_same : (slot : ℕ) (xs : List ℕ) → times slot (without (slot ∷ []) xs) ≡ 0
times-without_same slot xs =
    times-filter (λ s. not (list_any (λ x. eqb x s) (slot ∷ []))) slot xs ∙ ap (λ b. cond (not (b || false)) (times slot xs) 0) (eq-eqb slot slot refl)

pub without-nil : (xs : List ℕ) → without [] xs ≡ xs
without-nil xs = filter-pass (λ _. true) xs (λ k l. refl)

pub without_push : (gone : List ℕ) (slot : ℕ) (xs : List ℕ) → without (slot ∷ []) (without gone xs) ≡ without (gone ++ slot ∷ []) xs
without_push gone slot xs = filter-filter _ _ _ (λ x. both gone x) xs
  where
    both : (gs : List ℕ) (x : ℕ) → not (list_any (λ y. eqb y x) (gs ++ slot ∷ [])) ≡ not (list_any (λ y. eqb y x) gs) && not (eqb slot x || false)
    both [] x = refl
    both (g ∷ gs) x = one_more (eqb g x) (both gs x)
      where
        one_more : (b : Bool) → not (list_any (λ y. eqb y x) (gs ++ slot ∷ [])) ≡ not (list_any (λ y. eqb y x) gs) && not (eqb slot x || false)
            → not (b || list_any (λ y. eqb y x) (gs ++ slot ∷ [])) ≡ not (b || list_any (λ y. eqb y x) gs) && not (eqb slot x || false)
        one_more true e = refl
        one_more false e = e

-- slots after a list in which they are not
pub without_behind : (xs ys : List ℕ) → ((k : ℕ) → 0 < times k ys → times k xs ≡ 0) → without ys (xs ++ ys) ≡ xs
without_behind xs ys apart =
    filter-append (λ s. not (list_any (λ x. eqb x s) ys)) xs ys
    ∙ ap (λ zs. zs ++ filter (λ s. not (list_any (λ x. eqb x s) ys)) ys) (filter-pass _ xs (λ k l. without_test ys k ∙ ap not (le-ltb 0 (times k ys) (absent k l))))
    ∙ ap (λ zs. xs ++ zs) (filter-fail _ ys (λ k l. without_test ys k ∙ ap not (lt-ltb 0 (times k ys) l)))
    ∙ append-nil xs
  where
    absent : (k : ℕ) → 0 < times k xs → times k ys ≤ 0
    absent k l = ⊎_elim (λ (h : 0 < times k ys). let none = apart k h in omega arith) (λ (h : times k ys ≤ 0). h) (cases_lt 0 (times k ys))

-- what a list without some slots has
pub Contains-without : (gone xs : List ℕ) (k : ℕ) → Contains (without gone xs) k → Contains xs k
Contains-without gone xs k h =
    let some = times-from_Contains k (without gone xs) h in
    let is = times-filter (λ s. not (list_any (λ x. eqb x s) gone)) k xs in
    Contains-from_times k xs (cond_both (not (list_any (λ x. eqb x k) gone)) (times k xs) 0 (λ n. n ≡ times k (without gone xs) → 0 < times k xs) (λ _ e. omega arith) (λ _ e. absurd (omega arith)) (sym is))

pub Contains-without_gone : (gone xs : List ℕ) (k : ℕ) → Contains (without gone xs) k → ¬ Contains gone k
Contains-without_gone gone xs k h back =
    let some = times-from_Contains k (without gone xs) h in
    let off : not (list_any (λ x. eqb x k) gone) ≡ false = without_test gone k ∙ ap not (lt-ltb 0 (times k gone) (times-from_Contains k gone back)) in
    let none : times k (without gone xs) ≡ 0 = times-filter (λ s. not (list_any (λ x. eqb x s) gone)) k xs ∙ ap (λ b. cond b (times k xs) 0) off in
    absurd (omega arith)

pub Contains-without_kept : (gone xs : List ℕ) (k : ℕ) → Contains xs k → ¬ Contains gone k → Contains (without gone xs) k
Contains-without_kept gone xs k h stays =
    let absent : times k gone ≤ 0 = ⊎_elim (λ (l : 0 < times k gone). absurd (stays (Contains-from_times k gone l))) (λ (l : times k gone ≤ 0). l) (cases_lt 0 (times k gone)) in
    let on : not (list_any (λ x. eqb x k) gone) ≡ true = without_test gone k ∙ ap not (le-ltb 0 (times k gone) absent) in
    let same : times k (without gone xs) ≡ times k xs = times-filter (λ s. not (list_any (λ x. eqb x s) gone)) k xs ∙ ap (λ b. cond b (times k xs) 0) on in
    let some = times-from_Contains k xs h in
    Contains-from_times k (without gone xs) (omega arith)

pub given_back : (slot : ℕ) (xs : List ℕ) → ¬ Contains (without (slot ∷ []) xs) slot
given_back slot xs h = let some = times-from_Contains slot (without (slot ∷ []) xs) h in let none = times-without_same slot xs in absurd (omega arith)

-- a list gets shorter where one of its slots is given back
pub shorter : (slot : ℕ) (xs : List ℕ) → Contains xs slot → length (without (slot ∷ []) xs) < length xs
shorter slot xs has = omega (arith, times-from_Contains slot xs has, length-filter gone xs, length-filter_both stays gone other xs)
  where
    stays : ℕ → Bool
    stays k = not (list_any (λ x. eqb x k) (slot ∷ []))

    gone : ℕ → Bool
    gone k = eqb k slot

    other : (k : ℕ) → gone k ≡ not (stays k)
    other k =
        ⊎_elim (λ (e : k ≡ slot). eq-eqb k slot e ∙ ap (λ b. not (not (b || false))) (sym (eq-eqb slot k (sym e))))
        (λ (n : k ≡ slot → ⊥). ne_eqb k slot n ∙ ap (λ b. not (not (b || false))) (sym (ne_eqb slot k (λ e. n (sym e)))))
        (cases_eq k slot)

-- of a list without slots twice, what stands at a place doesn't stand before it
pub new_at : (xs : List ℕ) (i : ℕ) → AreDistinct xs → i < length xs → times (get_or xs i 0) (take i xs) ≡ 0
new_at xs i d l =
    let k = get_or xs i 0 in
    let f = λ (y : ℕ). one y k in
    let all = times-distinct xs d k in
    let parts : times k (take i xs) + times k (drop i xs) ≡ times k xs = sum_by-take-drop f xs i in
    let at : times k (drop i xs) ≡ one k k + times k (drop (i + 1) xs) = ap (times k) (drop_more xs i 0 l) ∙ times-cons k k (drop (i + 1) xs) in
    omega (arith, one_same k k refl)

pub still_held : (slots held : List ℕ) (i : ℕ) → i < length slots → AreDistinct slots → All (Contains held) slots → Contains (without (take i slots) held) (get_or slots i 0)
still_held slots held i l d h =
    let k = get_or slots i 0 in
    let has = times-from_Contains k held (h i 0 l) in
    let kept : times k (without (take i slots) held) ≡ times k held =
    times-filter (λ s. not (list_any (λ x. eqb x s) (take i slots))) k held ∙ ap (λ b. cond b (times k held) 0) (without_test (take i slots) k ∙ ap (λ n. not (ltb 0 n)) (new_at slots i d l)) in
    Contains-from_times k (without (take i slots) held) (omega arith)

pub AreDistinct-take : (i : ℕ) (xs : List ℕ) → AreDistinct xs → AreDistinct (take i xs)
AreDistinct-take zero xs d = tt
AreDistinct-take (suc i) [] d = tt
AreDistinct-take (suc i) (x ∷ xs) d = (front i xs d.0, AreDistinct-take i xs d.1)
  where
    front : (j : ℕ) (ys : List ℕ) → list_any (λ y. eqb y x) ys ≡ false → list_any (λ y. eqb y x) (take j ys) ≡ false
    front zero ys a = refl
    front (suc j) [] a = refl
    front (suc j) (y ∷ ys) a = let parts = or_parts (eqb y x) (list_any (λ z. eqb z x) ys) a in or_from_both (eqb y x) parts.0 (front j ys parts.1)
      where
        or_from_both : (b : Bool) → b ≡ false → list_any (λ z. eqb z x) (take j ys) ≡ false → (b || list_any (λ z. eqb z x) (take j ys)) ≡ false
        or_from_both b e l = or_from b (list_any (λ z. eqb z x) (take j ys)) e l

-- slots that were taken one after another, and are given back
pub taken_back : (held slots : List ℕ) → NoneHeld slots held → without slots (held ++ slots) ≡ held
taken_back held slots none = without_behind held slots (λ k some. absent k (Contains-from_times k slots some))
  where
    absent : (k : ℕ) → Contains slots k → times k held ≡ 0
    absent k has = ⊎_elim (λ (l : 0 < times k held). absurd (All-contains (λ slot. ¬ Contains held slot) slots k none has (Contains-from_times k held l))) (λ (l : times k held ≤ 0). omega arith) (cases_lt 0 (times k held))

-- Where the slots before one are not held and that one is among the held and those before, it is the first that is held
pub first_held : (slots held : List ℕ) (i : ℕ) → i < length slots → AreDistinct slots → NoneHeld (take i slots) held → Contains (held ++ take i slots) (get_or slots i 0) → IsFirstHeld slots held (get_or slots i 0)
first_held slots held i l d none has = (
  take i slots,
  drop (i + 1) slots,
  sym (take-append-drop i slots) ∙ ap (λ rest. take i slots ++ rest) (drop_more slots i 0 l),
  none,
  ⊎_elim (λ (h : Contains held (get_or slots i 0)). h)
      (λ (h : Contains (take i slots) (get_or slots i 0)). let some = times-from_Contains (get_or slots i 0) (take i slots) h in let new = new_at slots i d l in absurd (omega arith))
      (Contains-append_cases held (take i slots) (get_or slots i 0) has),
)
