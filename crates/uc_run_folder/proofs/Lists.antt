-- Maps that differ at one number, the highest number that passes, and facts of each element.
use Rattle.std.proofs.Common.{◌≡◌, ℕ, zero, suc, ◌≤◌, Bool, true, false, cond, eqb, eq-eqb, ◌⊎◌, inl, inr, ⊎_elim, List, [], ◌∷◌, ◌++◌, get_or, refl, sym, ap, ◌∙◌, subst, arith}
use Rattle.std.specs.List.{AllByRecursion}
use Rattle.std.proofs.lemmas.Bool.{cases_eq, eqb-true, eqb-false, ne_eqb}
use Rattle.uc_folder.specs.Device.{at, highest}

-- ---- maps

pub at_all : {A : Type 0} (P : ℕ → A → Type 0) (n : ℕ) (x : A) (f : ℕ → A) (k : ℕ) → (k ≡ n → P k x) → ((k ≡ n → ⊥) → P k (f k)) → P k (at n x f k)
at_all {A} P n x f k here other = by_test (eqb k n) refl
  where
    by_test : (b : Bool) → eqb k n ≡ b → P k (cond b x (f k))
    by_test true e = here (eqb-true k n e)
    by_test false e = other (eqb-false k n e)

pub at_here : {A : Type 0} (n : ℕ) (x : A) (f : ℕ → A) → at n x f n ≡ x
at_here n x f = ap (λ b. cond b x (f n)) (eq-eqb n n refl)

pub at_other : {A : Type 0} (n : ℕ) (x : A) (f : ℕ → A) (k : ℕ) → (k ≡ n → ⊥) → at n x f k ≡ f k
at_other n x f k ne = ap (λ b. cond b x (f k)) (ne_eqb k n ne)

-- ---- the highest number that passes

pub highest_passes : (t : ℕ → Bool) (top : ℕ) → (highest t top ≡ 0) ⊎ (t (highest t top) ≡ true)
highest_passes t zero = inl refl
highest_passes t (suc n) = by_test (highest_passes t n) (t (suc n)) refl
  where
    by_test : (highest t n ≡ 0) ⊎ (t (highest t n) ≡ true) → (b : Bool) → t (suc n) ≡ b → (cond b (suc n) (highest t n) ≡ 0) ⊎ (t (cond b (suc n) (highest t n)) ≡ true)
    by_test below true e = inr e
    by_test below false e = below

pub highest_above : (t : ℕ → Bool) (top k : ℕ) → k ≤ top → t k ≡ true → k ≤ highest t top
highest_above t zero k le e = le
highest_above t (suc n) k le e = by_test (λ le'. highest_above t n k le' e) (t (suc n)) refl
  where
    by_test : (k ≤ n → k ≤ highest t n) → (b : Bool) → t (suc n) ≡ b → k ≤ cond b (suc n) (highest t n)
    by_test below true h = le
    by_test below false h =
        ⊎_elim
        (λ (same : k ≡ suc n). absurd (let x : t (suc n) ≡ true = subst (λ i. t i ≡ true) same e in let y : false ≡ true = sym h ∙ x in cc))
        (λ (ne : k ≡ suc n → ⊥). below (omega (arith, ne, le)))
        (cases_eq k (suc n))

pub highest_below : (t : ℕ → Bool) (top : ℕ) → highest t top ≤ top
highest_below t zero = omega arith
highest_below t (suc n) = by_test (highest_below t n) (t (suc n))
  where
    by_test : highest t n ≤ n → (b : Bool) → cond b (suc n) (highest t n) ≤ suc n
    by_test le true = omega arith
    by_test le false = omega (arith, le)

-- ---- facts of each element

pub all_at : {A : Type 0} (P : A → Type 0) (xs : List A) (i : ℕ) (d : A) → P d → AllByRecursion P xs → P (get_or xs i d)
all_at P [] i d here all = here
all_at P (x ∷ xs) zero d here all = all.0
all_at P (x ∷ xs) (suc i) d here all = all_at P xs i d here all.1

pub all_weaker : {A : Type 0} (P Q : A → Type 0) → ((x : A) → P x → Q x) → (xs : List A) → AllByRecursion P xs → AllByRecursion Q xs
all_weaker P Q weaker [] all = tt
all_weaker P Q weaker (x ∷ xs) all = (weaker x all.0, all_weaker P Q weaker xs all.1)

pub all_append : {A : Type 0} (P : A → Type 0) (xs ys : List A) → AllByRecursion P xs → AllByRecursion P ys → AllByRecursion P (xs ++ ys)
all_append P [] ys all more = more
all_append P (x ∷ xs) ys all more = (all.0, all_append P xs ys all.1 more)
