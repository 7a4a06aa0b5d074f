-- Beginnings of lists, what logs have together, maps that differ at one number, and the highest number that passes.
use Rattle.std.proofs.Common.{◌≡◌, ℕ, zero, suc, ◌<◌, ◌≤◌, Bool, true, false, cond, eqb, eq-eqb, ◌⊎◌, inl, inr, ⊎_elim, List, [], ◌∷◌, ◌++◌, append_assoc, length, get_or, take, drop, refl, sym, ap, ◌∙◌, subst, arith}
use Rattle.std.specs.List.{AllByRecursion}
use Rattle.std.proofs.lemmas.Bool.{cases_eq, eqb-true, eqb-false, ne_eqb}
use Rattle.std.proofs.lemmas.List.{append_cancel_left, append-nil, length-append, take-append-drop}
use Rattle.uc_folder.specs.Device.{Batch, at, highest, upto}
use Rattle.uc_folder.specs.Worlds.{IsPrefixOf}

-- ---- beginnings

pub prefix_refl : (xs : List Batch) → IsPrefixOf xs xs
prefix_refl xs = ([], append-nil xs)

pub prefix_trans : (xs ys zs : List Batch) → IsPrefixOf xs ys → IsPrefixOf ys zs → IsPrefixOf xs zs
prefix_trans xs ys zs p q = (p.0 ++ q.0, sym (append_assoc xs p.0 q.0) ∙ (ap (λ l. l ++ q.0) p.1 ∙ q.1))

pub prefix_under : (xs ys zs : List Batch) → IsPrefixOf ys zs → IsPrefixOf (xs ++ ys) (xs ++ zs)
prefix_under xs ys zs p = (p.0, append_assoc xs ys p.0 ∙ ap (λ l. xs ++ l) p.1)

pub prefix_onto : (xs ys zs : List Batch) → IsPrefixOf xs ys → IsPrefixOf xs (ys ++ zs)
prefix_onto xs ys zs p = prefix_trans xs ys (ys ++ zs) p (zs, refl)

pub prefix_take : (n : ℕ) (xs : List Batch) → IsPrefixOf (take n xs) xs
prefix_take n xs = (drop n xs, take-append-drop n xs)

pub prefix_cancel : (xs ys zs : List Batch) → IsPrefixOf (xs ++ ys) (xs ++ zs) → IsPrefixOf ys zs
prefix_cancel xs ys zs p = (p.0, append_cancel_left xs (ys ++ p.0) zs (sym (append_assoc xs ys p.0) ∙ p.1))

pub prefix_of_nil : (xs : List Batch) → IsPrefixOf xs [] → xs ≡ []
prefix_of_nil [] p = refl
prefix_of_nil (x ∷ xs) p = let e = p.1 in cc

pub length_prefix : (xs ys : List Batch) → IsPrefixOf xs ys → length xs ≤ length ys
length_prefix xs ys p = let size = length-append xs p.0 in let all = ap length p.1 in omega (arith, size, all)

pub take_short : (n : ℕ) (xs : List Batch) → length (take n xs) ≤ n
take_short zero xs = omega arith
take_short (suc n) [] = omega arith
take_short (suc n) (x ∷ xs) = let le = take_short n xs in omega (arith, le)

pub take_grows : (n : ℕ) (xs ys : List Batch) → IsPrefixOf (take n xs) (take n (xs ++ ys))
take_grows zero xs ys = ([], refl)
take_grows (suc n) [] ys = (take (suc n) ys, refl)
take_grows (suc n) (x ∷ xs) ys = let p = take_grows n xs ys in (p.0, ap (λ l. x ∷ l) p.1)

take_own : (xs ys : List Batch) → take (length xs) (xs ++ ys) ≡ xs
take_own [] ys = refl
take_own (x ∷ xs) ys = ap (λ l. x ∷ l) (take_own xs ys)

taken_more : (xs ys : List Batch) (n : ℕ) → length xs ≤ n → IsPrefixOf xs (take n (xs ++ ys))
taken_more [] ys n le = (take n ys, refl)
taken_more (x ∷ xs) ys zero le = absurd (omega (arith, le))
taken_more (x ∷ xs) ys (suc n) le = let p = taken_more xs ys n (omega (arith, le)) in (p.0, ap (λ l. x ∷ l) p.1)

pub prefix_taken : (xs ys : List Batch) (n : ℕ) → IsPrefixOf xs ys → length xs ≤ n → IsPrefixOf xs (take n ys)
prefix_taken xs ys n p le = subst (λ l. IsPrefixOf xs (take n l)) p.1 (taken_more xs p.0 n le)

-- of two beginnings of a list one begins with the other
pub taken_within : (xs ys zs : List Batch) → IsPrefixOf xs zs → IsPrefixOf ys zs → IsPrefixOf (take (length ys) xs) ys
taken_within xs ys zs p q =
    let both : take (length ys) (xs ++ p.0) ≡ ys = ap (take (length ys)) (p.1 ∙ sym q.1) ∙ take_own ys q.0 in
    subst (IsPrefixOf (take (length ys) xs)) both (take_grows (length ys) xs p.0)

-- ---- logs together

pub upto_same : (p q : ℕ → List Batch) (n : ℕ) → ((k : ℕ) → k < n → p k ≡ q k) → upto p n ≡ upto q n
upto_same p q zero same = refl
upto_same p q (suc n) same =
    let before = upto_same p q n (λ k lt. same k (omega arith)) in
    let here = same n (omega arith) in
    ap (λ l. l ++ p n) before ∙ ap (λ l. upto q n ++ l) here

pub upto_more : (p : ℕ → List Batch) (a b : ℕ) → a ≤ b → IsPrefixOf (upto p a) (upto p b)
upto_more p a zero le = let e : a ≡ 0 = omega arith in subst (λ n. IsPrefixOf (upto p n) []) (sym e) (prefix_refl [])
upto_more p a (suc b) le =
    ⊎_elim
    (λ (e : a ≡ suc b). subst (λ n. IsPrefixOf (upto p n) (upto p (suc b))) (sym e) (prefix_refl (upto p (suc b))))
    (λ (ne : a ≡ suc b → ⊥). prefix_onto (upto p a) (upto p b) (p b) (upto_more p a b (omega (arith, ne, le))))
    (cases_eq a (suc b))

pub upto_empty : (p : ℕ → List Batch) (a b : ℕ) → a ≤ b → ((k : ℕ) → a ≤ k → k < b → p k ≡ []) → upto p b ≡ upto p a
upto_empty p a zero le none = let e : zero ≡ a = omega arith in ap (upto p) e
upto_empty p a (suc b) le none =
    ⊎_elim
    (λ (e : a ≡ suc b). ap (upto p) (sym e))
    (λ (ne : a ≡ suc b → ⊥).
    let le' : a ≤ b = omega (arith, ne, le) in
    ap (λ l. upto p b ++ l) (none b le' (omega arith)) ∙ (append-nil (upto p b) ∙ upto_empty p a b le' (λ k l h. none k l (omega arith))))
    (cases_eq a (suc b))

-- ---- maps

pub at_all : {A : Type 0} (P : ℕ → A → Type 0) (n : ℕ) (x : A) (f : ℕ → A) (k : ℕ) → (k ≡ n → P k x) → ((k ≡ n → ⊥) → P k (f k)) → P k (at n x f k)
at_all {A} P n x f k here other = by_test (eqb k n) refl
  where
    by_test : (b : Bool) → eqb k n ≡ b → P k (cond b x (f k))
    by_test true e = here (eqb-true k n e)
    by_test false e = other (eqb-false k n e)

pub at_here : {A : Type 0} (n : ℕ) (x : A) (f : ℕ → A) → at n x f n ≡ x
at_here n x f = ap (λ b. cond b x (f n)) (eq-eqb n n refl)

pub at_other : {A : Type 0} (n : ℕ) (x : A) (f : ℕ → A) (k : ℕ) → (k ≡ n → ⊥) → at n x f k ≡ f k
at_other n x f k ne = ap (λ b. cond b x (f k)) (ne_eqb k n ne)

-- ---- the highest number that passes

pub highest_passes : (t : ℕ → Bool) (top : ℕ) → (highest t top ≡ 0) ⊎ (t (highest t top) ≡ true)
highest_passes t zero = inl refl
highest_passes t (suc n) = by_test (highest_passes t n) (t (suc n)) refl
  where
    by_test : (highest t n ≡ 0) ⊎ (t (highest t n) ≡ true) → (b : Bool) → t (suc n) ≡ b → (cond b (suc n) (highest t n) ≡ 0) ⊎ (t (cond b (suc n) (highest t n)) ≡ true)
    by_test below true e = inr e
    by_test below false e = below

pub highest_above : (t : ℕ → Bool) (top k : ℕ) → k ≤ top → t k ≡ true → k ≤ highest t top
highest_above t zero k le e = le
highest_above t (suc n) k le e = by_test (λ le'. highest_above t n k le' e) (t (suc n)) refl
  where
    by_test : (k ≤ n → k ≤ highest t n) → (b : Bool) → t (suc n) ≡ b → k ≤ cond b (suc n) (highest t n)
    by_test below true h = le
    by_test below false h =
        ⊎_elim
        (λ (same : k ≡ suc n). absurd (let x : t (suc n) ≡ true = subst (λ i. t i ≡ true) same e in let y : false ≡ true = sym h ∙ x in cc))
        (λ (ne : k ≡ suc n → ⊥). below (omega (arith, ne, le)))
        (cases_eq k (suc n))

-- ---- facts of each element

pub all_at : {A : Type 0} (P : A → Type 0) (xs : List A) (i : ℕ) (d : A) → P d → AllByRecursion P xs → P (get_or xs i d)
all_at P [] i d here all = here
all_at P (x ∷ xs) zero d here all = all.0
all_at P (x ∷ xs) (suc i) d here all = all_at P xs i d here all.1

pub all_weaker : {A : Type 0} (P Q : A → Type 0) → ((x : A) → P x → Q x) → (xs : List A) → AllByRecursion P xs → AllByRecursion Q xs
all_weaker P Q weaker [] all = tt
all_weaker P Q weaker (x ∷ xs) all = (weaker x all.0, all_weaker P Q weaker xs all.1)
