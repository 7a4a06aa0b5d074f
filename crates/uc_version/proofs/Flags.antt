-- Flags of slots are the same, whichever list of them is read.
use Rattle.std.proofs.Common.{◌≡◌, ℕ, zero, suc, ◌+◌, ◌<◌, Bool, true, false, cond, eqb, ltb, List, [], ◌∷◌, ◌++◌, length, get_or, set, take, drop, refl, sym, ap, ◌∙◌, subst, ⊎_elim, get_or-set_same, get_or-set_other, arith}
use Rattle.std.specs.Prelude.{◌↔◌, IsTrue, Option, Some, None, Contains, map}
use Rattle.std.specs.List.{list_any}
use Rattle.std.proofs.lemmas.Bool.{cases_eq, false≢true}
use Rattle.std.proofs.lemmas.Bool.Decides.{nat_tests}
use Rattle.uc_claims.specs.Claims.{times}
use Rattle.uc_claims.specs.Holding.{IsFirstHeld}
use Rattle.uc_claims.proofs.Times.{times-append, times-from_Contains, Contains-from_times, list_any-times}
use Rattle.uc_version.specs.Claiming.{first_busy}
use Rattle.uc_version.proofs.HeldClaims.{none_held}

-- a slot is in both lists or in none
pub same_any : (xs ys : List ℕ) (slot : ℕ) → times slot xs ≡ times slot ys → list_any (λ s. eqb s slot) xs ≡ list_any (λ s. eqb s slot) ys
same_any xs ys slot same = list_any-times slot xs ∙ ap (ltb 0) same ∙ sym (list_any-times slot ys)

pub same_first : (xs ys slots : List ℕ) → ((slot : ℕ) → times slot xs ≡ times slot ys) → first_busy xs slots ≡ first_busy ys slots
same_first xs ys [] same = refl
same_first xs ys (slot ∷ slots) same =
    ap (λ b. cond b (Some slot) (first_busy xs slots)) (same_any xs ys slot (same slot))
    ∙ ap (λ (rest : Option ℕ). cond (list_any (λ s. eqb s slot) ys) (Some slot) rest) (same_first xs ys slots same)

is_there : (n : ℕ) → 0 < n → ltb 0 n ≡ true
is_there n lt = grind (arith, nat_tests)

is_missing : (n : ℕ) → n ≡ 0 → ltb 0 n ≡ false
is_missing n e = grind (arith, nat_tests)

-- a flag that says whether a slot is in a list
pub flag_is : (b : Bool) (xs : List ℕ) (slot : ℕ) → (IsTrue b ↔ Contains xs slot) → b ≡ list_any (λ s. eqb s slot) xs
flag_is true xs slot says = sym (list_any-times slot xs ∙ is_there (times slot xs) (times-from_Contains slot xs (says.0 refl)))
flag_is false xs slot says = sym (list_any-times slot xs ∙ is_missing (times slot xs) (by_count (times slot xs) refl))
  where
    by_count : (n : ℕ) → times slot xs ≡ n → times slot xs ≡ 0
    by_count zero e = e
    by_count (suc n) e = absurd (false≢true (says.1 (Contains-from_times slot xs (omega (arith, e)))))

-- no slot that is asked for is held, so none is busy
pub none_busy : (held asked : List ℕ) → ((slot : ℕ) → 0 < times slot asked → times slot held ≡ 0) → first_busy held asked ≡ None
none_busy held [] none = refl
none_busy held (slot ∷ slots) none =
    let e = times-append slot (slot ∷ []) slots in
    ap (λ b. cond b (Some slot) (first_busy held slots)) (list_any-times slot held ∙ is_missing (times slot held) (none slot (times-from_Contains slot (slot ∷ slots) (0, omega arith, refl))))
    ∙ none_busy held slots (λ k some. none k (let more = times-append k (slot ∷ []) slots in omega (arith, more, some)))

busy_behind : (held before rest : List ℕ) (slot : ℕ) → ((k : ℕ) → 0 < times k before → times k held ≡ 0) → 0 < times slot held → first_busy held (before ++ slot ∷ rest) ≡ Some slot
busy_behind held [] rest slot none there = ap (λ b. cond b (Some slot) (first_busy held rest)) (list_any-times slot held ∙ is_there (times slot held) there)
busy_behind held (b ∷ bs) rest slot none there =
    ap (λ c. cond c (Some b) (first_busy held (bs ++ slot ∷ rest))) (list_any-times b held ∙ is_missing (times b held) (none b (times-from_Contains b (b ∷ bs) (0, omega arith, refl))))
    ∙ busy_behind held bs rest slot (λ k some. none k (let more = times-append k (b ∷ []) bs in omega (arith, more, some))) there

-- the first slot that is held is the first busy one
pub first_is : (held asked : List ℕ) (slot : ℕ) → IsFirstHeld asked held slot → first_busy held asked ≡ Some slot
first_is held asked slot first =
    ap (first_busy held) first.2 ∙ busy_behind held first.0 first.1 slot (none_held first.0 held first.3) (times-from_Contains slot held first.4)

-- a list with one element changed by a function
changed_one : {X : Type 0} (f : X → X) (xs : List X) (i : ℕ) (d : X) → i < length xs →
    set (map f (take i xs) ++ drop i xs) i (f (get_or (map f (take i xs) ++ drop i xs) i d)) ≡ map f (take (suc i) xs) ++ drop (suc i) xs
changed_one f [] i d lt = absurd (omega (arith, lt))
changed_one f (x ∷ xs) zero d lt = refl
changed_one {X} f (x ∷ xs) (suc i) d lt = ap (λ (ys : List X). f x ∷ ys) (changed_one f xs i d (omega (arith, lt)))

one_more : (i : ℕ) → suc i ≡ i + 1
one_more i = omega arith

pub changed : {X : Type 0} (f : X → X) (xs ys : List X) (y : X) (i : ℕ) (d : X) → i < length xs → ys ≡ map f (take i xs) ++ drop i xs → y ≡ f (get_or ys i d) →
    set ys i y ≡ map f (take (i + 1) xs) ++ drop (i + 1) xs
changed {X} f xs ys y i d lt is new =
    ap (λ z. set ys i z) new
    ∙ ap (λ (zs : List X). set zs i (f (get_or zs i d))) is
    ∙ changed_one f xs i d lt
    ∙ ap (λ n. map f (take n xs) ++ drop n xs) (one_more i)

-- one flag more is set
pub flag_set : (flags : List Bool) (held : List ℕ) (slot : ℕ) (flag : Bool) → slot < length flags → flag ≡ list_any (λ s. eqb s slot) held →
    ((k : ℕ) → k < slot → get_or flags k false ≡ list_any (λ s. eqb s k) held) → (k : ℕ) → k < slot + 1 → get_or (set flags slot flag) k false ≡ list_any (λ s. eqb s k) held
flag_set flags held slot flag room is below k lt =
    ⊎_elim (λ (e : k ≡ slot). subst (λ n. get_or (set flags slot flag) n false ≡ list_any (λ s. eqb s n) held) (sym e) (get_or-set_same flags slot flag false room ∙ is))
    (λ (ne : k ≡ slot → ⊥). get_or-set_other flags slot k flag false ne ∙ below k (omega (arith, lt, ne)))
    (cases_eq k slot)
