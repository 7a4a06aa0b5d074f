-- Flags that say which numbers are among some.
use Rattle.std.proofs.Common.{◌≡◌, ℕ, ◌<◌, ◌≤◌, Bool, true, false, List, [], ◌∷◌, length, get_or, set, replicate, length-set, refl, sym, ap, ◌∙◌, subst, ⊎_elim, get_or-set_same, get_or-set_other, eq-eqb, ne_eqb, arith}
use Rattle.std.specs.Prelude.{◌||◌}
use Rattle.std.proofs.lemmas.Bool.{cases_eq}
use Rattle.std.proofs.lemmas.List.{length-replicate, get_or-replicate}
use Rattle.uc_version_state.specs.Flushes.{is_taken}

-- The flags say of each number, with those that are still to come, whether it is among all.
abbrev pub AreSoFar : List Bool → List ℕ → List ℕ → Type 0
AreSoFar flags rest all = (k : ℕ) → k < length flags → (get_or flags k false || is_taken rest k) ≡ is_taken all k

or_true : (b : Bool) → (b || true) ≡ true
or_true true = refl
or_true false = refl

or_false : (b : Bool) → (b || false) ≡ b
or_false true = refl
or_false false = refl

-- before the first
pub none_yet : (n : ℕ) (all : List ℕ) → AreSoFar (replicate n false) all all
none_yet n all k lt = ap (λ b. b || is_taken all k) (get_or-replicate n k false false (let e = length-replicate n false in omega (arith, lt, e)))

-- the next one has a flag
pub set_one : (flags : List Bool) (slot : ℕ) (rest all : List ℕ) → slot < length flags → AreSoFar flags (slot ∷ rest) all → AreSoFar (set flags slot true) rest all
set_one flags slot rest all room far k lt =
    ⊎_elim (λ (e : k ≡ slot). subst (λ n. (get_or (set flags slot true) n false || is_taken rest n) ≡ is_taken all n) (sym e) here)
    there (cases_eq k slot)
  where
    here : (get_or (set flags slot true) slot false || is_taken rest slot) ≡ is_taken all slot
    here =
        ap (λ b. b || is_taken rest slot) (get_or-set_same flags slot true false room)
        ∙ sym (or_true (get_or flags slot false))
        ∙ ap (λ b. get_or flags slot false || (b || is_taken rest slot)) (sym (eq-eqb slot slot refl))
        ∙ far slot room

    there : (k ≡ slot → ⊥) → (get_or (set flags slot true) k false || is_taken rest k) ≡ is_taken all k
    there other =
        ap (λ b. b || is_taken rest k) (get_or-set_other flags slot k true false other)
        ∙ ap (λ b. get_or flags k false || (b || is_taken rest k)) (sym (ne_eqb slot k (λ e. other (sym e))))
        ∙ far k (let e = length-set flags slot true in omega (arith, lt, e))

-- the next one has none
pub pass_one : (flags : List Bool) (slot : ℕ) (rest all : List ℕ) → length flags ≤ slot → AreSoFar flags (slot ∷ rest) all → AreSoFar flags rest all
pass_one flags slot rest all above far k lt =
    ap (λ b. get_or flags k false || (b || is_taken rest k)) (sym (ne_eqb slot k (λ e. omega (arith, above, lt, e)))) ∙ far k lt

-- after the last
pub all_said : (flags : List Bool) (all : List ℕ) → AreSoFar flags [] all → (k : ℕ) → k < length flags → get_or flags k false ≡ is_taken all k
all_said flags all far k lt = sym (or_false (get_or flags k false)) ∙ far k lt
