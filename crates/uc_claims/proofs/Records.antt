-- The set of slots that a seat keeps at run time, through the steps, and the flags of a closed table.
use Rattle.std.proofs.Common.{◌≡◌, ℕ, zero, suc, ◌+◌, ◌/◌, ◌%◌, ◌<◌, ◌≤◌, ◌↔◌, Bool, false, not, eqb, ltb, List, [], ◌∷◌, ◌++◌, length, get_or, set, replicate, sym, refl, ap, ◌∙◌, subst, ⊎_elim, arith, eq-eqb, ne_eqb, below_more, get_or-set_same, get_or-set_other}
use Rattle.std.specs.Prelude.{Contains}
use mathlib.Core.Option.{some, some-injective, some-ne-none}
use lib.ListN.{get_elem?}
use Rattle.std.proofs.lemmas.Bool.{cases_eq, cases_lt, lt-ltb, le-ltb}
use Rattle.std.proofs.lemmas.Nat.Bits.{bit_at-lt}
use Rattle.uc_claims.specs.Holding.{without}
use Rattle.uc_claims.specs.Claims.{times, slot_bit, Recorded}
use Rattle.uc_claims.proofs.Times.{times-cons, times_push, times-without_other, times-without_same, times-from_Contains, Contains-from_times, one_same, one_other}

pub no_flag : (n k : ℕ) → get_or (replicate n false) k false ≡ false
no_flag zero k = refl
no_flag (suc n) zero = refl
no_flag (suc n) (suc k) = no_flag n k

pub Recorded-none : (count : ℕ) (groups : List ℕ) → ((slot : ℕ) → slot_bit groups slot ≡ 0) → Recorded count groups []
Recorded-none count groups none = record { bits = none; inside = λ k l. refl }

-- what the bit of a slot says
pub in_set : {count : ℕ} {groups : List ℕ} {slots : List ℕ} → Recorded count groups slots → (slot : ℕ) → (slot_bit groups slot ≡ 1) ↔ Contains slots slot
in_set {groups = groups} {slots = slots} r slot = (
  (λ one. Contains-from_times slot slots (omega (arith, r.bits slot))),
  (λ has. omega (arith, times-from_Contains slot slots has, r.bits slot, bit_at-lt (get_or groups (slot / 64) 0) (slot % 64))),
)

-- a slot that is held is one of the table's
pub held_below : {count : ℕ} {groups : List ℕ} {slots : List ℕ} → Recorded count groups slots → (slot : ℕ) → Contains slots slot → slot < count
held_below {count = count} {slots = slots} r slot has =
    ⊎_elim (λ (l : slot < count). l) (λ (l : count ≤ slot). let some = times-from_Contains slot slots has in let none = r.inside slot l in absurd (omega arith)) (cases_lt slot count)

-- where the set is empty, nothing is held
pub holds_nothing : {count : ℕ} {groups : List ℕ} {slots : List ℕ} → Recorded count groups slots → ((slot : ℕ) → slot_bit groups slot ≡ 0) → slots ≡ []
holds_nothing {slots = []} r none = refl
holds_nothing {slots = x ∷ xs} r none = absurd (omega (arith, times-cons x x xs, one_same x x refl, r.bits x, none x))

module _ (count slot : ℕ) (groups new : List ℕ) (slots : List ℕ) (r : Recorded count groups slots) (others : (k : ℕ) → (k ≡ slot → ⊥) → slot_bit new k ≡ slot_bit groups k) where
  pub Recorded-won : slot_bit new slot ≡ 1 → slot < count → times slot slots ≡ 0 → Recorded count new (slots ++ slot ∷ [])
  Recorded-won same below free = record {
    bits = λ k. ⊎_elim
        (λ (e : k ≡ slot). subst (λ j. slot_bit new j ≡ times j (slots ++ slot ∷ [])) (sym e) (omega (arith, same, times_push slot slots slot, one_same slot slot refl)))
        (λ (ne : k ≡ slot → ⊥). others k ne ∙ r.bits k ∙ sym (other k ne))
        (cases_eq k slot);
    inside = λ k l. (let ne : k ≡ slot → ⊥ = λ e. omega arith in other k ne ∙ r.inside k l);
  }
    where
      other : (k : ℕ) → (k ≡ slot → ⊥) → times k (slots ++ slot ∷ []) ≡ times k slots
      other k ne = omega (arith, times_push k slots slot, one_other slot k (λ e. ne (sym e)))

  pub Recorded-gave : slot_bit new slot ≡ 0 → Recorded count new (without (slot ∷ []) slots)
  Recorded-gave same = record {
    bits = λ k. ⊎_elim
        (λ (e : k ≡ slot). subst (λ j. slot_bit new j ≡ times j (without (slot ∷ []) slots)) (sym e) (same ∙ sym (times-without_same slot slots)))
        (λ (ne : k ≡ slot → ⊥). others k ne ∙ r.bits k ∙ sym (times-without_other k slot slots ne))
        (cases_eq k slot);
    inside = λ k l. ⊎_elim
        (λ (e : k ≡ slot). ap (λ j. times j (without (slot ∷ []) slots)) e ∙ times-without_same slot slots)
        (λ (ne : k ≡ slot → ⊥). times-without_other k slot slots ne ∙ r.inside k l)
        (cases_eq k slot);
  }

-- what a closed table's words say
pub read_at : (words : List ℕ) (i n : ℕ) → get_elem? words i ≡ some n → get_or words i 0 ≡ n
read_at [] i n at = absurd (some-ne-none n (sym at))
read_at (x ∷ xs) zero n at = some-injective x n at
read_at (x ∷ xs) (suc i) n at = read_at xs i n at

pub not_free : (n : ℕ) → not (eqb n 0) ≡ ltb 0 n
not_free n =
    ⊎_elim (λ (e : n ≡ 0). ap not (eq-eqb n 0 e) ∙ sym (le-ltb 0 n (omega arith))) (λ (ne : n ≡ 0 → ⊥). ap not (ne_eqb n 0 ne) ∙ sym (lt-ltb 0 n (omega arith)))
    (cases_eq n 0)

pub flag_read : (words : List ℕ) (flags : List Bool) (slot n : ℕ) → slot < length flags → get_elem? words slot ≡ some n
    → ((k : ℕ) → k < slot → get_or flags k false ≡ ltb 0 (get_or words k 0)) → (k : ℕ) → k < slot + 1 → get_or (set flags slot (not (eqb n 0))) k false ≡ ltb 0 (get_or words k 0)
flag_read words flags slot n fits at before =
    below_more (λ k. get_or (set flags slot (not (eqb n 0))) k false ≡ ltb 0 (get_or words k 0)) slot
    (λ k l. let ne : k ≡ slot → ⊥ = λ e. omega arith in get_or-set_other flags slot k (not (eqb n 0)) false ne ∙ before k l)
    (get_or-set_same flags slot (not (eqb n 0)) false fits ∙ not_free n ∙ ap (ltb 0) (sym (read_at words slot n at)))
