-- The pair of two additions.
use Rattle.std.proofs.Common.{◌≡◌, ℕ, ◌+◌, ◌-◌, ◌%◌, ◌^◌, ◌≤◌, List, [], ◌∷◌, ◌++◌, length, get_or, take, ap, ◌∙◌, sym, refl, arith}
use Rattle.std.specs.Int.{w64, to_le_bytes}
use Rattle.uc_oper.specs.Counting.{number, sum_of}
use Rattle.uc_mixed.specs.declared.part_kind.PartKind.TheVariants.{Add}
use Rattle.uc_mixed.specs.Kinds.{same_kind-own}
use Rattle.uc_mixed.specs.Parts.{part_bytes, length_bytes}
use Rattle.uc_mixed.specs.Mixing.{pair-lone, joined-same}
use Rattle.uc_mixed.specs.Additions.{AddsAtEnd, IsSumAtSeam}
use Rattle.uc_mixed.proofs.Cutting.{two_bytes}
use Rattle.uc_mixed.proofs.Walking.{cut_at}

-- eight bytes, their length and the number of the operator
eight : (p : List ℕ) → length p ≡ 8 → part_bytes Add p ≡ p ++ (8 ∷ 1 ∷ [])
eight p e = ap (λ (n : ℕ). p ++ (length_bytes n ++ (1 ∷ []))) e

pub adds_at_end : (operand addition bytes end : List ℕ) (n : ℕ) → 10 ≤ length operand → operand ≡ take (length operand - 10) operand ++ addition → addition ≡ bytes ++ end → length bytes ≡ 8 → length end ≡ 2
    → get_or end 0 0 ≡ 8 → get_or end 1 0 ≡ 1 → n ≡ number bytes → AddsAtEnd operand n
adds_at_end operand addition bytes end n long e f b l p q m =
    let last : end ≡ 8 ∷ 1 ∷ [] = two_bytes end l ∙ ap (λ (a : ℕ). a ∷ get_or end 1 0 ∷ []) p ∙ ap (λ (a : ℕ). 8 ∷ a ∷ []) q in
    record {
      payload = bytes;
      long = long;
      spelled = e ∙ ap (λ (x : List ℕ). take (length operand - 10) operand ++ x) (f ∙ ap (λ (x : List ℕ). bytes ++ x) last ∙ sym (eight bytes b));
      number_is = m;
    }

pub sums_at_seam : (older newer : List ℕ) (a b n : ℕ) → length newer ≡ 10 → AddsAtEnd newer b → AddsAtEnd older a → n ≡ (a + b) % 2 ^ 64 → IsSumAtSeam older newer n
sums_at_seam older newer a b n ten new old e =
    let none : length newer - 10 ≡ 0 = omega arith in
    let alone : newer ≡ part_bytes Add new.payload = new.spelled ∙ ap (λ (k : ℕ). take k newer ++ part_bytes Add new.payload) none in
    let rest = take (length older - 10) older in
    let sum : sum_of old.payload new.payload ≡ to_le_bytes w64 n =
    ap (to_le_bytes w64) (sym (e ∙ ap (λ (k : ℕ). (k + b) % 2 ^ 64) old.number_is ∙ ap (λ (k : ℕ). (number old.payload + k) % 2 ^ 64) new.number_is)) in
    record {
      long = old.long;
      pair_is = pair-lone older newer (record { kind = Add; payload = new.payload; rest = [] }) (cut_at newer [] new.payload Add alone) refl
          ∙ joined-same older Add new.payload (record { kind = Add; payload = old.payload; rest = rest }) refl (cut_at older rest old.payload Add old.spelled) (same_kind-own Add)
          ∙ ap (λ (x : List ℕ). rest ++ x) (eight (sum_of old.payload new.payload) refl ∙ ap (λ (x : List ℕ). x ++ (8 ∷ 1 ∷ [])) sum);
    }
