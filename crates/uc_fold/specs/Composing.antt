-- Effects on one key, joined in order.
use Rattle.std.specs.Prelude.{ℕ, List, Option, fold, ⊤}
use Rattle.std.proofs.Common.{refl}
use Rattle.uc_oper.specs.declared.effect.Effect.{Effect}
use Rattle.uc_oper.specs.declared.effect.Effect.TheVariants.{Keep}
use Rattle.uc_oper.specs.Operation.{Operation, IsLawful as OperatorIsLawful}
use Rattle.uc_oper.specs.Composition.{applied, composed, composed_assoc, composed-Keep_left}
use Rattle.uc_fold.specs.Joining.{IsLawful}

-- what a value becomes by effects, one after the other
abbrev pub applied_in_turn : Operation → Option (List ℕ) → List Effect → Option (List ℕ)
applied_in_turn m value effects = fold (λ v e. applied m e v) value effects

-- the laws of joining
pub composing_lawful : {m : Operation} → OperatorIsLawful m → IsLawful (λ (e : Effect). ⊤) Keep (composed m)
composing_lawful {m} laws = record {
  unit_fits = tt;
  join_fits = λ a b. tt;
  left_unit = λ e _. composed-Keep_left m e;
  right_unit = λ e _. refl;
  assoc = composed_assoc m laws;
}
